use Rattle.std.proofs.Common.{◌≡◌, ◌++◌, take}
use Rattle.sync_ids.specs.Values.{AreIds}
use Rattle.record_grammar.specs.Spelling.{joined}
use Rattle.record_grammar.proofs.writing.append_ids.Given as goal

abbrev pub invariant-ids : goal.invariant-ids
invariant-ids l = record {
  so_far : l.to.items ≡ l.fn.to.items ++ joined (take l.id-index l.ids);
  whole : AreIds (take l.id-index l.ids);
}
