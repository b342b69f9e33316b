use Rattle.std.proofs.Common.{◌≡◌, ◌++◌, take}
use Rattle.std.specs.List.{AllByRecursion}
use Rattle.entry_codec.specs.Spelling.{IsEntry}
use Rattle.entry_codec.specs.Payloads.{spellings}
use Rattle.entry_codec.proofs.batches.write_entries.Given as goal

-- the entries so far are written, and each is within its limits
abbrev pub invariant-entries : goal.invariant-entries
invariant-entries g l = record {
  so_far : l.to.items ≡ l.fn.to.items ++ spellings l.format (g.N.Names.named l.names) (take l.entry-index l.entries);
  within : AllByRecursion IsEntry (take l.entry-index l.entries);
}
