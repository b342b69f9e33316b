use Rattle.std.proofs.Common.{◌≡◌, ◌+◌, ◌*◌, ◌≤◌, ◌++◌, length, take, vec_capacity, vec_len}
use Rattle.std.specs.List.{AllByRecursion}
use Rattle.entry_codec.specs.Payloads.{spellings}
use Rattle.entry_codec.specs.Spelling.{IsEntry}
use Rattle.entry_codec.specs.Standing.{step_len}
use Rattle.sync_store.proofs.frames.write_steps.Given as goal

-- the entries so far are written, each in as many bytes as a step has
abbrev pub invariant-steps : goal.invariant-steps
invariant-steps g l = record {
  so_far : l.to.items ≡ l.fn.to.items ++ spellings l.format (g.N.Names.named l.names)
      (take l.entry-index l.entries);
  within : AllByRecursion IsEntry (take l.entry-index l.entries);
  long : length (spellings l.format (g.N.Names.named l.names) (take l.entry-index l.entries))
      ≡ step_len l.format * l.entry-index;
  len : vec_len l.to ≡ vec_len l.fn.to + step_len l.format * l.entry-index;
  capacity : vec_capacity l.fn.to ≤ vec_capacity l.to;
}
