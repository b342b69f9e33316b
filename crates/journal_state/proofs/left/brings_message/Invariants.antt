-- Some entry brings a message exactly where one of those that are left does.
use Rattle.std.proofs.Common.{◌≡◌, drop}
use Rattle.std.specs.List.{list_any}
use Rattle.journal_state.specs.Bringing.{brings_one}
use Rattle.journal_state.proofs.left.brings_message.Given as goal

abbrev pub invariant-loop-entry : goal.invariant-loop-entry
invariant-loop-entry l = list_any brings_one (drop l.entry-index l.entries) ≡ list_any brings_one l.entries
