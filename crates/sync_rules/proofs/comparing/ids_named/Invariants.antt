-- What is left names what is missing of what the whole names.
use Rattle.std.proofs.Common.{◌≡◌, ◌++◌, drop}
use Rattle.sync_rules.specs.Allows.{ids_named}
use Rattle.sync_rules.proofs.comparing.ids_named.Given as goal

abbrev pub invariant-loop-entry : goal.invariant-loop-entry
invariant-loop-entry l = l.ids.items ++ ids_named (drop l.entry-index l.entries) ≡ ids_named l.entries
