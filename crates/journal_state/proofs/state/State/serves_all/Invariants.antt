-- Each is served exactly where each that is left is.
use Rattle.std.proofs.Common.{◌≡◌, drop}
use Rattle.std.specs.List.{list_all}
use Rattle.sync_rules.specs.Steps.{is_served}
use Rattle.journal_state.proofs.state.State.serves_all.Given as goal

abbrev pub invariant-loop-id : goal.invariant-loop-id
invariant-loop-id l = list_all (is_served l.self.facts l.group) (drop l.id-index l.ids) ≡ list_all (is_served l.self.facts l.group) l.ids
