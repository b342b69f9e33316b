use Rattle.std.proofs.Common.{◌≡◌, map, take}
use Rattle.journal_state.specs.Whole.{id_at}
use Rattle.journal_state.proofs.state.State.ids.Given as goal

abbrev pub invariant-loop-number : goal.invariant-loop-number
invariant-loop-number l = l.ids.items ≡ map (id_at l.self.facts.held) (take l.number-index l.numbers)
