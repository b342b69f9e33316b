use Rattle.std.proofs.Common.{◌≡◌, take}
use Rattle.journal_state.proofs.judge.graph_names.Given as goal

abbrev pub invariant-loop-id : goal.invariant-loop-id
invariant-loop-id l = l.names.items ≡ take l.id-index l.ids
