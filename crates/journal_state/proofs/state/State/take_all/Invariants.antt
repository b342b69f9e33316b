use Rattle.std.proofs.Common.{◌≡◌, length}
use Rattle.std.specs.Vec.Iter.{into_iter_items, into_iter_len}
use Rattle.session_core.specs.Known.{IsOfAll}
use Rattle.journal_state.proofs.TakenAll.{IsUnderway}
use Rattle.journal_state.proofs.state.State.take_all.Given as goal

abbrev pub invariant-loop-entry : goal.invariant-loop-entry
invariant-loop-entry l =
    IsUnderway l.initial.self l.self l.yielded (into_iter_items l.entry-iterator) l.fn.entries.items
    × (into_iter_len l.entry-iterator ≡ length (into_iter_items l.entry-iterator))
    × IsOfAll l.fn.known (into_iter_items l.entry-iterator)
