use Rattle.std.proofs.Common.{take}
use Rattle.journal_state.specs.Marks.{marked}
use Rattle.journal_state.proofs.MarkedMore.{IsMarked}
use Rattle.journal_state.proofs.state.State.mark_all.Given as goal

abbrev pub invariant-loop-id : goal.invariant-loop-id
invariant-loop-id l = IsMarked l.initial.self l.self l.contact (take l.id-index l.ids) (marked l.mark)
