use Rattle.std.proofs.Common.{sym, ap, ◌∙◌}
use Rattle.sync_store.specs.Waiting.{frames_in}
use Rattle.sync_store.proofs.Counting.{frames_none}
use Rattle.sync_store.proofs.waiting.Waiting.flush.Goals as goal

pub invariant_of-self-2 : goal.invariant_of-self-2
invariant_of-self-2 g c = sym (ap frames_in c.in_ok-flush.ensures.empty ∙ frames_none)
