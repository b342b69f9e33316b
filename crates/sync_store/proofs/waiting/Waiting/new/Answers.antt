use Rattle.std.proofs.Common.{sym, ap, ◌∙◌}
use Rattle.sync_store.specs.Waiting.{frames_in}
use Rattle.sync_store.proofs.Counting.{frames_none}
use Rattle.sync_store.proofs.waiting.Waiting.new.Goals as goal

pub invariant_of-result : goal.invariant_of-result
invariant_of-result c = sym (ap frames_in c.in_ok-group.ensures ∙ frames_none)
