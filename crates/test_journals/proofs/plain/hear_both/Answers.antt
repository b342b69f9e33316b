-- The client knows every group, so the journal that was begun hears.
use Rattle.std.proofs.Common.{refl}
use Rattle.test_journals.proofs.plain.hear_both.Goals as goal

pub hear_message-requires : goal.hear_message-requires
hear_message-requires c = c.in_ok-j.ensures.hearing _ refl
