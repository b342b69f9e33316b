use Rattle.std.proofs.Common.{subst, sym}
use Rattle.sync_rules.proofs.Continuing.{legal-append}
use Rattle.sync_rules.specs.Legal.{GoesOn}
use Rattle.sync_rules.proofs.OutputLaws.{sent_append}
use Rattle.sync_course.specs.Events.{batches_of}
use Rattle.sync_course.proofs.FreeSound.{run_moves}
use Rattle.sync_course.proofs.laws.outputs_are_sent.Goals as goal

pub returns : goal.returns
returns c = λ clients terms p q es j session legal same path.
    sent_append clients j (batches_of es) session
    (legal-append clients j (batches_of es) legal
    (subst (λ f. GoesOn clients f (batches_of es)) (sym same) (run_moves clients terms p q es path).goes_on))
