use Rattle.sync_rules.proofs.WorkLaws.{allowed_settling, settling_goes_on, settles_legal}
use Rattle.sync_rules.proofs.Continuing.{legal-push, legal-append, legal-front, legal-back}
use Rattle.sync_rules.proofs.growth.legal.Goals as goal

pub returns-clause-push : goal.returns-clause-push
returns-clause-push c = legal-push

pub returns-clause-append : goal.returns-clause-append
returns-clause-append c = legal-append

pub returns-clause-front : goal.returns-clause-front
returns-clause-front c = legal-front

pub returns-clause-rest : goal.returns-clause-rest
returns-clause-rest c = legal-back

pub returns-clause-settling : goal.returns-clause-settling
returns-clause-settling c = allowed_settling

pub returns-clause-all_settling : goal.returns-clause-all_settling
returns-clause-all_settling c = settling_goes_on

pub returns-clause-settles : goal.returns-clause-settles
returns-clause-settles c = settles_legal
