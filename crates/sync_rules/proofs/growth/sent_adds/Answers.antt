use Rattle.sync_rules.proofs.OutputLaws.{sent_whole, sent_append, sent_push, sent_begins, silent_adds_nothing, settling_silent, take_silent}
use Rattle.sync_rules.proofs.DueLaws.{one_record}
use Rattle.sync_rules.proofs.growth.sent_adds.Goals as goal

pub returns-clause-whole : goal.returns-clause-whole
returns-clause-whole c = sent_whole

pub returns-clause-append : goal.returns-clause-append
returns-clause-append c = sent_append

pub returns-clause-push : goal.returns-clause-push
returns-clause-push c = sent_push

pub returns-clause-begins : goal.returns-clause-begins
returns-clause-begins c = sent_begins

pub returns-clause-silent : goal.returns-clause-silent
returns-clause-silent c = silent_adds_nothing

pub returns-clause-settling : goal.returns-clause-settling
returns-clause-settling c = settling_silent

pub returns-clause-take : goal.returns-clause-take
returns-clause-take c = take_silent

pub returns-clause-one : goal.returns-clause-one
returns-clause-one c = one_record
