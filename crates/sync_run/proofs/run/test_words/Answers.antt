use Rattle.std.proofs.Common.{ap, sym, Some}
use Rattle.sync_rules.specs.declared.states.Refused.{Refused}
use Rattle.sync_run.specs.Courses.{TestsWords}
use Rattle.sync_run.proofs.RunActs.{passed}
use Rattle.sync_run.proofs.run.test_words.Goals as goal

pub returns-in_err-test_contacts-clause-tested : goal.returns-in_err-test_contacts-clause-tested
returns-in_err-test_contacts-clause-tested c =
    let tests = c.in_err-test_contacts.ensures.tested in
    passed (TestsWords c.args.store.now.state.facts c.args.links.now) c.from_residual.result
    c.in_err-test_contacts.field-0.0 c.from_residual.ensures.1
    (rw tests.1 (ap (λ (w : Refused). Some w) (sym tests.0)))
