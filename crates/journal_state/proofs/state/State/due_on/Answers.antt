use Rattle.std.proofs.Common.{◌≡◌, IfOk, Option, subst, sym, ap, ◌∙◌}
use Rattle.sync_rules.specs.declared.entries.Out.{Out}
use Rattle.sync_rules.specs.declared.entries.Session.{Session}
use Rattle.sync_rules.specs.Facts.{session_at}
use Rattle.journal_state.specs.Allowing.{due_of}
use Rattle.journal_state.specs.Whole.{StateValue}
use Rattle.journal_state.proofs.Allowed.{due_known}
use Rattle.journal_state.proofs.Due.{due_allowed}
use Rattle.journal_state.proofs.state.State.due_on.Goals as goal

pub returns-in-Some-clause-due : goal.returns-in-Some-clause-due
returns-in-Some-clause-due c clients k =
    subst (λ (o : Option Out). IfOk c.due.result (λ what. what ≡ o))
    (due_known clients c.args.self.now c.in-Some.session c.args.now k ∙ ap (λ (s : Option Session). due_of clients c.args.self.now.facts s c.args.now) (sym c.in-Some.is ∙ (c.find.ensures ∙ ap (λ (v : StateValue). session_at v.facts.sessions c.args.session) c.self.view_is))) c.due.ensures

pub returns-in-Some-clause-allowed : goal.returns-in-Some-clause-allowed
returns-in-Some-clause-allowed c clients k settled =
    due_allowed clients c.args.self.now.facts c.args.session c.args.now c.due.result settled (returns-in-Some-clause-due c clients k)
