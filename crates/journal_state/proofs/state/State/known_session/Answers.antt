use Rattle.std.proofs.Common.{◌<◌, sym, subst, ◌∙◌}
use Rattle.journal_state.specs.Whole.{StateValue}
use Rattle.journal_state.proofs.Entries.{met_known}
use Rattle.journal_state.proofs.state.State.known_session.Goals as goal

pub returns-clause-known : goal.returns-clause-known
returns-clause-known c =
    subst (λ (v : StateValue). c.unwrap.result.contact < v.facts.contacts) c.self.view_is
    (met_known c.self.inside.table.contacts c.self.inside.sessions.sessions c.args.number c.unwrap.result c.self.invariant.met (sym c.find.ensures ∙ c.unwrap.ensures))
