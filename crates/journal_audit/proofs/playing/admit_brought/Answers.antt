use Rattle.std.proofs.Common.{sym, ◌∙◌, subst}
use Rattle.journal_audit.specs.Plain.{facts_of}
use Rattle.journal_audit.specs.Playing.{AllFit}
use Rattle.journal_audit.proofs.Plays.{allowed_fits}
use Rattle.journal_audit.proofs.playing.admit_brought.Goals as goal

pub take_all-requires-clause-fit : goal.take_all-requires-clause-fit
take_all-requires-clause-fit g c =
    let clients = g.C.Clients.meaning c.args.clients.now in
    subst (AllFit (facts_of c.args.facts.now)) (sym c.into_entries.ensures.value)
    (allowed_fits clients c.args.facts.now c.args.batch c.allows_is_allowed.ensures c.requires.legal
    (sym c.in_ok-allows_other.ensures ∙ c.if-not-branch.false))
