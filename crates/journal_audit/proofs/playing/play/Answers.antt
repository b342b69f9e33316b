use Rattle.std.proofs.Common.{sym, ◌∙◌}
use Rattle.journal_audit.specs.Plain.{facts_of}
use Rattle.journal_audit.proofs.Plays.{goes_fits}
use Rattle.journal_audit.proofs.playing.play.Goals as goal

pub take-requires-clause-fits : goal.take-requires-clause-fits
take-requires-clause-fits g c =
    let clients = g.C.Clients.meaning c.args.clients.now in
    goes_fits clients c.args.rows (facts_of c.loop-entry.facts) c.in-Some.entry
    (sym (c.goes.ensures.test clients c.loop-entry.invariant.0.knows) ∙ c.if-not-goes.false)
