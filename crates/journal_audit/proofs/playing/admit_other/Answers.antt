use Rattle.journal_audit.proofs.Brought.{legal_brought}
use Rattle.journal_audit.proofs.playing.admit_other.Goals as goal

pub admit_brought-requires-clause-legal : goal.admit_brought-requires-clause-legal
admit_brought-requires-clause-legal g c =
    legal_brought (g.C.Clients.meaning c.args.clients.now) c.args.facts.now c.bring_for.new.self c.in_ok-bring_for.ensures c.requires.legal
