use Rattle.journal_audit.proofs.Gates.{begun, gate_broken}
use Rattle.journal_audit.proofs.reading.play_all.Goals as goal

pub frames-init : goal.frames-init
frames-init g c =
    let clients = g.C.Clients.meaning c.args.clients.now in
    begun clients c.args.file c.args.format c.args.bytes.now c.in_ok-new.field-0 c.in_ok-new.ensures.facts c.in_ok-new.ensures.sound (c.in_ok-new.ensures.knows clients)

pub returns-in-Broken : goal.returns-in-Broken
returns-in-Broken g c =
    gate_broken (g.C.Clients.meaning c.args.clients.now) c.args.file c.args.format c.args.bytes.now c.frames.played c.frames.invariant c.in-Broken.ensures
