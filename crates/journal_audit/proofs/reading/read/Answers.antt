use Rattle.journal_audit.proofs.Gates.{read_whole, too_long}
use Rattle.journal_audit.proofs.reading.read.Goals as goal

pub returns-then-at-room-gt-MAX_JOURNAL : goal.returns-then-at-room-gt-MAX_JOURNAL
returns-then-at-room-gt-MAX_JOURNAL g c =
    too_long (g.C.Clients.meaning c.args.clients.now) c.args.file c.args.format c.args.bytes.now c.in_ok-played.played c.left.result c.settling_room-room.result
    c.in_ok-played.ensures.0 c.in_ok-played.ensures.1 c.left.ensures.value c.settling_room-room.ensures.value c.if-at-room-gt-MAX_JOURNAL.true

pub returns : goal.returns
returns g c =
    read_whole (g.C.Clients.meaning c.args.clients.now) c.args.file c.args.format c.args.bytes.now c.in_ok-played.played c.left.result c.settling_room-room.result
    c.in_ok-played.ensures.0 c.in_ok-played.ensures.1 c.left.ensures.value c.settling_room-room.ensures.value c.if-at-room-gt-MAX_JOURNAL.false
