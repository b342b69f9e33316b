use Rattle.frame_journal.proofs.Waiting.{gathers_add, gathers_then}
use Rattle.frame_journal.proofs.journal.Journal.gather.Goals as goal
use Rattle.frame_journal.specs.Append.{payload_of}
use Rattle.std.proofs.Common.{[], ◌∷◌}

pub returns-clause-gathers : goal.returns-clause-gathers
returns-clause-gathers g c =
    let o = (g.D.Disk.tells c.args.disk.now).files in
    let o' = (g.D.Disk.tells c.make_room.new.disk).files in
    let p = payload_of c.args.framed.now in
    gathers_then c.args.self.now c.make_room.new.self c.make_room.new.self c.args.group.now
    c.make_room.new.group c.add.new.self [] (p ∷ []) o o' o' c.in_ok-make_room.ensures.gathers
    (gathers_add c.make_room.new.self c.make_room.new.group c.add.new.self p o'
    c.add.ensures.added)
