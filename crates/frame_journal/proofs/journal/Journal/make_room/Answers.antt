use Rattle.frame_journal.proofs.GroupSteps.{none_passed}
use Rattle.frame_journal.proofs.Waiting.{gathers_answer, gathers_none}
use Rattle.frame_journal.proofs.journal.Journal.make_room.Goals as goal

pub returns-then-has_room-clause-gathers : goal.returns-then-has_room-clause-gathers
returns-then-has_room-clause-gathers g c =
    gathers_none c.args.self.now c.args.group.now (g.D.Disk.tells c.args.disk.now).files

pub returns-then-has_room-clause-any_moment : goal.returns-then-has_room-clause-any_moment
returns-then-has_room-clause-any_moment g c two told =
    none_passed two (g.D.Disk.tells c.args.disk.now) c.args.self.now.file c.args.self.now.end
    c.args.group.now told (c.requires.fits two told).settled

pub returns-clause-gathers : goal.returns-clause-gathers
returns-clause-gathers g c =
    gathers_answer c.args.self.now c.flush.new.self c.args.group.now c.flush.new.group
    (g.D.Disk.tells c.args.disk.now).files (g.D.Disk.tells c.flush.new.disk).files c.flush.result
    c.flush.ensures.ok c.flush.ensures.empty c.flush.ensures.appended
