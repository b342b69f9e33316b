use Rattle.frame_journal.proofs.GroupSteps.{none_passed}
use Rattle.frame_journal.proofs.journal.Journal.flush.Goals as goal

pub returns-then-is_empty-clause-any_moment : goal.returns-then-is_empty-clause-any_moment
returns-then-is_empty-clause-any_moment g c two told =
    none_passed two (g.D.Disk.tells c.args.disk.now) c.args.self.now.file c.args.self.now.end
    c.args.group.now told (c.requires.fits two told).settled
