use Rattle.frame_journal.proofs.Closed.{back_err, back_ok, cuts_back, leaves_cuts}
use Rattle.frame_journal.proofs.gates.cut_back.Goals as goal

pub returns-in_err-cut-clause-any_moment : goal.returns-in_err-cut-clause-any_moment
returns-in_err-cut-clause-any_moment g c two told =
    back_err two (g.D.Disk.tells c.args.disk.now) (g.D.Disk.tells c.cut.new.self) c.args.file told
    (c.requires.closed two told) c.in_err-cut.ensures.call _ c.in_err-cut.ensures.cut

pub returns-in_err-cut-clause-leaves : goal.returns-in_err-cut-clause-leaves
returns-in_err-cut-clause-leaves g c =
    leaves_cuts c.args.file c.cut.result (g.D.Disk.tells c.args.disk.now).files
    (g.D.Disk.tells c.cut.new.self).files c.cut.ensures.cut

pub returns-clause-cut : goal.returns-clause-cut
returns-clause-cut g c =
    cuts_back c.args.file tt (g.D.Disk.tells c.args.disk.now).files
    (g.D.Disk.tells c.cut.new.self).files c.in_ok-cut.ensures.cut

pub returns-clause-any_moment : goal.returns-clause-any_moment
returns-clause-any_moment g c two told =
    (back_ok two (g.D.Disk.tells c.args.disk.now) (g.D.Disk.tells c.cut.new.self) c.args.file told
    (c.requires.closed two told) c.in_ok-cut.ensures.call tt c.in_ok-cut.ensures.cut).moments

pub returns-clause-leaves : goal.returns-clause-leaves
returns-clause-leaves g c =
    leaves_cuts c.args.file c.cut.result (g.D.Disk.tells c.args.disk.now).files
    (g.D.Disk.tells c.cut.new.self).files c.cut.ensures.cut
