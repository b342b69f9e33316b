use Rattle.journal_audit.proofs.Calm.{looks_once}
use Rattle.outside.proofs.MadeSteps.{look_changes}
use Rattle.journal_audit.proofs.files.read_header.Goals as goal

pub returns-in_err-n-clause-looks : goal.returns-in_err-n-clause-looks
returns-in_err-n-clause-looks g c = looks_once (g.D.Disk.tells c.args.disk.now) (g.D.Disk.tells c.read_at.new.self) c.read_at.ensures.call c.read_at.ensures.same c.read_at.ensures.cause.later (look_changes c.read_at.result _ _ c.read_at.ensures.does)

pub returns-clause-looks : goal.returns-clause-looks
returns-clause-looks g c = looks_once (g.D.Disk.tells c.args.disk.now) (g.D.Disk.tells c.read_at.new.self) c.read_at.ensures.call c.read_at.ensures.same c.read_at.ensures.cause.later (look_changes c.read_at.result _ _ c.read_at.ensures.does)
