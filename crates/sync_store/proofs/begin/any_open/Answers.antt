use Rattle.outside.proofs.CallSteps.{looks_then}
use Rattle.sync_store.proofs.begin.any_open.Goals as goal

pub returns-in_err-second-clause-looks : goal.returns-in_err-second-clause-looks
returns-in_err-second-clause-looks g c =
    looks_then (g.D.Disk.tells c.args.disk.now) (g.D.Disk.tells c.read_header.new.disk)
    (g.D.Disk.tells c.read_header-2.new.disk) c.read_header.ensures.looks
    c.read_header-2.ensures.looks

pub returns-then-is_some-clause-looks : goal.returns-then-is_some-clause-looks
returns-then-is_some-clause-looks g c =
    looks_then (g.D.Disk.tells c.args.disk.now) (g.D.Disk.tells c.read_header.new.disk)
    (g.D.Disk.tells c.read_header-2.new.disk) c.read_header.ensures.looks
    c.read_header-2.ensures.looks

pub returns-else-is_some-clause-looks : goal.returns-else-is_some-clause-looks
returns-else-is_some-clause-looks g c =
    looks_then (g.D.Disk.tells c.args.disk.now) (g.D.Disk.tells c.read_header.new.disk)
    (g.D.Disk.tells c.read_header-2.new.disk) c.read_header.ensures.looks
    c.read_header-2.ensures.looks
