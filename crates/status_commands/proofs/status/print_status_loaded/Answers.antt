use Rattle.status_commands.proofs.Told.{told_status}
use Rattle.status_commands.proofs.status.print_status_loaded.Goals as goal

pub returns : goal.returns
returns g c clients start was =
    told_status clients (g.D.Disk.tells start) (g.D.Disk.tells c.args.disk.now) _ _ _
    c.args.store.now was.run was.rests was.opened was.synced c.print_lines.ensures
