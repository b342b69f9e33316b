use Rattle.store_commands.specs.Shown.{body_shown}
use Rattle.store_commands.proofs.Looks.{looked}
use Rattle.store_commands.proofs.show.write_body_loaded.Goals as goal

pub returns : goal.returns
returns g c clients start was =
    looked clients (body_shown c.args.id.now) (g.D.Disk.tells start) (g.D.Disk.tells c.args.disk.now) _ _ _
    c.args.store.now was.run was.rests was.facts was.synced
    c.print_body.ensures
