use Rattle.store_commands.proofs.Looks.{looked}
use Rattle.tree_commands.specs.Trees.{tree_shown}
use Rattle.tree_commands.proofs.tree.print_tree_loaded.Goals as goal

pub returns : goal.returns
returns g c clients start was =
    looked clients (tree_shown clients c.args.window.now) (g.D.Disk.tells start) (g.D.Disk.tells c.args.disk.now) _ _ _
    c.args.store.now was.run
    was.rests was.facts was.synced (c.print_window.ensures clients was.opened.ready.knows)
