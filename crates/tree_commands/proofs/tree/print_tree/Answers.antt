use Rattle.std.proofs.Common.{refl}
use Rattle.store_commands.proofs.Looks.{looked_not}
use Rattle.store_commands.proofs.Passing.{looked_on}
use Rattle.tree_commands.specs.Trees.{tree_shown}
use Rattle.tree_commands.proofs.tree.print_tree.Goals as goal

pub returns-in_err-store : goal.returns-in_err-store
returns-in_err-store g c =
    let clients = g.C.Clients.meaning c.args.clients.now in
    let shown = tree_shown clients c.args.window.now in
    looked_on c.from_residual.result c.in_err-store.field-0.0 c.from_residual.ensures.1 clients
    shown _ _ _ _
    (looked_not clients shown _ _ _ _ c.in_err-store.field-0.0 c.in_err-store.ensures.run
    c.in_err-store.ensures.rests c.in_err-store.ensures.by c.in_err-store.ensures.loaded
    (record { same = refl; same_faults = refl }))

pub returns : goal.returns
returns g c =
    c.print_tree_loaded.ensures (g.C.Clients.meaning c.args.clients.now)
    c.args.disk.now (record {
      run = c.in_ok-store.ensures.run;
      rests = c.in_ok-store.ensures.rests;
      facts = c.in_ok-store.ensures.loaded;
      synced = c.in_ok-store.ensures.settled;
      opened = c.in_ok-store.ensures.opened;
    })

pub print_tree_loaded-requires : goal.print_tree_loaded-requires
print_tree_loaded-requires g c =
    (g.C.Clients.meaning c.args.clients.now, c.in_ok-store.ensures.opened.ready.knows)
