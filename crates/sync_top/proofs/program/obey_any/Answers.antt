use Rattle.std.proofs.Common.{◌≡◌, refl, sym, ◌∙◌, inl}
use Rattle.std.specs.Prelude.{Err, Ok}
use Rattle.commands.specs.declared.command.Command.TheVariants as command
use Rattle.sync_top.proofs.HeadlineLemmas.{has_run}
use Rattle.sync_top.proofs.ServeLemmas.{as_serve, others_serve}
use Rattle.sync_top.proofs.StateLemmas.{as_command}
use Rattle.sync_top.proofs.program.obey_any.Goals as goal

pub returns-in-Ok-clause-comes : goal.returns-in-Ok-clause-comes
returns-in-Ok-clause-comes g c =
    let clients = g.C.Clients.meaning c.args.clients.now in
    let e = c.in-Ok.ensures in
    as_command clients c.args.asked (command.Sync c.in-Sync.turns c.in-Sync.quiet c.in-Sync.links) _
    _ _ _ _ _ _ c.in-Sync.is
    (inl (
      has_run clients _ c.in-Sync.links c.as_slice.result.now _ _ (Ok c.in-Ok.ends) _
          c.as_slice.ensures.links refl e.headline e.told e.specs e.caused e.leaves,
      (record { same = refl; same_faults = refl }, record { same = refl; same_faults = refl }),
    ))

pub returns-in-Sync-clause-comes : goal.returns-in-Sync-clause-comes
returns-in-Sync-clause-comes g c =
    let clients = g.C.Clients.meaning c.args.clients.now in
    let e = c.in-Err.ensures in
    as_command clients c.args.asked (command.Sync c.in-Sync.turns c.in-Sync.quiet c.in-Sync.links) _
    _ _ _ _ _ _ c.in-Sync.is
    (inl (
      has_run clients _ c.in-Sync.links c.as_slice.result.now _ _ (Err c.in-Err.came) _
          c.as_slice.ensures.links refl e.headline e.told e.specs e.caused e.leaves,
      (record { same = refl; same_faults = refl }, record { same = refl; same_faults = refl }),
    ))

pub returns-in-Ok-clause-serves : goal.returns-in-Ok-clause-serves
returns-in-Ok-clause-serves g c =
    others_serve g.H.Disk.tells (g.C.Clients.meaning c.args.clients.now) c.args.asked _ _ _ _ _ _ _
    (λ serve. let both : command.Serve ≡ command.Sync c.in-Sync.turns c.in-Sync.quiet c.in-Sync.links =
    sym serve ∙ c.in-Sync.is in cc)

pub returns-in-Sync-clause-serves : goal.returns-in-Sync-clause-serves
returns-in-Sync-clause-serves g c =
    others_serve g.H.Disk.tells (g.C.Clients.meaning c.args.clients.now) c.args.asked _ _ _ _ _ _ _
    (λ serve. let both : command.Serve ≡ command.Sync c.in-Sync.turns c.in-Sync.quiet c.in-Sync.links =
    sym serve ∙ c.in-Sync.is in cc)

pub returns-in-Serve-clause-serves : goal.returns-in-Serve-clause-serves
returns-in-Serve-clause-serves g c =
    as_serve g.H.Disk.tells (g.C.Clients.meaning c.args.clients.now) c.args.asked _ _ _ _ _ _ _
    c.in-Serve.is c.serve_requests.ensures

pub returns-in-Serve-clause-comes : goal.returns-in-Serve-clause-comes
returns-in-Serve-clause-comes g c =
    as_command (g.C.Clients.meaning c.args.clients.now) c.args.asked command.Serve _ _ _ _ _ _ _
    c.in-Serve.is tt
