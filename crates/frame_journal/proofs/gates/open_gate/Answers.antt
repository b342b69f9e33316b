use Rattle.std.proofs.Common.{◌∙◌, ◌-◌, ◌∷◌, [], arith}
use Rattle.outside.specs.Files.{Two, File, file_of}
use Rattle.frame_journal.specs.Gates.{OpensGate}
use Rattle.frame_journal.proofs.GateSteps.{gate_inside, open_ok, open_err, last_ok, last_err, opens}
use Rattle.frame_journal.proofs.AppendSteps.{becomes_from}
use Rattle.frame_journal.proofs.Closed.{leaves_both, leaves_wrote}
use Rattle.frame_journal.proofs.Appending.{breaks_as}
use Rattle.outside.proofs.MadeSteps.{breaks_then, breaks_wide}
use Rattle.outside.specs.Changes.{synced, wrote}
use Rattle.std.proofs.Common.{Some}
use Rattle.frame_journal.proofs.gates.open_gate.Goals as goal

pub write_at-requires-clause-place : goal.write_at-requires-clause-place
write_at-requires-clause-place g c two told = omega (arith, (c.requires.fits two told).1)

pub returns-in_err-write_at-clause-any_moment : goal.returns-in_err-write_at-clause-any_moment
returns-in_err-write_at-clause-any_moment g c two told =
    let o0 = g.D.Disk.tells c.args.disk.now in
    let fits = c.requires.fits two told in
    let inside = gate_inside (file_of two c.args.file).now c.args.end c.requires.behind fits.1 in
    open_err two o0 c.args.file (c.args.end - 1) told fits.0 inside (g.D.Disk.tells c.write_at.new.self) _ c.in_err-write_at.ensures.call c.in_err-write_at.ensures.written

pub returns-in_err-sync-clause-any_moment : goal.returns-in_err-sync-clause-any_moment
returns-in_err-sync-clause-any_moment g c two told =
    let o0 = g.D.Disk.tells c.args.disk.now in
    let fits = c.requires.fits two told in
    let inside = gate_inside (file_of two c.args.file).now c.args.end c.requires.behind fits.1 in
    let o1 = g.D.Disk.tells c.write_at.new.self in
    let first = open_ok two o0 c.args.file (c.args.end - 1) told fits.0 inside o1 tt c.in_ok-write_at.ensures.call c.in_ok-write_at.ensures.written in
    last_err two o0 c.args.file (c.args.end - 1) told fits.0 inside o1 (g.D.Disk.tells c.sync.new.self) _ first c.in_err-sync.ensures.call c.in_err-sync.ensures.synced

pub returns-clause-opened : goal.returns-clause-opened
returns-clause-opened g c =
    becomes_from (OpensGate c.args.file c.args.end) (g.D.Disk.tells c.args.disk.now).files (g.D.Disk.tells c.sync.new.self).files
    (c.in_ok-sync.ensures.call.same_told ∙ c.in_ok-write_at.ensures.call.same_told)
    (λ (two two' : Two File) told had.
    let o0 = g.D.Disk.tells c.args.disk.now in
    let fits = c.requires.fits two told in
    let inside = gate_inside (file_of two c.args.file).now c.args.end c.requires.behind fits.1 in
    let o1 = g.D.Disk.tells c.write_at.new.self in
    let o2 = g.D.Disk.tells c.sync.new.self in
    let first = open_ok two o0 c.args.file (c.args.end - 1) told fits.0 inside o1 tt c.in_ok-write_at.ensures.call c.in_ok-write_at.ensures.written in
    let second = last_ok two o0 c.args.file (c.args.end - 1) told fits.0 inside o1 o2 tt first c.in_ok-sync.ensures.call c.in_ok-sync.ensures.synced in
    opens two o0 c.args.file (c.args.end - 1) told fits.0 inside o2 second two' had)

pub returns-clause-any_moment : goal.returns-clause-any_moment
returns-clause-any_moment g c two told =
    let o0 = g.D.Disk.tells c.args.disk.now in
    let fits = c.requires.fits two told in
    let inside = gate_inside (file_of two c.args.file).now c.args.end c.requires.behind fits.1 in
    let o1 = g.D.Disk.tells c.write_at.new.self in
    let o2 = g.D.Disk.tells c.sync.new.self in
    let first = open_ok two o0 c.args.file (c.args.end - 1) told fits.0 inside o1 tt c.in_ok-write_at.ensures.call c.in_ok-write_at.ensures.written in
    let second = last_ok two o0 c.args.file (c.args.end - 1) told fits.0 inside o1 o2 tt first c.in_ok-sync.ensures.call c.in_ok-sync.ensures.synced in
    second.moments

pub returns-in_err-write_at-clause-leaves : goal.returns-in_err-write_at-clause-leaves
returns-in_err-write_at-clause-leaves g c some =
    leaves_wrote c.args.file (c.args.end - 1) (1 ∷ []) c.write_at.result (g.D.Disk.tells c.args.disk.now).files (g.D.Disk.tells c.write_at.new.self).files (omega (arith, some)) c.write_at.ensures.written

pub returns-in_err-sync-clause-leaves : goal.returns-in_err-sync-clause-leaves
returns-in_err-sync-clause-leaves g c some =
    leaves_both c.args.file (c.args.end - 1) (1 ∷ []) c.write_at.result c.sync.result (g.D.Disk.tells c.args.disk.now).files (g.D.Disk.tells c.write_at.new.self).files (g.D.Disk.tells c.sync.new.self).files (omega (arith, some)) c.write_at.ensures.written c.sync.ensures.synced

pub returns-clause-leaves : goal.returns-clause-leaves
returns-clause-leaves g c some =
    leaves_both c.args.file (c.args.end - 1) (1 ∷ []) c.write_at.result c.sync.result (g.D.Disk.tells c.args.disk.now).files (g.D.Disk.tells c.write_at.new.self).files (g.D.Disk.tells c.sync.new.self).files (omega (arith, some)) c.write_at.ensures.written c.sync.ensures.synced

pub returns-in_err-write_at-clause-does : goal.returns-in_err-write_at-clause-does
returns-in_err-write_at-clause-does g c =
    breaks_as _ _ c.from_residual.result _ _ c.from_residual.ensures.1
    (breaks_wide (Some (wrote c.args.file (c.args.end - 1) (1 ∷ [])) ∷ []) (Some (synced c.args.file) ∷ []) _ _ c.in_err-write_at.ensures.does)

pub returns-in_err-sync-clause-does : goal.returns-in_err-sync-clause-does
returns-in_err-sync-clause-does g c =
    breaks_as _ _ c.from_residual-in_err-sync.result _ _ c.from_residual-in_err-sync.ensures.1
    (breaks_then (Some (wrote c.args.file (c.args.end - 1) (1 ∷ [])) ∷ []) (Some (synced c.args.file) ∷ []) _ _ _ c.in_ok-write_at.ensures.does c.in_err-sync.ensures.does)
