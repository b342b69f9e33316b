use Rattle.std.proofs.Common.{◌-◌, arith}
use Rattle.outside.specs.Files.{file_of}
use Rattle.outside.proofs.CallSteps.{becomes_told}
use Rattle.frame_journal.specs.Append.{WritesAndOpensGate, Gated}
use Rattle.frame_journal.specs.Gates.{WritesBehind, OpensGate, KeepsFront, KeepsAllBut}
use Rattle.frame_journal.proofs.BehindSteps.{behind_fits, other_after}
use Rattle.frame_journal.proofs.AppendSteps.{gated_behind, gated_after, opens_both, passed_map}
use Rattle.frame_journal.proofs.ClearSteps.{on_ok_map, becomes_new, becomes_then, passed_then}
use Rattle.frame_journal.proofs.Closed.{leaves_then}
use Rattle.frame_journal.specs.Appends.{write_calls}
use Rattle.frame_journal.proofs.Appending.{breaks_as}
use Rattle.outside.proofs.MadeSteps.{breaks_wide, does_both}
use Rattle.std.proofs.Common.{◌∷◌, []}
use Rattle.frame_journal.proofs.gates.open_behind.Goals as goal

pub open_gate-requires-clause-fits : goal.open_gate-requires-clause-fits
open_gate-requires-clause-fits g c two1 had =
    let from = becomes_new (WritesBehind c.args.file c.args.end c.args.bytes.now) (g.D.Disk.tells c.args.disk.now).files (g.D.Disk.tells c.write_behind.new.disk).files two1 had c.in_ok-write_behind.ensures.written in
    behind_fits c.args.file c.args.end c.args.bytes.now from.0 two1 (c.requires.fits from.0 from.1).1 from.2

pub returns-in_err-write_behind-clause-any_moment : goal.returns-in_err-write_behind-clause-any_moment
returns-in_err-write_behind-clause-any_moment g c two told =
    let bytes = (file_of two c.args.file).now in
    passed_map two (g.D.Disk.tells c.args.disk.now) (g.D.Disk.tells c.write_behind.new.disk) c.args.file (KeepsFront bytes c.args.end) (Gated bytes c.args.end c.args.bytes.now)
    (gated_behind bytes c.args.end c.args.bytes.now) (c.in_err-write_behind.ensures.any_moment two told)

pub returns-clause-opened : goal.returns-clause-opened
returns-clause-opened g c =
    let o0 = g.D.Disk.tells c.args.disk.now in
    let o1 = g.D.Disk.tells c.write_behind.new.disk in
    let o2 = g.D.Disk.tells c.open_gate.new.disk in
    let file = c.args.file in
    let end = c.args.end in
    let bytes = c.args.bytes.now in
    on_ok_map c.open_gate.result _ _
    (λ opened. becomes_then (WritesBehind file end bytes) (OpensGate file end) (WritesAndOpensGate file end bytes) o0.files o1.files o2.files (opens_both file end bytes) c.in_ok-write_behind.ensures.written opened)
    c.open_gate.ensures.opened

pub returns-clause-any_moment : goal.returns-clause-any_moment
returns-clause-any_moment g c two told =
    let o0 = g.D.Disk.tells c.args.disk.now in
    let o1 = g.D.Disk.tells c.write_behind.new.disk in
    let o2 = g.D.Disk.tells c.open_gate.new.disk in
    let file = c.args.file in
    let end = c.args.end in
    let framed = c.args.bytes.now in
    let bytes = (file_of two file).now in
    let mid = becomes_told (WritesBehind file end framed) o0.files o1.files two told c.in_ok-write_behind.ensures.written in
    let first = passed_map two o0 o1 file (KeepsFront bytes end) (Gated bytes end framed) (gated_behind bytes end framed) (c.in_ok-write_behind.ensures.any_moment two told) in
    passed_then two mid.0 o0 o1 o2 file (Gated bytes end framed) (KeepsAllBut (file_of mid.0 file).now (end - 1)) first c.in_ok-write_behind.ensures.run.same_links
    (other_after file end framed two mid.0 mid.2)
    (gated_after file end framed two mid.0 c.requires.behind (c.requires.fits two told).1 mid.2)
    (c.open_gate.ensures.any_moment mid.0 mid.1)

pub returns-in_err-write_behind-clause-leaves : goal.returns-in_err-write_behind-clause-leaves
returns-in_err-write_behind-clause-leaves g c some = c.write_behind.ensures.leaves (omega (arith, some))

pub returns-clause-leaves : goal.returns-clause-leaves
returns-clause-leaves g c some =
    leaves_then c.args.file (g.D.Disk.tells c.args.disk.now).files (g.D.Disk.tells c.write_behind.new.disk).files (g.D.Disk.tells c.open_gate.new.disk).files (c.write_behind.ensures.leaves (omega (arith, some))) (c.open_gate.ensures.leaves some)

pub returns-in_err-write_behind-clause-does : goal.returns-in_err-write_behind-clause-does
returns-in_err-write_behind-clause-does g c =
    breaks_as _ _ c.from_residual.result _ _ c.from_residual.ensures.1
    (breaks_wide (write_calls c.args.file c.args.end c.args.bytes.now) (write_calls c.args.file (c.args.end - 1) (1 ∷ [])) _ _ c.in_err-write_behind.ensures.does)

pub returns-clause-does : goal.returns-clause-does
returns-clause-does g c =
    does_both (write_calls c.args.file c.args.end c.args.bytes.now) (write_calls c.args.file (c.args.end - 1) (1 ∷ [])) c.open_gate.result _ _ _
    c.in_ok-write_behind.ensures.does c.open_gate.ensures.does
