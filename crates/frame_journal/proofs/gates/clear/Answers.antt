use Rattle.std.proofs.Common.{◌≡◌, inr, false}
use Rattle.outside.specs.Files.{file_of}
use Rattle.outside.specs.Frames.{is_open}
use Rattle.outside.proofs.CallSteps.{becomes_told}
use Rattle.frame_journal.specs.Create.{ShutsGate, CutsToFirstByte, ClearsFile, BeforeOrShut}
use Rattle.frame_journal.proofs.ClearSteps.{on_ok_map, becomes_new, becomes_then, clears, passed_then}
use Rattle.frame_journal.proofs.gates.clear.Goals as goal

pub shorten-requires-clause-shut : goal.shorten-requires-clause-shut
shorten-requires-clause-shut g c two1 had =
    (becomes_new (ShutsGate c.args.file) (g.D.Disk.tells c.args.disk.now).files (g.D.Disk.tells c.shut_gate.new.disk).files two1 had c.in_ok-shut_gate.ensures.shut).2.shut

pub returns-clause-cleared : goal.returns-clause-cleared
returns-clause-cleared g c =
    let o0 = g.D.Disk.tells c.args.disk.now in
    let o1 = g.D.Disk.tells c.shut_gate.new.disk in
    let o2 = g.D.Disk.tells c.shorten.new.disk in
    let file = c.args.file in
    on_ok_map c.shorten.result _ _
    (λ shortened. becomes_then (ShutsGate file) (CutsToFirstByte file) (ClearsFile file) o0.files o1.files o2.files (clears file) c.in_ok-shut_gate.ensures.shut shortened)
    c.shorten.ensures.shortened

pub returns-clause-any_moment : goal.returns-clause-any_moment
returns-clause-any_moment g c two told pending =
    let o0 = g.D.Disk.tells c.args.disk.now in
    let o1 = g.D.Disk.tells c.shut_gate.new.disk in
    let o2 = g.D.Disk.tells c.shorten.new.disk in
    let file = c.args.file in
    let shut = becomes_told (ShutsGate file) o0.files o1.files two told c.in_ok-shut_gate.ensures.shut in
    passed_then two shut.0 o0 o1 o2 file (BeforeOrShut (file_of two file).now) (λ left. is_open left ≡ false)
    (c.in_ok-shut_gate.ensures.any_moment two told pending) c.in_ok-shut_gate.ensures.run.same_links shut.2.other (λ left closed. inr closed)
    (c.shorten.ensures.any_moment shut.0 shut.1 (shut.2.still pending))
