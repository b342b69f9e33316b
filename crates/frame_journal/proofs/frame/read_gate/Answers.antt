use Rattle.std.proofs.Common.{◌≡◌, min, ◌-◌, length, rules, refl}
use Rattle.outside.specs.Files.{file_of}
use Rattle.outside.proofs.CallSteps.{looks_none}
use Rattle.frame_journal.proofs.Read.{looks_once, gate_count, gate_front}
use Rattle.outside.proofs.MadeSteps.{look_changes}
use Rattle.frame_journal.proofs.frame.read_gate.Goals as goal

pub returns-then-place-len-clause-looks : goal.returns-then-place-len-clause-looks
returns-then-place-len-clause-looks g c = looks_none (g.D.Disk.tells c.args.disk.now)

pub returns-in_err-n-clause-looks : goal.returns-in_err-n-clause-looks
returns-in_err-n-clause-looks g c = looks_once (g.D.Disk.tells c.args.disk.now) (g.D.Disk.tells c.read_at.new.self) c.read_at.ensures.call c.read_at.ensures.same c.read_at.ensures.cause.later (look_changes c.read_at.result _ _ c.read_at.ensures.does)

pub returns-clause-gate : goal.returns-clause-gate
returns-clause-gate g c two told long =
    let bytes = (file_of two c.args.file).now in
    let reads = c.in_ok-n.ensures.bytes two told in
    let room : length c.read_at.new.buf ≡ min (c.args.len - c.args.place) 5 = search rules in
    c.gate_in.ensures.gate bytes long c.if-place-len.false (gate_count bytes c.read_at.new.buf c.args.place c.args.len c.in_ok-n.n _ reads room refl long) (gate_front bytes c.read_at.new.buf _ c.args.place c.in_ok-n.n reads)

pub returns-clause-looks : goal.returns-clause-looks
returns-clause-looks g c = looks_once (g.D.Disk.tells c.args.disk.now) (g.D.Disk.tells c.read_at.new.self) c.read_at.ensures.call c.read_at.ensures.same c.read_at.ensures.cause.later (look_changes c.read_at.result _ _ c.read_at.ensures.does)
