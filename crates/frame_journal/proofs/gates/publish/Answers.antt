use Rattle.outside.specs.Files.{Two, File, file_of}
use Rattle.frame_journal.specs.Gates.{OpensGate, KeepsAllBut}
use Rattle.frame_journal.specs.Create.{PublishesHeader, ShutOrOpened}
use Rattle.frame_journal.proofs.AppendSteps.{passed_map, becomes_map}
use Rattle.frame_journal.proofs.ClearSteps.{on_ok_map}
use Rattle.frame_journal.proofs.Prepared.{prepared_fits, opens_publishes, gate_opened}
use Rattle.frame_journal.proofs.gates.publish.Goals as goal

pub open_gate-requires-clause-fits : goal.open_gate-requires-clause-fits
open_gate-requires-clause-fits g c two told = prepared_fits c.args.file two (c.requires.prepared two told)

pub returns-clause-published : goal.returns-clause-published
returns-clause-published g c =
    let o = g.D.Disk.tells c.args.disk.now in
    let o' = g.D.Disk.tells c.open_gate.new.disk in
    let file = c.args.file in
    on_ok_map c.open_gate.result _ _
    (λ opened. becomes_map (OpensGate file 1) (PublishesHeader file) o.files o'.files
    (λ (two two' : Two File) told. opens_publishes file two two' (c.requires.prepared two told)) opened)
    c.open_gate.ensures.opened

pub returns-clause-any_moment : goal.returns-clause-any_moment
returns-clause-any_moment g c two told =
    let file = c.args.file in
    let bytes = (file_of two file).now in
    passed_map two (g.D.Disk.tells c.args.disk.now) (g.D.Disk.tells c.open_gate.new.disk) file (KeepsAllBut bytes 0) (ShutOrOpened bytes)
    (gate_opened file two (c.requires.prepared two told)) (c.open_gate.ensures.any_moment two told)
