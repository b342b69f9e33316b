use Rattle.std.proofs.Common.{◌≡◌, false, subst, List, ℕ, arith}
use Rattle.outside.specs.Files.{Two, File, file_of}
use Rattle.outside.specs.Disk.{RelatesTold}
use Rattle.outside.specs.Frames.{is_open}
use Rattle.frame_journal.specs.Gates.{WritesBehind, KeepsFront}
use Rattle.frame_journal.specs.Create.{PreparesJournal, behind_gate}
use Rattle.frame_journal.proofs.AppendSteps.{passed_map, becomes_map}
use Rattle.frame_journal.proofs.ClearSteps.{on_ok_map}
use Rattle.frame_journal.proofs.CreateSteps.{cleared_fits, writes_prepares, kept_shut}
use Rattle.frame_journal.proofs.gates.prepare.Goals as goal

pub write_behind-requires-clause-fits : goal.write_behind-requires-clause-fits
write_behind-requires-clause-fits g c two told = cleared_fits two c.args.file (c.requires.cleared two told)

pub returns-clause-prepared : goal.returns-clause-prepared
returns-clause-prepared g c =
    let o = g.D.Disk.tells c.args.disk.now in
    let o' = g.D.Disk.tells c.write_behind.new.disk in
    let file = c.args.file in
    let P : List ℕ → Type 0 = λ l. RelatesTold (WritesBehind file 1 l) o.files o'.files in
    on_ok_map c.write_behind.result _ _
    (λ written. becomes_map (WritesBehind file 1 (behind_gate c.args.format c.args.generation)) (PreparesJournal file c.args.format c.args.generation) o.files o'.files
    (λ (two two' : Two File) told. writes_prepares file c.args.format c.args.generation two two' (c.requires.cleared two told)) (subst P c.behind_gate-bytes.ensures written))
    c.write_behind.ensures.written

pub returns-clause-any_moment : goal.returns-clause-any_moment
returns-clause-any_moment g c two told =
    let file = c.args.file in
    passed_map two (g.D.Disk.tells c.args.disk.now) (g.D.Disk.tells c.write_behind.new.disk) file (KeepsFront (file_of two file).now 1) (λ left. is_open left ≡ false)
    (kept_shut two file (c.requires.cleared two told)) (c.write_behind.ensures.any_moment two told)

pub returns-clause-leaves : goal.returns-clause-leaves
returns-clause-leaves g c = c.write_behind.ensures.leaves (omega arith)
