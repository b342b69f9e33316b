use Rattle.std.proofs.Common.{◌∙◌, sym, ap, refl, length}
use Rattle.outside.specs.Files.{read_files}
use Rattle.outside.proofs.CallSteps.{looks_then, looks_call}
use Rattle.frame_journal.specs.Journal.{is_format}
use Rattle.frame_journal.proofs.Read.{read_files_of, begun_as}
use Rattle.outside.proofs.MadeSteps.{look_changes}
use Rattle.frame_journal.proofs.journal.Journal.start.Goals as goal

pub returns-in_default-clause-start : goal.returns-in_default-clause-start
returns-in_default-clause-start g c two told =
    let told1 = c.read_header.ensures.looks.same_files ∙ told in
    c.in_default.ensures.file (read_files two) (c.in_ok-first.ensures.header two told) (c.in_ok-second.ensures.header two told1)

pub returns-then-not-is_format-clause-start : goal.returns-then-not-is_format-clause-start
returns-then-not-is_format-clause-start g c two told =
    let told1 = c.read_header.ensures.looks.same_files ∙ told in
    let h1 = c.in_ok-first.ensures.header two told in
    let h2 = c.in_ok-second.ensures.header two told1 in
    let header = c.in-Some.ensures.header (read_files two) h1 h2 in (
      c.in-Some.ensures.file (read_files two) h1 h2,
      ap is_format (sym header.1) ∙ sym c.is_format.ensures ∙ c.if-not-is_format.true,
      refl,
    )

pub returns-in_err-len-clause-looks : goal.returns-in_err-len-clause-looks
returns-in_err-len-clause-looks g c =
    let o0 = g.D.Disk.tells c.args.disk.now in
    let o1 = g.D.Disk.tells c.read_header.new.disk in
    let o2 = g.D.Disk.tells c.read_header-2.new.disk in
    looks_call o0 o2 (g.D.Disk.tells c.len.new.self) (looks_then o0 o1 o2 c.read_header.ensures.looks c.read_header-2.ensures.looks) c.len.ensures.call c.len.ensures.same c.len.ensures.cause.later (look_changes c.len.result _ _ c.len.ensures.does)

pub returns-clause-start : goal.returns-clause-start
returns-clause-start g c two told =
    let told1 = c.read_header.ensures.looks.same_files ∙ told in
    let told2 = c.read_header-2.ensures.looks.same_files ∙ told1 in
    let h1 = c.in_ok-first.ensures.header two told in
    let h2 = c.in_ok-second.ensures.header two told1 in
    let header = c.in-Some.ensures.header (read_files two) h1 h2 in
    let long = c.in_ok-len.ensures.length two told2 ∙ sym (ap length (read_files_of two c.in-Some.file)) in (
      c.in-Some.ensures.file (read_files two) h1 h2,
      ap is_format (sym header.1) ∙ sym c.is_format.ensures ∙ c.if-not-is_format.false,
      begun_as c.in-Some.file _ _ _ _ header.1 header.2 long,
    )

pub returns-clause-looks : goal.returns-clause-looks
returns-clause-looks g c =
    let o0 = g.D.Disk.tells c.args.disk.now in
    let o1 = g.D.Disk.tells c.read_header.new.disk in
    let o2 = g.D.Disk.tells c.read_header-2.new.disk in
    looks_call o0 o2 (g.D.Disk.tells c.len.new.self) (looks_then o0 o1 o2 c.read_header.ensures.looks c.read_header-2.ensures.looks) c.len.ensures.call c.len.ensures.same c.len.ensures.cause.later (look_changes c.len.result _ _ c.len.ensures.does)

pub returns-in_err-second-clause-looks : goal.returns-in_err-second-clause-looks
returns-in_err-second-clause-looks g c =
    looks_then (g.D.Disk.tells c.args.disk.now) (g.D.Disk.tells c.read_header.new.disk) (g.D.Disk.tells c.read_header-2.new.disk) c.read_header.ensures.looks
    c.read_header-2.ensures.looks

pub returns-in_default-clause-looks : goal.returns-in_default-clause-looks
returns-in_default-clause-looks g c =
    looks_then (g.D.Disk.tells c.args.disk.now) (g.D.Disk.tells c.read_header.new.disk) (g.D.Disk.tells c.read_header-2.new.disk) c.read_header.ensures.looks
    c.read_header-2.ensures.looks
