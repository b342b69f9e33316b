use Rattle.std.proofs.Common.{ℕ, ap, ◌∙◌}
use Rattle.std.specs.Option.{option_map}
use Rattle.outside.specs.Files.{read_files}
use Rattle.journal_audit.proofs.Audits.{found_some}
use Rattle.outside.proofs.CallSteps.{looks_then}
use Rattle.journal_audit.proofs.files.find.Goals as goal

pub returns-in-Some-clause-found : goal.returns-in-Some-clause-found
returns-in-Some-clause-found g c two told =
    let first = c.in_ok-first.ensures.header two told in
    let second = c.in_ok-second.ensures.header two (c.read_header.ensures.looks.same_files ∙ told) in
    found_some (read_files two) c.journal_of.result c.in-Some.found (c.journal_of.ensures.file (read_files two) first second) (c.journal_of.ensures.format (read_files two) first second) c.in-Some.is

pub returns-in-None-clause-found : goal.returns-in-None-clause-found
returns-in-None-clause-found g c two told =
    let first = c.in_ok-first.ensures.header two told in
    let second = c.in_ok-second.ensures.header two (c.read_header.ensures.looks.same_files ∙ told) in
    c.journal_of.ensures.file (read_files two) first second ∙ ap (option_map (λ (x : ℕ × ℕ). x.0)) c.in-None.is

pub returns-in_err-second-clause-looks : goal.returns-in_err-second-clause-looks
returns-in_err-second-clause-looks g c =
    looks_then (g.D.Disk.tells c.args.disk.now) (g.D.Disk.tells c.read_header.new.disk) (g.D.Disk.tells c.read_header-2.new.disk) c.read_header.ensures.looks
    c.read_header-2.ensures.looks

pub returns-in-None-clause-looks : goal.returns-in-None-clause-looks
returns-in-None-clause-looks g c =
    looks_then (g.D.Disk.tells c.args.disk.now) (g.D.Disk.tells c.read_header.new.disk) (g.D.Disk.tells c.read_header-2.new.disk) c.read_header.ensures.looks
    c.read_header-2.ensures.looks
