use Rattle.std.proofs.Common.{Result, sym, subst, ◌∙◌}
use Rattle.outside.specs.Files.{read_files}
use Rattle.journal_audit.specs.declared.fault.AuditFault.{AuditFault}
use Rattle.journal_audit.specs.declared.files.Taken.{Taken}
use Rattle.journal_audit.specs.Answers.{IsFileTaken}
use Rattle.journal_audit.proofs.Audits.{as_read, err_is, taken_fault, taken_file, taken_other}
use Rattle.outside.proofs.CallSteps.{looks_then}
use Rattle.journal_audit.proofs.files.take_file.Goals as goal

pub returns-in_err-file-clause-taken : goal.returns-in_err-file-clause-taken
returns-in_err-file-clause-taken g c two told clients =
    let e = c.in_err-file.field-0.0 in
    subst (λ (r : Result Taken AuditFault). IsFileTaken clients (read_files two) r) (sym (err_is c.from_residual.result e c.from_residual.ensures.1))
    (taken_fault clients (read_files two) e (c.in_err-file.ensures.found two told))

pub returns-in_default-clause-taken : goal.returns-in_default-clause-taken
returns-in_default-clause-taken g c two told clients =
    taken_other clients (read_files two) c.in_ok-file.file c.in_ok-file.number (c.in_ok-file.ensures.found two told) (sym c.in_default.ensures)

pub returns-clause-taken : goal.returns-clause-taken
returns-clause-taken g c two told clients =
    taken_file clients (read_files two) c.in_ok-file.file c.in_ok-file.number c.in-Some.format c.in_ok-bytes.bytes.items (c.in_ok-file.ensures.found two told) (sym c.in-Some.ensures)
    (c.in_ok-bytes.ensures.bytes two (c.find.ensures.looks.same_files ∙ told) ∙ sym (as_read two c.in_ok-file.file))

pub returns-in_err-bytes-clause-looks : goal.returns-in_err-bytes-clause-looks
returns-in_err-bytes-clause-looks g c =
    looks_then (g.D.Disk.tells c.args.disk.now) (g.D.Disk.tells c.find.new.disk) (g.D.Disk.tells c.read_file.new.disk) c.find.ensures.looks
    c.read_file.ensures.looks

pub returns-clause-looks : goal.returns-clause-looks
returns-clause-looks g c =
    looks_then (g.D.Disk.tells c.args.disk.now) (g.D.Disk.tells c.find.new.disk) (g.D.Disk.tells c.read_file.new.disk) c.find.ensures.looks
    c.read_file.ensures.looks
