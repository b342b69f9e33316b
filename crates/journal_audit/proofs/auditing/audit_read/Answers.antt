use Rattle.std.proofs.Common.{Result, sym, subst}
use Rattle.outside.specs.Files.{read_files}
use Rattle.journal_audit.specs.declared.fault.AuditFault.{AuditFault}
use Rattle.journal_audit.specs.declared.report.Report.{Report}
use Rattle.journal_audit.specs.Answers.{IsAudited}
use Rattle.journal_audit.proofs.Audits.{err_is, untaken}
use Rattle.journal_audit.proofs.auditing.audit_read.Goals as goal

pub returns-in_err-taken-clause-answer : goal.returns-in_err-taken-clause-answer
returns-in_err-taken-clause-answer g c two told =
    let clients = g.C.Clients.meaning c.args.clients.now in
    let e = c.in_err-taken.field-0.0 in
    subst (λ (r : Result Report AuditFault). IsAudited clients (read_files two) r) (sym (err_is c.from_residual.result e c.from_residual.ensures.1))
    (untaken clients (read_files two) e (c.in_err-taken.ensures.taken two told clients))
