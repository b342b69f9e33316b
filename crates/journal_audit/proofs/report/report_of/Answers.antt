use Rattle.std.proofs.Common.{List, ℕ, subst}
use Rattle.journal_audit.specs.Answers.{IsAuditOf}
use Rattle.journal_audit.specs.Reading.{whole_of}
use Rattle.journal_audit.proofs.Audits.{audit_of}
use Rattle.journal_audit.proofs.report.report_of.Goals as goal

pub returns : goal.returns
returns g c =
    let clients = g.C.Clients.meaning c.args.clients.now in
    let t = c.args.taken.now in
    subst (λ (bytes : List ℕ). IsAuditOf clients (whole_of clients t.file t.format bytes) c.in_ok-told.told) c.as_slice-bytes.ensures.value
    (audit_of c.counts.ensures clients (whole_of clients t.file t.format c.as_slice-bytes.result.now) c.in_ok-played.played c.in_ok-told.told c.in_ok-played.ensures c.in_ok-told.ensures)
