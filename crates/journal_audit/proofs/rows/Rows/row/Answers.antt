use Rattle.std.proofs.Common.{sym, ap, ◌∙◌, Option, unwrap_or}
use Rattle.sync_rules.specs.Facts.{Rows, row_at, Row, no_row}
use Rattle.sync_rules.proofs.ScanLaws.{pair_total}
use Rattle.journal_audit.proofs.Maps.{got}
use Rattle.journal_audit.proofs.rows.Rows.row.Goals as goal

pub returns-in-Some : goal.returns-in-Some
returns-in-Some c =
    ap (λ (o : Option Row). unwrap_or o no_row) (c.in-Some.ensures.value
    ∙ sym (got pair_total c.self.inside.rows.entries (c.args.contact, c.args.id.now)))
    ∙ ap (λ (rows : Rows). row_at rows c.args.contact c.args.id.now) c.self.view_is

pub returns-in-None : goal.returns-in-None
returns-in-None c =
    c.no_row.ensures
    ∙ (ap (λ (o : Option Row). unwrap_or o no_row) (c.in-None.ensures.value
    ∙ sym (got pair_total c.self.inside.rows.entries (c.args.contact, c.args.id.now)))
    ∙ ap (λ (rows : Rows). row_at rows c.args.contact c.args.id.now) c.self.view_is)
