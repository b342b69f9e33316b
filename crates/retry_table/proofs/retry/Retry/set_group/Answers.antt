use Rattle.std.proofs.Common.{◌≡◌, ℕ, ◌<◌, List, [], Some, None, get_or, set, length, ap, sym, subst, ◌∙◌, arith}
use Rattle.retry_table.specs.Table.{RowsTable, SetsGroup, Table, rows_at, with_rows}
use Rattle.retry_table.specs.Turns.{as_said, word_of}
use Rattle.retry_table.proofs.ContactLaws.{sets_group}
use Rattle.retry_table.proofs.retry.Retry.set_group.Goals as goal

pub returns : goal.returns
returns c =
    let t = c.self.inside in
    let within : c.args.contact < length t.rows.rows = omega (arith, c.self.invariant.0) in
    let old : Table = record { rows = t.rows.rows; wants = t.wants.items; groups = t.rows.groups } in
    let made =
    sets_group t.rows t.wants.items c.args.contact c.args.group c.args.ready within
    (λ n e. subst (λ (v : Table). n < length (get_or v.rows c.args.contact [])) (sym c.self.view_is)
    (c.requires n (ap (λ (v : Table). get_or v.groups n None) (sym c.self.view_is) ∙ e))) in
    subst (λ (v : Table). SetsGroup v (record { rows = c.set_group.new.self.rows; wants = t.wants.items; groups = c.set_group.new.self.groups }) c.args.contact c.args.group c.args.ready) c.self.view_is
    (subst (λ (r : RowsTable). SetsGroup old (record { rows = r.rows; wants = t.wants.items; groups = r.groups }) c.args.contact c.args.group c.args.ready) (sym c.set_group.ensures) made)
