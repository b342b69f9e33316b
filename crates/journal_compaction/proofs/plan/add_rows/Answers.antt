use Rattle.std.proofs.Common.{◌<◌, length, ap, sym, ◌∙◌, arith}
use Rattle.journal_compaction.proofs.Adding.{row_more, row_none}
use Rattle.journal_compaction.proofs.plan.add_rows.Goals as goal
use Rattle.journal_compaction.proofs.plan.add_rows.Goals.{then-has_row+in_ok-push, else-has_row}

pub rows-preserved : goal.rows-preserved
rows-preserved c =
    let f = c.args.state.now.facts in
    let few : c.rows.n < length f.held = omega (arith, c.rows-test.true, c.held-n-end.ensures) in
    let so_far = c.rows.items.items in
    elim c.if-has_row.branch [
      | then-has_row+in_ok-push w ↦
          row_more f c.args.contact c.args.items.now.items so_far c.if-has_row.items.items c.rows.n
          few c.rows.invariant
          (sym c.has_row.ensures ∙ w.if-has_row.true) (ap (λ v. v.items) w.items-is
          ∙ w.in_ok-push.ensures.items)
      | else-has_row w ↦
          row_none f c.args.contact c.args.items.now.items so_far c.if-has_row.items.items c.rows.n
          few c.rows.invariant
          (sym c.has_row.ensures ∙ w.if-has_row.false) (ap (λ v. v.items) w.items-is)
    ]
