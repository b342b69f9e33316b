use Rattle.std.proofs.Common.{◌<◌, length, ap, sym, ◌∙◌, arith}
use Rattle.journal_compaction.proofs.Adding.{level_more, level_none}
use Rattle.journal_compaction.proofs.plan.add_levels_of.Goals as goal
use Rattle.journal_compaction.proofs.plan.add_levels_of.Goals.{then-is_visible+in_ok-push}
use Rattle.journal_compaction.proofs.plan.add_levels_of.Goals.{else-is_visible}

pub groups-preserved : goal.groups-preserved
groups-preserved c =
    let f = c.args.state.now.facts in
    let few : c.groups.n < length f.groups =
    omega (arith, c.groups-test.true, c.groups-n-end.ensures) in
    let so_far = c.groups.items.items in
    elim c.if-is_visible.branch [
      | then-is_visible+in_ok-push w ↦
          level_more f c.args.contact c.args.items.now.items so_far c.if-is_visible.items.items
          c.groups.n few
          c.groups.invariant
          (sym c.is_visible.ensures ∙ w.if-is_visible.true) (ap (λ v. v.items) w.items-is
          ∙ w.in_ok-push.ensures.items)
      | else-is_visible w ↦
          level_none f c.args.contact c.args.items.now.items so_far c.if-is_visible.items.items
          c.groups.n few
          c.groups.invariant
          (sym c.is_visible.ensures ∙ w.if-is_visible.false) (ap (λ v. v.items) w.items-is)
    ]
