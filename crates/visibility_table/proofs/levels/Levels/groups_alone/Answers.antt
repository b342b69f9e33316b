use Rattle.std.proofs.Common.{◌≡◌, List, [], ◌∷◌, ◌++◌, Some, slice_get, length, take, sym, ap, ◌∙◌, arith, length-take}
use Rattle.sync_rules.specs.Facts.{Known, group_at}
use Rattle.visibility_table.specs.Table.{TableOfLevels, empty_table}
use Rattle.visibility_table.proofs.Fronts.{all_taken, none_before, one_more, whole}
use Rattle.visibility_table.proofs.levels.Levels.groups_alone.Goals as goal

-- the group of the number, by its parts
abbrev group : (c : goal.In_ok-copy) → Known
group c = record { def = c.def.result.now; id = c.id.result }

stands : (c : goal.In_ok-copy) → slice_get c.args.self.now.groups c.loop-n.n ≡ Some (group c)
stands c = whole (slice_get c.args.self.now.groups c.loop-n.n) c.def.result.now c.id.result c.def.ensures c.id.ensures

groups_now : (c : goal.In_ok-copy) → c.loop-n.table.groups ≡ take c.loop-n.n c.args.self.now.groups
groups_now c = ap (λ (t : TableOfLevels). t.groups) c.loop-n.invariant

pub put_group-requires : goal.put_group-requires
put_group-requires c = record {
  new =
      ap (λ (gs : List Known). group_at gs c.id.result) (groups_now c)
      ∙ none_before c.args.self.now.groups c.loop-n.n (group c) (stands c) c.show_distinct.ensures;
  bare = ap (λ (t : TableOfLevels). t.spare) c.loop-n.invariant;
  few =
      let long : length c.loop-n.table.groups ≡ length (take c.loop-n.n c.args.self.now.groups) = ap (λ (gs : List Known). length gs) (groups_now c) in
      omega (arith, long, length-take c.loop-n.n c.args.self.now.groups, c.loop-n-test.true, c.groups-n-end.type_inv);
}

pub loop-n-preserved : goal.loop-n-preserved
loop-n-preserved c =
    c.in_ok-put_group.ensures
    ∙ ((λ i. record (c.loop-n.invariant i) { groups = (c.loop-n.invariant i).groups ++ record { def = c.in_ok-copy.ensures i; id = c.id.result } ∷ [] })
    ∙ ap (λ (gs : List Known). record empty_table { groups = gs })
    (sym (one_more c.args.self.now.groups c.loop-n.n (record { def = c.def.result.now; id = c.id.result })
    (whole (slice_get c.args.self.now.groups c.loop-n.n) c.def.result.now c.id.result c.def.ensures c.id.ensures))))

pub returns : goal.returns
returns c =
    c.loop-n.invariant
    ∙ ap (λ (gs : List Known). record empty_table { groups = gs })
    (all_taken c.args.self.now.groups c.loop-n.n (omega (arith, c.groups-n-end.ensures, c.loop-n-test.false, c.loop-n.auto.n-end)))
