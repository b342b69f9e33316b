use Rattle.std.proofs.Common.{◌+◌, ◌/◌, set, arith, subst, ◌∙◌, sym}
use Rattle.std.proofs.lemmas.List.{length-set, drop-set-add, drop-set-lt}
use Rattle.due_tree.specs.Cells.{IsTreeBut, at}
use Rattle.due_tree.proofs.Trees.{put_first, put_next, put_same, same_option}
use Rattle.due_tree.proofs.cells.put.Goals as goal

pub loop-node-init : goal.loop-node-init
loop-node-init c = record {
  low = omega arith;
  tree = put_first c.args.leaves c.args.cells.now c.args.place c.args.number c.requires.tree c.requires.place;
  places = drop-set-add c.args.leaves c.args.cells.now c.args.place c.args.number;
}

pub returns-then-eq-clause-tree : goal.returns-then-eq-clause-tree
returns-then-eq-clause-tree c = put_same c.args.leaves c.loop-node.cells c.loop-node.node c.loop-node.invariant.tree
    (same_option (at c.loop-node.cells c.loop-node.node) c.least_below-least.result (sym c.eq.ensures ∙ c.if-eq.true) ∙ c.least_below-least.ensures)

pub loop-node-preserved : goal.loop-node-preserved
loop-node-preserved c =
    let h = c.loop-node.invariant in
    record {
      low = omega arith;
      tree = subst (λ v. IsTreeBut c.args.leaves (set c.loop-node.cells c.loop-node.node v) (c.loop-node.node / 2)) (sym c.least_below-least.ensures)
          (put_next c.args.leaves c.loop-node.cells c.loop-node.node h.tree (omega (arith, length-set c.args.cells.now (c.args.leaves + c.args.place) c.args.number)));
      places = drop-set-lt c.args.leaves c.loop-node.cells c.loop-node.node c.least_below-least.result h.low ∙ h.places;
    }
