use Rattle.std.proofs.Common.{◌≡◌, ◌+◌, ◌*◌, ◌^◌, ◌≤◌, true, false, subst, sym, ap, ◌∙◌, arith}
use Rattle.due_tree.specs.Due.{is_due, first_due}
use Rattle.due_tree.specs.Cells.{at, IsClear}
use Rattle.due_tree.proofs.Places.{next_found, next_none}
use Rattle.due_tree.proofs.Trees.{clear_below}
use Rattle.due_tree.proofs.tree.DueTree.first_at_most.Goals as goal

-- the root's places are all places
pub returns-then-not-is_due : goal.returns-then-not-is_due
returns-then-not-is_due c =
    let t = c.self.inside in
    let h = c.self.invariant.shape.power in
    let not : is_due c.args.bound (at t.cells.items 1) ≡ false = subst (λ cells. is_due c.args.bound (at cells 1) ≡ false) c.deref.ensures.value (ap (λ o. is_due c.args.bound o) (sym c.at.ensures) ∙ sym c.is_due.ensures ∙ c.if-not-is_due.true) in
    let fits : (1 + 1) * 2 ^ t.height ≤ 2 * t.leaves = omega (arith, h) in
    let below : IsClear c.args.bound t.cells.items (1 * 2 ^ t.height) ((1 + 1) * 2 ^ t.height) = clear_below c.args.bound t.leaves t.cells.items c.self.invariant.tree t.height 1 (omega arith) fits not in
    let clear : IsClear c.args.bound t.cells.items (t.leaves + 0) (2 * t.leaves) = (λ cell low high. below cell (omega (arith, h)) (omega (arith, h))) in
    next_none c.args.bound t.leaves 0 t.cells.items clear c.self.invariant.shape.ended ∙ ap (λ places. first_due c.args.bound places) c.self.view_is

pub returns : goal.returns
returns c =
    let t = c.self.inside in
    let h = c.self.invariant.shape.power in
    let cell = c.descend-cell.result in
    let found = c.descend-cell.ensures in
    let low : t.leaves + 0 ≤ cell = omega (arith, found.low, h) in
    let due : is_due c.args.bound (at t.cells.items cell) ≡ true = subst (λ cells. is_due c.args.bound (at cells cell) ≡ true) c.deref-2.ensures.value found.due in
    let below : IsClear c.args.bound t.cells.items (1 * 2 ^ t.height) cell = subst (λ cells. IsClear c.args.bound cells (1 * 2 ^ t.height) cell) c.deref-2.ensures.value found.clear in
    let clear : IsClear c.args.bound t.cells.items (t.leaves + 0) cell = (λ k from to. below k (omega (arith, h)) to) in
    next_found c.args.bound t.leaves 0 t.cells.items cell low due clear ∙ ap (λ places. first_due c.args.bound places) c.self.view_is
