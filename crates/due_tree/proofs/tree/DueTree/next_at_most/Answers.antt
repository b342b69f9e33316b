use Rattle.std.proofs.Common.{◌≡◌, ◌+◌, ◌*◌, ◌^◌, ◌≤◌, true, false, subst, sym, ap, ◌∙◌, arith}
use Rattle.due_tree.specs.Due.{is_due, next_due}
use Rattle.due_tree.specs.Cells.{at, IsClear}
use Rattle.due_tree.proofs.Places.{next_found, next_none}
use Rattle.due_tree.proofs.Trees.{clear_below}
use Rattle.due_tree.proofs.tree.DueTree.next_at_most.Goals as goal

-- the root's places are all places
pub returns-then-not-is_due : goal.returns-then-not-is_due
returns-then-not-is_due c =
    let t = c.self.inside in
    let h = c.self.invariant.shape.power in
    let not : is_due c.args.bound (at t.cells.items 1) ≡ false = subst (λ cells. is_due c.args.bound (at cells 1) ≡ false) c.deref.ensures.value (ap (λ o. is_due c.args.bound o) (sym c.at.ensures) ∙ sym c.is_due.ensures ∙ c.if-not-is_due.true) in
    let fits : (1 + 1) * 2 ^ t.height ≤ 2 * t.leaves = omega (arith, h) in
    let below : IsClear c.args.bound t.cells.items (1 * 2 ^ t.height) ((1 + 1) * 2 ^ t.height) = clear_below c.args.bound t.leaves t.cells.items c.self.invariant.tree t.height 1 (omega arith) fits not in
    let clear : IsClear c.args.bound t.cells.items (t.leaves + c.args.from) (2 * t.leaves) = (λ cell low high. below cell (omega (arith, h, low)) (omega (arith, h, high))) in
    next_none c.args.bound t.leaves c.args.from t.cells.items clear c.self.invariant.shape.ended ∙ ap (λ places. next_due c.args.from c.args.bound places) c.self.view_is

pub returns-in_err-found : goal.returns-in_err-found
returns-in_err-found c =
    let t = c.self.inside in
    let clear : IsClear c.args.bound t.cells.items (t.leaves + c.args.from) (2 * t.leaves) = subst (λ cells. IsClear c.args.bound cells (t.leaves + c.args.from) (2 * t.leaves)) c.deref-2.ensures.value c.in_err-found.ensures.none in
    c.from_residual.ensures ∙ next_none c.args.bound t.leaves c.args.from t.cells.items clear c.self.invariant.shape.ended ∙ ap (λ places. next_due c.args.from c.args.bound places) c.self.view_is

pub returns : goal.returns
returns c =
    let t = c.self.inside in
    let found = c.in_ok-found.ensures in
    next_found c.args.bound t.leaves c.args.from t.cells.items c.in_ok-found.found found.least (subst (λ cells. is_due c.args.bound (at cells c.in_ok-found.found) ≡ true) c.deref-2.ensures.value found.due)
    (subst (λ cells. IsClear c.args.bound cells (t.leaves + c.args.from) c.in_ok-found.found) c.deref-2.ensures.value found.clear)
    ∙ ap (λ places. next_due c.args.from c.args.bound places) c.self.view_is
