use Rattle.std.proofs.Common.{◌≡◌, ℕ, ◌+◌, ◌-◌, min, take, drop, List, length, Option, ap, ◌∙◌, subst, arith}
use Rattle.std.specs.Result.{IfOk}
use Rattle.std.proofs.lemmas.Result.{IfOk-weaker}
use Rattle.reply_tree.specs.Walks.{IsWindow}
use Rattle.reply_tree.proofs.Passing.{window_is}
use Rattle.reply_tree.proofs.tree.Tree.walk.Goals as goal

pub returns : goal.returns
returns c =
    let t = c.self.inside in
    let start = c.min-start.result in
    let count = c.min-count.result in
    let long : c.len-len.result ≡ length t.walk.items = c.len-len.ensures ∙ t.walk.ok.0 in
    let at : start ≡ min c.args.from (length t.walk.items) = c.min-start.ensures ∙ ap (min c.args.from) long in
    let taken : start + count - start ≡ min c.args.count (length t.walk.items - start) =
    omega (arith, c.min-count.ensures, long) in
    subst (λ (ps : List (Option ℕ)). IfOk c.from_slice.result (λ items. IsWindow ps c.args.from c.args.count items.items)) c.self.view_is
    (IfOk-weaker c.from_slice.result (λ v. v.items ≡ take (start + count - start) (drop start c.deref.result.now)) (λ items. IsWindow t.parents.items c.args.from c.args.count items.items)
    (λ v is. window_is t.parents.items c.self.invariant.earlier t.walk.items v.items c.args.from c.args.count start (start + count - start) c.self.invariant.has_walk at taken
    (is ∙ ap (λ (xs : List ℕ). take (start + count - start) (drop start xs)) c.deref.ensures.value))
    c.from_slice.ensures.items)
