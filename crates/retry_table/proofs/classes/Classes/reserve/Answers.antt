use Rattle.std.proofs.Common.{◌≡◌, ◌<◌, ◌≤◌, ◌+◌, ℕ, List, [], Option, None, length, set, get_or, refl, sym, ap, subst, ◌∙◌, inl, inr, arith}
use Rattle.std.proofs.lemmas.Bool.{cases_eq}
use Rattle.std.proofs.lemmas.List.{length-set, get_or_default, get_or-set_same, get_or-set_other, set-get_or}
use Rattle.retry_table.specs.Queues.{class_at}
use Rattle.retry_table.proofs.Follows.{longer_most}
use Rattle.retry_table.proofs.SoonerQueues.{longer_class, same_classes}
use Rattle.retry_table.proofs.classes.Classes.reserve.Goals as goal

pub loop-tries-preserved : goal.loop-tries-preserved
loop-tries-preserved c =
    let trees = c.loop-tries.self.trees.items in
    let at = c.loop-tries.tries in
    let there : at < length trees = omega (arith, c.loop-tries-test.true, c.len-tries-end.ensures, c.args.self.now.trees.ok.0, c.loop-tries.invariant.many) in
    let tree = c.index_mut.result.now in
    let made = c.reserve.new.self in
    let read : class_at trees at ≡ tree = sym (c.index_mut.ensures.value ∙ get_or_default trees at tree [] there) in
    let none : Option ℕ = None in
    let long : c.args.places ≤ length made = subst (λ (t : List (Option ℕ)). c.args.places ≤ length t) (sym c.in_ok-reserve.ensures.ok) (longer_most tree none c.args.places) in
    record {
      kept = longer_class c.args.rows.now c.loop-tries.self _ at c.args.places tree made c.loop-tries.invariant.kept there c.requires.fits read c.in_ok-reserve.ensures.ok refl refl;
      many = length-set trees at made ∙ c.loop-tries.invariant.many;
      room = λ k h. elim (cases_eq k at) [
        | inl e ↦ subst (λ m. c.args.places ≤ length (class_at (set trees at made) m)) (sym e)
            (subst (λ (t : List (Option ℕ)). c.args.places ≤ length t) (sym (get_or-set_same trees at made [] there)) long)
        | inr other ↦
            let low : k < at = omega (arith, h, other) in
            subst (λ (t : List (Option ℕ)). c.args.places ≤ length t) (sym (get_or-set_other trees at k made [] other)) (c.loop-tries.invariant.room k low)
      ];
    }

pub returns-in_err-reserve-clause-kept : goal.returns-in_err-reserve-clause-kept
returns-in_err-reserve-clause-kept c =
    let trees = c.loop-tries.self.trees.items in
    let at = c.loop-tries.tries in
    let there : at < length trees = omega (arith, c.loop-tries-test.true, c.len-tries-end.ensures, c.args.self.now.trees.ok.0, c.loop-tries.invariant.many) in
    let tree = c.index_mut.result.now in
    let none : List (Option ℕ) = [] in
    let same : c.reserve.new.self ≡ get_or trees at none = c.in_err-reserve.ensures.err ∙ (c.index_mut.ensures.value ∙ get_or_default trees at tree none there) in
    same_classes c.args.rows.now c.loop-tries.self _ c.loop-tries.invariant.kept (ap (set trees at) same ∙ set-get_or trees at none) refl
