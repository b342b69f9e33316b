use Rattle.std.proofs.Common.{◌≡◌, ℕ, ◌+◌, suc, ◌<◌, cond, List, ◌∷◌, ◌++◌, [], length, map, take, drop, None, get_or, sym, ap, ◌∙◌, subst, arith, Vec, Global}
use Rattle.std.proofs.lemmas.List.{take_more, take-append-drop}
use Rattle.std.proofs.Math.Seq.{drop-cons}
use Rattle.sync_ids.specs.Values.{GroupValue}
use Rattle.client_sharing.specs.declared.agreement.Said.{Said}
use Rattle.client_sharing.specs.declared.agreement.Target.{Target}
use Rattle.client_sharing.specs.Targets.{is_named, named_after, same_def, target_of, targets_of}
use Rattle.client_sharing.specs.Stances.{def_of_parts, last_words, words_at}
use Rattle.client_sharing.proofs.Naming.{words_is, words_then, left_more, named_first, named_again}
use Rattle.client_sharing.proofs.agreement.targets.Goals as goal
use Rattle.client_sharing.proofs.agreement.targets.Goals.{in-Some+in_ok-copy+in_ok-push, in_default}

-- the words behind one of them
rest_is : (said : List Said) (i : ℕ) (s : Said) → i < length said → s ≡ get_or said i s → drop i said ≡ s ∷ drop (i + 1) said
rest_is said i s h is =
    let next : suc i ≡ i + 1 = omega arith in
    drop-cons said i s h ∙ ap (λ (n : ℕ). get_or said i s ∷ drop n said) next ∙ ap (λ (x : Said). x ∷ drop (i + 1) said) (sym is)

-- and those up to it
front_is : (said : List Said) (i : ℕ) (s : Said) → i < length said → s ≡ get_or said i s → take (i + 1) said ≡ take i said ++ s ∷ []
front_is said i s h is = take_more said i s h ∙ ap (λ (x : Said). take i said ++ x ∷ []) (sym is)

pub said-preserved : goal.said-preserved
said-preserved c =
    let said = c.args.said.now in
    let i = c.said.i in
    let s = c.index-said-i.result in
    let before = take i said in
    let rest = drop (i + 1) said in
    let within : i < length said = omega (arith, c.said-test.true) in
    let left_is : drop i said ≡ s ∷ rest = rest_is said i s within c.index-said-i.is in
    let front : take (i + 1) said ≡ before ++ s ∷ [] = front_is said i s within c.index-said-i.is in
    let whole : said ≡ before ++ s ∷ rest = sym (take-append-drop i said) ∙ ap (λ (xs : List Said). before ++ xs) left_is in
    let at : def_of_parts c.parts_of.result ≡ s.def = c.parts_of.ensures ∙ ap (λ (x : Said). x.def) (sym c.index-said-i.is) in
    let found : c.remove.result ≡ cond (is_named before s.def) None (last_words said s.def) =
    c.remove.ensures.value ∙ words_is c.parts_of.result c.said.words.entries ∙ ap (words_at c.said.words.entries) at ∙ c.said.invariant.left s.def in
    let so_far : c.said.targets.items ++ map (target_of said) (named_after before (s ∷ rest)) ≡ targets_of said =
    ap (λ (xs : List Said). c.said.targets.items ++ map (target_of said) (named_after before xs)) (sym left_is) ∙ c.said.invariant.so_far in
    record {
      left = λ def.
          left_more said before rest s whole (words_at c.said.words.entries def) (words_at c.remove.new.self.entries def) def (c.said.invariant.left def)
          (words_then c.said.words.entries c.remove.new.self.entries c.parts_of.result None c.remove.ensures.updates.0 def
          ∙ ap (λ (d : GroupValue). cond (same_def d def) None (words_at c.said.words.entries def)) at)
          ∙ ap (λ (xs : List Said). cond (is_named xs def) None (last_words said def)) (sym front);
      so_far = subst (λ (xs : List Said). c.match-remove.targets.items ++ map (target_of said) (named_after xs rest) ≡ targets_of said) (sym front)
          (elim c.match-remove.branch [
            | in-Some+in_ok-copy+in_ok-push w ↦
                let t : Target = record { def = w.in_ok-copy.field-0; level = w.level_for.result } in
                let copied : w.in_ok-copy.field-0 ≡ s.def = w.in_ok-copy.ensures ∙ ap (λ (x : Said). x.def) (sym c.index-said-i.is) in
                named_first said before rest s whole w.in-Some.stances c.said.targets.items c.match-remove.targets.items t (sym w.in-Some.is ∙ found)
                (λ k. record { def = copied k; level = w.level_for.ensures k })
                (ap (λ (v : Vec Target Global). v.items) w.targets-is ∙ w.in_ok-push.ensures.items) so_far
            | in_default w ↦
                subst (λ (v : Vec Target Global). v.items ++ map (target_of said) (named_after (before ++ s ∷ []) rest) ≡ targets_of said) (sym w.targets-is)
                (named_again said before rest s whole c.said.targets.items (sym w.in_default.is ∙ found) so_far)
          ]);
    }
