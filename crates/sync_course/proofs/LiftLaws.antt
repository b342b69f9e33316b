-- A link's turn as a part of the run, and the steps of the run between the turns of its links.
use Rattle.std.proofs.Common.{◌≡◌, ℕ, zero, suc, ◌+◌, ◌<◌, false, cond, List, [], ◌∷◌, length, refl, sym, ap, subst, inl, inr, arith, None, Some}
use Rattle.std.proofs.lemmas.Option.{slice_get_within}
use Rattle.std.specs.Prelude.{slice_get, slice_set}
use Rattle.sync_rules.specs.Clients.{Meaning}
use Rattle.sync_course.specs.Events.{Event, Pass}
use Rattle.sync_course.specs.Paths.{Path}
use Rattle.sync_course.proofs.PathLaws.{path_maps}
use Rattle.sync_course.specs.Links.{Link}
use Rattle.sync_course.specs.LinkTurns.{Asks, Done, LinkStep, Spot}
use Rattle.sync_course.specs.Turns.{Between, Ended, Place, RunStep, StageStep, Terms, TurnStep, Works, is_at_end, turn_ended, with_spot}

-- ---- one item of a list

module _ {A : Type 0} where
  pub get_set : (xs : List A) (n : ℕ) (x : A) → n < length xs → slice_get (slice_set xs n x) n ≡ Some x
  get_set [] n x within = absurd (omega arith)
  get_set (y ∷ xs) zero x within = refl
  get_set (y ∷ xs) (suc n) x within = get_set xs n x (omega arith)

  pub set_twice : (xs : List A) (n : ℕ) (x y : A) → slice_set (slice_set xs n x) n y ≡ slice_set xs n y
  set_twice [] n x y = refl
  set_twice (z ∷ xs) zero x y = refl
  set_twice (z ∷ xs) (suc n) x y = ap (λ l. z ∷ l) (set_twice xs n x y)

  pub get_other : (xs : List A) (n i : ℕ) (x : A) → (i ≡ n → ⊥) → slice_get (slice_set xs n x) i ≡ slice_get xs i
  get_other [] n i x other = refl
  get_other (y ∷ xs) zero zero x other = absurd (other refl)
  get_other (y ∷ xs) zero (suc i) x other = refl
  get_other (y ∷ xs) (suc n) zero x other = refl
  get_other (y ∷ xs) (suc n) (suc i) x other = get_other xs n i x (λ same. other (ap suc same))

  pub set_same : (xs : List A) (n : ℕ) (x : A) → slice_get xs n ≡ Some x → slice_set xs n x ≡ xs
  set_same [] n x at = refl
  set_same (y ∷ xs) zero x at = let same : y ≡ x = cc in ap (λ z. z ∷ xs) (sym same)
  set_same (y ∷ xs) (suc n) x at = ap (λ l. y ∷ l) (set_same xs n x at)

  pub get_within : (xs : List A) (n : ℕ) (x : A) → slice_get xs n ≡ Some x → n < length xs
  get_within xs n x at = slice_get_within xs n x at

  pub get_past : (xs : List A) → slice_get xs (length xs) ≡ None
  get_past [] = refl
  get_past (y ∷ xs) = get_past xs

-- ---- a link's turn in the run

module _ (clients : Meaning) (terms : Terms) (n : ℕ) (place : Place) (within : n < length place.links) where
  pub lifted_step : (p q : Spot) (e : Event) → LinkStep clients n (terms.first + n) p e q
      → RunStep clients terms (with_spot n p place) e (with_spot n q place)
  lifted_step p q e s =
      subst (λ o. TurnStep clients terms n p.doing o e (with_spot n p place) (with_spot n q place))
      (sym (get_set place.links n p.link within))
      (inl (record {
        spot = q;
        steps = s;
        leads =
            ap (λ l. record (with_spot n q place) { links = l })
            (sym (set_twice place.links n p.link q.link));
      }))

  pub link_lifts : (p q : Spot) (es : List Event) → Path (LinkStep clients n (terms.first + n)) p es q
      → Path (RunStep clients terms) (with_spot n p place) es (with_spot n q place)
  link_lifts p q es path =
      path_maps (LinkStep clients n (terms.first + n)) (RunStep clients terms) (λ s. with_spot n s place) lifted_step p q es path

-- a link's turn leaves the other links
pub others_keep : (n i : ℕ) (spot : Spot) (place : Place) → (i ≡ n → ⊥)
    → slice_get (with_spot n spot place).links i ≡ slice_get place.links i
others_keep n i spot place other = get_other place.links n i spot.link other

-- ---- the steps of the run itself

module _ (clients : Meaning) (terms : Terms) where
  -- a step at a place of this stage
  stage_at : (p q : Place) (e : Event) (stage : _) → p.stage ≡ stage → StageStep clients terms stage e p q → RunStep clients terms p e q
  stage_at p q e stage is s = subst (λ d. StageStep clients terms d e p q) (sym is) s

  -- the next link has its turn
  pub next_step : (n : ℕ) (link : Link) (p : Place) → p.stage ≡ Works n Done → slice_get p.links n ≡ Some link
      → RunStep clients terms p Pass (record p { stage = Works (suc n) Asks })
  next_step n link p works at =
      let q : Place = record p { stage = Works (suc n) Asks } in
      stage_at p q Pass (Works n Done) works (subst (λ o. TurnStep clients terms n Done o Pass p q) (sym at) (inr refl))

  -- a turn ends
  pub end_step : (p : Place) → p.stage ≡ Works (length p.links) Asks → RunStep clients terms p Pass (turn_ended p)
  end_step p works =
      stage_at p (turn_ended p) Pass (Works (length p.links) Asks) works
      (subst (λ o. TurnStep clients terms (length p.links) Asks o Pass p (turn_ended p)) (sym (get_past p.links)) refl)

  pub begin_step : (p : Place) → p.stage ≡ Between → is_at_end terms p ≡ false
      → RunStep clients terms p Pass (record p { stage = Works 0 Asks; moved = false })
  begin_step p between on =
      let q : Place = record p { stage = Works 0 Asks; moved = false } in
      stage_at p q Pass Between between (ap (λ b. cond b (record p { stage = Ended }) q) (sym on))
