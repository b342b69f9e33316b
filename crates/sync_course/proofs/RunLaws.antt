-- What laws of each place cite: items of lists, links that were closed as redundant, what was taken
-- on a session, and batches that may follow.
use Rattle.std.proofs.Common.{eq-eqb}
use Rattle.std.proofs.Common.{◌≡◌, ◌⊎◌, ℕ, zero, suc, Bool, true, false, cond, nat_eq, List, [], ◌∷◌, ◌++◌, length, refl, sym, ◌∙◌, ap, subst, inl, inr, arith, Option, None, Some, ◌+◌, drop}
use Rattle.std.specs.Prelude.{slice_get}
use Rattle.std.proofs.Math.Seq.{drop-append_seam}
use Rattle.std.proofs.lemmas.Bool.{or_cases, ne_eqb}
use Rattle.record_grammar.specs.Stream.{items, rest, rest_place}
use Rattle.sync_rules.specs.declared.entries.Entry.{Entry}
use Rattle.sync_rules.specs.Clients.{Meaning}
use Rattle.sync_rules.specs.Facts.{Facts, after_all, after_batches, takes_of}
use Rattle.sync_rules.specs.Legal.{Allowed, GoesOn, IsSettlingBatch}
use Rattle.sync_rules.proofs.Settling.{after_batches-append, goes_on_both}
use Rattle.sync_rules.proofs.StepKinds.{settling_only, takes_one}
use Rattle.sync_course.specs.declared.ends.LinkEnd.TheVariants as end
use Rattle.sync_course.specs.Links.{Link, beats, closed_from, is_beaten, is_going, without_redundant, new_items}
use Rattle.sync_course.specs.Redundant.{closed_as}
use Rattle.std.specs.Option.{option_map}
use Rattle.record_grammar.specs.Laws.{StreamsGoOn}
use Rattle.record_grammar.specs.declared.stream.Item.{Item}
use Rattle.sync_ids.specs.declared.records.Record.{Record}
use Rattle.sync_rules.specs.Sessions.{taken}
use Rattle.sync_course.specs.LinkTurns.{next_take}
use Rattle.sync_course.proofs.KeptLaws.{beats_parts}

-- ---- lists

-- the items of all are those of what was heard before and the new ones
pub new_items_follow : StreamsGoOn → (heard bytes : List ℕ) → items 0 (heard ++ bytes) ≡ items 0 heard ++ new_items heard bytes
new_items_follow go_on heard bytes =
    let behind = items (rest_place 0 heard) (rest 0 heard ++ bytes) in
    let parts : items 0 (heard ++ bytes) ≡ items 0 heard ++ behind = (go_on 0 heard).begins bytes in
    let new : new_items heard bytes ≡ behind =
    ap (drop (length (items 0 heard))) parts ∙ drop-append_seam (items 0 heard) behind in
    parts ∙ ap (λ l. items 0 heard ++ l) (sym new)

-- whatever follows those of before are the new ones
pub new_items_are : (heard bytes : List ℕ) (its : List Item) → items 0 (heard ++ bytes) ≡ items 0 heard ++ its → new_items heard bytes ≡ its
new_items_are heard bytes its parts =
    ap (drop (length (items 0 heard))) parts ∙ drop-append_seam (items 0 heard) its

-- ---- takes
pub takes_by : (clients : Meaning) (f : Facts) (session m : ℕ) (r : Record)
    → Allowed clients f (next_take f session r)
    → takes_of (after_all f (next_take f session r)).takes m
    ≡ cond (nat_eq m session) (takes_of f.takes m + 1) (takes_of f.takes m)
takes_by clients f session m r allowed =
    (takes_one clients f session (takes_of f.takes session) (taken f session r) allowed).takes m

pub takes_other : (clients : Meaning) (f : Facts) (session m : ℕ) (r : Record)
    → Allowed clients f (next_take f session r) → (m ≡ session → ⊥)
    → takes_of (after_all f (next_take f session r)).takes m ≡ takes_of f.takes m
takes_other clients f session m r allowed other =
    takes_by clients f session m r allowed
    ∙ ap (λ b. cond b (takes_of f.takes m + 1) (takes_of f.takes m)) (ne_eqb m session other)

pub settled_takes : (clients : Meaning) (f : Facts) (b : List Entry) (m : ℕ) → IsSettlingBatch clients f b → takes_of (after_all f b).takes m ≡ takes_of f.takes m
settled_takes clients f b m settling = ap (λ t. takes_of t m) (settling_only clients f b settling.2).takes

-- ---- lists

module _ {A : Type 0} where
  -- an item of a list with one more
  pub get_push_cases : (xs : List A) (x : A) (i : ℕ) (y : A) → slice_get (xs ++ x ∷ []) i ≡ Some y
      → (slice_get xs i ≡ Some y) ⊎ ((i ≡ length xs) × (y ≡ x))
  get_push_cases [] x zero y at = let same : x ≡ y = cc in inr (refl, sym same)
  get_push_cases [] x (suc i) y at = cc
  get_push_cases (z ∷ xs) x zero y at = inl at
  get_push_cases (z ∷ xs) x (suc i) y at =
      elim (get_push_cases xs x i y at) [
        | inl a ↦ inl a
        | inr b ↦ inr (ap suc b.0, b.1)
      ]

  pub get_front : (xs ys : List A) (i : ℕ) (y : A) → slice_get xs i ≡ Some y → slice_get (xs ++ ys) i ≡ Some y
  get_front [] ys i y at = cc
  get_front (x ∷ xs) ys zero y at = at
  get_front (x ∷ xs) ys (suc i) y at = get_front xs ys i y at

  pub get_middle : (xs ys : List A) (y : A) → slice_get (xs ++ y ∷ ys) (length xs) ≡ Some y
  get_middle [] ys y = refl
  get_middle (x ∷ xs) ys y = get_middle xs ys y

  pub get_behind : (xs ys : List A) (k i : ℕ) → i ≡ length xs + k
      → slice_get (xs ++ ys) i ≡ slice_get ys k
  get_behind [] ys k i is = let same : i ≡ k = omega (arith, is) in ap (slice_get ys) same
  get_behind (x ∷ xs) ys k zero is = absurd (omega (arith, is))
  get_behind (x ∷ xs) ys k (suc i) is = get_behind xs ys k i (omega (arith, is))

-- the links of a place whose redundant links were closed
pub record IsClosedFrom (i : ℕ) (links : List Link) (link : Link) : Type 0 where
  pub was : Link
  pub at : slice_get links i ≡ Some was
  pub beaten : Bool
  pub going : beaten ≡ true → is_going was.stands ≡ true
  pub is : link ≡ record was { stands = cond beaten end.Redundant was.stands }

pub beaten_going : (i k : ℕ) (links : List Link) (b : Link) → is_beaten i links k b ≡ true → is_going b.stands ≡ true
beaten_going i k [] b is = cc
beaten_going i k (a ∷ links) b is =
    elim (or_cases (beats i a k b) (is_beaten (suc i) links k b) is) [
      | inl here ↦ (beats_parts i a k b here).second_going
      | inr later ↦ beaten_going (suc i) k links b later
    ]

-- each link behind it
pub closed_each : (all : List Link) (k : ℕ) (links : List Link) (i : ℕ)
    → slice_get (closed_from all k links) i ≡ option_map (closed_as all (k + i)) (slice_get links i)
closed_each all k [] i = refl
closed_each all k (b ∷ links) zero =
    let here : k ≡ k + 0 = omega arith in ap (λ m. Some (closed_as all m b)) here
closed_each all k (b ∷ links) (suc i) =
    let later : suc k + i ≡ k + suc i = omega arith in
    closed_each all (suc k) links i ∙ ap (λ m. option_map (closed_as all m) (slice_get links i)) later

pub redundant_get : (links : List Link) (i : ℕ) (link : Link) → slice_get (without_redundant links) i ≡ Some link → IsClosedFrom i links link
redundant_get links i link at = by_link (slice_get links i) refl (sym (closed_each links 0 links i) ∙ at)
  where
    by_link : (o : Option Link) → slice_get links i ≡ o → option_map (closed_as links (0 + i)) o ≡ Some link
        → IsClosedFrom i links link
    by_link None none is = cc
    by_link (Some was) at is =
        let same : closed_as links (0 + i) was ≡ link = cc in
        record {
          was = was;
          at = at;
          beaten = is_beaten 0 links (0 + i) was;
          going = beaten_going 0 (0 + i) links was;
          is = sym same;
        }

-- ---- the journal

-- these batches may follow, and those are the facts behind them
pub record Moves (clients : Meaning) (batches : List (List Entry)) (old new : Facts) : Type 0 where
  pub goes_on : GoesOn clients old batches
  pub facts : new ≡ after_batches old batches

pub moves_none : {clients : Meaning} {old new : Facts} → new ≡ old → Moves clients [] old new
moves_none same = record { goes_on = tt; facts = same }

pub moves_one : {clients : Meaning} {b : List Entry} {old : Facts} → Allowed clients old b
    → Moves clients (b ∷ []) old (after_all old b)
moves_one allowed = record { goes_on = (allowed, tt); facts = refl }

pub moves_then : {clients : Meaning} {bs cs : List (List Entry)} {f g h : Facts}
    → Moves clients bs f g → Moves clients cs g h → Moves clients (bs ++ cs) f h
moves_then {clients = clients} {bs = bs} {cs = cs} {f = f} first second = record {
  goes_on =
      goes_on_both clients f bs cs first.goes_on
      (subst (λ x. GoesOn clients x cs) first.facts second.goes_on);
  facts =
      second.facts ∙ ap (λ x. after_batches x cs) first.facts ∙ sym (after_batches-append f bs cs);
}

-- ---- before the first turn
pub settled_begun : (clients : Meaning) (f : Facts) (b : List Entry) → IsSettlingBatch clients f b → (after_all f b).begun ≡ f.begun
settled_begun clients f b settling = (settling_only clients f b settling.2).begun

-- ---- the steps
pub cond_self : {A : Type 0} {x : A} (n : ℕ) (y : A) → cond (nat_eq n n) x y ≡ x
cond_self {x = x} n y = ap (λ b. cond b x y) (eq-eqb n n refl)

pub cond_same : {A : Type 0} (b : Bool) (x : A) → cond b x x ≡ x
cond_same true x = refl
cond_same false x = refl
