-- A look at the messages of some numbers, in order, where all others fail the test.
use Rattle.std.proofs.Common.{◌≡◌, ◌≢◌, ℕ, suc, ◌+◌, ◌-◌, ◌≤◌, ◌<◌, ◌⊎◌, inl, inr, Bool, true, false, cond, ◌||◌, nat_eq, List, [], ◌∷◌, Option, Some, None, refl, sym, ◌∙◌, ap, subst, arith}
use Rattle.std.specs.List.{AllByRecursion, cons_option, slice_get}
use Rattle.std.specs.List.Sorted.{IsStrictlySortedBy}
use Rattle.std.specs.Ordering.{nat_cmp}
use Rattle.std.specs.declared.cmp.Ordering.TheVariants.{Less}
use Rattle.std.proofs.lemmas.Bool.{eqb-true}
use Rattle.std.proofs.lemmas.Bool.Decides.{eqb_tells}
use Rattle.std.proofs.lemmas.Cmp.{ranked}
use Rattle.std.proofs.lemmas.Map.Keys.{sorted_head, sorted_tail}
use Rattle.sync_rules.specs.Facts.{Held, Id}
use Rattle.sync_rules.specs.Sessions.{ids_where}
use Rattle.journal_audit.specs.Looks.{ids_at, of_held, picked, picks_at, picks_of}
use Rattle.journal_audit.specs.Numbers.{has}

abbrev AllFrom : ℕ → List ℕ → Type 0
AllFrom k ns = AllByRecursion (λ n. k ≤ n) ns

-- the numbers behind one are above it, where numbers ascend
above : (n : ℕ) (ns : List ℕ) → AllByRecursion (λ m. nat_cmp n m ≡ Less) ns → AllFrom (n + 1) ns
above n [] less = tt
above n (m ∷ ns) less = let lt : n < m = ranked n m Less (sym less.0) in (omega (arith, lt), above n ns less.1)

behind : (n : ℕ) (ns : List ℕ) → IsStrictlySortedBy nat_cmp (n ∷ ns) → AllFrom (n + 1) ns
behind n ns ascends = above n ns (sorted_head nat_cmp n ns ascends)

-- all are above
none_below : (k : ℕ) (ns : List ℕ) → AllFrom (k + 1) ns → has ns k ≡ false
none_below k [] from = refl
none_below k (n ∷ ns) from = by (none_below k ns from.1) (nat_eq n k) refl where
  by : has ns k ≡ false → (b : Bool) → nat_eq n k ≡ b → (b || has ns k) ≡ false
  by rest true e = let same : n ≡ k = eqb-true n k e in let far = from.0 in absurd (omega (arith, same, far))
  by rest false e = rest

all_from : (k k' : ℕ) (ns : List ℕ) → k' ≤ k → AllFrom k ns → AllFrom k' ns
all_from k k' [] le from = tt
all_from k k' (n ∷ ns) le from = let far = from.0 in (omega (arith, le, far), all_from k k' ns le from.1)

-- nothing is picked beyond the end
none_at : {X : Type 0} (pick : Held → Option X) (whole : List Held) (k : ℕ) (ns : List ℕ) → ((i : ℕ) → slice_get whole (k + i) ≡ None) → AllFrom k ns → picks_at pick whole ns ≡ []
none_at pick whole k [] out from = refl
none_at pick whole k (n ∷ ns) out from =
    let far = from.0 in
    let split : n ≡ k + (n - k) = omega (arith, far) in
    let none : slice_get whole n ≡ None = ap (slice_get whole) split ∙ out (n - k) in
    ap (λ o. cons_option (of_held pick o) (picks_at pick whole ns)) none ∙ none_at pick whole k ns out from.1

-- ---- the messages from a number

-- these are the messages from that number, and those of them that are in no set fail the test
record LeftFrom {X : Type 0} (pick : Held → Option X) (whole : List Held) (k : ℕ) (hs : List Held) (ns : List ℕ) : Type 0 where
  stand : (i : ℕ) → slice_get whole (k + i) ≡ slice_get hs i
  ascends : IsStrictlySortedBy nat_cmp ns
  from : AllFrom k ns
  fail : (i : ℕ) (h : Held) → slice_get hs i ≡ Some h → has ns (k + i) ≡ false → pick h ≡ None

-- the first message is past
past : {X : Type 0} (pick : Held → Option X) (whole : List Held) (k : ℕ) (h : Held) (hs : List Held) (ns : List ℕ) → LeftFrom pick whole k (h ∷ hs) ns → AllFrom (k + 1) ns
    → LeftFrom pick whole (k + 1) hs ns
past pick whole k h hs ns left from =
    let more : (i : ℕ) → k + 1 + i ≡ k + suc i = λ i. omega arith in
    record {
      stand = λ i. ap (slice_get whole) (more i) ∙ left.stand (suc i);
      ascends = left.ascends;
      from = from;
      fail = λ i x at out. left.fail (suc i) x at (ap (has ns) (sym (more i)) ∙ out);
    }

-- it is the one of the first number
past_one : {X : Type 0} (pick : Held → Option X) (whole : List Held) (n : ℕ) (h : Held) (hs : List Held) (ns : List ℕ) → LeftFrom pick whole n (h ∷ hs) (n ∷ ns) → LeftFrom pick whole (n + 1) hs ns
past_one pick whole n h hs ns left =
    let more : (i : ℕ) → n + 1 + i ≡ n + suc i = λ i. omega arith in
    record {
      stand = λ i. ap (slice_get whole) (more i) ∙ left.stand (suc i);
      ascends = sorted_tail nat_cmp n ns left.ascends;
      from = behind n ns left.ascends;
      fail = λ i x at out. left.fail (suc i) x at (ap (has (n ∷ ns)) (sym (more i)) ∙ (apart i (nat_eq n (n + 1 + i)) refl ∙ out));
    }
  where
    apart : (i : ℕ) (b : Bool) → nat_eq n (n + 1 + i) ≡ b → (b || has ns (n + 1 + i)) ≡ has ns (n + 1 + i)
    apart i true e = let same : n ≡ n + 1 + i = eqb-true n (n + 1 + i) e in absurd (omega (arith, same))
    apart i false e = refl

left_of_none : {X : Type 0} (pick : Held → Option X) (whole : List Held) (k : ℕ) (hs : List Held) → LeftFrom pick whole k hs [] → [] ≡ picks_of pick hs
left_of_none pick whole k [] left = refl
left_of_none pick whole k (h ∷ hs) left =
    left_of_none pick whole (k + 1) hs (past pick whole k h hs [] left tt)
    ∙ sym (ap (λ o. cons_option o (picks_of pick hs)) (left.fail 0 h refl refl))

left_is : {X : Type 0} (pick : Held → Option X) (whole : List Held) (k : ℕ) (hs : List Held) (ns : List ℕ) → LeftFrom pick whole k hs ns → picks_at pick whole ns ≡ picks_of pick hs
left_is pick whole k hs [] left = left_of_none pick whole k hs left
left_is pick whole k [] (n ∷ ns) left = none_at pick whole k (n ∷ ns) left.stand left.from
left_is pick whole k (h ∷ hs) (n ∷ ns) left =
    by (λ l. left_is pick whole (k + 1) hs (n ∷ ns) l) (λ l. left_is pick whole (n + 1) hs ns l) (eqb_tells n k)
  where
    skip : (LeftFrom pick whole (k + 1) hs (n ∷ ns) → picks_at pick whole (n ∷ ns) ≡ picks_of pick hs) → AllFrom (k + 1) (n ∷ ns)
        → picks_at pick whole (n ∷ ns) ≡ picks_of pick (h ∷ hs)
    skip rest from =
        let here : k + 0 ≡ k = omega arith in
        rest (past pick whole k h hs (n ∷ ns) left from)
        ∙ sym (ap (λ o. cons_option o (picks_of pick hs)) (left.fail 0 h refl (ap (has (n ∷ ns)) here ∙ none_below k (n ∷ ns) from)))

    by : (LeftFrom pick whole (k + 1) hs (n ∷ ns) → picks_at pick whole (n ∷ ns) ≡ picks_of pick hs) → (LeftFrom pick whole (n + 1) hs ns → picks_at pick whole ns ≡ picks_of pick hs)
        → ((nat_eq n k ≡ true) × (n ≡ k)) ⊎ ((nat_eq n k ≡ false) × (n ≢ k)) → picks_at pick whole (n ∷ ns) ≡ picks_of pick (h ∷ hs)
    by rest next (inl same) =
        let same-is : n ≡ k = same.1 in
        let first : n ≡ k + 0 = omega (arith, same-is) in
        let here : slice_get whole n ≡ Some h = ap (slice_get whole) first ∙ left.stand 0 in
        let left' = past_one pick whole n h hs ns (subst (λ m. LeftFrom pick whole m (h ∷ hs) (n ∷ ns)) (sym same-is) left) in
        ap (λ o. cons_option (of_held pick o) (picks_at pick whole ns)) here
        ∙ ap (cons_option (pick h)) (next left')
    by rest next (inr apart) =
        let far = left.from.0 in
        let other : n ≢ k = apart.1 in
        let up : k + 1 ≤ n = omega (arith, far, other) in
        skip rest (up, all_from (n + 1) (k + 1) ns (omega (arith, up)) (behind n ns left.ascends))

-- what is picked of the messages of ascending numbers is all that is picked, where nothing is picked of any other
pub picks_all : {X : Type 0} (pick : Held → Option X) (held : List Held) (ns : List ℕ) → IsStrictlySortedBy nat_cmp ns
    → ((n : ℕ) (h : Held) → slice_get held n ≡ Some h → has ns n ≡ false → pick h ≡ None) → picks_at pick held ns ≡ picks_of pick held
picks_all pick held ns ascends fail =
    left_is pick held 0 held ns
    (record {
      stand = λ i. ap (slice_get held) (from_zero i);
      ascends = ascends;
      from = all ns;
      fail = λ i h at out. fail i h at (ap (has ns) (sym (from_zero i)) ∙ out);
    })
  where
    from_zero : (i : ℕ) → 0 + i ≡ i
    from_zero i = omega arith

    all : (ns : List ℕ) → AllFrom 0 ns
    all [] = tt
    all (n ∷ ns) = (omega arith, all ns)

-- ---- ids

abbrev pick_id : (Held → Bool) → Held → Option Id
pick_id test h = cond (test h) (Some h.id) None

picked_is : (test : Held → Bool) (o : Option Held) → picked test o ≡ of_held (pick_id test) o
picked_is test None = refl
picked_is test (Some h) = refl

ids_picked : (test : Held → Bool) (held : List Held) (ns : List ℕ) → ids_at test held ns ≡ picks_at (pick_id test) held ns
ids_picked test held [] = refl
ids_picked test held (n ∷ ns) = λ i. cons_option (picked_is test (slice_get held n) i) (ids_picked test held ns i)

pub cons_cond : (b : Bool) (x : Id) (rest : List Id) → cons_option (cond b (Some x) None) rest ≡ cond b (x ∷ rest) rest
cons_cond true x rest = refl
cons_cond false x rest = refl

ids_of_picks : (test : Held → Bool) (hs : List Held) → picks_of (pick_id test) hs ≡ ids_where test hs
ids_of_picks test [] = refl
ids_of_picks test (h ∷ hs) =
    cons_cond (test h) h.id (picks_of (pick_id test) hs) ∙ ap (λ t. cond (test h) (h.id ∷ t) t) (ids_of_picks test hs)

-- the messages of ascending numbers that pass a test are all that pass it, where all others fail
pub sparse : (test : Held → Bool) (held : List Held) (ns : List ℕ) → IsStrictlySortedBy nat_cmp ns
    → ((n : ℕ) (h : Held) → slice_get held n ≡ Some h → has ns n ≡ false → test h ≡ false) → ids_at test held ns ≡ ids_where test held
sparse test held ns ascends fail =
    ids_picked test held ns
    ∙ (picks_all (pick_id test) held ns ascends (λ n h at out. ap (λ b. cond b (Some h.id) None) (fail n h at out)) ∙ ids_of_picks test held)
