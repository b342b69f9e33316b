-- Redundant links: behind each that is closed stands one that is kept, and closing them one after the other, each by the links as they
-- then stand, closes the same ones.
use Rattle.std.proofs.Common.{◌≡◌, ◌⊎◌, ℕ, zero, suc, ◌+◌, ◌<◌, Bool, true, false, cond, ◌||◌, nat_eq, eq-eqb, eqb-true, List, [], ◌∷◌, length, refl, sym, ◌∙◌, ap, ap₂, subst, inl, inr, arith, Option, None, Some}
use Rattle.std.specs.Cmp.Lexicographic.{nat_list_cmp_total, slice_cmp}
use Rattle.std.specs.Ordering.{nat_cmp, ordering_reverse}
use Rattle.std.specs.Prelude.{nat_lt, slice_get, slice_set}
use Rattle.std.specs.declared.cmp.Ordering.{Ordering}
use Rattle.std.specs.declared.cmp.Ordering.TheVariants as ordering
use Rattle.std.proofs.lemmas.Bool.{and_from, and_parts, false≢true, lt-ltb, ltb-true, or_cases, or_left, or_right}
use Rattle.sync_rules.specs.Lists.{In}
use Rattle.sync_course.specs.declared.ends.LinkEnd.TheVariants as end
use Rattle.sync_course.specs.Links.{Link, beats, closed_from, is_beaten, is_preferred, is_going}
use Rattle.sync_course.specs.Links.{is_nonce_kept}
use Rattle.sync_course.specs.Redundant.{KeptRather, closed_as, closed_upto}

-- ---- the order

turned : (x y : List ℕ) (o : Ordering) → slice_cmp nat_cmp x y ≡ o → slice_cmp nat_cmp y x ≡ ordering_reverse o
turned x y o is = nat_list_cmp_total.antisymm y x ∙ ap ordering_reverse is

-- what is kept by two comparisons is kept by the one
module _ (x y z : List ℕ) (first second whole : Bool)
    (both : first ≡ true → second ≡ true → whole ≡ true) where
  before_then : (o r : Ordering)
      → slice_cmp nat_cmp x y ≡ o → slice_cmp nat_cmp y z ≡ r → is_preferred o first ≡ true
      → is_preferred r second ≡ true
      → is_preferred (slice_cmp nat_cmp x z) whole ≡ true
  before_then ordering.Less r e f a b = cc
  before_then ordering.Equal ordering.Less e f a b = cc
  before_then ordering.Greater ordering.Less e f a b = cc
  before_then ordering.Greater ordering.Greater e f a b =
      let low =
      nat_list_cmp_total.trans z y x (turned y z ordering.Greater f) (turned x y ordering.Greater e) in
      ap (λ o. is_preferred o whole) (turned z x ordering.Less low)
  before_then ordering.Greater ordering.Equal e f a b =
      let low : slice_cmp nat_cmp z x ≡ ordering.Less =
      sym (nat_list_cmp_total.congr y z x f) ∙ turned x y ordering.Greater e in
      ap (λ o. is_preferred o whole) (turned z x ordering.Less low)
  before_then ordering.Equal ordering.Greater e f a b =
      ap (λ o. is_preferred o whole) (nat_list_cmp_total.congr x y z e ∙ f)
  before_then ordering.Equal ordering.Equal e f a b =
      ap (λ o. is_preferred o whole) (nat_list_cmp_total.congr x y z e ∙ f) ∙ both a b

kept_then : (x y z : Option (List ℕ)) (first second whole : Bool)
    → (first ≡ true → second ≡ true → whole ≡ true) → is_nonce_kept x y first ≡ true
    → is_nonce_kept y z second ≡ true → is_nonce_kept x z whole ≡ true
kept_then None y z first second whole both a b = cc
kept_then (Some x) None z first second whole both a b = cc
kept_then (Some x) (Some y) None first second whole both a b = cc
kept_then (Some x) (Some y) (Some z) first second whole both a b =
    before_then x y z first second whole both (slice_cmp nat_cmp x y) (slice_cmp nat_cmp y z) refl refl a b

not_kept : (x : Option (List ℕ)) → is_nonce_kept x x false ≡ false
not_kept None = refl
not_kept (Some x) = not_before (slice_cmp nat_cmp x x) refl
  where
    not_before : (o : Ordering) → slice_cmp nat_cmp x x ≡ o → is_preferred (slice_cmp nat_cmp x x)
        false ≡ false
    not_before ordering.Greater is = ap (λ o. is_preferred o false) (turned x x ordering.Greater is)
    not_before _ is = ap (λ o. is_preferred o false) is

-- the parts of a comparison of two links
pub record Beats (i : ℕ) (a : Link) (k : ℕ) (b : Link) : Type 0 where
  pub first_going : is_going a.stands ≡ true
  pub second_going : is_going b.stands ≡ true
  pub same_contact : nat_eq a.contact b.contact ≡ true
  pub kept : is_nonce_kept a.nonce b.nonce (nat_lt i k) ≡ true

pub beats_parts : (i : ℕ) (a : Link) (k : ℕ) (b : Link) → beats i a k b ≡ true → Beats i a k b
beats_parts i a k b is =
    let one = and_parts (is_going a.stands) _ is in
    let two = and_parts (is_going b.stands) _ one.1 in
    let three = and_parts (nat_eq a.contact b.contact) _ two.1 in
    record { first_going = one.0; second_going = two.0; same_contact = three.0; kept = three.1 }

beats_from : (i : ℕ) (a : Link) (k : ℕ) (b : Link) → Beats i a k b → beats i a k b ≡ true
beats_from i a k b p =
    and_from (is_going a.stands) _ p.first_going
    (and_from (is_going b.stands) _ p.second_going
    (and_from (nat_eq a.contact b.contact) _ p.same_contact p.kept))

smaller_then : (i m k : ℕ) → nat_lt i m ≡ true → nat_lt m k ≡ true → nat_lt i k ≡ true
smaller_then i m k first second =
    let a : i < m = ltb-true i m first in
    let b : m < k = ltb-true m k second in
    lt-ltb i k (omega (arith, a, b))

pub beats_then : (i : ℕ) (a : Link) (m : ℕ) (c : Link) (k : ℕ) (b : Link) → beats i a m c ≡ true → beats m c k b ≡ true → beats i a k b ≡ true
beats_then i a m c k b first second =
    let p = beats_parts i a m c first in
    let q = beats_parts m c k b second in
    let ac = eqb-true a.contact c.contact p.same_contact in
    let cb = eqb-true c.contact b.contact q.same_contact in
    beats_from i a k b (record {
      first_going = p.first_going;
      second_going = q.second_going;
      same_contact = eq-eqb a.contact b.contact (ac ∙ cb);
      kept = kept_then a.nonce c.nonce b.nonce (nat_lt i m) (nat_lt m k) (nat_lt i k) (smaller_then i m k) p.kept q.kept;
    })

pub never : (t : Bool) → (t ≡ true → ⊥) → t ≡ false
never true absent = absurd (absent refl)
never false absent = refl

pub not_itself : {A : Type 0} → (i : ℕ) (a : Link) → beats i a i a ≡ true → A
not_itself i a is =
    let none = never (nat_lt i i) (λ is. let less : i < i = ltb-true i i is in omega (arith, less)) in
    absurd (false≢true
    (sym (not_kept a.nonce) ∙ ap (λ b. is_nonce_kept a.nonce a.nonce b) (sym none)
    ∙ (beats_parts i a i a is).kept))

-- ---- the one that is kept

or_false : (a b : Bool) → a ≡ false → b ≡ false → (a || b) ≡ false
or_false true b e f = cc
or_false false b e f = f

module _ {A : Type 0} (over : A → A → Bool) where
  -- one of a list is over this one
  abbrev pub is_under : List A → A → Bool
  is_under [] b = false
  is_under (a ∷ xs) b = over a b || is_under xs b

  one_over : (xs : List A) (b : A) → is_under xs b ≡ true → (a : A) × In a xs × (over a b ≡ true)
  one_over [] b is = cc
  one_over (a ∷ xs) b is =
      elim (or_cases (over a b) (is_under xs b) is) [
        | inl here ↦ (a, inl refl, here)
        | inr later ↦ let r = one_over xs b later in (r.0, inr r.1, r.2)
      ]

  under_one : (xs : List A) (a b : A) → In a xs → over a b ≡ true → is_under xs b ≡ true
  under_one [] a b there is = absurd there
  under_one (x ∷ xs) a b (inl same) is =
      or_left (over x b) (is_under xs b) (subst (λ y. over y b ≡ true) same is)
  under_one (x ∷ xs) a b (inr later) is =
      or_right (over x b) (is_under xs b) (under_one xs a b later is)

  -- of one and those of a list, one that none of the list is over: it is that one, or it is in the
  -- list and over it
  pub record Best (xs : List A) (b : A) : Type 0 where
    pub best : A
    pub is : (best ≡ b) ⊎ (In best xs × (over best b ≡ true))
    pub free : is_under xs best ≡ false

  module _ (itself : (a : A) → over a a ≡ true → ⊥)
      (then : (a b c : A) → over a b ≡ true → over b c ≡ true → over a c ≡ true) where
    best_of : (xs : List A) (b : A) → Best xs b
    best_of [] b = record { best = b; is = inl refl; free = refl }
    best_of (c ∷ xs) b = with_one (best_of xs b) (best_of xs c)
      where
        under : (r : Best xs b) → over c r.best ≡ true → over c b ≡ true
        under r t =
            elim r.is [
              | inl same ↦ subst (λ x. over c x ≡ true) same t
              | inr there ↦ then c r.best b t there.1
            ]

        not_over : (s : Best xs c) → over c s.best ≡ true → ⊥
        not_over s t =
            elim s.is [
              | inl same ↦ itself c (subst (λ x. over c x ≡ true) same t)
              | inr there ↦ itself c (then c s.best c t there.1)
            ]

        with_one : Best xs b → Best xs c → Best (c ∷ xs) b
        with_one r s =
            elim (over c r.best) as (λ t. over c r.best ≡ t → Best (c ∷ xs) b) [
              | true ↦ λ t. record {
                best = s.best;
                is =
                    inr (elim s.is [
                      | inl same ↦ (inl same, subst (λ x. over x b ≡ true) (sym same) (under r t))
                      | inr there ↦ (inr there.0, then s.best c b there.1 (under r t))
                    ]);
                free = or_false (over c s.best) _ (never (over c s.best) (not_over s)) s.free;
              }
              | false ↦ λ t. record {
                best = r.best;
                is = elim r.is [ inl same ↦ inl same | inr there ↦ inr (inr there.0, there.1) ];
                free = or_false (over c r.best) _ t r.free;
              }
            ] refl

-- the links of a list with their numbers, whose first has the number j
abbrev pub numbered : ℕ → List Link → List (ℕ × Link)
numbered j [] = []
numbered j (a ∷ links) = (j, a) ∷ numbered (suc j) links

abbrev pub over_by : ℕ × Link → ℕ × Link → Bool
over_by x y = beats x.0 x.1 y.0 y.1

beaten_numbered : (j : ℕ) (links : List Link) (k : ℕ) (b : Link)
    → is_beaten j links k b ≡ is_under over_by (numbered j links) (k, b)
beaten_numbered j [] k b = refl
beaten_numbered j (a ∷ links) k b =
    ap (λ t. beats j a k b || t) (beaten_numbered (suc j) links k b)

at_number : (j : ℕ) (links : List Link) (n : ℕ) (a : Link) → In (n, a) (numbered j links)
    → (m : ℕ) × (n ≡ j + m) × (slice_get links m ≡ Some a)
at_number j [] n a there = absurd there
at_number j (x ∷ links) n a (inl same) =
    let here : n ≡ j = ap (λ y. y.0) same in
    (0, omega (arith, here), ap (λ y. Some y.1) (sym same))
at_number j (x ∷ links) n a (inr later) =
    let r = at_number (suc j) links n a later in
    let number : n ≡ suc j + r.0 = r.1 in
    (suc r.0, omega (arith, number), r.2)

-- a link that is beaten is beaten by one that is not
kept_in : (links : List Link) (k : ℕ) (b : Link) → is_beaten 0 links k b ≡ true
    → (a : ℕ × Link) × In a (numbered 0 links) × (beats a.0 a.1 k b ≡ true)
    × (is_beaten 0 links a.0 a.1 ≡ false)
kept_in links k b beaten =
    let r =
    best_of over_by (λ a is. not_itself a.0 a.1 is)
    (λ a c d first second. beats_then a.0 a.1 c.0 c.1 d.0 d.1 first second)
    (numbered 0 links) (k, b) in
    let free : is_beaten 0 links r.best.0 r.best.1 ≡ false =
    beaten_numbered 0 links r.best.0 r.best.1 ∙ r.free in
    elim r.is [
      | inl same ↦
          absurd (false≢true (sym free
          ∙ ap (λ y. is_beaten 0 links y.0 y.1) same
          ∙ beaten))
      | inr there ↦ (r.best, there.0, there.1, free)
    ]

pub kept_rather : (links : List Link) (k : ℕ) (b : Link) → is_beaten 0 links k b ≡ true → KeptRather links k b
kept_rather links k b beaten =
    let r = kept_in links k b beaten in
    let at = at_number 0 links r.0.0 r.0.1 r.1 in
    let number : r.0.0 ≡ 0 + at.0 = at.1 in
    let same : at.0 ≡ r.0.0 = omega (arith, number) in
    record {
      number = r.0.0;
      link = r.0.1;
      at = subst (λ n. slice_get links n ≡ Some r.0.1) same at.2;
      beats_it = r.2;
      unbeaten = r.3;
    }

pub closed_whole : (all : List Link) (k : ℕ) (links : List Link) → closed_upto all k (length links) links ≡ closed_from all k links
closed_whole all k [] = refl
closed_whole all k (b ∷ links) = ap (λ l. closed_as all k b ∷ l) (closed_whole all (suc k) links)

-- one more is closed
closed_more : (all : List Link) (k m : ℕ) (links : List Link) (b : Link) → slice_get links m ≡ Some b
    → closed_upto all k (suc m) links ≡ slice_set (closed_upto all k m links) m (closed_as all (k + m) b)
closed_more all k m [] b at = cc
closed_more all k zero (x ∷ links) b at =
    let same : x ≡ b = cc in
    let here : k ≡ k + 0 = omega arith in
    ap₂ (λ y n. closed_as all n y ∷ links) same here
closed_more all k (suc m) (x ∷ links) b at =
    let later : suc k + m ≡ k + suc m = omega arith in
    ap (λ l. closed_as all k x ∷ l)
    (closed_more all (suc k) m links b at ∙ ap (λ n. slice_set (closed_upto all (suc k) m links) m (closed_as all n b)) later)

-- a link of the list in which some are closed
was_in : (all : List Link) (j m : ℕ) (links : List Link) (n : ℕ) (now : Link)
    → In (n, now) (numbered j (closed_upto all j m links))
    → (was : Link) × In (n, was) (numbered j links) × ((now ≡ was) ⊎ (now ≡ closed_as all n was))
was_in all j zero links n now there = (now, there, inl refl)
was_in all j (suc m) [] n now there = absurd there
was_in all j (suc m) (x ∷ links) n now (inl same) =
    let number : n ≡ j = ap (λ y. y.0) same in
    let link : now ≡ closed_as all j x = ap (λ y. y.1) same in (
      x,
      inl (ap (λ i. (i, x)) number),
      inr (link ∙ ap (λ i. closed_as all i x) (sym number)),
    )
was_in all j (suc m) (x ∷ links) n now (inr later) =
    let r = was_in all (suc j) m links n now later in (r.0, inr r.1, r.2)

-- a link that is not beaten stands there as it was
stays_in : (all : List Link) (j m : ℕ) (links : List Link) (n : ℕ) (a : Link)
    → In (n, a) (numbered j links)
    → is_beaten 0 all n a ≡ false → In (n, a) (numbered j (closed_upto all j m links))
stays_in all j zero links n a there free = there
stays_in all j (suc m) [] n a there free = absurd there
stays_in all j (suc m) (x ∷ links) n a (inl same) free =
    let free_here : is_beaten 0 all j x ≡ false =
    ap (λ y. is_beaten 0 all y.0 y.1) (sym same) ∙ free in
    inl (same
    ∙ ap (λ t. (j, record x { stands = cond t end.Redundant x.stands })) (sym free_here))
stays_in all j (suc m) (x ∷ links) n a (inr later) free =
    inr (stays_in all (suc j) m links n a later free)

closed_beats : (t : Bool) (i : ℕ) (a : Link) (k : ℕ) (b : Link) → beats i (record a { stands = cond t end.Redundant a.stands }) k b ≡ true
    → beats i a k b ≡ true
closed_beats true i a k b is = absurd (false≢true is)
closed_beats false i a k b is = is

both_so : (s t : Bool) → (s ≡ true → t ≡ true) → (t ≡ true → s ≡ true) → s ≡ t
both_so true t there back = sym (there refl)
both_so false true there back = back refl
both_so false false there back = refl

-- Whether a link is kept rather than one is the same where some were closed before.
pub same_beaten : (links : List Link) (m k : ℕ) (b : Link) → is_beaten 0 (closed_upto links 0 m links) k b ≡ is_beaten 0 links k b
same_beaten links m k b = both_so (is_beaten 0 (closed_upto links 0 m links) k b) (is_beaten 0 links k b) there back
  where
    there : is_beaten 0 (closed_upto links 0 m links) k b ≡ true → is_beaten 0 links k b ≡ true
    there is =
        let r =
        one_over over_by (numbered 0 (closed_upto links 0 m links)) (k, b)
        (sym (beaten_numbered 0 (closed_upto links 0 m links) k b) ∙ is) in
        let w = was_in links 0 m links r.0.0 r.0.1 r.1 in
        let beats_it : beats r.0.0 w.0 k b ≡ true =
        elim w.2 [
          | inl same ↦ subst (λ y. beats r.0.0 y k b ≡ true) same r.2
          | inr closed ↦
              closed_beats (is_beaten 0 links r.0.0 w.0) r.0.0 w.0 k b
              (subst (λ y. beats r.0.0 y k b ≡ true) closed r.2)
        ] in
        beaten_numbered 0 links k b
        ∙ under_one over_by (numbered 0 links) (r.0.0, w.0) (k, b) w.1 beats_it

    back : is_beaten 0 links k b ≡ true → is_beaten 0 (closed_upto links 0 m links) k b ≡ true
    back is =
        let r = kept_in links k b is in
        beaten_numbered 0 (closed_upto links 0 m links) k b
        ∙ under_one over_by (numbered 0 (closed_upto links 0 m links)) r.0 (k, b)
        (stays_in links 0 m links r.0.0 r.0.1 r.1 r.3) r.2

-- closing the next link by the links as they then stand
pub closes_next : (links : List Link) (m : ℕ) (b : Link) → slice_get links m ≡ Some b
    → closed_upto links 0 (suc m) links
    ≡ slice_set (closed_upto links 0 m links) m
    (record b { stands = cond (is_beaten 0 (closed_upto links 0 m links) m b) end.Redundant b.stands })
closes_next links m b at =
    let same : 0 + m ≡ m = omega arith in
    closed_more links 0 m links b at
    ∙ ap (λ n. slice_set (closed_upto links 0 m links) m (closed_as links n b)) same
    ∙ ap (λ t. slice_set (closed_upto links 0 m links) m (record b { stands = cond t end.Redundant b.stands }))
    (sym (same_beaten links m m b))
