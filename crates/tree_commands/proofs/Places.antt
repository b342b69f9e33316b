-- The places of messages in a list of ids are those of their arrival numbers.
use Rattle.std.proofs.Common.{◌≡◌, ℕ, zero, suc, ◌<◌, ◌==◌, Bool, true, false, cond, ◌||◌, List, []}
use Rattle.std.proofs.Common.{◌∷◌, length, map, Option, None, Some, slice_get, refl, sym, ap, ◌∙◌}
use Rattle.std.proofs.Common.{subst, arith}
use Rattle.std.specs.List.{AllByRecursion}
use Rattle.std.specs.Option.{option_map}
use Rattle.std.proofs.lemmas.Bool.{false≢true}
use Rattle.std.proofs.lemmas.List.{get_or-map}
use Rattle.std.proofs.lemmas.Option.{get_or_from_slice_get, slice_get-get_or, slice_get_within}
use Rattle.sync_rules.specs.Facts.{Held, Id, held_at}
use Rattle.sync_rules.specs.Lists.{is_among, same_id}
use Rattle.sync_rules.specs.Views.{IsPlace}
use Rattle.journal_state.specs.Sound.{AreApart}
use Rattle.journal_state.specs.Whole.{id_at}
use Rattle.sync_rules.proofs.Elements.{same_id-is, same_id_itself}
use Rattle.entry_codec.specs.Naming.{place_in}
use Rattle.tree_commands.specs.Gathered.{StandsAt}
use Rattle.tree_commands.specs.Threads.{number_among, parent_among}
use Rattle.tree_commands.specs.Trees.{place_if}

abbrev ids_of : List Held → List Id
ids_of held = map (λ (h : Held). h.id) held

-- ---- held messages have distinct ids

or_right : (b c : Bool) → c ≡ true → (b || c) ≡ true
or_right true c h = refl
or_right false c h = h

among_there : (hs : List Held) (m : ℕ) (k : Held) (d : Id) → slice_get hs m ≡ Some k
    → same_id k.id d ≡ true → is_among (ids_of hs) d ≡ true
among_there [] m k d e s = absurd (let none : None ≡ Some k = e in cc)
among_there (h ∷ hs) zero k d e s =
    let is : h ≡ k = let both : Some h ≡ Some k = e in cc in
    ap (λ (b : Bool). b || is_among (ids_of hs) d) (ap (λ (x : Held). same_id x.id d) is ∙ s)
among_there (h ∷ hs) (suc m) k d e s = or_right (same_id h.id d) (is_among (ids_of hs) d)
    (among_there hs m k d e s)

first_is : (h k : Held) → Some h ≡ Some k → h.id ≡ k.id
first_is h k e = ap (λ (x : Held). x.id) (let is : h ≡ k = cc in is)

-- no two with one id: the first one, and one behind it
not_behind : (h k : Held) (hs : List Held) (m : ℕ) → is_among (ids_of hs) h.id ≡ false
    → slice_get hs m ≡ Some k → k.id ≡ h.id → ⊥
not_behind h k hs m apart e same =
    let is : same_id k.id h.id ≡ true = subst (λ (x : Id). same_id x h.id ≡ true) (sym same)
    (same_id_itself h.id) in
    false≢true (sym apart ∙ among_there hs m k h.id e is)

one_number : (hs : List Held) → AreApart (ids_of hs) → (n m : ℕ) (h k : Held)
    → slice_get hs n ≡ Some h → slice_get hs m ≡ Some k → h.id ≡ k.id → n ≡ m
one_number [] apart n m h k e g same = absurd (let none : None ≡ Some h = e in cc)
one_number (x ∷ hs) apart zero zero h k e g same = refl
one_number (x ∷ hs) apart zero (suc m) h k e g same =
    absurd (not_behind x k hs m apart.0 g (sym same ∙ sym (first_is x h e)))
one_number (x ∷ hs) apart (suc n) zero h k e g same =
    absurd (not_behind x h hs n apart.0 e (same ∙ sym (first_is x k g)))
one_number (x ∷ hs) apart (suc n) (suc m) h k e g same =
    ap suc (one_number hs apart.1 n m h k e g same)

-- ---- the id of an arrival number

pub id_there : (held : List Held) (n : ℕ) (h : Held) → slice_get held n ≡ Some h
    → id_at held n ≡ h.id
id_there held n h e =
    get_or-map (λ (x : Held). x.id) held n h [] (slice_get_within held n h e)
    ∙ ap (λ (x : Held). x.id) (get_or_from_slice_get held n h h e)

some_at : (held : List Held) (n : ℕ) → n < length held → (h : Held) × (slice_get held n ≡ Some h)
some_at [] n h = absurd (omega (arith, h))
some_at (x ∷ held) n h = (_, slice_get-get_or (x ∷ held) n x h)

both_ways : (a b : Bool) → (a ≡ true → b ≡ true) → (b ≡ true → a ≡ true) → a ≡ b
both_ways true b there back = sym (there refl)
both_ways false true there back = back refl
both_ways false false there back = refl

eq_is : (n m : ℕ) → (n == m) ≡ true → n ≡ m
eq_is n m e = grind (arith, e)

eq_same : (n : ℕ) → (n == n) ≡ true
eq_same n = grind arith

module _ (held : List Held) where
  same_at : AreApart (ids_of held) → (d : Id) (n m : ℕ) → n < length held → IsPlace held d m
      → (n == m) ≡ same_id (id_at held n) d
  same_at apart d n m within at =
      let item = some_at held n within in
      let named : id_at held n ≡ item.0.id = id_there held n item.0 item.1 in
      both_ways (n == m) (same_id (id_at held n) d)
      (λ e. let one : n ≡ m = eq_is n m e in
      let is : id_at held n ≡ d = ap (id_at held) one ∙ id_there held m at.message at.stands
      ∙ at.named in
      subst (λ (x : Id). same_id x d ≡ true) (sym is) (same_id_itself d))
      (λ s. let is : item.0.id ≡ at.message.id = sym named ∙ same_id-is (id_at held n) d s
      ∙ sym at.named in
      subst (λ (k : ℕ). (n == k) ≡ true) (one_number held apart n m item.0 at.message item.1
      at.stands is) (eq_same n))

  places_same : AreApart (ids_of held) → (d : Id) (m : ℕ) (ns : List ℕ)
      → AllByRecursion (λ n. n < length held) ns → IsPlace held d m
      → place_in (map (id_at held) ns) d ≡ number_among ns m
  places_same apart d m [] within at = refl
  places_same apart d m (n ∷ ns) within at =
      ap (λ (b : Bool). cond b (Some 0) (option_map suc (place_in (map (id_at held) ns) d)))
      (sym (same_at apart d n m within.0 at))
      ∙ ap (λ o. cond (n == m) (Some 0) (option_map suc o)) (places_same apart d m ns within.1 at)

-- ---- an id of no message

not_named : (hs : List Held) (d : Id) (n : ℕ) (h : Held) → held_at hs d ≡ None
    → slice_get hs n ≡ Some h → same_id h.id d ≡ false
not_named [] d n h none e = absurd (let wrong : None ≡ Some h = e in cc)
not_named (x ∷ hs) d zero h none e =
    let is : x ≡ h = let both : Some x ≡ Some h = e in cc in
    ap (λ (y : Held). same_id y.id d) (sym is) ∙ head_not (same_id x.id d) none
  where
    head_not : (b : Bool) → cond b (Some x) (held_at hs d) ≡ None → b ≡ false
    head_not true wrong = absurd (let none : Some x ≡ None = wrong in cc)
    head_not false none = refl
not_named (x ∷ hs) d (suc n) h none e = not_named hs d n h (rest (same_id x.id d) none) e
  where
    rest : (b : Bool) → cond b (Some x) (held_at hs d) ≡ None → held_at hs d ≡ None
    rest true wrong = absurd (let none : Some x ≡ None = wrong in cc)
    rest false none = none

places_none : (held : List Held) (d : Id) (ns : List ℕ) → AllByRecursion (λ n. n < length held) ns
    → held_at held d ≡ None
    → place_in (map (id_at held) ns) d ≡ None
places_none held d [] within none = refl
places_none held d (n ∷ ns) within none =
    let item = some_at held n within.0 in
    let not : same_id (id_at held n) d ≡ false =
    ap (λ (x : Id). same_id x d) (id_there held n item.0 item.1)
    ∙ not_named held d n item.0 none item.1 in
    ap (λ (b : Bool). cond b (Some 0) (option_map suc (place_in (map (id_at held) ns) d))) not
    ∙ ap (λ o. option_map suc o) (places_none held d ns within.1 none)

-- ---- what is replied to

-- the item of what is replied to
pub reply_same : (held : List Held) → AreApart (ids_of held) → (ns : List ℕ)
    → AllByRecursion (λ n. n < length held) ns → (o : Option Id) (found : Option ℕ)
    → StandsAt held o found → place_if (map (id_at held) ns) o ≡ parent_among ns found
reply_same held apart ns within None found is = ap (parent_among ns) (sym is)
reply_same held apart ns within (Some d) None none = places_none held d ns within none
reply_same held apart ns within (Some d) (Some m) at = places_same held apart d m ns within at
