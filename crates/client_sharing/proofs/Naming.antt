-- The words on a definition, as they are found by its parts, and one word more.
use Rattle.std.proofs.Common.{◌≡◌, ℕ, Bool, true, false, cond, nat_eq, ◌&&◌, ◌||◌, List, [], ◌∷◌, ◌++◌, map, Option, None, Some, refl, sym, ap, ◌∙◌, arith, append_assoc}
use Rattle.std.specs.Map.{lookup}
use Rattle.std.specs.Ordering.{is_eq, nat_cmp, ordering_then}
use Rattle.std.specs.declared.cmp.Ordering.{Ordering}
use Rattle.std.specs.declared.cmp.Ordering.TheVariants.{Less, Equal, Greater}
use Rattle.std.specs.Cmp.Lexicographic.{pointwise, slice_cmp}
use Rattle.std.proofs.lemmas.List.Folds.{list_any-append}
use Rattle.std.proofs.lemmas.Map.Text.{is_eq-slice_cmp}
use Rattle.sync_ids.specs.Values.{GroupValue}
use Rattle.client_sharing.specs.declared.agreement.Said.{Said}
use Rattle.client_sharing.specs.declared.agreement.Stances.{Stances}
use Rattle.client_sharing.specs.declared.agreement.Target.{Target}
use Rattle.client_sharing.specs.Targets.{is_named, level_for, named_after, same_def, same_side, stance, stance_after, target_of, targets_of}
use Rattle.client_sharing.specs.Stances.{Parts, def_of_parts, last_words, spoken, spoken_by, words_at}

-- ---- definitions that are the same

and_left : (a b : Bool) → (a && b) ≡ true → a ≡ true
and_left true b h = refl
and_left false b h = absurd (let f : false ≡ true = h in cc)

and_right : (a b : Bool) → (a && b) ≡ true → b ≡ true
and_right true b h = h
and_right false b h = absurd (let f : false ≡ true = h in cc)

nat_is : (a b : ℕ) → nat_eq a b ≡ true → a ≡ b
nat_is a b h = grind arith

nat_itself : (a : ℕ) → nat_eq a a ≡ true
nat_itself a = grind arith

bytes_are : (a b : List ℕ) → pointwise nat_eq a b ≡ true → a ≡ b
bytes_are [] [] h = refl
bytes_are [] (b ∷ ys) h = absurd (let f : false ≡ true = h in cc)
bytes_are (a ∷ xs) [] h = absurd (let f : false ≡ true = h in cc)
bytes_are (a ∷ xs) (b ∷ ys) h =
    ap (λ (n : ℕ). n ∷ xs) (nat_is a b (and_left (nat_eq a b) (pointwise nat_eq xs ys) h))
    ∙ ap (λ (zs : List ℕ). b ∷ zs) (bytes_are xs ys (and_right (nat_eq a b) (pointwise nat_eq xs ys) h))

bytes_itself : (a : List ℕ) → pointwise nat_eq a a ≡ true
bytes_itself [] = refl
bytes_itself (a ∷ xs) = ap (λ (b : Bool). b && pointwise nat_eq xs xs) (nat_itself a) ∙ bytes_itself xs

pub same_is : (a b : GroupValue) → same_def a b ≡ true → a ≡ b
same_is a b h =
    let rest = and_right (pointwise nat_eq a.name b.name) (nat_eq a.major b.major && pointwise nat_eq a.descriptor b.descriptor) h in
    let name = bytes_are a.name b.name (and_left (pointwise nat_eq a.name b.name) (nat_eq a.major b.major && pointwise nat_eq a.descriptor b.descriptor) h) in
    let major = nat_is a.major b.major (and_left (nat_eq a.major b.major) (pointwise nat_eq a.descriptor b.descriptor) rest) in
    let descriptor = bytes_are a.descriptor b.descriptor (and_right (nat_eq a.major b.major) (pointwise nat_eq a.descriptor b.descriptor) rest) in
    λ i. record { name = name i; major = major i; descriptor = descriptor i }

pub same_itself : (a : GroupValue) → same_def a a ≡ true
same_itself a =
    ap (λ (b : Bool). b && (nat_eq a.major a.major && pointwise nat_eq a.descriptor a.descriptor)) (bytes_itself a.name)
    ∙ ap (λ (b : Bool). b && pointwise nat_eq a.descriptor a.descriptor) (nat_itself a.major) ∙ bytes_itself a.descriptor

-- ---- what is found by parts

abbrev pub parts_cmp : Parts → Parts → Ordering
parts_cmp p q = ordering_then (ordering_then (slice_cmp nat_cmp p.0.0.now q.0.0.now) (nat_cmp p.0.1 q.0.1)) (slice_cmp nat_cmp p.1.now q.1.now)

eq_then : (a b : Ordering) → is_eq (ordering_then a b) ≡ (is_eq a && is_eq b)
eq_then Less b = refl
eq_then Equal b = refl
eq_then Greater b = refl

nat_tie : (a b : ℕ) → is_eq (nat_cmp a b) ≡ nat_eq a b
nat_tie a b = grind arith

and_assoc : (a b c : Bool) → ((a && b) && c) ≡ (a && (b && c))
and_assoc true b c = refl
and_assoc false b c = refl

-- parts tie where the definitions are the same
pub tie_is : (p q : Parts) → is_eq (parts_cmp p q) ≡ same_def (def_of_parts p) (def_of_parts q)
tie_is p q =
    eq_then (ordering_then (slice_cmp nat_cmp p.0.0.now q.0.0.now) (nat_cmp p.0.1 q.0.1)) (slice_cmp nat_cmp p.1.now q.1.now)
    ∙ ap (λ (b : Bool). b && is_eq (slice_cmp nat_cmp p.1.now q.1.now)) (eq_then (slice_cmp nat_cmp p.0.0.now q.0.0.now) (nat_cmp p.0.1 q.0.1))
    ∙ ap (λ (b : Bool). (b && is_eq (nat_cmp p.0.1 q.0.1)) && is_eq (slice_cmp nat_cmp p.1.now q.1.now)) (is_eq-slice_cmp p.0.0.now q.0.0.now)
    ∙ ap (λ (b : Bool). (pointwise nat_eq p.0.0.now q.0.0.now && b) && is_eq (slice_cmp nat_cmp p.1.now q.1.now)) (nat_tie p.0.1 q.0.1)
    ∙ ap (λ (b : Bool). (pointwise nat_eq p.0.0.now q.0.0.now && nat_eq p.0.1 q.0.1) && b) (is_eq-slice_cmp p.1.now q.1.now)
    ∙ and_assoc (pointwise nat_eq p.0.0.now q.0.0.now) (nat_eq p.0.1 q.0.1) (pointwise nat_eq p.1.now q.1.now)

pub words_is : (p : Parts) (words : List (Parts × Stances)) → lookup (λ q. is_eq (parts_cmp p q)) words ≡ words_at words (def_of_parts p)
words_is p words = λ i. lookup (λ q. tie_is p q i) words

-- the parts of a definition, as some parts are kept
abbrev pub parts_like : Parts → GroupValue → Parts
parts_like p def = ((record p.0.0 { now = def.name }, def.major), record p.1 { now = def.descriptor })

-- what is found behind a change at one key
pub words_then : (old new : List (Parts × Stances)) (key : Parts) (w : Option Stances)
    → ((q : Parts) → lookup (λ r. is_eq (parts_cmp q r)) new ≡ cond (is_eq (parts_cmp key q)) w (lookup (λ r. is_eq (parts_cmp q r)) old))
    → (def : GroupValue) → words_at new def ≡ cond (same_def (def_of_parts key) def) w (words_at old def)
words_then old new key w changed def =
    let q = parts_like key def in
    sym (words_is q new) ∙ changed q
    ∙ ap (λ (b : Bool). cond b w (lookup (λ r. is_eq (parts_cmp q r)) old)) (tie_is key q)
    ∙ ap (λ (o : Option Stances). cond (same_def (def_of_parts key) def) w o) (words_is q old)

-- ---- one word more

stance_push : (own : Bool) (def : GroupValue) (before : Bool) (said : List Said) (s : Said)
    → stance_after own def before (said ++ s ∷ []) ≡ cond (same_side s.own own && same_def s.def def) s.join (stance_after own def before said)
stance_push own def before [] s = refl
stance_push own def before (x ∷ said) s = stance_push own def (cond (same_side x.own own && same_def x.def def) x.join before) said s

none_said : (own : Bool) (def : GroupValue) (before : Bool) (said : List Said) → is_named said def ≡ false → stance_after own def before said ≡ before
none_said own def before [] h = refl
none_said own def before (s ∷ said) h =
    let here : same_def s.def def ≡ false = or_left (same_def s.def def) (is_named said def) h in
    ap (λ (b : Bool). stance_after own def b said) (ap (λ (b : Bool). cond (same_side s.own own && b) s.join before) here ∙ off (same_side s.own own))
    ∙ none_said own def before said (or_right (same_def s.def def) (is_named said def) h)
  where
    or_left : (a b : Bool) → (a || b) ≡ false → a ≡ false
    or_left true b h = absurd (let f : true ≡ false = h in cc)
    or_left false b h = refl

    or_right : (a b : Bool) → (a || b) ≡ false → b ≡ false
    or_right true b h = absurd (let f : true ≡ false = h in cc)
    or_right false b h = h

    off : (b : Bool) → cond (b && false) s.join before ≡ before
    off true = refl
    off false = refl

named_push : (said : List Said) (s : Said) (def : GroupValue) → is_named (said ++ s ∷ []) def ≡ (is_named said def || same_def s.def def)
named_push said s def = list_any-append (λ (x : Said). same_def x.def def) said (s ∷ []) ∙ ap (λ (b : Bool). is_named said def || b) (or_false (same_def s.def def))
  where
    or_false : (b : Bool) → (b || false) ≡ b
    or_false true = refl
    or_false false = refl

-- the last words behind one more
pub last_more : (said : List Said) (s : Said) (def : GroupValue)
    → last_words (said ++ s ∷ []) def ≡ cond (same_def s.def def) (Some (spoken (last_words said s.def) s.own s.join)) (last_words said def)
last_more said s def =
    ap (λ (b : Bool). cond b (Some (both (said ++ s ∷ []))) None) (named_push said s def)
    ∙ elim (same_def s.def def) as (λ b. same_def s.def def ≡ b → cond (is_named said def || b) (Some (both (said ++ s ∷ []))) None ≡ cond b (Some (spoken (last_words said s.def) s.own s.join)) (last_words said def)) [
      | true ↦ λ e. on e (same_is s.def def e)
      | false ↦ λ e. off e
    ] refl
  where
    both : List Said → Stances
    both xs = record { own = stance true def xs; other = stance false def xs }

    same_both : (b : Bool) → same_def s.def def ≡ b → both (said ++ s ∷ []) ≡ record { own = cond (same_side s.own true && b) s.join (stance true def said); other = cond (same_side s.own false && b) s.join (stance false def said) }
    same_both b e = λ i. record {
      own = (stance_push true def false said s ∙ ap (λ (t : Bool). cond (same_side s.own true && t) s.join (stance true def said)) e) i;
      other = (stance_push false def false said s ∙ ap (λ (t : Bool). cond (same_side s.own false && t) s.join (stance false def said)) e) i;
    }

    or_true : (b : Bool) (x : Option Stances) → cond (b || true) x None ≡ x
    or_true true x = refl
    or_true false x = refl

    by : (own join : Bool) (before : Stances) → spoken_by own join before ≡ record { own = cond (same_side own true && true) join before.own; other = cond (same_side own false && true) join before.other }
    by true join before = refl
    by false join before = refl

    -- the stances of before, also where nothing was said
    was : (b : Bool) → is_named said def ≡ b → spoken (cond b (Some (both said)) None) s.own s.join ≡ spoken_by s.own s.join (both said)
    was true e = refl
    was false e = ap (spoken_by s.own s.join) (λ i. record { own = sym (none_said true def false said e) i; other = sym (none_said false def false said e) i })

    on : same_def s.def def ≡ true → s.def ≡ def → cond (is_named said def || true) (Some (both (said ++ s ∷ []))) None ≡ Some (spoken (last_words said s.def) s.own s.join)
    on e is =
        or_true (is_named said def) (Some (both (said ++ s ∷ [])))
        ∙ ap Some (same_both true e ∙ sym (by s.own s.join (both said)) ∙ sym (was (is_named said def) refl) ∙ ap (λ (d : GroupValue). spoken (last_words said d) s.own s.join) (sym is))

    unsaid : (b : Bool) → cond (b || false) (Some (both said)) None ≡ cond b (Some (both said)) None
    unsaid true = refl
    unsaid false = refl

    side_off : (b x y : Bool) → cond (b && false) x y ≡ y
    side_off true x y = refl
    side_off false x y = refl

    off : same_def s.def def ≡ false → cond (is_named said def || false) (Some (both (said ++ s ∷ []))) None ≡ last_words said def
    off e =
        ap (λ (x : Stances). cond (is_named said def || false) (Some x) None) (same_both false e ∙ (λ i. record { own = side_off (same_side s.own true) s.join (stance true def said) i; other = side_off (same_side s.own false) s.join (stance false def said) i }))
        ∙ unsaid (is_named said def)

-- ---- the targets

module _ (said before rest : List Said) (s : Said) (whole : said ≡ before ++ s ∷ rest) where
  -- what is left behind this word
  pub left_more : (found left : Option Stances) (def : GroupValue) → found ≡ cond (is_named before def) None (last_words said def)
      → left ≡ cond (same_def s.def def) None found → left ≡ cond (is_named (before ++ s ∷ []) def) None (last_words said def)
  left_more found left def was is =
      is ∙ ap (λ (o : Option Stances). cond (same_def s.def def) None o) was
      ∙ by (same_def s.def def) (is_named before def)
      ∙ ap (λ (b : Bool). cond b None (last_words said def)) (sym (named_push before s def))
    where
      by : (a b : Bool) → cond a None (cond b None (last_words said def)) ≡ cond (b || a) None (last_words said def)
      by true true = refl
      by true false = refl
      by false true = refl
      by false false = refl

  abbrev pub Whole : List Target → Type 0
  Whole targets = targets ++ map (target_of said) (named_after before (s ∷ rest)) ≡ targets_of said

  abbrev pub WholeBehind : List Target → Type 0
  WholeBehind targets = targets ++ map (target_of said) (named_after (before ++ s ∷ []) rest) ≡ targets_of said

  -- it is named here for the first time
  pub named_first : (x : Stances) (targets more : List Target) (t : Target) → Some x ≡ cond (is_named before s.def) None (last_words said s.def)
      → t ≡ record { def = s.def; level = level_for x.own x.other } → more ≡ targets ++ t ∷ [] → Whole targets → WholeBehind more
  named_first x targets more t found made pushed so_far =
      elim (is_named before s.def) as (λ b. is_named before s.def ≡ b → WholeBehind more) [
        | true ↦ λ e. absurd (let f : Some x ≡ None = found ∙ ap (λ (b : Bool). cond b None (last_words said s.def)) e in cc)
        | false ↦ λ e. new e (found ∙ ap (λ (b : Bool). cond b None (last_words said s.def)) e)
      ] refl
    where
      is_target : (b : Bool) → is_named said s.def ≡ b → Some x ≡ cond b (Some (record { own = stance true s.def said; other = stance false s.def said })) None → t ≡ target_of said s.def
      is_target false e h = absurd (let f : Some x ≡ None = h in cc)
      is_target true e h = let same : x ≡ record { own = stance true s.def said; other = stance false s.def said } = cc in
          made ∙ ap (λ (y : Stances). record { def = s.def; level = level_for y.own y.other }) same

      new : is_named before s.def ≡ false → Some x ≡ last_words said s.def → WholeBehind more
      new e h =
          let behind = map (target_of said) (named_after (before ++ s ∷ []) rest) in
          ap (λ (xs : List Target). xs ++ behind) pushed
          ∙ append_assoc targets (t ∷ []) behind
          ∙ ap (λ (y : Target). targets ++ y ∷ behind) (is_target (is_named said s.def) refl h)
          ∙ sym (ap (λ (b : Bool). targets ++ map (target_of said) (cond b (named_after (before ++ s ∷ []) rest) (s.def ∷ named_after (before ++ s ∷ []) rest))) e)
          ∙ so_far

  -- it was named before
  pub named_again : (targets : List Target) → None ≡ cond (is_named before s.def) None (last_words said s.def) → Whole targets → WholeBehind targets
  named_again targets found so_far =
      elim (is_named before s.def) as (λ b. is_named before s.def ≡ b → WholeBehind targets) [
        | true ↦ λ e.
            sym (ap (λ (b : Bool). targets ++ map (target_of said) (cond b (named_after (before ++ s ∷ []) rest) (s.def ∷ named_after (before ++ s ∷ []) rest))) e)
            ∙ so_far
        | false ↦ λ e. absurd (none (record { own = stance true s.def said; other = stance false s.def said }) (is_named said s.def) named (found ∙ ap (λ (b : Bool). cond b None (last_words said s.def)) e))
      ] refl
    where
      or_true : (a b : Bool) → (a || (true || b)) ≡ true
      or_true true b = refl
      or_true false b = refl

      named : is_named said s.def ≡ true
      named =
          ap (λ (xs : List Said). is_named xs s.def) whole
          ∙ list_any-append (λ (x : Said). same_def x.def s.def) before (s ∷ rest)
          ∙ ap (λ (b : Bool). is_named before s.def || (b || is_named rest s.def)) (same_itself s.def)
          ∙ or_true (is_named before s.def) (is_named rest s.def)

      none : (x : Stances) (b : Bool) → b ≡ true → None ≡ cond b (Some x) None → ⊥
      none x true e h = let f : None ≡ Some x = h in cc
      none x false e h = absurd (let f : false ≡ true = e in cc)
