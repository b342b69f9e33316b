-- Lines and the numbers of the delivered messages, as they grow.
use Rattle.std.proofs.Common.{◌≡◌, ℕ, zero, suc, ◌<◌, ◌≤◌, Bool, true, false, ◌||◌, List, [], ◌∷◌, ◌++◌, length, map, Option, Some, None, refl, sym, ◌∙◌, ap, subst, inl, inr, arith, length-append}
use Rattle.std.specs.List.{AllByRecursion, slice_get}
use Rattle.std.proofs.lemmas.Bool.{false≢true, or_cases}
use Rattle.sync_rules.specs.Consistency.{ids_of_held}
use Rattle.sync_rules.specs.Facts.{Held, Id, is_held}
use Rattle.sync_rules.specs.Lists.{has_repeat, is_among, same_id}
use Rattle.sync_rules.proofs.ConsistencyLaws.{has_repeat-push}
use Rattle.sync_rules.proofs.Elements.{same_id-is, same_id_itself}
use Rattle.journal_audit.specs.declared.messages.Line.{Line}
use Rattle.journal_audit.specs.Lines.{AreLines, Kept, delivered_line, held_in, held_of, id_at, line_changed}
use Rattle.journal_audit.proofs.Lines.{WasLine, among-held, among_get, among_push, delivered_push, delivered_same, get_held, id_at-get, map_push, old_or_new, same_held, same_ids, same_length, same_place, was_line}
use Rattle.journal_audit.proofs.Places.{held_push}

-- by their parts
kept_as : (kept : Kept) (ls : List Line) (ns : List ℕ) → kept.lines ≡ ls → kept.delivered ≡ ns → AreLines (record { lines = ls; delivered = ns }) → AreLines kept
kept_as kept ls ns lines delivered are =
    let same : ◌≡◌ {A = Kept} (record { lines = ls; delivered = ns }) kept = λ i. record { lines = sym lines i; delivered = sym delivered i } in
    subst AreLines same are

pub lines_none : (kept : Kept) → kept.lines ≡ [] → kept.delivered ≡ [] → AreLines kept
lines_none kept lines delivered = kept_as kept [] [] lines delivered (record { distinct = refl; within = tt; ended = λ n l at. cc })

all_within : (m n : ℕ) → m ≤ n → (ns : List ℕ) → AllByRecursion (λ k. k < m) ns → AllByRecursion (λ k. k < n) ns
all_within m n more [] all = tt
all_within m n more (k ∷ ns) all = let below : k < m = all.0 in (omega arith, all_within m n more ns all.1)

within_push : (m k : ℕ) → k < m → (ns : List ℕ) → AllByRecursion (λ j. j < m) ns → AllByRecursion (λ j. j < m) (ns ++ k ∷ [])
within_push m k below [] all = (below, tt)
within_push m k below (j ∷ ns) all = (all.0, within_push m k below ns all.1)

-- a delivered message is held
held_number : (ls : List Line) (n : ℕ) → n < length ls → is_among (ids_of_held (held_in ls)) (id_at ls n) ≡ true
held_number ls n below = by (slice_get ls n) refl where
  by : (o : Option Line) → slice_get ls n ≡ o → is_among (ids_of_held (held_in ls)) (id_at ls n) ≡ true
  by (Some l) at = ap (is_among (ids_of_held (held_in ls))) (id_at-get ls n l at) ∙ among_get (held_in ls) n (held_of l) (get_held ls n l at)
  by None at = absurd (past ls n below at)
    where
      past : (xs : List Line) (k : ℕ) → k < length xs → slice_get xs k ≡ None → ⊥
      past [] k below none = omega arith
      past (x ∷ xs) zero below none = cc
      past (x ∷ xs) (suc k) below none = past xs k (omega (arith, below)) none

delivered_held : (ls : List Line) (ns : List ℕ) (id : Id) → AllByRecursion (λ n. n < length ls) ns → is_among (map (id_at ls) ns) id ≡ true → is_among (ids_of_held (held_in ls)) id ≡ true
delivered_held ls [] id within some = absurd (false≢true some)
delivered_held ls (n ∷ ns) id within some =
    elim (or_cases (same_id (id_at ls n) id) (is_among (map (id_at ls) ns) id) some) [
      | inl here ↦ ap (is_among (ids_of_held (held_in ls))) (sym (same_id-is (id_at ls n) id here)) ∙ held_number ls n within.0
      | inr later ↦ delivered_held ls ns id within.1 later
    ]

ids_push : (hs : List Held) (h : Held) → ids_of_held (hs ++ h ∷ []) ≡ ids_of_held hs ++ h.id ∷ []
ids_push [] h = refl
ids_push (x ∷ hs) h = ap (λ (t : List Id). x.id ∷ t) (ids_push hs h)

not_true : (b : Bool) → (b ≡ true → ⊥) → b ≡ false
not_true true h = absurd (h refl)
not_true false h = refl

-- one line more
pub lines_push : (kept kept' : Kept) (l : Line) → AreLines kept → kept'.lines ≡ kept.lines ++ l ∷ [] → kept'.delivered ≡ kept.delivered → is_held (held_in kept.lines) l.id ≡ false
    → l.delivered ≡ false → AreLines kept'
lines_push kept kept' l are more same new off =
    let ls = kept.lines in
    let ns = kept.delivered in
    let none : is_among (ids_of_held (held_in ls)) l.id ≡ false = among-held (held_in ls) l.id ∙ new in
    kept_as kept' (ls ++ l ∷ []) ns more same
    (record {
      distinct = ap has_repeat (ap ids_of_held (held_push ls l) ∙ ids_push (held_in ls) (held_of l)) ∙ has_repeat-push (ids_of_held (held_in ls)) l.id are.distinct none;
      within = all_within (length ls) (length (ls ++ l ∷ [])) (omega (arith, length-append ls (l ∷ []))) ns are.within;
      ended = λ m x at.
          ap (λ ids. is_among ids x.id) (delivered_push ls l ns are.within)
          ∙ elim (old_or_new ls l m x at).cases [
            | inl old ↦ are.ended m x old
            | inr both ↦
                let fresh : is_among (map (id_at ls) ns) l.id ≡ false =
                not_true (is_among (map (id_at ls) ns) l.id) (λ some. false≢true (sym none ∙ delivered_held ls ns l.id are.within some)) in
                ap (λ (y : Line). is_among (map (id_at ls) ns) y.id) both.1 ∙ fresh ∙ sym (ap (λ (y : Line). y.delivered) both.1 ∙ off)
          ];
    })

-- a line changed in what is no delivery
pub lines_changed : (change : Line → Line) → ((l : Line) → held_of (change l) ≡ held_of l) → ((l : Line) → (change l).delivered ≡ l.delivered)
    → (kept kept' : Kept) (n : ℕ) → AreLines kept → kept'.lines ≡ line_changed change n kept.lines → kept'.delivered ≡ kept.delivered → AreLines kept'
lines_changed change held delivered kept kept' n are more same =
    let ls = kept.lines in
    let ns = kept.delivered in
    let ids = delivered_same (line_changed change n ls) ls ns (same_ids change held n ls) in
    kept_as kept' (line_changed change n ls) ns more same
    (record {
      distinct = ap (λ hs. has_repeat (ids_of_held hs)) (same_held change held n ls) ∙ are.distinct;
      within = all_within (length ls) (length (line_changed change n ls)) (omega (arith, same_length change n ls)) ns are.within;
      ended = λ m x at.
          let was = was_line change n ls m x at in
          ap (λ l. is_among l x.id) ids
          ∙ elim was.became [
            | inl both ↦ ap (λ (y : Line). is_among (map (id_at ls) ns) y.id) both.1 ∙ ap (λ (h : Held). is_among (map (id_at ls) ns) h.id) (held was.before)
                ∙ are.ended m was.before was.at ∙ sym (ap (λ (y : Line). y.delivered) both.1 ∙ delivered was.before)
            | inr both ↦ ap (λ (y : Line). is_among (map (id_at ls) ns) y.id) both.1 ∙ are.ended m was.before was.at ∙ sym (ap (λ (y : Line). y.delivered) both.1)
          ];
    })

-- a line delivered
pub lines_delivered : (kept kept' : Kept) (n : ℕ) (l : Line) → AreLines kept → slice_get kept.lines n ≡ Some l → n < length kept.lines
    → kept'.lines ≡ line_changed delivered_line n kept.lines → kept'.delivered ≡ kept.delivered ++ n ∷ [] → AreLines kept'
lines_delivered kept kept' n l are here below more pushed =
    kept_as kept' (line_changed delivered_line n ls) (ns ++ n ∷ []) more pushed
    (record {
      distinct = ap (λ hs. has_repeat (ids_of_held hs)) (same_held delivered_line (λ x. refl) n ls) ∙ are.distinct;
      within = all_within (length ls) (length (line_changed delivered_line n ls)) (omega (arith, same_length delivered_line n ls)) (ns ++ n ∷ []) (within_push (length ls) n below ns are.within);
      ended = λ m x at. ap (λ t. is_among t x.id) ids ∙ (among_push (map (id_at ls) ns) l.id x.id ∙ ended m x (was_line delivered_line n ls m x at));
    })
  where
    ls : List Line
    ls = kept.lines

    ns : List ℕ
    ns = kept.delivered

    ids : map (id_at (line_changed delivered_line n ls)) (ns ++ n ∷ []) ≡ map (id_at ls) ns ++ l.id ∷ []
    ids =
        delivered_same (line_changed delivered_line n ls) ls (ns ++ n ∷ []) (same_ids delivered_line (λ x. refl) n ls)
        ∙ (map_push ls ns n ∙ ap (λ (i : Id). map (id_at ls) ns ++ i ∷ []) (id_at-get ls n l here))

    other : (m : ℕ) (b : Line) → slice_get ls m ≡ Some b → (m ≡ n → ⊥) → same_id l.id b.id ≡ false
    other m b at apart =
        not_true (same_id l.id b.id) (λ e. apart (sym (same_place (held_in ls) n m (held_of l) (held_of b) are.distinct (get_held ls n l here) (get_held ls m b at) (same_id-is l.id b.id e))))

    ended : (m : ℕ) (x : Line) → WasLine delivered_line n ls m x → (same_id l.id x.id || is_among (map (id_at ls) ns) x.id) ≡ x.delivered
    ended m x was =
        elim was.became [
          | inl both ↦
              let one : Some was.before ≡ Some l = sym was.at ∙ (ap (slice_get ls) both.0 ∙ here) in
              let same : was.before ≡ l = cc in
              let itself : same_id l.id x.id ≡ true = ap (λ (y : Line). same_id l.id y.id) both.1 ∙ (ap (λ (y : Line). same_id l.id y.id) same ∙ same_id_itself l.id) in
              ap (λ b. b || is_among (map (id_at ls) ns) x.id) itself ∙ sym (ap (λ (y : Line). y.delivered) both.1)
          | inr both ↦
              ap (λ (y : Line). same_id l.id y.id || is_among (map (id_at ls) ns) y.id) both.1
              ∙ (ap (λ b. b || is_among (map (id_at ls) ns) was.before.id) (other m was.before was.at both.0) ∙ (are.ended m was.before was.at ∙ sym (ap (λ (y : Line). y.delivered) both.1)))
        ]
