-- The lines that the entries of a journal tell, over messages that arrived: which messages they name, and their text.
use Rattle.std.proofs.Common.{◌≡◌, ◌+◌, ◌≤◌, Bool, true, false, cond, not, ◌||◌, ◌⊎◌, List, [], ◌∷◌, ◌++◌, map, refl, sym, ◌∙◌, ap, subst, inl, inr, arith, Option, Some, None}
use Rattle.std.specs.List.{list_any, filter, flat_map}
use Rattle.std.proofs.lemmas.Bool.{false≢true, or_cases, or_left, or_right, or_parts}
use Rattle.sync_ids.specs.Values.{MessageValue}
use Rattle.sync_ids.specs.Ids.{message_id_of}
use Rattle.sync_rules.specs.declared.entries.Entry.{Entry}
use Rattle.sync_rules.specs.declared.entries.Entry.TheVariants as entry
use Rattle.sync_rules.specs.declared.states.Fate.{Fate}
use Rattle.sync_rules.specs.declared.states.Fate.TheVariants as fate_kind
use Rattle.sync_rules.specs.Lists.{same_id, In}
use Rattle.sync_rules.specs.Facts.{Facts, Held, Id, held_at, arrived}
use Rattle.sync_rules.specs.Steps.{is_ended}
use Rattle.sync_rules.specs.Rounds.{Graph}
use Rattle.sync_rules.specs.EntryTests.{delivers, invalidates, ends}
use Rattle.sync_rules.proofs.Elements.{In-append_right, same_id-is, same_id_itself, tally}
use Rattle.journal_play.specs.Texts.{FateLine, ends_told, unended, line_of, line_at, lines_text}
use Rattle.journal_play.specs.Fates.{is_good, is_bad, is_decided, state_of, state_line}
use Rattle.journal_play.proofs.Orders.{IsDistinct}

pub or_false : (b : Bool) → (b || false) ≡ b
or_false true = refl
or_false false = refl

-- ---- the messages of the lines that entries tell

abbrev pub message_in : Option Held → List MessageValue
message_in None = []
message_in (Some h) = h.message ∷ []

abbrev pub messages_at : List Held → List FateLine → List MessageValue
messages_at held [] = []
messages_at held (line ∷ lines) = message_in (held_at held line.1) ++ messages_at held lines

found_in : (messages : List MessageValue) (id : Id) (h : Held) → held_at (map (arrived 0) messages) id ≡ Some h → In h.message messages × (message_id_of h.message ≡ id)
found_in [] id h e = cc
found_in (m ∷ messages) id h e =
    elim (same_id (message_id_of m) id) as (λ b. same_id (message_id_of m) id ≡ b → cond b (Some (arrived 0 m)) (held_at (map (arrived 0) messages) id) ≡ Some h
    → In h.message (m ∷ messages) × (message_id_of h.message ≡ id)) [
      | true ↦ λ s e.
          let is : arrived 0 m ≡ h = cc in
          (inl (ap (λ (w : Held). w.message) (sym is)), ap (λ (w : Held). message_id_of w.message) (sym is) ∙ same_id-is (message_id_of m) id s)
      | false ↦ λ s e. let r = found_in messages id h e in (inr r.0, r.1)
    ] refl e

any_tally : {A : Type 0} (p : A → Bool) (xs : List A) → list_any p xs ≡ true → 1 ≤ tally p xs
any_tally p [] h = absurd (false≢true h)
any_tally p (x ∷ xs) h =
    elim (p x) as (λ b. (b || list_any p xs) ≡ true → 1 ≤ cond b (1 + tally p xs) (tally p xs)) [
      | true ↦ λ h. omega arith
      | false ↦ λ h. any_tally p xs h
    ] h

pub In_arrived : (messages : List MessageValue) (m : MessageValue) → In m messages → In (arrived 0 m) (map (arrived 0) messages)
In_arrived [] m h = absurd h
In_arrived (x ∷ messages) m h = elim h [ inl e ↦ inl (ap (arrived 0) e) | inr t ↦ inr (In_arrived messages m t) ]

-- lines over messages that arrived, each found by its id
module _ (messages : List MessageValue) (names : (m : MessageValue) → In m messages → held_at (map (arrived 0) messages) (message_id_of m) ≡ Some (arrived 0 m)) where
  of_line : (x : Id) (rest : List MessageValue) (o : Option Held) → held_at (map (arrived 0) messages) x ≡ o → (z : MessageValue) → In z (message_in o ++ rest)
      → (In z messages × (same_id x (message_id_of z) ≡ true)) ⊎ In z rest
  of_line x rest None e z h = inr h
  of_line x rest (Some held) e z h =
      elim h [
        | inl is ↦
            let found = found_in messages x held e in
            let same : x ≡ message_id_of z = sym found.1 ∙ ap message_id_of (sym is) in
            inl (subst (λ w. In w messages) (sym is) found.0, ap (same_id x) (sym same) ∙ same_id_itself x)
        | inr t ↦ inr t
      ]

  -- each message of a line is one of these, and an entry ends it
  pub of_told : (es : List Entry) (z : MessageValue)
      → In z (messages_at (map (arrived 0) messages) (ends_told es))
      → In z messages × (list_any (ends (message_id_of z)) es ≡ true)
  of_told [] z h = absurd h
  of_told (entry.Deliver x ∷ es) z h =
      elim (of_line x (messages_at (map (arrived 0) messages) (ends_told es))
      (held_at (map (arrived 0) messages) x) refl z h) [
        | inl here ↦ (here.0, or_left (ends (message_id_of z) (entry.Deliver x)) (list_any (ends (message_id_of z)) es) (or_left (same_id x (message_id_of z)) false here.1))
        | inr later ↦ let r = of_told es z later in (r.0, or_right (ends (message_id_of z) (entry.Deliver x)) (list_any (ends (message_id_of z)) es) r.1)
      ]
  of_told (entry.Invalid x ∷ es) z h =
      elim (of_line x (messages_at (map (arrived 0) messages) (ends_told es))
      (held_at (map (arrived 0) messages) x) refl z h) [
        | inl here ↦ (here.0, or_left (ends (message_id_of z) (entry.Invalid x)) (list_any (ends (message_id_of z)) es) here.1)
        | inr later ↦ let r = of_told es z later in (r.0, or_right (ends (message_id_of z) (entry.Invalid x)) (list_any (ends (message_id_of z)) es) r.1)
      ]
  of_told (e ∷ es) z h =
      let r = of_told es z h in (r.0, or_right (ends (message_id_of z) e) (list_any (ends (message_id_of z)) es) r.1)

  to_line : (x : Id) (rest : List MessageValue) (z : MessageValue) → In z messages → same_id x (message_id_of z) ≡ true
      → In z (message_in (held_at (map (arrived 0) messages) x) ++ rest)
  to_line x rest z inside same =
      let found : held_at (map (arrived 0) messages) x ≡ Some (arrived 0 z) =
      ap (held_at (map (arrived 0) messages)) (same_id-is x (message_id_of z) same) ∙ names z inside in
      subst (λ o. In z (message_in o ++ rest)) (sym found) (inl refl)

  -- a message that an entry ends has a line
  pub to_told : (es : List Entry) (z : MessageValue) → In z messages → list_any (ends (message_id_of z)) es ≡ true
      → In z (messages_at (map (arrived 0) messages) (ends_told es))
  to_told [] z inside h = absurd (false≢true h)
  to_told (entry.Deliver x ∷ es) z inside h =
      let rest : List MessageValue = messages_at (map (arrived 0) messages) (ends_told es) in
      elim (or_cases (ends (message_id_of z) (entry.Deliver x)) (list_any (ends (message_id_of z)) es) h) [
        | inl here ↦ to_line x rest z inside (sym (or_false (same_id x (message_id_of z))) ∙ here)
        | inr later ↦ In-append_right z (message_in (held_at (map (arrived 0) messages) x)) rest (to_told es z inside later)
      ]
  to_told (entry.Invalid x ∷ es) z inside h =
      let rest : List MessageValue = messages_at (map (arrived 0) messages) (ends_told es) in
      elim (or_cases (ends (message_id_of z) (entry.Invalid x)) (list_any (ends (message_id_of z)) es) h) [
        | inl here ↦ to_line x rest z inside here
        | inr later ↦ In-append_right z (message_in (held_at (map (arrived 0) messages) x)) rest (to_told es z inside later)
      ]
  to_told (e ∷ es) z inside h = to_told es z inside h

  no_second : (x : Id) (e : Entry) (es : List Entry) → ((id : Id) → ends id e ≡ same_id x id) → ((id : Id) → tally (ends id) (e ∷ es) ≤ 1)
      → (z : MessageValue) → message_id_of z ≡ x
      → In z (messages_at (map (arrived 0) messages) (ends_told es)) → ⊥
  no_second x e es is few z named inside =
      let id : Id = message_id_of z in
      let more : 1 ≤ tally (ends id) es = any_tally (ends id) es (of_told es z inside).1 in
      let here : ends id e ≡ true = is id ∙ ap (same_id x) named ∙ same_id_itself x in
      let two : cond (ends id e) (1 + tally (ends id) es) (tally (ends id) es) ≤ 1 = few id in
      let both : 1 + tally (ends id) es ≤ 1 = subst (λ b. cond b (1 + tally (ends id) es) (tally (ends id) es) ≤ 1) here two in
      omega arith

  fewer : (e : Entry) (es : List Entry) → ((id : Id) → tally (ends id) (e ∷ es) ≤ 1) → (id : Id) → tally (ends id) es ≤ 1
  fewer e es few id =
      elim (ends id e) as (λ b. cond b (1 + tally (ends id) es) (tally (ends id) es) ≤ 1 → tally (ends id) es ≤ 1) [
        | true ↦ λ h. omega arith
        | false ↦ λ h. h
      ] (few id)

  distinct_line : (x : Id) (e : Entry) (es : List Entry) → ((id : Id) → ends id e ≡ same_id x id) → ((id : Id) → tally (ends id) (e ∷ es) ≤ 1)
      → (o : Option Held) → held_at (map (arrived 0) messages) x ≡ o
      → IsDistinct (messages_at (map (arrived 0) messages) (ends_told es))
      → IsDistinct (message_in o ++ messages_at (map (arrived 0) messages) (ends_told es))
  distinct_line x e es is few None found d = d
  distinct_line x e es is few (Some h) found d = (no_second x e es is few h.message (found_in messages x h found).1, d)

  -- no message has two lines
  pub distinct_told : (es : List Entry) → ((id : Id) → tally (ends id) es ≤ 1)
      → IsDistinct (messages_at (map (arrived 0) messages) (ends_told es))
  distinct_told [] few = tt
  distinct_told (entry.Deliver x ∷ es) few =
      distinct_line x (entry.Deliver x) es (λ id. or_false (same_id x id)) few (held_at (map (arrived 0) messages) x) refl
      (distinct_told es (fewer (entry.Deliver x) es few))
  distinct_told (entry.Invalid x ∷ es) few =
      distinct_line x (entry.Invalid x) es (λ id. refl) few (held_at (map (arrived 0) messages) x) refl
      (distinct_told es (fewer (entry.Invalid x) es few))
  distinct_told (e ∷ es) few = distinct_told es (fewer e es few)

  -- ---- their text

  module _ (g : Graph) where
    -- the entries say what the states are
    pub record IsRight (es : List Entry) : Type 0 where
      pub delivered : (m : MessageValue) → In m messages → list_any (delivers (message_id_of m)) es ≡ true → state_of g m ≡ fate_kind.Delivered
      pub invalid : (m : MessageValue) → In m messages → list_any (invalidates (message_id_of m)) es ≡ true → state_of g m ≡ fate_kind.Invalid

    right_behind : (e : Entry) (es : List Entry) → IsRight (e ∷ es) → IsRight es
    right_behind e es r = record {
      delivered = λ m inside h. r.delivered m inside (or_right (delivers (message_id_of m) e) (list_any (delivers (message_id_of m)) es) h);
      invalid = λ m inside h. r.invalid m inside (or_right (invalidates (message_id_of m) e) (list_any (invalidates (message_id_of m)) es) h);
    }

    line_text : (state : Fate) (x : Id) (rest : List FateLine) (o : Option Held)
        → held_at (map (arrived 0) messages) x ≡ o
        → ((m : MessageValue) → In m messages → same_id x (message_id_of m) ≡ true → state_of g m ≡ state)
        → lines_text (map (arrived 0) messages) rest
        ≡ flat_map (state_line g) (messages_at (map (arrived 0) messages) rest)
        → line_at state x o ++ lines_text (map (arrived 0) messages) rest
        ≡ flat_map (state_line g) (message_in o ++ messages_at (map (arrived 0) messages) rest)
    line_text state x rest None found right same = same
    line_text state x rest (Some h) found right same =
        let at = found_in messages x h found in
        let is : state_of g h.message ≡ state = right h.message at.0 (ap (same_id x) at.1 ∙ same_id_itself x) in
        (λ i. line_of (sym is i) (sym at.1 i) h.message ++ same i)

    pub told_text : (es : List Entry) → IsRight es → lines_text (map (arrived 0) messages)
        (ends_told es) ≡ flat_map (state_line g)
        (messages_at (map (arrived 0) messages) (ends_told es))
    told_text [] r = refl
    told_text (entry.Deliver x ∷ es) r =
        line_text fate_kind.Delivered x (ends_told es) (held_at (map (arrived 0) messages) x) refl
        (λ m inside h. r.delivered m inside (or_left (same_id x (message_id_of m)) (list_any (delivers (message_id_of m)) es) h))
        (told_text es (right_behind (entry.Deliver x) es r))
    told_text (entry.Invalid x ∷ es) r =
        line_text fate_kind.Invalid x (ends_told es) (held_at (map (arrived 0) messages) x) refl
        (λ m inside h. r.invalid m inside (or_left (same_id x (message_id_of m)) (list_any (invalidates (message_id_of m)) es) h))
        (told_text es (right_behind (entry.Invalid x) es r))
    told_text (e ∷ es) r = told_text es (right_behind e es r)

    waits : (m : MessageValue) → is_decided g m ≡ false → state_of g m ≡ fate_kind.Pending
    waits m e =
        let both = or_parts (is_good g m) (is_bad g m) e in
        (λ i. cond (both.0 i) fate_kind.Delivered (cond (both.1 i) fate_kind.Invalid fate_kind.Pending))

    -- the messages that have no end
    pub unended_text : (f : Facts) → ((m : MessageValue) → is_ended f (message_id_of m) ≡ is_decided g m) → (some : List MessageValue)
        → ((m : MessageValue) → In m some → In m messages)
        → lines_text (map (arrived 0) messages) (unended f (map (arrived 0) some))
        ≡ flat_map (state_line g) (filter (λ m. not (is_decided g m)) some)
    unended_text f same [] inside = refl
    unended_text f same (m ∷ some) inside =
        let rest = unended_text f same some (λ x h. inside x (inr h)) in
        ap (λ b. lines_text (map (arrived 0) messages)
        (cond b (unended f (map (arrived 0) some)) ((fate_kind.Pending, message_id_of m)
        ∷ unended f (map (arrived 0) some)))) (same m)
        ∙ elim (is_decided g m) as (λ b. is_decided g m ≡ b →
        lines_text (map (arrived 0) messages)
        (cond b (unended f (map (arrived 0) some)) ((fate_kind.Pending, message_id_of m)
        ∷ unended f (map (arrived 0) some)))
        ≡ flat_map (state_line g) (cond (not b) (m ∷ filter (λ m. not (is_decided g m)) some) (filter (λ m. not (is_decided g m)) some))) [
          | true ↦ λ e. rest
          | false ↦ λ e. (λ i. line_at fate_kind.Pending (message_id_of m) (names m (inside m (inl refl)) i) ++ rest i) ∙ (λ i. line_of (sym (waits m e) i) (message_id_of m) m ++ flat_map (state_line g) (filter (λ m. not (is_decided g m)) some))
        ] refl
