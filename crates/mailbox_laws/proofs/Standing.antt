-- What stands behind records that were taken, said against the facts at the start: nothing of the order of the records
-- is in it.
use Rattle.std.proofs.Common.{◌≡◌, ℕ, Bool, true, false, not, cond, ◌&&◌, ◌||◌, ◌⊎◌, List, [], ◌∷◌, ◌++◌, refl, sym, ◌∙◌, ap, subst, inl, inr, Option, Some, None, is_some, nat_eq, eq-eqb}
use Rattle.std.specs.Prelude.{is_none}
use Rattle.std.specs.List.{list_any}
use Rattle.std.proofs.lemmas.Bool.{and_parts, and_from, or_left, false≢true}
use Rattle.sync_ids.specs.Values.{MessageValue}
use Rattle.sync_ids.specs.Ids.{message_id_of}
use Rattle.sync_ids.specs.declared.records.Record.{Record}
use Rattle.sync_ids.specs.declared.records.Record.TheVariants as record_kind
use Rattle.sync_rules.specs.declared.entries.Entry.{Entry}
use Rattle.sync_rules.specs.declared.entries.Entry.TheVariants as entry
use Rattle.sync_rules.specs.Consistency.{HasHeld}
use Rattle.sync_rules.specs.Facts.{Facts, Held, Id, after, arrived, contact_of, group_at, held_at, is_held, is_invisible, level_at, row_at}
use Rattle.sync_rules.specs.Growth.{OnlySettles}
use Rattle.sync_rules.specs.Heard.{arrives, heard, held_by, is_new_or_shown, says_seen}
use Rattle.sync_rules.specs.Lists.{In, is_among, same_id}
use Rattle.sync_rules.specs.Sessions.{is_shown, is_shown_held, is_welcome, taken}
use Rattle.sync_rules.proofs.ConsistencyLaws.{held_at-cases}
use Rattle.sync_rules.proofs.Elements.{In-append_left, In-append_right, In-push_cases, any-append, same_id_itself}
use Rattle.sync_rules.proofs.Flags.{is_held-push}
use Rattle.sync_rules.proofs.RecordLaws.{held_by_records, seen_by_records}
use Rattle.sync_rules.proofs.Sound.{held_at-In, held_at-push}
use Rattle.sync_rules.proofs.StepKinds.{LeftByRecord, all_of_record, is_of_record, is_taken_on, left_all}
use Rattle.mailbox_laws.specs.Order.{HaveOwnIds, IsThere}
use Rattle.mailbox_laws.proofs.Tests.{any_at, holds_at}

-- ---- the invariant

-- by the facts at the start a record shows that the contact has the message of an id. An ACK or an OFFER of a message
-- that is
-- not held at the start shows nothing: such a message comes to be held by a MESSAGE alone, which shows it by itself
abbrev pub shows : ℕ → Facts → Id → Record → Bool
shows contact s id (record_kind.Ack ids) = is_among ids id && is_shown s contact id
shows contact s id (record_kind.Message m) = same_id (message_id_of m) id && is_welcome s contact m.group
shows contact s id (record_kind.Offer ids) = is_among ids id && is_shown s contact id
shows contact s id _ = false

-- a message came in one of these records, its group being known at the start and not Invisible to the contact
pub record CameIn (contact : ℕ) (s : Facts) (done : List Record) (id : Id) (m : MessageValue) : Type 0 where
  pub stands : In (record_kind.Message m) done
  pub welcome : is_welcome s contact m.group ≡ true
  pub named : id ≡ message_id_of m

-- what stands behind the facts `s` at the start once these records are taken
pub record Stands (contact : ℕ) (s : Facts) (done : List Record) (f : Facts) : Type 0 where
  pub groups : f.groups ≡ s.groups
  pub levels : f.levels ≡ s.levels
  pub kept : (id : Id) (h : Held) → held_at s.held id ≡ Some h → held_at f.held id ≡ Some h
  pub came : (id : Id) (h : Held) → held_at f.held id ≡ Some h → (held_at s.held id ≡ Some h)
      ⊎ CameIn contact s done id h.message
  pub holds : (m : MessageValue) → In (record_kind.Message m) done → is_welcome s contact m.group ≡ true
      → is_held f.held (message_id_of m) ≡ true
  pub seen : (id : Id) → (row_at f.rows contact id).seen ≡
      (list_any (shows contact s id) done || (row_at s.rows contact id).seen)

pub stands_first : (contact : ℕ) (s : Facts) → Stands contact s [] s
stands_first contact s = record {
  groups = refl;
  levels = refl;
  kept = λ id h e. e;
  came = λ id h e. inl e;
  holds = λ m inside w. absurd inside;
  seen = λ id. refl;
}

-- all that the invariant reads is the same
pub stands_same : (contact : ℕ) (s f g : Facts) (done : List Record) → g.groups ≡ f.groups → g.levels ≡ f.levels
    → g.held ≡ f.held → g.rows ≡ f.rows
    → Stands contact s done f → Stands contact s done g
stands_same contact s f g done groups levels held rows st = record {
  groups = groups ∙ st.groups;
  levels = levels ∙ st.levels;
  kept = λ id h e. ap (λ (hs : List Held). held_at hs id) held ∙ st.kept id h e;
  came = λ id h e. st.came id h (ap (λ (hs : List Held). held_at hs id) (sym held) ∙ e);
  holds = λ m inside w. ap (λ (hs : List Held). is_held hs (message_id_of m)) held ∙ st.holds m inside w;
  seen = λ id. ap (λ rows. (row_at rows contact id).seen) rows ∙ st.seen id;
}

pub stands_settled : (contact : ℕ) (s f g : Facts) (done : List Record) → OnlySettles f g → Stands contact s done f
    → Stands contact s done g
stands_settled contact s f g done only st =
    stands_same contact s f g done only.groups only.levels only.held only.rows st

-- ---- look-ups

is_new_or_in : (o : Option Held) → (o ≡ None) ⊎ ((h : Held) × (o ≡ Some h))
is_new_or_in None = inl refl
is_new_or_in (Some h) = inr (h, refl)

-- ---- one record more

module _ (contact : ℕ) (s : Facts) (all : List Record) (own : HaveOwnIds s all) (names : HasHeld s) where
  module _ (done : List Record) (f : Facts) (st : Stands contact s done f) where
    welcome_same : (group : Id) → is_welcome f contact group ≡ is_welcome s contact group
    welcome_same group = λ i.
        is_some (group_at (st.groups i) group) && not (is_invisible (level_at (st.levels i) contact group))

    shown_same : (o : Option Held) → is_shown_held f contact o ≡ is_shown_held s contact o
    shown_same None = refl
    shown_same (Some h) = λ i. not (is_invisible (level_at (st.levels i) contact h.message.group))

    -- a message that is held stood at the start or in a record, and its id is its own
    held_there : (within : (r : Record) → In r done → In r all) (id : Id) (h : Held) → held_at f.held id ≡ Some h
        → IsThere s all h.message × (id ≡ message_id_of h.message)
    held_there within id h e =
        elim (st.came id h e) [
          | inl was ↦ (inl (holds_at s.held h (held_at-In s.held id h was)), (names.each id h was).is_id)
          | inr c ↦ (inr (within (record_kind.Message h.message) c.stands), c.named)
        ]

    -- what an ACK or an OFFER shows now it showed at the start, or a MESSAGE has shown it
    shown_cases : (id : Id) (a : Bool) → ((a && is_shown f contact id) || list_any (shows contact s id) done)
        ≡ ((a && is_shown s contact id) || list_any (shows contact s id) done)
    shown_cases id false = refl
    shown_cases id true =
        elim (is_new_or_in (held_at s.held id)) [
          | inr was ↦
              let now : held_at f.held id ≡ Some was.0 = st.kept id was.0 was.1 in
              ap (λ b. b || list_any (shows contact s id) done)
              (ap (is_shown_held f contact) now ∙ (shown_same (Some was.0) ∙ ap (is_shown_held s contact) (sym was.1)))
          | inl none ↦
              elim (is_new_or_in (held_at f.held id)) [
                | inl still ↦ ap (λ b. b || list_any (shows contact s id) done)
                    (ap (is_shown_held f contact) still ∙ ap (is_shown_held s contact) (sym none))
                | inr h ↦
                    elim (st.came id h.0 h.1) [
                      | inl was ↦ absurd (false≢true (sym (ap is_some none) ∙ ap is_some was))
                      | inr c ↦ by_any (is_shown f contact id) (is_shown s contact id)
                          (list_any (shows contact s id) done)
                          (any_at (shows contact s id) done (record_kind.Message h.0.message) c.stands
                          (and_from (same_id (message_id_of h.0.message) id) (is_welcome s contact h.0.message.group)
                          (ap (λ (x : Id). same_id x id) (sym c.named) ∙ same_id_itself id) c.welcome))
                    ]
              ]
        ]
      where
        by_any : (x y t : Bool) → t ≡ true → (x || t) ≡ (y || t)
        by_any x y true e = or_true x ∙ sym (or_true y) where
          or_true : (b : Bool) → (b || true) ≡ true
          or_true true = refl
          or_true false = refl
        by_any x y false e = absurd (false≢true e)

    -- a MESSAGE that is welcome is new, or came before, and then in its own group
    new_or_shown : (within : (r : Record) → In r done → In r all) (m : MessageValue) → In (record_kind.Message m) all
        → is_welcome f contact m.group ≡ true
        → is_new_or_shown f contact (held_at f.held (message_id_of m)) ≡ true
    new_or_shown within m inside welcome =
        elim (is_new_or_in (held_at f.held (message_id_of m))) [
          | inl none ↦ ap (is_new_or_shown f contact) none
          | inr h ↦
              let there = held_there within (message_id_of m) h.0 h.1 in
              let one : m ≡ h.0.message = own m h.0.message (inr inside) there.0 there.1 in
              ap (is_new_or_shown f contact) h.1
              ∙ (ap (λ (x : MessageValue). not (is_invisible (level_at f.levels contact x.group))) (sym one)
              ∙ (and_parts (is_some (group_at f.groups m.group))
              (not (is_invisible (level_at f.levels contact m.group))) welcome).1)
        ]

    message_says : (within : (r : Record) → In r done → In r all) (m : MessageValue) → In (record_kind.Message m) all →
        (id : Id)
        → says_seen f contact (record_kind.Message m) id ≡ shows contact s id (record_kind.Message m)
    message_says within m inside id =
        ap (λ b. same_id (message_id_of m) id && b) (by (is_welcome f contact m.group) refl)
      where
        by : (w : Bool) → is_welcome f contact m.group ≡ w
            → (is_welcome f contact m.group && is_new_or_shown f contact (held_at f.held (message_id_of m)))
            ≡ is_welcome s contact m.group
        by true e =
            (λ i. e i && new_or_shown within m inside e i) ∙ (sym e ∙ welcome_same m.group)
        by false e =
            ap (λ b. b && is_new_or_shown f contact (held_at f.held (message_id_of m))) e ∙
            (sym e ∙ welcome_same m.group)

    -- a: the record says so now; b: it shows so by the start; d: an earlier record does; w: it was so at the start
    in_turn : (a b d w : Bool) → (a || d) ≡ (b || d) → (a || (d || w)) ≡ ((d || (b || false)) || w)
    in_turn true true true w e = refl
    in_turn true true false w e = refl
    in_turn false false true w e = refl
    in_turn false false false w e = refl
    in_turn true false true w e = refl
    in_turn true false false w e = absurd (false≢true (sym e))
    in_turn false true true w e = refl
    in_turn false true false w e = absurd (false≢true e)

    says : (within : (x : Record) → In x done → In x all) (r : Record) → In r all → (id : Id)
        → (says_seen f contact r id || list_any (shows contact s id) done) ≡
        (shows contact s id r || list_any (shows contact s id) done)
    says within (record_kind.Ack ids) inside id = shown_cases id (is_among ids id)
    says within (record_kind.Message m) inside id =
        ap (λ b. b || list_any (shows contact s id) done) (message_says within m inside id)
    says within (record_kind.Offer ids) inside id = shown_cases id (is_among ids id)
    says within (record_kind.Request ids) inside id = refl
    says within (record_kind.Versions versions) inside id = refl
    says within (record_kind.Priority nonce) inside id = refl

    seen_more : (within : (x : Record) → In x done → In x all) (r : Record) → In r all → (id : Id)
        → (says_seen f contact r id || (row_at f.rows contact id).seen)
        ≡ (list_any (shows contact s id) (done ++ r ∷ []) || (row_at s.rows contact id).seen)
    seen_more within r inside id =
        ap (λ b. says_seen f contact r id || b) (st.seen id)
        ∙ (in_turn (says_seen f contact r id) (shows contact s id r) (list_any (shows contact s id) done)
        (row_at s.rows contact id).seen
        (says within r inside id)
        ∙ ap (λ b. b || (row_at s.rows contact id).seen) (sym (any-append (shows contact s id) done (r ∷ []))))

    -- ---- the held messages

    earlier : (r : Record) (id : Id) (m : MessageValue) → CameIn contact s done id m → CameIn contact s (done ++ r ∷ [])
        id m
    earlier r id m c =
        record {
          stands = In-append_left (record_kind.Message m) done (r ∷ [])
              c.stands;
          welcome = c.welcome;
          named = c.named;
        }

    -- a message that arrived is in this record
    came_more : (r : Record) (id : Id) (h : Held) → held_at (held_by f contact r) id ≡ Some h
        → (held_at s.held id ≡ Some h) ⊎ CameIn contact s (done ++ r ∷ []) id h.message
    came_more r id h e = by r refl e where
      before : held_at f.held id ≡ Some h → (held_at s.held id ≡ Some h) ⊎ CameIn contact s (done ++ r ∷ [])
          id h.message
      before at = elim (st.came id h at) [ inl was ↦ inl was | inr c ↦ inr (earlier r id h.message c) ]

      by_message : (m : MessageValue) → r ≡ record_kind.Message m → (a : Bool) → arrives f contact m ≡ a
          → held_at (cond a (f.held ++ arrived contact m ∷ []) f.held) id ≡ Some h
          → (held_at s.held id ≡ Some h) ⊎ CameIn contact s (done ++ r ∷ []) id h.message
      by_message m is false a at = before at
      by_message m is true a at =
          elim (held_at-cases f.held (arrived contact m) id h at) [
            | inl was ↦ before was
            | inr new ↦
                let same : h.message ≡ m = ap (λ (x : Held). x.message) new.0 in
                let parts = and_parts (is_welcome f contact m.group) (is_none (held_at f.held (message_id_of m))) a in
                let stands : In (record_kind.Message h.message) (done ++ r ∷ []) =
                In-append_right (record_kind.Message h.message) done (r ∷ [])
                (inl (ap (λ (x : MessageValue). record_kind.Message x) same ∙ sym is)) in
                inr (record {
                  stands = stands;
                  welcome =
                      ap (λ (x : MessageValue). is_welcome s contact x.group) same ∙
                      (sym (welcome_same m.group) ∙ parts.0);
                  named = sym new.1 ∙ ap message_id_of (sym same);
                })
          ]

      by : (x : Record) → r ≡ x → held_at (held_by f contact x) id ≡ Some h
          → (held_at s.held id ≡ Some h) ⊎ CameIn contact s (done ++ r ∷ []) id h.message
      by (record_kind.Message m) is at = by_message m is (arrives f contact m) refl at
      by _ is at = before at

    kept_one : (a : Bool) (x : Held) (id : Id) (h : Held) → held_at f.held id ≡ Some h → held_at
        (cond a (f.held ++ x ∷ []) f.held) id ≡ Some h
    kept_one true x id h e = held_at-push f.held x id h e
    kept_one false x id h e = e

    kept_more : (r : Record) (id : Id) (h : Held) → held_at f.held id ≡ Some h → held_at (held_by f contact r) id
        ≡ Some h
    kept_more (record_kind.Message m) id h e = kept_one (arrives f contact m) (arrived contact m) id h e
    kept_more _ id h e = e

    still_held : (r : Record) (id : Id) → is_held f.held id ≡ true → is_held (held_by f contact r) id ≡ true
    still_held r id h = by (held_at f.held id) refl h where
      by : (o : Option Held) → held_at f.held id ≡ o → is_some o ≡ true → is_held (held_by f contact r) id ≡ true
      by None e k = absurd (false≢true k)
      by (Some x) e k = ap is_some (kept_more r id x e)

    -- a welcome MESSAGE is held behind it
    now_held : (m : MessageValue) → is_welcome s contact m.group ≡ true → is_held
        (held_by f contact (record_kind.Message m)) (message_id_of m) ≡ true
    now_held m welcome = by (held_at f.held (message_id_of m)) refl where
      by : (o : Option Held) → held_at f.held (message_id_of m) ≡ o → is_held
          (held_by f contact (record_kind.Message m)) (message_id_of m) ≡ true
      by (Some h) e = ap is_some (kept_more (record_kind.Message m) (message_id_of m) h e)
      by None e =
          let new : arrives f contact m ≡ true =
          and_from (is_welcome f contact m.group) (is_none (held_at f.held (message_id_of m)))
          (welcome_same m.group ∙ welcome) (ap is_none e) in
          ap (λ b. is_held (cond b (f.held ++ arrived contact m ∷ []) f.held) (message_id_of m)) new
          ∙ (is_held-push f.held (arrived contact m) (message_id_of m)
          ∙ or_left (same_id (message_id_of m) (message_id_of m)) (is_held f.held (message_id_of m))
          (same_id_itself (message_id_of m)))

    holds_more : (r : Record) (m : MessageValue) → In (record_kind.Message m) (done ++ r ∷ [])
        → is_welcome s contact m.group ≡ true
        → is_held (held_by f contact r) (message_id_of m) ≡ true
    holds_more r m inside welcome =
        elim (In-push_cases (record_kind.Message m) r done inside) [
          | inl was ↦ still_held r (message_id_of m) (st.holds m was welcome)
          | inr is ↦ subst (λ (x : Record). is_held (held_by f contact x) (message_id_of m) ≡ true) is
              (now_held m welcome)
        ]

    -- ---- together

    taken_of_record : (session : ℕ) (e : Entry) → is_taken_on session e ≡ true → is_of_record e ≡ true
    taken_of_record session (entry.Arrive n m) k = refl
    taken_of_record session (entry.Again n id) k = refl
    taken_of_record session (entry.Offered n id) k = refl
    taken_of_record session (entry.Seen n id) k = refl
    taken_of_record session (entry.Asked n id) k = refl
    taken_of_record session _ k = absurd (false≢true k)

    left : (session k : ℕ) (r : Record) → LeftByRecord (after f (entry.Take session k)) (heard f session k r)
    left session k r =
        left_all (after f (entry.Take session k)) (taken f session r)
        (all_of_record is_of_record session (taken_of_record session) f r)

    -- behind one record more on a session with the contact
    pub stands_heard : (within : (x : Record) → In x done → In x all) (session k : ℕ) (r : Record) → In r all
        → contact_of f.sessions session ≡ contact
        → Stands contact s (done ++ r ∷ []) (heard f session k r)
    stands_heard within session k r inside with_contact =
        let g : Facts = heard f session k r in
        let held : g.held ≡ held_by f contact r = held_by_records f session k r ∙ ap (λ c. held_by f c r)
        with_contact in
        record {
          groups = (left session k r).groups ∙ st.groups;
          levels = (left session k r).levels ∙ st.levels;
          kept = λ id h e. ap (λ (hs : List Held). held_at hs id) held ∙ kept_more r id h (st.kept id h e);
          came = λ id h e. came_more r id h (ap (λ (hs : List Held). held_at hs id) (sym held) ∙ e);
          holds =
              λ m there welcome. ap (λ (hs : List Held). is_held hs (message_id_of m)) held
              ∙ holds_more r m there welcome;
          seen = λ id.
              seen_by_records f session k r contact id
              ∙ (ap (λ c. (nat_eq contact c && says_seen f c r id) || (row_at f.rows contact id).seen) with_contact
              ∙ (ap (λ b. (b && says_seen f contact r id) || (row_at f.rows contact id).seen)
              (eq-eqb contact contact refl)
              ∙ seen_more within r inside id));
        }
