-- Each entry of a legal journal meets what it must at its place.
use Rattle.std.proofs.Common.{◌≡◌, ℕ, ◌+◌, ◌-◌, ◌<◌, ◌≤◌, Bool, true, false, not, cond, ◌&&◌, ◌||◌, List, [], ◌∷◌, ◌++◌, length, length-append, refl, sym, ◌∙◌, ap, subst, arith, Option, Some, None, is_some}
use Rattle.std.specs.Prelude.{nat_lt}
use Rattle.std.specs.FinMap as fin_map
use Rattle.std.specs.Ordering.{nat_cmp}
use Rattle.std.specs.Cmp.{nat_eq_equiv}
use Rattle.std.proofs.lemmas.Bool.{and_parts, or_parts, or_left, or_right, false≢true, not-true, ltb-true}
use Rattle.sync_ids.specs.Values.{MessageValue}
use Rattle.sync_ids.specs.Ids.{message_id_of}
use Rattle.sync_ids.specs.declared.records.Record.{Record}
use Rattle.sync_ids.specs.declared.records.Record.TheVariants as record_kind
use Rattle.sync_rules.specs.declared.entries.Entry.{Entry}
use Rattle.sync_rules.specs.declared.entries.Entry.TheVariants as entry
use Rattle.sync_rules.specs.declared.states.Start.{Start}
use Rattle.sync_rules.specs.declared.states.Start.TheVariants as start
use Rattle.sync_rules.specs.Clients.{Meaning}
use Rattle.sync_rules.specs.Lists.{same_id, is_among, has_repeat, firsts}
use Rattle.sync_rules.specs.Facts.{Facts, Held, Id, Rows, Wants, after, after_all, nothing, entries_of, group_at, held_at, is_held, session_at, contact_of, level_at, is_invisible, row_at, wanted_from, change_row, row_heard, row_seen, row_asked, start_after, with_want}
use Rattle.sync_rules.specs.Steps.{IsSettled, next}
use Rattle.sync_rules.specs.Sessions.{taken, taken_message, taken_message_of, taken_acks, taken_requests, taken_offers, one_if, is_welcome, is_shown, is_shown_held, is_remembered, room_after}
use Rattle.sync_rules.specs.Legal.{Allowed, AreRows, GoesOn, Legal, IsSettling, MayStandAlone}
use Rattle.sync_rules.specs.Legal.{SuitsRows}
use Rattle.sync_rules.specs.Meeting.{IsNamedHeld, MeetsNoStep, AllMeet, EachMeets}
use Rattle.sync_rules.proofs.BatchKinds.{TakesNext, by_kind}
use Rattle.sync_rules.proofs.Elements.{among-push, same_id-is, same_id_itself}
use Rattle.sync_rules.proofs.StepLaws.{next_is_settling}
use Rattle.sync_rules.proofs.Kept.{Fits}
use Rattle.sync_rules.proofs.RowLaws.{firsts_distinct}
use Rattle.sync_rules.proofs.PeerFacts.{want_changed}
use Rattle.sync_rules.proofs.StepKinds.{same_next, settled_stays}

-- ---- the entries of a record

-- what the entries of a record before the last may change: the journal has a record, so it is no brief account alone
abbrev at : Facts → fin_map.FinMap nat_cmp ℕ → Rows → Wants → Facts
at f takes rows wanted = record f { start = start.Going; takes = takes; rows = rows; wanted = wanted }

-- a journal with a record is no brief account alone
goes_with_take : (s : Start) (session k : ℕ) → start_after s (entry.Take session k) ≡ start.Going
goes_with_take start.Empty session k = refl
goes_with_take start.Opening session k = refl
goes_with_take start.Going session k = refl

shown_at : (f : Facts) (takes : fin_map.FinMap nat_cmp ℕ) (rows : Rows) (wanted : Wants) (contact : ℕ) (o : Option Held)
    → is_shown_held f contact o ≡ true → is_shown_held (at f takes rows wanted) contact o ≡ true
shown_at f takes rows wanted contact None s = s
shown_at f takes rows wanted contact (Some h) s = s

shown_is_held : (f : Facts) (contact : ℕ) (o : Option Held) → is_shown_held f contact o ≡ true → is_some o ≡ true
shown_is_held f contact None s = absurd (false≢true s)
shown_is_held f contact (Some h) s = refl

none_there : (o : Option Held) → not (is_some o) ≡ true → is_some o ≡ false
none_there None e = refl
none_there (Some h) e = absurd (false≢true e)

-- a later id of distinct ones is another
other_id : (x y : Id) (ids : List Id) → is_among ids x ≡ false → is_among ids y ≡ true → (b : Bool) → same_id x y ≡ b → b ≡ false
other_id x y ids none some false e = refl
other_id x y ids none some true e =
    let same : x ≡ y = same_id-is x y e in
    absurd (false≢true (sym none ∙ (ap (is_among ids) same ∙ some)))

module _ (clients : Meaning) (f : Facts) (session : ℕ) (known : is_some (session_at f.sessions session) ≡ true) (settled : IsSettled clients f)
    (takes : fin_map.FinMap nat_cmp ℕ) where
  abbrev contact : ℕ
  contact = contact_of f.sessions session

  settled_at : (rows : Rows) (wanted : Wants) → IsSettled clients (at f takes rows wanted)
  settled_at rows wanted =
      same_next clients f (at f takes rows wanted) (record { groups = refl; held = refl; judged = refl; invalid = refl; delivered = refl }) ∙ settled

  named_held : (rows : Rows) (wanted : Wants) (id : Id) → is_shown f contact id ≡ true → IsNamedHeld (at f takes rows wanted) session id
  named_held rows wanted id s = record {
    known_session = known;
    held = shown_is_held f contact (held_at f.held id) s;
    shown = shown_at f takes rows wanted contact (held_at f.held id) s;
  }

  meets_acks : (rows : Rows) (wanted : Wants) (ids : List Id) → AllMeet clients (at f takes rows wanted) (taken_acks f session contact ids)
  meets_acks rows wanted [] = tt
  meets_acks rows wanted (id ∷ ids) =
      elim (is_shown f contact id && not (row_at f.rows contact id).seen) as (λ b. (is_shown f contact id && not (row_at f.rows contact id).seen) ≡ b
      → AllMeet clients (at f takes rows wanted) (one_if b (entry.Seen session id) ++ taken_acks f session contact ids)) [
        | true ↦ λ e.
            let shown : is_shown f contact id ≡ true = (and_parts (is_shown f contact id) (not (row_at f.rows contact id).seen) e).0 in (
              (settled_at rows wanted, named_held rows wanted id shown),
              meets_acks (change_row rows contact id row_seen) wanted ids,
            )
        | false ↦ λ e. meets_acks rows wanted ids
      ] refl

  meets_requests : (rows : Rows) (wanted : Wants) (ids : List Id) → AllMeet clients (at f takes rows wanted) (taken_requests f session contact ids)
  meets_requests rows wanted [] = tt
  meets_requests rows wanted (id ∷ ids) =
      elim (is_shown f contact id) as (λ b. is_shown f contact id ≡ b
      → AllMeet clients (at f takes rows wanted) (one_if b (entry.Asked session id) ++ taken_requests f session contact ids)) [
        | true ↦ λ shown. (
          (settled_at rows wanted, named_held rows wanted id shown),
          meets_requests (change_row rows contact id row_asked) wanted ids,
        )
        | false ↦ λ e. meets_requests rows wanted ids
      ] refl

  -- the later ids of an OFFER are wanted just where they were, and the room counts the ids that may be wanted yet
  record HasRoom (wanted : Wants) (room : ℕ) (ids : List Id) : Type 0 where
    same : (id : Id) → is_among ids id ≡ true → is_among (wanted_from wanted contact) id ≡ is_among (wanted_from f.wanted contact) id
    fits : 0 < room → length (wanted_from wanted contact) + room ≤ 1000

  abbrev with_one : Wants → Id → Wants
  with_one wanted id = fin_map.insert wanted contact (with_want (is_held f.held id) (wanted_from wanted contact) id)

  wanted_more : (wanted : Wants) (id : Id) → is_held f.held id ≡ false → is_among (wanted_from wanted contact) id ≡ false
      → wanted_from (with_one wanted id) contact ≡ wanted_from wanted contact ++ id ∷ []
  wanted_more wanted id new none =
      want_changed wanted contact contact (λ l. with_want (is_held f.held id) l id)
      ∙ (ap (λ b. cond b (with_want (is_held f.held id) (wanted_from wanted contact) id) (wanted_from wanted contact)) (nat_eq_equiv.refl contact)
      ∙ λ i. cond (new i || none i) (wanted_from wanted contact) (wanted_from wanted contact ++ id ∷ []))

  room_there : (wanted : Wants) (room : ℕ) (id : Id) (ids : List Id) → has_repeat (id ∷ ids) ≡ false → HasRoom wanted room (id ∷ ids) → HasRoom wanted room ids
  room_there wanted room id ids distinct h = record {
    same = λ x among. h.same x (or_right (same_id id x) (is_among ids x) among);
    fits = h.fits;
  }

  room_less : (wanted : Wants) (room : ℕ) (id : Id) (ids : List Id) → has_repeat (id ∷ ids) ≡ false → HasRoom wanted room (id ∷ ids)
      → is_held f.held id ≡ false → is_among (wanted_from wanted contact) id ≡ false → HasRoom (with_one wanted id) (room - 1) ids
  room_less wanted room id ids distinct h new none =
      let parts = or_parts (is_among ids id) (has_repeat ids) distinct in
      let more : wanted_from (with_one wanted id) contact ≡ wanted_from wanted contact ++ id ∷ [] = wanted_more wanted id new none in
      record {
        same = λ x among.
            ap (λ (l : List Id). is_among l x) more
            ∙ (among-push (wanted_from wanted contact) id x
            ∙ (ap (λ b. b || is_among (wanted_from wanted contact) x) (other_id id x ids parts.0 among (same_id id x) refl)
            ∙ h.same x (or_right (same_id id x) (is_among ids x) among)));
        fits = λ left.
            let was : length (wanted_from wanted contact) + room ≤ 1000 = h.fits (omega (arith, left)) in
            let longer : length (wanted_from (with_one wanted id) contact) ≡ length (wanted_from wanted contact) + 1 =
            ap length more ∙ length-append (wanted_from wanted contact) (id ∷ []) in
            omega (arith, was, longer, left);
      }

  meets_offers : (rows : Rows) (wanted : Wants) (room : ℕ) (ids : List Id) → has_repeat ids ≡ false → HasRoom wanted room ids
      → AllMeet clients (at f takes rows wanted) (taken_offers f session contact room ids)
  meets_offers rows wanted room [] distinct h = tt
  meets_offers rows wanted room (id ∷ ids) distinct h =
      let parts = or_parts (is_among ids id) (has_repeat ids) distinct in
      let offered : (rows : Rows) → AllMeet clients (at f takes rows wanted)
      (one_if (is_remembered f contact room id) (entry.Offered session id) ++ taken_offers f session contact (room_after (is_remembered f contact room id) room) ids) =
      λ rows.
      elim (is_remembered f contact room id) as (λ b. is_remembered f contact room id ≡ b
      → AllMeet clients (at f takes rows wanted) (one_if b (entry.Offered session id) ++ taken_offers f session contact (room_after b room) ids)) [
        | true ↦ λ e.
            let one = and_parts (not (is_some (held_at f.held id))) (not (is_among (wanted_from f.wanted contact) id) && nat_lt 0 room) e in
            let two = and_parts (not (is_among (wanted_from f.wanted contact) id)) (nat_lt 0 room) one.1 in
            let new : is_held f.held id ≡ false = none_there (held_at f.held id) one.0 in
            let first : is_among (id ∷ ids) id ≡ true = or_left (same_id id id) (is_among ids id) (same_id_itself id) in
            let none : is_among (wanted_from wanted contact) id ≡ false = h.same id first ∙ not-true (is_among (wanted_from f.wanted contact) id) two.0 in
            let left : 0 < room = ltb-true 0 room two.1 in
            let few : length (wanted_from wanted contact) + room ≤ 1000 = h.fits left in (
              (settled_at rows wanted, record { known_session = known; not_held = new; not_wanted = none; few = omega (arith, few, left) }),
              meets_offers rows (with_one wanted id) (room - 1) ids parts.1 (room_less wanted room id ids distinct h new none),
            )
        | false ↦ λ e. meets_offers rows wanted room ids parts.1 (room_there wanted room id ids distinct h)
      ] refl
      in
      elim (is_shown f contact id) as (λ b. is_shown f contact id ≡ b → AllMeet clients (at f takes rows wanted)
      ((one_if b (entry.Again session id) ++ one_if (is_remembered f contact room id) (entry.Offered session id))
      ++ taken_offers f session contact (room_after (is_remembered f contact room id) room) ids)) [
        | true ↦ λ shown. ((settled_at rows wanted, named_held rows wanted id shown), offered (change_row rows contact id row_heard))
        | false ↦ λ e. offered rows
      ] refl

  meets_message : (rows : Rows) (wanted : Wants) (m : MessageValue) → AllMeet clients (at f takes rows wanted) (taken_message f session contact m)
  meets_message rows wanted m =
      elim (is_welcome f contact m.group) as (λ b. is_welcome f contact m.group ≡ b
      → AllMeet clients (at f takes rows wanted) (cond b (taken_message_of f session contact m (held_at f.held (message_id_of m))) [])) [
        | true ↦ λ w.
            let both = and_parts (is_some (group_at f.groups m.group)) (not (is_invisible (level_at f.levels contact m.group))) w in
            elim (held_at f.held (message_id_of m)) as (λ o. held_at f.held (message_id_of m) ≡ o → AllMeet clients (at f takes rows wanted) (taken_message_of f session contact m o)) [
              | None ↦ λ e. (
                (
                  settled_at rows wanted,
                  record {
                    known_session = known;
                    known_group = both.0;
                    new = ap is_some e;
                    shown = not-true (is_invisible (level_at f.levels contact m.group)) both.1;
                  },
                ),
                tt,
              )
              | Some h ↦ λ e.
                  elim (not (is_invisible (level_at f.levels contact h.message.group))) as (λ b. not (is_invisible (level_at f.levels contact h.message.group)) ≡ b
                  → AllMeet clients (at f takes rows wanted) (one_if b (entry.Again session (message_id_of m)))) [
                    | true ↦ λ shown. (
                      (settled_at rows wanted, named_held rows wanted (message_id_of m) (ap (is_shown_held f contact) e ∙ shown)),
                      tt,
                    )
                    | false ↦ λ hidden. tt
                  ] refl
            ] refl
        | false ↦ λ w. tt
      ] refl

  pub meets_record : (r : Record) → AllMeet clients (at f takes f.rows f.wanted) (taken f session r)
  meets_record (record_kind.Ack ids) = meets_acks f.rows f.wanted (firsts ids)
  meets_record (record_kind.Message m) = meets_message f.rows f.wanted m
  meets_record (record_kind.Offer ids) =
      meets_offers f.rows f.wanted _ (firsts ids) (firsts_distinct ids) (record {
        same = λ id among. refl;
        fits = λ left. omega (arith, left);
      })
  meets_record (record_kind.Request ids) = meets_requests f.rows f.wanted (firsts ids)
  meets_record (record_kind.Versions versions) = tt
  meets_record (record_kind.Priority nonce) = tt

-- ---- settling

settling_meets : (clients : Meaning) (f : Facts) (e : Entry) → next clients f ≡ Some e → MeetsNoStep clients f e
settling_meets clients f (entry.Judged id) n = n
settling_meets clients f (entry.Deliver id) n = n
settling_meets clients f (entry.Invalid id) n = n
settling_meets clients f it n = absurd (next_is_settling clients f it n)

pub all_settling_meets : (clients : Meaning) (f : Facts) (es : List Entry) → IsSettling clients f es → AllMeet clients f es
all_settling_meets clients f [] s = tt
all_settling_meets clients f (e ∷ es) s = (settling_meets clients f e s.0, all_settling_meets clients (after f e) es s.1)

-- ---- rows and wanted ids

row_meets : (clients : Meaning) (f : Facts) (e : Entry) → IsSettled clients f → f.start ≡ start.Opening → SuitsRows f e → MeetsNoStep clients f e
row_meets clients f (entry.Tried t) settled opening s = (settled, opening, s)
row_meets clients f (entry.Want c id) settled opening s = (settled, opening, s)
row_meets clients f _ settled opening s = absurd s

-- a row or a wanted id opens no step
row_settles : (clients : Meaning) (f : Facts) (e : Entry) → IsSettled clients f → SuitsRows f e → IsSettled clients (after f e)
row_settles clients f (entry.Tried t) settled s = settled_stays clients f (entry.Tried t ∷ []) refl settled
row_settles clients f (entry.Want c id) settled s = settled_stays clients f (entry.Want c id ∷ []) refl settled
row_settles clients f _ settled s = absurd s

row_opens : (f : Facts) (e : Entry) → f.start ≡ start.Opening → SuitsRows f e → (after f e).start ≡ start.Opening
row_opens f (entry.Tried t) opening s = ap (λ (x : Start). start_after x (entry.Tried t)) opening
row_opens f (entry.Want c id) opening s = ap (λ (x : Start). start_after x (entry.Want c id)) opening
row_opens f _ opening s = absurd s

pub rows_meet : (clients : Meaning) (f : Facts) (es : List Entry) → IsSettled clients f → f.start ≡ start.Opening → AreRows f es → AllMeet clients f es
rows_meet clients f [] settled opening s = tt
rows_meet clients f (e ∷ es) settled opening s = (
  row_meets clients f e settled opening s.0,
  rows_meet clients (after f e) es (row_settles clients f e settled s.0) (row_opens f e opening s.0) s.1,
)

-- ---- batches

stands_meets : (clients : Meaning) (f : Facts) (e : Entry) → IsSettled clients f
    → MayStandAlone clients f e
    → MeetsNoStep clients f e
stands_meets clients f (entry.Contact c) settled may = (settled, may)
stands_meets clients f (entry.Group def) settled may = (settled, may)
stands_meets clients f (entry.Level c g l) settled may = (settled, may)
stands_meets clients f (entry.Session s) settled may = (settled, may)
stands_meets clients f (entry.Author m) settled may = (settled, may)
stands_meets clients f (entry.Out s now what) settled may = (settled, may)
stands_meets clients f (entry.Kept from m) settled may = (settled, may)
stands_meets clients f _ settled may = absurd may

record_meets : (clients : Meaning) (f : Facts) (s k : ℕ) (r : Record) → IsSettled clients f
    → TakesNext f s k r
    → AllMeet clients f (entry.Take s k ∷ taken f s r)
record_meets clients f s k r settled next = (
  (settled, next.known_session, next.numbered),
  subst (λ (from : Start). AllMeet clients
      (record f { start = from; takes = (after f (entry.Take s k)).takes }) (taken f s r))
      (sym (goes_with_take f.start s k))
      (meets_record clients f s next.known_session settled (after f (entry.Take s k)).takes r),
)

pub allowed_meets : (clients : Meaning) (f : Facts) (b : List Entry) → Allowed clients f b → AllMeet clients f b
allowed_meets clients f =
    by_kind clients f (AllMeet clients f) (record {
      alone = λ e settled may. (stands_meets clients f e settled may, tt);
      of_record = record_meets clients f;
      steps = λ e es step is. all_settling_meets clients f (e ∷ es) is.2;
      brief = λ n empty. (empty, tt);
      rows = λ e es row is. rows_meet clients f (e ∷ es) is.settled is.opening is.suits;
    })

-- ---- journals

pub AllMeet-append : (clients : Meaning) (f : Facts) (es fs : List Entry) → AllMeet clients f es → AllMeet clients (after_all f es) fs → AllMeet clients f (es ++ fs)
AllMeet-append clients f [] fs a b = b
AllMeet-append clients f (e ∷ es) fs a b = (a.0, AllMeet-append clients (after f e) es fs a.1 b)

pub AllMeet_back : (clients : Meaning) (f : Facts) (es fs : List Entry) → AllMeet clients f (es ++ fs) → AllMeet clients (after_all f es) fs
AllMeet_back clients f [] fs a = a
AllMeet_back clients f (e ∷ es) fs a = AllMeet_back clients (after f e) es fs a.1

pub goes_on_meets : (clients : Meaning) (f : Facts) (bs : List (List Entry)) → GoesOn clients f bs → AllMeet clients f (entries_of bs)
goes_on_meets clients f [] g = tt
goes_on_meets clients f (b ∷ bs) g =
    AllMeet-append clients f b (entries_of bs) (allowed_meets clients f b g.0) (goes_on_meets clients (after_all f b) bs g.1)

pub legal_meets : (clients : Meaning) (j : List (List Entry)) → Legal clients j → AllMeet clients nothing (entries_of j)
legal_meets clients j l = goes_on_meets clients nothing j l

pub each_meets : (clients : Meaning) (j : List (List Entry)) → Legal clients j → EachMeets clients j
each_meets clients j l before behind e stands =
    (AllMeet_back clients nothing before (e ∷ behind) (subst (AllMeet clients nothing) stands (legal_meets clients j l))).0

-- ---- what the invariant of rounds asks of an entry

pub meets_fits : (clients : Meaning) (f : Facts) (e : Entry) → MeetsNoStep clients f e → Fits clients f e
meets_fits clients f (entry.Level c g l) m = m.1.1
meets_fits clients f (entry.Author x) m = record { known = m.1.known_group; new = m.1.new }
meets_fits clients f (entry.Arrive s x) m = record {
  is_new = record { known = m.1.known_group; new = m.1.new };
  shown = m.1.shown;
  known_session = m.1.known_session;
}
meets_fits clients f (entry.Judged id) m = m
meets_fits clients f (entry.Deliver id) m = m
meets_fits clients f (entry.Invalid id) m = m
meets_fits clients f (entry.Out s now what) m = m.1
meets_fits clients f (entry.Kept from x) m = record { known = m.1.1.known_group; new = m.1.1.new }
meets_fits clients f _ m = tt
