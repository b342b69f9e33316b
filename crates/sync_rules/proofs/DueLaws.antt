-- What is due is allowed, and its record is within its limits; so is all that a session sends.
use Rattle.std.proofs.Common.{◌≡◌, ℕ, zero, suc, ◌≤◌, min, Bool, true, false, not, cond, ◌&&◌, ◌||◌}
use Rattle.std.proofs.Common.{nat_le, nat_eq, List, [], ◌∷◌, ◌++◌, length, take, refl, sym, ◌∙◌, ap}
use Rattle.std.proofs.Common.{subst, inl, inr, arith, Option, Some, None, is_some, unwrap_or}
use Rattle.std.specs.Option.{option_or}
use Rattle.std.specs.List.{AllByRecursion}
use Rattle.std.specs.FinMap as fin_map
use Rattle.std.specs.Ordering.{nat_cmp}
use Rattle.std.proofs.lemmas.Bool.{and_parts, or_parts, or_cases, or_left, or_right, false≢true}
use Rattle.std.proofs.lemmas.List.{length-take}
use Rattle.sync_ids.specs.declared.lists.TheConstants.{MAX_IDS}
use Rattle.sync_ids.specs.Ids.{message_id_of}
use Rattle.sync_ids.specs.Values.{IsMessage, AreIds}
use Rattle.sync_ids.specs.Records.{IsRecord}
use Rattle.sync_ids.specs.declared.records.Record.{Record}
use Rattle.sync_rules.specs.declared.entries.Entry.{Entry}
use Rattle.sync_rules.specs.declared.entries.Entry.TheVariants as entry
use Rattle.sync_rules.specs.declared.entries.Out.{Out}
use Rattle.sync_rules.specs.declared.entries.Out.TheVariants as out
use Rattle.sync_rules.specs.declared.entries.Mode.{Mode}
use Rattle.sync_rules.specs.declared.entries.Mode.TheVariants as mode_kind
use Rattle.sync_rules.specs.declared.entries.Session.{Session}
use Rattle.sync_rules.specs.Clients.{Meaning}
use Rattle.sync_rules.specs.Lists.{same_id, is_among, has_repeat, without}
use Rattle.sync_rules.specs.Facts.{Facts, Held, Id, after, after_all, nothing, facts, entries_of}
use Rattle.sync_rules.specs.Facts.{held_at, is_held, session_at, contact_of, contact_in, row_at}
use Rattle.sync_rules.specs.Facts.{wanted_from, without_each, with_want, authored, arrived, kept_as}
use Rattle.sync_rules.specs.Steps.{IsSettled}
use Rattle.sync_rules.specs.Sessions.{ids_where, shared_ids, is_sendable, is_ripe, owed_to}
use Rattle.sync_rules.specs.Sessions.{wanted_of, send_of, offers_of, acks_due, requests_due}
use Rattle.sync_rules.specs.Sessions.{send_due, offers_due, due_by, due, due_on_any_way}
use Rattle.sync_rules.specs.Sessions.{goes_sooner, sooner_of, sooner_offers_of, sooner_due}
use Rattle.sync_rules.specs.Legal.{Legal, Allowed, IsDue}
use Rattle.sync_rules.specs.Output.{AllHeld, out_records, first_records, nonce_record}
use Rattle.sync_rules.specs.Output.{message_record, sent}
use Rattle.sync_rules.specs.Meeting.{MeetsNoStep, AllMeet}
use Rattle.sync_rules.specs.Consistency.{ids_of_held, HasHeld, HasWanted, IsConsistent}
use Rattle.sync_rules.specs.Growth.{output_by, output_in}
use Rattle.sync_rules.specs.Naming.{AreWanted, NamesDistinct, IsWholeNonce, BringsWithin, HasLimits, MessageIdsAreWhole}
use Rattle.sync_rules.proofs.Elements.{same_id-is, same_id_itself, among-push}
use Rattle.sync_rules.proofs.Sound.{SoundFacts}
use Rattle.sync_rules.proofs.Kept.{sound_after, after_batches-is}
use Rattle.sync_rules.proofs.Runs.{sound_nothing}
use Rattle.sync_rules.proofs.PeerFacts.{want_changed, want_dropped, among-without, among-without_each}
use Rattle.sync_rules.proofs.Outputs.{found_by, among-take, first-among, option_or-cases}
use Rattle.sync_rules.proofs.StepKinds.{held_if_In}
use Rattle.sync_rules.proofs.MeetingLaws.{legal_meets, meets_fits}
use Rattle.sync_rules.proofs.SessionLaws.{session_at-cases}
use Rattle.sync_rules.proofs.ConsistencyLaws.{consistent_after, consistent_nothing, held_at-cases}
use Rattle.sync_rules.proofs.OutputLaws.{sent_is}

-- ---- what is due is allowed

pub due_allowed : (clients : Meaning) (f : Facts) (n now : ℕ) (s : Session) (what : Out) → session_at f.sessions n ≡ Some s → IsSettled clients f
    → due clients f s now ≡ Some what → Allowed clients f (entry.Out n now what ∷ [])
due_allowed clients f n now s what at settled is = (refl, settled, subst (λ (o : Option Session). IsDue clients f o now what) (sym at) is)

-- ---- distinct ids

among_where : (test : Held → Bool) (hs : List Held) (id : Id) → is_among (ids_where test hs) id ≡ true → is_among (ids_of_held hs) id ≡ true
among_where test [] id e = e
among_where test (h ∷ hs) id e =
    elim (test h) as (λ b. is_among (cond b (h.id ∷ ids_where test hs) (ids_where test hs)) id ≡ true → (same_id h.id id || is_among (ids_of_held hs) id) ≡ true) [
      | true ↦ λ e.
          elim (or_cases (same_id h.id id) (is_among (ids_where test hs) id) e) [
            | inl s ↦ or_left (same_id h.id id) (is_among (ids_of_held hs) id) s
            | inr r ↦ or_right (same_id h.id id) (is_among (ids_of_held hs) id) (among_where test hs id r)
          ]
      | false ↦ λ e. or_right (same_id h.id id) (is_among (ids_of_held hs) id) (among_where test hs id e)
    ] e

-- what is not in a list is not in one whose ids it has
not_in : (a b : Bool) → (a ≡ true → b ≡ true) → b ≡ false → a ≡ false
not_in true b up none = absurd (false≢true (sym none ∙ up refl))
not_in false b up none = refl

where_distinct : (test : Held → Bool) (hs : List Held) → has_repeat (ids_of_held hs) ≡ false → has_repeat (ids_where test hs) ≡ false
where_distinct test [] d = refl
where_distinct test (h ∷ hs) d =
    let a = or_parts (is_among (ids_of_held hs) h.id) (has_repeat (ids_of_held hs)) d in
    elim (test h) as (λ b. has_repeat (cond b (h.id ∷ ids_where test hs) (ids_where test hs)) ≡ false) [
      | true ↦
          let none : is_among (ids_where test hs) h.id ≡ false =
          not_in (is_among (ids_where test hs) h.id) (is_among (ids_of_held hs) h.id) (among_where test hs h.id) a.0 in
          λ i. none i || where_distinct test hs a.1 i
      | false ↦ where_distinct test hs a.1
    ]

take_distinct : (n : ℕ) (ids : List Id) → has_repeat ids ≡ false → has_repeat (take n ids) ≡ false
take_distinct zero [] d = d
take_distinct (suc n) [] d = d
take_distinct zero (x ∷ ids) d = refl
take_distinct (suc n) (x ∷ ids) d =
    let a = or_parts (is_among ids x) (has_repeat ids) d in
    let none : is_among (take n ids) x ≡ false = not_in (is_among (take n ids) x) (is_among ids x) (among-take n ids x) a.0 in
    λ i. none i || take_distinct n ids a.1 i

take_few : (n : ℕ) (ids : List Id) → length (take n ids) ≤ n
take_few n ids = let e : length (take n ids) ≡ min n (length ids) = length-take n ids in omega (arith, e)

-- ---- what is due names

module _ (f : Facts) where
  held_by : (test : Held → Bool) (id : Id) → is_among (ids_where test f.held) id ≡ true → is_held f.held id ≡ true
  held_by test id e =
      let x = found_by test f.held id e in
      ap (is_held f.held) (sym x.same) ∙ held_if_In f.held x.of x.inside

  acks_distinct : (contact : ℕ) (what : Out) (ids : List Id) → has_repeat ids ≡ false → length ids ≤ MAX_IDS → AllHeld f ids → acks_due ids ≡ Some what
      → NamesDistinct f contact what
  acks_distinct contact what [] d few held e = cc
  acks_distinct contact what (x ∷ ids) d few held e =
      let same : out.Acks (x ∷ ids) ≡ what = cc in
      subst (NamesDistinct f contact) same (record { some = omega arith; few = few; distinct = d }, held)

  requests_distinct : (contact : ℕ) (what : Out) (mode : Mode) (ids : List Id) → has_repeat ids ≡ false → length ids ≤ MAX_IDS → AreWanted f contact ids
      → requests_due mode ids ≡ Some what → NamesDistinct f contact what
  requests_distinct contact what mode_kind.Batch ids d few wanted e = cc
  requests_distinct contact what mode_kind.Interactive [] d few wanted e = cc
  requests_distinct contact what mode_kind.Interactive (x ∷ ids) d few wanted e =
      let same : out.Requests (x ∷ ids) ≡ what = cc in
      subst (NamesDistinct f contact) same (record { some = omega arith; few = few; distinct = d }, wanted)

  offers_distinct : (contact : ℕ) (what : Out) (mode : Mode) (ids : List Id) → has_repeat ids ≡ false → length ids ≤ MAX_IDS → AllHeld f ids
      → offers_due mode ids ≡ Some what → NamesDistinct f contact what
  offers_distinct contact what mode_kind.Batch ids d few held e = cc
  offers_distinct contact what mode_kind.Interactive [] d few held e = cc
  offers_distinct contact what mode_kind.Interactive (x ∷ ids) d few held e =
      let same : out.Offers (x ∷ ids) ≡ what = cc in
      subst (NamesDistinct f contact) same (record { some = omega arith; few = few; distinct = d }, held)

  send_held : (contact : ℕ) (what : Out) (o : Option Id) → ((id : Id) → o ≡ Some id → is_held f.held id ≡ true) → send_due o ≡ Some what → NamesDistinct f contact what
  send_held contact what None held e = cc
  send_held contact what (Some id) held e =
      let same : out.Send id ≡ what = cc in
      subst (NamesDistinct f contact) same (held id refl)

  sooner_distinct : (contact : ℕ) (what : Out) (mode : Mode) (o : Option Id) (ids : List Id) → ((id : Id) → o ≡ Some id → is_held f.held id ≡ true)
      → has_repeat ids ≡ false → length ids ≤ MAX_IDS → AllHeld f ids → sooner_due mode o ids ≡ Some what → NamesDistinct f contact what
  sooner_distinct contact what mode_kind.Batch o ids one d few held e = send_held contact what o one e
  sooner_distinct contact what mode_kind.Interactive o ids one d few held e = offers_distinct contact what mode_kind.Interactive ids d few held e

  module _ (h : HasHeld f) (w : HasWanted f) where
    any_way_distinct : (shared : List Id) (x : Session) (now : ℕ) (what : Out) → due_on_any_way f shared x now ≡ Some what → NamesDistinct f x.contact what
    any_way_distinct shared x now what e =
        let offers : Option Out = offers_due x.mode (offers_of f shared x.contact now) in
        let send : Option Out = send_due (send_of f shared x.contact x.mode now) in
        let requests : Option Out = requests_due x.mode (wanted_of f x.contact) in
        let owed : Held → Bool = λ k. (row_at f.rows x.contact k.id).owed in
        let sends : Held → Bool = λ k. is_sendable f shared x.contact k && is_ripe x.mode now (row_at f.rows x.contact k.id) in
        let offered : Held → Bool = λ k. is_sendable f shared x.contact k
        && (not (row_at f.rows x.contact k.id).asked && nat_le (row_at f.rows x.contact k.id).expiry now) in
        elim (option_or-cases (acks_due (owed_to f x.contact))
        (option_or requests (option_or send offers)) what e) [
          | inl a ↦
              acks_distinct x.contact what (owed_to f x.contact) (take_distinct MAX_IDS (ids_where owed f.held) (where_distinct owed f.held h.distinct))
              (take_few MAX_IDS (ids_where owed f.held)) (λ id among. held_by owed id (among-take MAX_IDS (ids_where owed f.held) id among)) a
          | inr r ↦
              elim (option_or-cases requests (option_or send offers) what r) [
                | inl a ↦
                    requests_distinct x.contact what x.mode (wanted_of f x.contact) (take_distinct MAX_IDS (wanted_from f.wanted x.contact) (w.distinct x.contact))
                    (take_few MAX_IDS (wanted_from f.wanted x.contact)) (λ id among. among-take MAX_IDS (wanted_from f.wanted x.contact) id among) a
                | inr r ↦
                    elim (option_or-cases send offers what r) [
                      | inl a ↦
                          send_held x.contact what (send_of f shared x.contact x.mode now) (λ id is. held_by sends id (first-among (ids_where sends f.held) id is)) a
                      | inr a ↦
                          offers_distinct x.contact what x.mode (offers_of f shared x.contact now)
                          (take_distinct MAX_IDS (ids_where offered f.held) (where_distinct offered f.held h.distinct))
                          (take_few MAX_IDS (ids_where offered f.held)) (λ id among. held_by offered id (among-take MAX_IDS (ids_where offered f.held) id among)) a
                    ]
              ]
        ]

    due_distinct : (shared : List Id) (x : Session) (now : ℕ) (what : Out) → due_by f shared x now ≡ Some what → NamesDistinct f x.contact what
    due_distinct shared x now what e =
        let test : Held → Bool = λ k. is_sendable f shared x.contact k && goes_sooner x.latency now (row_at f.rows x.contact k.id) in
        elim (option_or-cases (due_on_any_way f shared x now)
        (sooner_due x.mode (sooner_of f shared x.contact x.latency now) (sooner_offers_of f shared x.contact x.latency now)) what e) [
          | inl a ↦ any_way_distinct shared x now what a
          | inr b ↦
              sooner_distinct x.contact what x.mode (sooner_of f shared x.contact x.latency now) (sooner_offers_of f shared x.contact x.latency now)
              (λ id is. held_by test id (first-among (ids_where test f.held) id is))
              (take_distinct MAX_IDS (ids_where test f.held) (where_distinct test f.held h.distinct)) (take_few MAX_IDS (ids_where test f.held))
              (λ id among. held_by test id (among-take MAX_IDS (ids_where test f.held) id among)) b
        ]

    pub due_names_distinct : (clients : Meaning) (o : Option Session) (now : ℕ) (what : Out) → IsDue clients f o now what → NamesDistinct f (contact_in o) what
    due_names_distinct clients None now what d = absurd d
    due_names_distinct clients (Some x) now what d = due_distinct (shared_ids clients f) x now what d

-- ---- facts within their limits

-- the wanted ids of one contact changed, to ids that are wanted from it or have 32 bytes
module _ (f : Facts) (l : HasLimits f) (c : ℕ) (change : List Id → List Id)
    (within : (contact : ℕ) (id : Id) → is_among (change (wanted_from f.wanted contact)) id ≡ true → length id ≡ 32) where
  changed_limits : (contact : ℕ) (id : Id) → is_among (wanted_from (fin_map.insert f.wanted c (change (wanted_from f.wanted c))) contact) id ≡ true → length id ≡ 32
  changed_limits contact id e =
      chosen (nat_eq contact c) (ap (λ (ids : List Id). is_among ids id) (sym (want_changed f.wanted contact c change)) ∙ e)
    where
      chosen : (b : Bool) → is_among (cond b (change (wanted_from f.wanted contact)) (wanted_from f.wanted contact)) id ≡ true → length id ≡ 32
      chosen true e = within contact id e
      chosen false e = l.wanted contact id e

dropped_limits : (f : Facts) → HasLimits f → (x : Id) (contact : ℕ) (id : Id) → is_among (without x (wanted_from f.wanted contact)) id ≡ true → length id ≡ 32
dropped_limits f l x contact id e =
    l.wanted contact id (and_parts (is_among (wanted_from f.wanted contact) id) (not (same_id x id)) (sym (among-without x (wanted_from f.wanted contact) id) ∙ e)).0

offered_limits : (f : Facts) → HasLimits f → (x : Id) → length x ≡ 32 → (contact : ℕ) (id : Id) (b : Bool)
    → is_among (cond b (wanted_from f.wanted contact) (wanted_from f.wanted contact ++ x ∷ [])) id ≡ true → length id ≡ 32
offered_limits f l x whole contact id true e = l.wanted contact id e
offered_limits f l x whole contact id false e =
    elim (or_cases (same_id x id) (is_among (wanted_from f.wanted contact) id) (sym (among-push (wanted_from f.wanted contact) x id) ∙ e)) [
      | inl same ↦ ap length (sym (same_id-is x id same)) ∙ whole
      | inr was ↦ l.wanted contact id was
    ]

message_limits : (f : Facts) (x : Held) → HasLimits f → IsMessage x.message → (id : Id) (h : Held) → held_at (f.held ++ x ∷ []) id ≡ Some h → IsMessage h.message
message_limits f x l is id h at =
    elim (held_at-cases f.held x id h at) [
      | inl was ↦ l.messages id h was
      | inr new ↦ subst (λ (k : Held). IsMessage k.message) (sym new.0) is
    ]

limits_after_output : (f : Facts) (s now : ℕ) (what : Out) → HasLimits f → HasLimits (after f (entry.Out s now what))
limits_after_output f s now (out.Requests ids) l = record {
  messages = l.messages;
  wanted = changed_limits f l (contact_of f.sessions s) (without_each ids) (λ contact id e.
      l.wanted contact id (and_parts (is_among (wanted_from f.wanted contact) id) (not (is_among ids id)) (sym (among-without_each ids (wanted_from f.wanted contact) id) ∙ e)).0);
  nonces = l.nonces;
}
limits_after_output f s now (out.Acks ids) l = record { messages = l.messages; wanted = l.wanted; nonces = l.nonces }
limits_after_output f s now (out.Offers ids) l = record { messages = l.messages; wanted = l.wanted; nonces = l.nonces }
limits_after_output f s now (out.Send id) l = record { messages = l.messages; wanted = l.wanted; nonces = l.nonces }

pub limits_after : (f : Facts) (e : Entry) → BringsWithin e → HasLimits f → HasLimits (after f e)
limits_after f (entry.Contact c) b l = record {
  messages = l.messages;
  wanted = changed_limits f l c (λ ids. ids) (λ contact id e. l.wanted contact id e);
  nonces = l.nonces;
}
limits_after f (entry.Session x) b l = record {
  messages = l.messages;
  wanted = l.wanted;
  nonces = λ n s at.
      elim (session_at-cases f.sessions x n s at) [
        | inl was ↦ l.nonces n s was
        | inr new ↦ subst (λ (y : Session). IsWholeNonce y.nonce) (sym new.0) b
      ];
}
limits_after f (entry.Author m) b l = record {
  messages = message_limits f (authored m) l b;
  wanted = λ contact id e. dropped_limits f l (message_id_of m) contact id (ap (λ (ids : List Id). is_among ids id) (sym (want_dropped f.wanted (message_id_of m) contact)) ∙ e);
  nonces = l.nonces;
}
limits_after f (entry.Arrive s m) b l = record {
  messages = message_limits f (arrived (contact_of f.sessions s) m) l b;
  wanted = λ contact id e. dropped_limits f l (message_id_of m) contact id (ap (λ (ids : List Id). is_among ids id) (sym (want_dropped f.wanted (message_id_of m) contact)) ∙ e);
  nonces = l.nonces;
}
limits_after f (entry.Kept from m) b l = record {
  messages = message_limits f (kept_as from m) l b;
  wanted = λ contact id e. dropped_limits f l (message_id_of m) contact id (ap (λ (ids : List Id). is_among ids id) (sym (want_dropped f.wanted (message_id_of m) contact)) ∙ e);
  nonces = l.nonces;
}
limits_after f (entry.Want c x) b l = record {
  messages = l.messages;
  wanted = changed_limits f l c (λ ids. with_want (is_held f.held x) ids x)
      (λ contact id e. offered_limits f l x b contact id (is_held f.held x || is_among (wanted_from f.wanted contact) x) e);
  nonces = l.nonces;
}
limits_after f (entry.Offered s x) b l = record {
  messages = l.messages;
  wanted = changed_limits f l (contact_of f.sessions s) (λ ids. with_want (is_held f.held x) ids x)
      (λ contact id e. offered_limits f l x b contact id (is_held f.held x || is_among (wanted_from f.wanted contact) x) e);
  nonces = l.nonces;
}
limits_after f (entry.Out s now what) b l = limits_after_output f s now what l
limits_after f _ b l = record { messages = l.messages; wanted = l.wanted; nonces = l.nonces }

pub limits_all : (f : Facts) (es : List Entry) → AllByRecursion BringsWithin es → HasLimits f → HasLimits (after_all f es)
limits_all f [] b l = l
limits_all f (e ∷ es) b l = limits_all (after f e) es b.1 (limits_after f e b.0 l)

pub limits_nothing : HasLimits nothing
limits_nothing = record {
  messages = λ id h at. cc;
  wanted = λ contact id e. absurd
      (false≢true (sym (ap (λ (o : Option (List Id)). is_among (unwrap_or o []) id)
      (fin_map.get-empty nat_cmp contact)) ∙ e));
  nonces = λ n s at. cc;
}

-- ---- records within their limits

are_ids : (ids : List Id) → ((id : Id) → is_among ids id ≡ true → length id ≡ 32) → AreIds ids
are_ids [] each = tt
are_ids (x ∷ ids) each = (
  each x (or_left (same_id x x) (is_among ids x) (same_id_itself x)),
  are_ids ids (λ id e. each id (or_right (same_id x id) (is_among ids id) e)),
)

held_whole : (whole : MessageIdsAreWhole) (f : Facts) → HasHeld f → (id : Id) (o : Option Held) → held_at f.held id ≡ o → is_some o ≡ true → length id ≡ 32
held_whole whole f h id None at e = absurd (false≢true e)
held_whole whole f h id (Some x) at e = ap length (h.each id x at).is_id ∙ whole x.message

message_within : (f : Facts) → HasLimits f → (id : Id) (o : Option Held) → held_at f.held id ≡ o → is_some o ≡ true → AllByRecursion IsRecord (message_record o)
message_within f l id None at e = tt
message_within f l id (Some x) at e = (l.messages id x at, tt)

pub records_within : (whole : MessageIdsAreWhole) (f : Facts) → HasHeld f → HasLimits f → (contact : ℕ) (what : Out) → NamesDistinct f contact what
    → AllByRecursion IsRecord (out_records f.held what)
records_within whole f h l contact (out.Acks ids) n = (
  record { some = n.0.some; few = n.0.few; whole = are_ids ids (λ id e. held_whole whole f h id (held_at f.held id) refl (n.1 id e)) },
  tt,
)
records_within whole f h l contact (out.Requests ids) n = (
  record { some = n.0.some; few = n.0.few; whole = are_ids ids (λ id e. l.wanted contact id (n.1 id e)) },
  tt,
)
records_within whole f h l contact (out.Offers ids) n = (
  record { some = n.0.some; few = n.0.few; whole = are_ids ids (λ id e. held_whole whole f h id (held_at f.held id) refl (n.1 id e)) },
  tt,
)
records_within whole f h l contact (out.Send id) n = message_within f l id (held_at f.held id) refl n

-- an output has one record
one_of_message : (o : Option Held) → is_some o ≡ true → length (message_record o) ≡ 1
one_of_message None e = absurd (false≢true e)
one_of_message (Some h) e = refl

pub one_record : (f : Facts) (contact : ℕ) (what : Out) → NamesDistinct f contact what
    → length (out_records f.held what) ≡ 1
one_record f contact (out.Acks ids) n = refl
one_record f contact (out.Requests ids) n = refl
one_record f contact (out.Offers ids) n = refl
one_record f contact (out.Send id) n = one_of_message (held_at f.held id) n

-- ---- all that a session sends

all_by_append : (xs ys : List Record) → AllByRecursion IsRecord xs → AllByRecursion IsRecord ys → AllByRecursion IsRecord (xs ++ ys)
all_by_append [] ys a b = b
all_by_append (x ∷ xs) ys a b = (a.0, all_by_append xs ys a.1 b)

all_by_cond : (b : Bool) (xs : List Record) → AllByRecursion IsRecord xs → AllByRecursion IsRecord (cond b xs [])
all_by_cond true xs a = a
all_by_cond false xs a = tt

nonce_within : (o : Option Id) → IsWholeNonce o → AllByRecursion IsRecord (nonce_record o)
nonce_within None w = tt
nonce_within (Some nonce) w = (w, tt)

pub first_within : (s : Session) → IsWholeNonce s.nonce → AllByRecursion IsRecord (first_records s)
first_within s w = (record { some = omega arith; few = omega arith }, nonce_within s.nonce w)

output_by_within : (whole : MessageIdsAreWhole) (clients : Meaning) (f : Facts) (n : ℕ) (e : Entry) → IsConsistent f → HasLimits f → MeetsNoStep clients f e → BringsWithin e
    → AllByRecursion IsRecord (output_by f n e)
output_by_within whole clients f n (entry.Session s) c l m b = all_by_cond (nat_eq s.number n) (first_records s) (first_within s b)
output_by_within whole clients f n (entry.Out s now what) c l m b =
    all_by_cond (nat_eq s n) (out_records f.held what)
    (records_within whole f c.held l (contact_of f.sessions s) what (due_names_distinct f c.held c.wanted clients (session_at f.sessions s) now what m.1))
output_by_within whole clients f n _ c l m b = tt

pub output_within : (whole : MessageIdsAreWhole) (clients : Meaning) (f : Facts) (n : ℕ) (es : List Entry) → SoundFacts clients f → IsConsistent f → HasLimits f
    → AllMeet clients f es → AllByRecursion BringsWithin es → AllByRecursion IsRecord (output_in f n es)
output_within whole clients f n [] sound c l m b = tt
output_within whole clients f n (e ∷ es) sound c l m b =
    all_by_append (output_by f n e) (output_in (after f e) n es) (output_by_within whole clients f n e c l m.0 b.0)
    (output_within whole clients (after f e) n es (sound_after clients f e (meets_fits clients f e m.0) sound) (consistent_after clients f e sound m.0 c)
    (limits_after f e b.0 l) m.1 b.1)

pub sent_within : (whole : MessageIdsAreWhole) (clients : Meaning) (j : List (List Entry)) (n : ℕ) → Legal clients j → AllByRecursion BringsWithin (entries_of j)
    → AllByRecursion IsRecord (sent j n)
sent_within whole clients j n legal b =
    subst (AllByRecursion IsRecord) (sym (sent_is clients j n legal))
    (output_within whole clients nothing n (entries_of j) (sound_nothing clients) consistent_nothing limits_nothing (legal_meets clients j legal) b)

pub legal_limits : (j : List (List Entry)) → AllByRecursion BringsWithin (entries_of j) → HasLimits (facts j)
legal_limits j b = subst HasLimits (sym (after_batches-is nothing j)) (limits_all nothing (entries_of j) b limits_nothing)
