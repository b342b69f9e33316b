-- What new batches say was seen or arrived comes from records that were heard.
use Rattle.std.proofs.Common.{◌≡◌, ℕ, Bool, true, false, cond, ◌⊎◌, eqb-true, List, [], ◌∷◌, ◌++◌, refl, sym, ◌∙◌, ap, subst, inl, inr, Option, Some, None, is_some}
use Rattle.std.specs.List.{AllByRecursion, list_all}
use Rattle.std.proofs.lemmas.Bool.{and_parts, false≢true, or_left, or_right}
use Rattle.sync_ids.specs.Values.{MessageValue}
use Rattle.sync_ids.specs.Ids.{message_id_of}
use Rattle.sync_ids.specs.declared.records.Record.{Record}
use Rattle.sync_ids.specs.declared.records.Record.TheVariants as record_kind
use Rattle.sync_rules.specs.declared.entries.Entry.{Entry}
use Rattle.sync_rules.specs.declared.entries.Entry.TheVariants as entry
use Rattle.sync_rules.specs.declared.entries.Session.{Session}
use Rattle.sync_rules.specs.declared.states.Start.TheVariants as start
use Rattle.sync_rules.specs.Allows.{is_opening}
use Rattle.sync_rules.specs.Clients.{Meaning}
use Rattle.sync_rules.proofs.ConsistencyLaws.{held_at-cases}
use Rattle.sync_rules.proofs.Continuing.{continues_all}
use Rattle.sync_rules.specs.Lists.{In, firsts, is_among, same_id}
use Rattle.sync_rules.proofs.Elements.{same_id-is, same_id_itself}
use Rattle.sync_rules.specs.Facts.{Facts, Held, Id, after, after_all, arrived, authored, contact_in, contact_of, entries_of, held_at, row_at, session_at}
use Rattle.sync_rules.specs.Laws.{IsAuthored}
use Rattle.sync_rules.specs.Legal.{Allowed, GoesOn, MayStandAlone}
use Rattle.sync_rules.proofs.BatchEntries.{settling_each}
use Rattle.sync_rules.proofs.BatchKinds.{by_kind}
use Rattle.sync_rules.specs.Meeting.{AllMeet, MeetsNoStep}
use Rattle.sync_rules.specs.PeerLaws.{is_shown_seen, is_with}
use Rattle.sync_rules.proofs.RowLaws.{among-firsts, seen_step}
use Rattle.sync_rules.specs.Sessions.{is_remembered, is_welcome, one_if, room_after, taken, taken_acks, taken_message, taken_message_of, taken_offer, taken_offers, taken_requests}
use Rattle.sync_rules.specs.EntryTests.{IsSettlingEntry}
use Rattle.sync_rules.proofs.StartLaws.{stays_closed_all}
use Rattle.world_laws.specs.Worlds.{AllHeard, HasNoBrief, IsHeard, begins_no_brief, names}
use Rattle.world_laws.proofs.PlainLaws.{batch_plain}

-- ---- what the entries of a record say

abbrev pub HeardNaming : (ℕ → List Record) → ℕ → Id → Type 0
HeardNaming heard session id = (r : Record) × In r (heard session) × (names r id ≡ true)

-- an entry that says that a message arrived, or that a contact has one, comes from a record that was heard; no brief account
-- says so
abbrev pub SaysHeard : (ℕ → List Record) → Entry → Type 0
SaysHeard heard (entry.Arrive s m) = In (record_kind.Message m) (heard s)
SaysHeard heard (entry.Again s id) = HeardNaming heard s id
SaysHeard heard (entry.Seen s id) = HeardNaming heard s id
SaysHeard heard (entry.Kept from m) = ⊥
SaysHeard heard (entry.Tried t) = ⊥
SaysHeard heard _ = Unit {0}

module _ (P : Entry → Type 0) where
  pub all_by_append : (es fs : List Entry) → AllByRecursion P es → AllByRecursion P fs → AllByRecursion P (es ++ fs)
  all_by_append [] fs a b = b
  all_by_append (e ∷ es) fs a b = (a.0, all_by_append es fs a.1 b)

  all_by_one : (b : Bool) (e : Entry) → P e → AllByRecursion P (one_if b e)
  all_by_one true e p = (p, tt)
  all_by_one false e p = tt

  module _ (f : Facts) (session contact : ℕ) where
    acks_say : (ids : List Id) → ((id : Id) → is_among ids id ≡ true → P (entry.Seen session id)) → AllByRecursion P (taken_acks f session contact ids)
    acks_say [] says = tt
    acks_say (id ∷ ids) says =
        all_by_append (one_if _ (entry.Seen session id)) (taken_acks f session contact ids)
        (all_by_one _ (entry.Seen session id) (says id (or_left (same_id id id) (is_among ids id) (same_id_itself id))))
        (acks_say ids (λ x among. says x (or_right (same_id id x) (is_among ids x) among)))

    requests_say : (ids : List Id) → ((id : Id) → P (entry.Asked session id)) → AllByRecursion P (taken_requests f session contact ids)
    requests_say [] says = tt
    requests_say (id ∷ ids) says =
        all_by_append (one_if _ (entry.Asked session id)) (taken_requests f session contact ids) (all_by_one _ (entry.Asked session id) (says id)) (requests_say ids says)

    offers_say : (room : ℕ) (ids : List Id) → ((id : Id) → is_among ids id ≡ true → P (entry.Again session id)) → ((id : Id) → P (entry.Offered session id))
        → AllByRecursion P (taken_offers f session contact room ids)
    offers_say room [] again offered = tt
    offers_say room (id ∷ ids) again offered =
        all_by_append (taken_offer f session contact room id) (taken_offers f session contact (room_after (is_remembered f contact room id) room) ids)
        (all_by_append (one_if _ (entry.Again session id)) (one_if _ (entry.Offered session id))
        (all_by_one _ (entry.Again session id) (again id (or_left (same_id id id) (is_among ids id) (same_id_itself id))))
        (all_by_one _ (entry.Offered session id) (offered id)))
        (offers_say (room_after (is_remembered f contact room id) room) ids (λ x among. again x (or_right (same_id id x) (is_among ids x) among)) offered)

    message_says : (m : MessageValue) → P (entry.Arrive session m) → P (entry.Again session (message_id_of m)) → AllByRecursion P (taken_message f session contact m)
    message_says m arrive again =
        elim (is_welcome f contact m.group) as (λ b. AllByRecursion P (cond b (taken_message_of f session contact m (held_at f.held (message_id_of m))) [])) [
          | true ↦
              elim (held_at f.held (message_id_of m)) as (λ o. AllByRecursion P (taken_message_of f session contact m o)) [
                | None ↦ (arrive, tt)
                | Some h ↦ all_by_one _ (entry.Again session (message_id_of m)) again
              ]
          | false ↦ tt
        ]

record_says : (heard : ℕ → List Record) (f : Facts) (session : ℕ) (r : Record) → In r (heard session) → AllByRecursion (SaysHeard heard) (taken f session r)
record_says heard f session (record_kind.Ack ids) inside =
    acks_say (SaysHeard heard) f session (contact_of f.sessions session) (firsts ids) (λ id among. (record_kind.Ack ids, inside, sym (among-firsts ids id) ∙ among))
record_says heard f session (record_kind.Message m) inside =
    message_says (SaysHeard heard) f session (contact_of f.sessions session) m inside (record_kind.Message m, inside, same_id_itself (message_id_of m))
record_says heard f session (record_kind.Offer ids) inside =
    offers_say (SaysHeard heard) f session (contact_of f.sessions session) _ (firsts ids)
    (λ id among. (record_kind.Offer ids, inside, sym (among-firsts ids id) ∙ among)) (λ id. tt)
record_says heard f session (record_kind.Request ids) inside = requests_say (SaysHeard heard) f session (contact_of f.sessions session) (firsts ids) (λ id. tt)
record_says heard f session (record_kind.Versions versions) inside = tt
record_says heard f session (record_kind.Priority nonce) inside = tt

-- ---- batches

step_says : (heard : ℕ → List Record) (e : Entry) → IsSettlingEntry e → SaysHeard heard e
step_says heard (entry.Judged id) k = tt
step_says heard (entry.Deliver id) k = tt
step_says heard (entry.Invalid id) k = tt
step_says heard (entry.Arrive s m) k = absurd k
step_says heard (entry.Again s id) k = absurd k
step_says heard (entry.Seen s id) k = absurd k
step_says heard (entry.Kept from m) k = absurd k
step_says heard (entry.Tried t) k = absurd k
step_says heard _ k = tt

-- where a journal is no brief account, none of an account's own kinds stands behind it
not_opening : (f : Facts) → is_opening f.start ≡ false → f.start ≡ start.Opening → ⊥
not_opening f closed opening = false≢true (sym closed ∙ ap is_opening opening)

stands_says : (heard : ℕ → List Record) (clients : Meaning) (f : Facts) → is_opening f.start ≡ false
    → (e : Entry)
    → MayStandAlone clients f e → SaysHeard heard e
stands_says heard clients f closed (entry.Contact c) may = tt
stands_says heard clients f closed (entry.Group def) may = tt
stands_says heard clients f closed (entry.Level c g l) may = tt
stands_says heard clients f closed (entry.Session s) may = tt
stands_says heard clients f closed (entry.Author m) may = tt
stands_says heard clients f closed (entry.Out s now what) may = tt
stands_says heard clients f closed (entry.Kept from m) may = absurd (not_opening f closed may.0)
stands_says heard clients f closed _ may = absurd may

-- of a batch that was heard
abbrev SaysWhatIsHeard : (ℕ → List Record) → Facts → List Entry → Type 0
SaysWhatIsHeard heard f b = IsHeard heard f b → AllByRecursion (SaysHeard heard) b

batch_says : (heard : ℕ → List Record) (clients : Meaning) (f : Facts) (b : List Entry) → is_opening f.start ≡ false → Allowed clients f b → IsHeard heard f b
    → AllByRecursion (SaysHeard heard) b
batch_says heard clients f b closed a h =
    by_kind clients f (SaysWhatIsHeard heard f) (record {
      alone = λ e settled may h. (stands_says heard clients f closed e may, tt);
      of_record = λ s k r settled next h. (
        tt,
        subst (AllByRecursion (SaysHeard heard)) (sym h.2) (record_says heard f s h.0 h.1),
      );
      steps = λ e es step is h. settling_each (SaysHeard heard) (step_says heard) clients f
          (e ∷ es) is.2;
      brief = λ n empty h. (tt, tt);
      rows = λ e es row is h. absurd (not_opening f closed is.opening);
    }) b a h

pub batches_say : (heard : ℕ → List Record) (clients : Meaning) (f : Facts) (bs : List (List Entry)) → is_opening f.start ≡ false → HasNoBrief bs
    → GoesOn clients f bs → AllHeard heard f bs → AllByRecursion (SaysHeard heard) (entries_of bs)
batches_say heard clients f [] closed plain g h = tt
batches_say heard clients f (b ∷ bs) closed plain g h =
    let both = and_parts (begins_no_brief b) (list_all begins_no_brief bs) plain in
    let closed_then = stays_closed_all f b (batch_plain clients f b g.0 both.0) closed in
    all_by_append (SaysHeard heard) b (entries_of bs) (batch_says heard clients f b closed g.0 h.0)
    (batches_say heard clients (after_all f b) bs closed_then both.1 g.1 h.1)

-- ---- what is seen

-- a contact has a message by a record that was heard on a session with it
pub record SeenFrom (heard : ℕ → List Record) (f : Facts) (contact : ℕ) (id : Id) : Type 0 where
  pub session : ℕ
  pub named : HeardNaming heard session id
  pub of : Session
  pub known : session_at f.sessions session ≡ Some of
  pub same_contact : of.contact ≡ contact

session_with : (heard : ℕ → List Record) (f : Facts) (contact session : ℕ) (id : Id) → HeardNaming heard session id → contact ≡ contact_of f.sessions session
    → (o : Option Session) → session_at f.sessions session ≡ o → is_some o ≡ true → SeenFrom heard f contact id
session_with heard f contact session id named same None at e = absurd (false≢true e)
session_with heard f contact session id named same (Some s) at e = record {
  session = session;
  named = named;
  of = s;
  known = at;
  same_contact = sym (ap contact_in at) ∙ sym same;
}

-- an entry that shows it
shown_by : (heard : ℕ → List Record) (clients : Meaning) (f : Facts) (contact : ℕ) (id : Id) (e : Entry) → MeetsNoStep clients f e → SaysHeard heard e
    → is_shown_seen contact id f e ≡ true → SeenFrom heard f contact id
shown_by heard clients f contact id (entry.Arrive s m) meets says shows =
    let both = and_parts (is_with contact f s) (same_id (message_id_of m) id) shows in
    session_with heard f contact s id (record_kind.Message m, says, both.1) (eqb-true contact (contact_of f.sessions s) both.0) (session_at f.sessions s) refl meets.1.known_session
shown_by heard clients f contact id (entry.Again s x) meets says shows =
    let both = and_parts (is_with contact f s) (same_id x id) shows in
    session_with heard f contact s id (subst (HeardNaming heard s) (same_id-is x id both.1) says) (eqb-true contact (contact_of f.sessions s) both.0)
    (session_at f.sessions s) refl meets.1.known_session
shown_by heard clients f contact id (entry.Seen s x) meets says shows =
    let both = and_parts (is_with contact f s) (same_id x id) shows in
    session_with heard f contact s id (subst (HeardNaming heard s) (same_id-is x id both.1) says) (eqb-true contact (contact_of f.sessions s) both.0)
    (session_at f.sessions s) refl meets.1.known_session
shown_by heard clients f contact id (entry.Tried t) meets says shows = absurd says
shown_by heard clients f contact id _ meets says shows = absurd (false≢true shows)

seen_later : (heard : ℕ → List Record) (f : Facts) (es : List Entry) (contact : ℕ) (id : Id) → SeenFrom heard f contact id → SeenFrom heard (after_all f es) contact id
seen_later heard f es contact id s = record {
  session = s.session;
  named = s.named;
  of = s.of;
  known = (continues_all f es).same_session s.session s.of s.known;
  same_contact = s.same_contact;
}

seen_cases : (a b c : Bool) → c ≡ cond a true (cond false false b) → c ≡ true → (a ≡ true) ⊎ (b ≡ true)
seen_cases true b c e is = inl refl
seen_cases false b c e is = inr (sym e ∙ is)

pub seen_from : (heard : ℕ → List Record) (clients : Meaning) (f : Facts) (es : List Entry) (contact : ℕ) (id : Id) → AllMeet clients f es → AllByRecursion (SaysHeard heard) es
    → (row_at (after_all f es).rows contact id).seen ≡ true
    → ((row_at f.rows contact id).seen ≡ true) ⊎ SeenFrom heard (after_all f es) contact id
seen_from heard clients f [] contact id meet says seen = inl seen
seen_from heard clients f (e ∷ es) contact id meet says seen =
    elim (seen_from heard clients (after f e) es contact id meet.1 says.1 seen) [
      | inl was ↦
          elim (seen_cases (is_shown_seen contact id f e) (row_at f.rows contact id).seen (row_at (after f e).rows contact id).seen (seen_step f contact id e) was) [
            | inl shows ↦ inr (seen_later heard f (e ∷ es) contact id (shown_by heard clients f contact id e meet.0 says.0 shows))
            | inr before ↦ inl before
          ]
      | inr new ↦ inr new
    ]

-- ---- what is held

-- where a held message came from: it was held before, it was written in one of these entries, or a record brought it
pub data HeldFrom (heard : ℕ → List Record) (f : Facts) (es : List Entry) (id : Id) (h : Held) : Type 0 where
  Before : held_at f.held id ≡ Some h → HeldFrom heard f es id h
  Written : IsAuthored es h.message → HeldFrom heard f es id h
  Heard : (session : ℕ) → In (record_kind.Message h.message) (heard session) → HeldFrom heard f es id h

authored_later : (e : Entry) (es : List Entry) (m : MessageValue) → IsAuthored es m → IsAuthored (e ∷ es) m
authored_later e es m a = record { before = e ∷ a.before; behind = a.behind; stands = ap (λ (t : List Entry). e ∷ t) a.stands }

held_one : (heard : ℕ → List Record) (f : Facts) (e : Entry) (es : List Entry) (id : Id) (h : Held) → SaysHeard heard e → held_at (after f e).held id ≡ Some h
    → HeldFrom heard f (e ∷ es) id h
held_one heard f (entry.Author m) es id h says at =
    elim (held_at-cases f.held (authored m) id h at) [
      | inl was ↦ Before was
      | inr new ↦
          let here : IsAuthored (entry.Author m ∷ es) m = record { before = []; behind = es; stands = refl } in
          Written (subst (λ (x : Held). IsAuthored (entry.Author m ∷ es) x.message) (sym new.0) here)
    ]
held_one heard f (entry.Arrive s m) es id h says at =
    elim (held_at-cases f.held (arrived (contact_of f.sessions s) m) id h at) [
      | inl was ↦ Before was
      | inr new ↦ Heard s (subst (λ (x : Held). In (record_kind.Message x.message) (heard s)) (sym new.0) says)
    ]
held_one heard f (entry.Kept from m) es id h says at = absurd says
held_one heard f _ es id h says at = Before at

held_back : (heard : ℕ → List Record) (f : Facts) (e : Entry) (es : List Entry) (id : Id) (h : Held) → SaysHeard heard e → HeldFrom heard (after f e) es id h
    → HeldFrom heard f (e ∷ es) id h
held_back heard f e es id h says (Before at) = held_one heard f e es id h says at
held_back heard f e es id h says (Written a) = Written (authored_later e es h.message a)
held_back heard f e es id h says (Heard s inside) = Heard s inside

pub held_from : (heard : ℕ → List Record) (f : Facts) (es : List Entry) (id : Id) (h : Held) → AllByRecursion (SaysHeard heard) es → held_at (after_all f es).held id ≡ Some h
    → HeldFrom heard f es id h
held_from heard f [] id h says at = Before at
held_from heard f (e ∷ es) id h says at = held_back heard f e es id h says.0 (held_from heard (after f e) es id h says.1 at)
