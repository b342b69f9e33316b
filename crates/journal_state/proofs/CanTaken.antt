-- What a state needs to take an allowed batch.
use Rattle.std.proofs.Common.{◌≡◌, ℕ, suc, ◌+◌, ◌-◌, ◌^◌, ◌<◌, ◌≤◌, min, Bool, true, false, not, cond, ◌&&◌, ◌||◌, nat_eq, nat_lt, List, [], ◌∷◌, ◌++◌, length, map, Option, None, Some, is_some, IfSome, refl, sym, ◌∙◌, ap, subst, arith, length-append, append_assoc}
use Rattle.std.specs.Option.{option_map}
use Rattle.std.proofs.lemmas.Bool.{and_parts, false≢true}
use Rattle.sync_ids.specs.Ids.{group_id_of, message_id_of}
use Rattle.sync_ids.specs.Values.{MessageValue}
use Rattle.sync_ids.specs.declared.records.Record.{Record}
use Rattle.sync_ids.specs.declared.records.Record.TheVariants as record_kind
use Rattle.sync_rules.specs.declared.entries.Entry.{Entry}
use Rattle.sync_rules.specs.declared.entries.Entry.TheVariants as entry
use Rattle.sync_rules.specs.declared.entries.Out.{Out}
use Rattle.sync_rules.specs.declared.entries.Out.TheVariants as out
use Rattle.sync_rules.specs.declared.entries.Session.{Session}
use Rattle.sync_rules.specs.Clients.{Meaning}
use Rattle.sync_rules.specs.Lists.{firsts, is_among}
use Rattle.sync_rules.specs.Facts.{Facts, Held, Id, Known, after, contact_in, contact_of, group_at, held_at, is_held, is_invisible, level_at, row_at, session_at, start_after, wanted_from, with_want}
use Rattle.sync_rules.specs.Legal.{Allowed, IsDue, MayStandAlone}
use Rattle.sync_rules.proofs.BatchKinds.{TakesNext, by_kind, rows_are_rows, steps_settle}
use Rattle.sync_rules.specs.declared.limits.TheConstants.{MAX_WANTED}
use Rattle.sync_rules.specs.Sessions.{is_remembered, is_shown, is_shown_held, is_welcome, one_if, room_after, taken, taken_acks, taken_message, taken_message_of, taken_offers, taken_requests}
use Rattle.sync_rules.specs.Allows.{is_rows_kind, is_settling_kind}
use Rattle.sync_rules.specs.declared.states.Start.{Start}
use Rattle.sync_rules.specs.declared.states.Start.TheVariants as start
use Rattle.journal_state.specs.Room.{rows_room, wants_room}
use Rattle.journal_state.specs.Taking.{CanHold, CanMark, CanSend, CanTake, CanTakeAll, CanTakeKind, HasContactRoom, HasNextNumbers, HasRoom, HasRowsOfSession, TakesEntry, noted}
use Rattle.journal_state.specs.Whole.{StateValue}
use Rattle.journal_state.specs.Sound.{AreApart}
use Rattle.journal_state.proofs.Sending.{due_can}
use Rattle.journal_state.proofs.Wants.{wanted_insert}

-- ---- a state among the entries of a record

-- what was held, begun and known before the record is so still, there is room for so many entries, and at most so many ids are wanted
record Among (f : Facts) (t : StateValue) (contact left most : ℕ) : Type 0 where
  held : t.facts.held ≡ f.held
  sessions : t.facts.sessions ≡ f.sessions
  groups : t.facts.groups ≡ f.groups
  entries : left ≤ t.room.entries
  rows : length f.held + 1 ≤ rows_room t.room contact
  wants : left ≤ wants_room t.room contact
  wanted : length (wanted_from t.facts.wanted contact) ≤ most

-- after one more entry, that changes none of these
module _ (f : Facts) (t next : StateValue) (contact left most more : ℕ) (e : Entry) (a : Among f t contact (left + 1) most) (k : TakesEntry t next e) where
  goes_on : (after t.facts e).held ≡ t.facts.held → (after t.facts e).sessions ≡ t.facts.sessions → (after t.facts e).groups ≡ t.facts.groups
      → length (wanted_from (after t.facts e).wanted contact) ≤ more → Among f next contact left more
  goes_on held sessions groups wanted = record {
    held = ap (λ (g : Facts). g.held) k.facts ∙ (held ∙ a.held);
    sessions = ap (λ (g : Facts). g.sessions) k.facts ∙ (sessions ∙ a.sessions);
    groups = ap (λ (g : Facts). g.groups) k.facts ∙ (groups ∙ a.groups);
    entries = let s = k.room.entries in let b = a.entries in omega (arith, s, b);
    rows = let s = k.room.rows contact in let b = a.rows in omega (arith, s, b);
    wants = let s = k.room.wants contact in let b = a.wants in omega (arith, s, b);
    wanted = let s = ap (λ (g : Facts). length (wanted_from g.wanted contact)) k.facts in omega (arith, s, wanted);
  }

module _ (f : Facts) (session : ℕ) (known : is_some (session_at f.sessions session) ≡ true) where
  -- the session is there, and its contact has room
  has_rows : (t : StateValue) (left most : ℕ) → Among f t (contact_of f.sessions session) left most → HasRowsOfSession t session
  has_rows t left most a = record {
    known = ap (λ (ss : List Session). is_some (session_at ss session)) a.sessions ∙ known;
    rows =
        subst (λ (ss : List Session). length t.facts.held ≤ rows_room t.room (contact_of ss session)) (sym a.sessions)
        (let long = ap (λ (hs : List Held). length hs) a.held in let b = a.rows in omega (arith, long, b));
  }

  marks : (t : StateValue) (left most : ℕ) (id : Id) → Among f t (contact_of f.sessions session) left most → is_held f.held id ≡ true → CanMark t session id
  marks t left most id a held = record { on = has_rows t left most a; held = ap (λ (hs : List Held). is_held hs id) a.held ∙ held }

  some_entries : (t : StateValue) (left most : ℕ) → Among f t (contact_of f.sessions session) (left + 1) most → 1 ≤ t.room.entries
  some_entries t left most a = let b = a.entries in omega (arith, b)

  -- ---- lists of ids

  shown_held : (o : Option Held) → is_shown_held f (contact_of f.sessions session) o ≡ true → is_some o ≡ true
  shown_held None e = absurd (false≢true e)
  shown_held (Some h) e = refl

  -- one entry of a kind that marks a held message, or none
  can_seen : (b : Bool) (id : Id) (rest : List Entry) (t : StateValue) (most : ℕ) → (b ≡ true → is_held f.held id ≡ true)
      → Among f t (contact_of f.sessions session) (length (one_if b (entry.Seen session id) ++ rest)) most
      → ((next : StateValue) → Among f next (contact_of f.sessions session) (length rest) most → CanTakeAll next rest) → CanTakeAll t (one_if b (entry.Seen session id) ++ rest)
  can_seen false id rest t most held a others = others t a
  can_seen true id rest t most held a others =
      let left : ℕ = length rest in
      let b : Among f t (contact_of f.sessions session) (left + 1) most = subst (λ n. Among f t (contact_of f.sessions session) n most) (let q : suc left ≡ left + 1 = omega arith in q) a in (
        record { room = some_entries t left most b; kind = marks t (left + 1) most id b (held refl) },
        (λ next k. others next (goes_on f t next (contact_of f.sessions session) left most most (entry.Seen session id) b k refl refl refl b.wanted)),
      )

  can_asked : (b : Bool) (id : Id) (rest : List Entry) (t : StateValue) (most : ℕ) → (b ≡ true → is_held f.held id ≡ true)
      → Among f t (contact_of f.sessions session) (length (one_if b (entry.Asked session id) ++ rest)) most
      → ((next : StateValue) → Among f next (contact_of f.sessions session) (length rest) most → CanTakeAll next rest) → CanTakeAll t (one_if b (entry.Asked session id) ++ rest)
  can_asked false id rest t most held a others = others t a
  can_asked true id rest t most held a others =
      let left : ℕ = length rest in
      let b : Among f t (contact_of f.sessions session) (left + 1) most = subst (λ n. Among f t (contact_of f.sessions session) n most) (let q : suc left ≡ left + 1 = omega arith in q) a in (
        record { room = some_entries t left most b; kind = marks t (left + 1) most id b (held refl) },
        (λ next k. others next (goes_on f t next (contact_of f.sessions session) left most most (entry.Asked session id) b k refl refl refl b.wanted)),
      )

  can_acks : (ids : List Id) (t : StateValue) (most : ℕ) → Among f t (contact_of f.sessions session) (length (taken_acks f session (contact_of f.sessions session) ids)) most
      → CanTakeAll t (taken_acks f session (contact_of f.sessions session) ids)
  can_acks [] t most a = tt
  can_acks (id ∷ ids) t most a =
      can_seen (is_shown f (contact_of f.sessions session) id && not (row_at f.rows (contact_of f.sessions session) id).seen) id
      (taken_acks f session (contact_of f.sessions session) ids) t most
      (λ e. shown_held (held_at f.held id) (and_parts (is_shown f (contact_of f.sessions session) id) (not (row_at f.rows (contact_of f.sessions session) id).seen) e).0)
      a (λ next b. can_acks ids next most b)

  can_requests : (ids : List Id) (t : StateValue) (most : ℕ) → Among f t (contact_of f.sessions session) (length (taken_requests f session (contact_of f.sessions session) ids)) most
      → CanTakeAll t (taken_requests f session (contact_of f.sessions session) ids)
  can_requests [] t most a = tt
  can_requests (id ∷ ids) t most a =
      can_asked (is_shown f (contact_of f.sessions session) id) id (taken_requests f session (contact_of f.sessions session) ids) t most
      (λ e. shown_held (held_at f.held id) e) a (λ next b. can_requests ids next most b)

  -- ---- offers

  want_length : (b : Bool) (ids : List Id) (id : Id) → length (cond b ids (ids ++ id ∷ [])) ≤ length ids + 1
  want_length true ids id = omega arith
  want_length false ids id = let e = length-append ids (id ∷ []) in omega (arith, e)

  wanted_more : (t : StateValue) (id : Id) (most : ℕ) → t.facts.sessions ≡ f.sessions → length (wanted_from t.facts.wanted (contact_of f.sessions session)) ≤ most
      → length (wanted_from (after t.facts (entry.Offered session id)).wanted (contact_of f.sessions session)) ≤ most + 1
  wanted_more t id most sessions le =
      let at : contact_of t.facts.sessions session ≡ contact_of f.sessions session = ap (λ (ss : List Session). contact_of ss session) sessions in
      let own : nat_eq (contact_of f.sessions session) (contact_of t.facts.sessions session) ≡ true = ap (nat_eq (contact_of f.sessions session)) at ∙ grind arith in
      let ids : List Id = with_want (is_held t.facts.held id) (wanted_from t.facts.wanted (contact_of t.facts.sessions session)) id in
      let is : wanted_from (after t.facts (entry.Offered session id)).wanted (contact_of f.sessions session) ≡ ids =
      wanted_insert t.facts.wanted (contact_of t.facts.sessions session) (contact_of f.sessions session) ids
      ∙ ap (λ b. cond b ids (wanted_from t.facts.wanted (contact_of f.sessions session))) own in
      let long = ap (λ (xs : List Id). length xs) is in
      let was = ap (λ c. length (wanted_from t.facts.wanted c)) at in
      let more = want_length (is_held t.facts.held id || is_among (wanted_from t.facts.wanted (contact_of t.facts.sessions session)) id) (wanted_from t.facts.wanted (contact_of t.facts.sessions session)) id in
      omega (arith, long, was, more, le)

  -- one entry that says that a message came again, or none
  can_again : (b : Bool) (id : Id) (rest : List Entry) (t : StateValue) (most : ℕ) → (b ≡ true → is_held f.held id ≡ true)
      → Among f t (contact_of f.sessions session) (length (one_if b (entry.Again session id) ++ rest)) most
      → ((next : StateValue) → Among f next (contact_of f.sessions session) (length rest) most → CanTakeAll next rest) → CanTakeAll t (one_if b (entry.Again session id) ++ rest)
  can_again false id rest t most held a others = others t a
  can_again true id rest t most held a others =
      let left : ℕ = length rest in
      let b : Among f t (contact_of f.sessions session) (left + 1) most = subst (λ n. Among f t (contact_of f.sessions session) n most) (let q : suc left ≡ left + 1 = omega arith in q) a in (
        record { room = some_entries t left most b; kind = marks t (left + 1) most id b (held refl) },
        (λ next k. others next (goes_on f t next (contact_of f.sessions session) left most most (entry.Again session id) b k refl refl refl b.wanted)),
      )

  -- one entry that says that a message was offered, or none
  can_offered : (b : Bool) (id : Id) (rest : List Entry) (t : StateValue) (most : ℕ) → (b ≡ true → most < 1000)
      → Among f t (contact_of f.sessions session) (length (one_if b (entry.Offered session id) ++ rest)) most
      → ((next : StateValue) → Among f next (contact_of f.sessions session) (length rest) (cond b (most + 1) most) → CanTakeAll next rest)
      → CanTakeAll t (one_if b (entry.Offered session id) ++ rest)
  can_offered false id rest t most few a others = others t a
  can_offered true id rest t most few a others =
      let left : ℕ = length rest in
      let b : Among f t (contact_of f.sessions session) (left + 1) most = subst (λ n. Among f t (contact_of f.sessions session) n most) (let q : suc left ≡ left + 1 = omega arith in q) a in
      let wants : 1 ≤ wants_room t.room (contact_of f.sessions session) = (let w = b.wants in omega (arith, w)) in
      let few_wanted : length (wanted_from t.facts.wanted (contact_of f.sessions session)) < 2 ^ 32 - 1 = (let w = b.wanted in let m = few refl in omega (arith, w, m)) in (
        record {
          room = some_entries t left most b;
          kind = (
            ap (λ (ss : List Session). is_some (session_at ss session)) b.sessions ∙ known,
            subst (λ (ss : List Session). 1 ≤ wants_room t.room (contact_of ss session)) (sym b.sessions) wants,
            subst (λ (ss : List Session). length (wanted_from t.facts.wanted (contact_of ss session)) < 2 ^ 32 - 1) (sym b.sessions) few_wanted,
          );
        },
        (λ next k. others next (goes_on f t next (contact_of f.sessions session) left most (most + 1) (entry.Offered session id) b k refl refl refl
            (wanted_more t id most b.sessions b.wanted))),
      )

  remembered : (room : ℕ) (id : Id) → is_remembered f (contact_of f.sessions session) room id ≡ true → 0 < room
  remembered room id e =
      let one = (and_parts (not (is_some (held_at f.held id))) (not (is_among (wanted_from f.wanted (contact_of f.sessions session)) id) && nat_lt 0 room) e).1 in
      let two : nat_lt 0 room ≡ true = (and_parts (not (is_among (wanted_from f.wanted (contact_of f.sessions session)) id)) (nat_lt 0 room) one).1 in
      grind (arith, two)

  -- while there is room for wanted ids, there are fewer than 1,000
  abbrev Fewer : ℕ → ℕ → Type 0
  Fewer room most = 0 < room → most + room ≤ 1000

  fewer_after : (b : Bool) (room most : ℕ) → (b ≡ true → 0 < room) → Fewer room most → Fewer (room_after b room) (cond b (most + 1) most)
  fewer_after true room most some fewer later = let one = some refl in let was = fewer one in omega (arith, one, was)
  fewer_after false room most some fewer later = fewer later

  can_offers : (ids : List Id) (room : ℕ) (t : StateValue) (most : ℕ) → Fewer room most
      → Among f t (contact_of f.sessions session) (length (taken_offers f session (contact_of f.sessions session) room ids)) most
      → CanTakeAll t (taken_offers f session (contact_of f.sessions session) room ids)
  can_offers [] room t most fewer a = tt
  can_offers (id ∷ ids) room t most fewer a =
      let shown : Bool = is_shown f (contact_of f.sessions session) id in
      let new : Bool = is_remembered f (contact_of f.sessions session) room id in
      let later : List Entry = taken_offers f session (contact_of f.sessions session) (room_after new room) ids in
      let regrouped : (one_if shown (entry.Again session id) ++ one_if new (entry.Offered session id)) ++ later ≡ one_if shown (entry.Again session id) ++ (one_if new (entry.Offered session id) ++ later) =
      append_assoc (one_if shown (entry.Again session id)) (one_if new (entry.Offered session id)) later in
      subst (CanTakeAll t) (sym regrouped)
      (can_again shown id (one_if new (entry.Offered session id) ++ later) t most (shown_held (held_at f.held id))
      (subst (λ (es : List Entry). Among f t (contact_of f.sessions session) (length es) most) regrouped a)
      (λ next b. can_offered new id later next most (λ e. let some = remembered room id e in let was = fewer some in omega (arith, some, was)) b
      (λ last d. can_offers ids (room_after new room) last (cond new (most + 1) most) (fewer_after new room most (remembered room id) fewer) d)))

  -- ---- a message

  can_message_of : (t : StateValue) (most : ℕ) (m : MessageValue) → is_some (group_at f.groups m.group) ≡ true → length f.held < 2 ^ 32 - 1
      → (o : Option Held) → held_at f.held (message_id_of m) ≡ o → Among f t (contact_of f.sessions session) (length (taken_message_of f session (contact_of f.sessions session) m o)) most
      → CanTakeAll t (taken_message_of f session (contact_of f.sessions session) m o)
  can_message_of t most m group few None e a =
      let b : Among f t (contact_of f.sessions session) (0 + 1) most = subst (λ n. Among f t (contact_of f.sessions session) n most) (let q : 1 ≡ 0 + 1 = omega arith in q) a in (
        record {
          room = some_entries t 0 most b;
          kind = (
            record {
              known = ap (λ (gs : List Known). is_some (group_at gs m.group)) b.groups ∙ group;
              new = ap (λ (hs : List Held). held_at hs (message_id_of m)) b.held ∙ e;
              few = let long = ap (λ (hs : List Held). length hs) b.held in omega (arith, long, few);
            },
            ap (λ (ss : List Session). is_some (session_at ss session)) b.sessions ∙ known,
            subst (λ (ss : List Session). length t.facts.held + 1 ≤ rows_room t.room (contact_of ss session)) (sym b.sessions)
                (let long = ap (λ (hs : List Held). length hs) b.held in let r = b.rows in omega (arith, long, r)),
          );
        },
        (λ next k. tt),
      )
  can_message_of t most m group few (Some h) e a =
      elim (not (is_invisible (level_at f.levels (contact_of f.sessions session) h.message.group))) as (λ b.
      Among f t (contact_of f.sessions session) (length (one_if b (entry.Again session (message_id_of m)))) most → CanTakeAll t (one_if b (entry.Again session (message_id_of m)))) [
        | true ↦ λ a.
            let b : Among f t (contact_of f.sessions session) (0 + 1) most = subst (λ n. Among f t (contact_of f.sessions session) n most) (let q : 1 ≡ 0 + 1 = omega arith in q) a in
            (record { room = some_entries t 0 most b; kind = marks t (0 + 1) most (message_id_of m) b (ap (λ (x : Option Held). is_some x) e) }, (λ next k. tt))
        | false ↦ λ a. tt
      ] a

  can_message : (t : StateValue) (most : ℕ) (m : MessageValue) → length f.held < 2 ^ 32 - 1
      → Among f t (contact_of f.sessions session) (length (taken_message f session (contact_of f.sessions session) m)) most → CanTakeAll t (taken_message f session (contact_of f.sessions session) m)
  can_message t most m few a =
      elim (is_welcome f (contact_of f.sessions session) m.group) as (λ b. is_welcome f (contact_of f.sessions session) m.group ≡ b
      → Among f t (contact_of f.sessions session) (length (cond b (taken_message_of f session (contact_of f.sessions session) m (held_at f.held (message_id_of m))) [])) most
      → CanTakeAll t (cond b (taken_message_of f session (contact_of f.sessions session) m (held_at f.held (message_id_of m))) [])) [
        | true ↦ λ e a.
            let group = (and_parts (is_some (group_at f.groups m.group)) (not (is_invisible (level_at f.levels (contact_of f.sessions session) m.group))) e).0 in
            can_message_of t most m group few (held_at f.held (message_id_of m)) refl a
        | false ↦ λ e a. tt
      ] refl a

  -- ---- a record

  can_taken : (r : Record) (t : StateValue) → length f.held < 2 ^ 32 - 1
      → Among f t (contact_of f.sessions session) (length (taken f session r)) (length (wanted_from f.wanted (contact_of f.sessions session))) → CanTakeAll t (taken f session r)
  can_taken (record_kind.Ack ids) t few a = can_acks (firsts ids) t _ a
  can_taken (record_kind.Message m) t few a = can_message t _ m few a
  can_taken (record_kind.Offer ids) t few a =
      can_offers (firsts ids) (MAX_WANTED - length (wanted_from f.wanted (contact_of f.sessions session))) t (length (wanted_from f.wanted (contact_of f.sessions session))) (λ some. omega (arith, some)) a
  can_taken (record_kind.Request ids) t few a = can_requests (firsts ids) t _ a
  can_taken (record_kind.Versions versions) t few a = tt
  can_taken (record_kind.Priority nonce) t few a = tt

-- ---- batches

room_first : (s : StateValue) (e : Entry) (rest : List Entry) → HasRoom s (e ∷ rest) → 1 ≤ s.room.entries
room_first s e rest r = let h = r.entries in omega (arith, h)

-- a batch of one entry
alone : (s : StateValue) (e : Entry) → HasRoom s (e ∷ []) → CanTakeKind s e → CanTakeAll s (e ∷ [])
alone s e r kind = (record { room = room_first s e [] r; kind = kind }, (λ next k. tt))

some_contact : (s : StateValue) (o : Option Session) (n : ℕ) → is_some o ≡ true → IfSome (option_map (λ (x : Session). x.contact) o) (HasContactRoom s n) → HasContactRoom s n (contact_in o)
some_contact s None n known room = absurd (false≢true known)
some_contact s (Some x) n known room = room

rows_enough : (held rows : ℕ) → held < 2 ^ 32 - 1 → min (2 ^ 32 - 1) (held + 1) ≤ rows → held + 1 ≤ rows
rows_enough held rows few le = omega (arith, few, le)

is_there : (o : Option Session) (clients : Meaning) (f : Facts) (now : ℕ) (what : Out) → IsDue clients f o now what → is_some o ≡ true
is_there None clients f now what e = absurd e
is_there (Some x) clients f now what e = refl

sent_can : (o : Option Session) (clients : Meaning) (f : Facts) (now : ℕ) (what : Out) → AreApart (map (λ (h : Held). h.id) f.held) → IsDue clients f o now what → CanSend f what
sent_can None clients f now what apart e = absurd e
sent_can (Some x) clients f now what apart e = due_can f _ x now what apart e

no_group : (o : Option Known) → is_some o ≡ false → o ≡ None
no_group None e = refl
no_group (Some x) e = absurd (false≢true (sym e))

no_held : (o : Option Held) → is_some o ≡ false → o ≡ None
no_held None e = refl
no_held (Some x) e = absurd (false≢true (sym e))

module _ (clients : Meaning) (s : StateValue) (few : HasNextNumbers s.facts)
    (apart : AreApart (map (λ (h : Held). h.id) s.facts.held)) where
  stands_can : (e : Entry) → MayStandAlone clients s.facts e → HasRoom s (e ∷ [])
      → CanTakeAll s (e ∷ [])
  stands_can (entry.Contact c) may r = alone s (entry.Contact c) r may
  stands_can (entry.Group def) may r =
      let small = may.few in
      alone s (entry.Group def) r
      (no_group (group_at s.facts.groups (group_id_of def)) may.new, omega (arith, small))
  stands_can (entry.Level c g l) may r =
      let rows = rows_enough (length s.facts.held) (rows_room s.room c) few.held r.contact.rows in
      alone s (entry.Level c g l) r (may.1, omega (arith, rows), may.0)
  stands_can (entry.Session x) may r =
      alone s (entry.Session x) r (
        may.numbered,
        may.known_contact,
        (let small = may.few in let same = may.numbered in omega (arith, small, same)),
      )
  stands_can (entry.Author m) may r =
      alone s (entry.Author m) r
      (record {
        known = may.known_group;
        new = no_held (held_at s.facts.held (message_id_of m)) may.new;
        few = few.held;
      })
  stands_can (entry.Out n now what) may r =
      let known = is_there (session_at s.facts.sessions n) clients s.facts now what may in
      let room : HasContactRoom s 1 (contact_of s.facts.sessions n) =
      some_contact s (session_at s.facts.sessions n) 1 known r.contact in
      let rows = rows_enough (length s.facts.held)
      (rows_room s.room (contact_of s.facts.sessions n)) few.held room.rows in
      alone s (entry.Out n now what) r (
        record { known = known; rows = omega (arith, rows) },
        sent_can (session_at s.facts.sessions n) clients s.facts now what apart may,
      )
  stands_can (entry.Kept from m) may r =
      alone s (entry.Kept from m) r
      (record {
        known = may.1.known_group;
        new = no_held (held_at s.facts.held (message_id_of m)) may.1.new;
        few = few.held;
      })
  stands_can _ may r = absurd may

  record_can : (n k : ℕ) (r : Record) → TakesNext s.facts n k r
      → HasRoom s (entry.Take n k ∷ taken s.facts n r)
      → CanTakeAll s (entry.Take n k ∷ taken s.facts n r)
  record_can n k r next room =
      let es : List Entry = entry.Take n k ∷ taken s.facts n r in
      let own : HasContactRoom s (length es) (contact_of s.facts.sessions n) =
      some_contact s (session_at s.facts.sessions n) (length es) next.known_session room.contact in
      let rows = rows_enough (length s.facts.held)
      (rows_room s.room (contact_of s.facts.sessions n)) few.held own.rows in
      let count = room.entries in
      let wants = own.wants in (
        record {
          room = room_first s (entry.Take n k) (taken s.facts n r) room;
          kind = few.records n;
        },
        (λ then t. can_taken s.facts n next.known_session r then few.held (record {
          held = ap (λ (f : Facts). f.held) t.facts;
          sessions = ap (λ (f : Facts). f.sessions) t.facts;
          groups = ap (λ (f : Facts). f.groups) t.facts;
          entries = let q = t.room.entries in omega (arith, q, count);
          rows = let q = t.room.rows (contact_of s.facts.sessions n) in omega (arith, q, rows);
          wants = let q = t.room.wants (contact_of s.facts.sessions n) in omega (arith, q, wants);
          wanted =
              let q = ap
              (λ (f : Facts). length (wanted_from f.wanted (contact_of s.facts.sessions n)))
              t.facts in
              omega (arith, q);
        })),
      )

-- a batch that is neither a settling one nor one of rows can be taken where there is room for it
abbrev CanTakePlain : StateValue → List Entry → Type 0
CanTakePlain s b = is_settling_kind b ≡ false → is_rows_kind b ≡ false → HasRoom s b
    → CanTakeAll s b

pub can_batch : (clients : Meaning) (s : StateValue) (b : List Entry) → Allowed clients s.facts b → is_settling_kind b ≡ false → is_rows_kind b ≡ false
    → HasRoom s b → HasNextNumbers s.facts → AreApart (map (λ (h : Held). h.id) s.facts.held) → (s.facts.start ≡ start.Empty → s.facts.begun ≡ 0)
    → CanTakeAll s b
can_batch clients s b a kind plain room few apart fresh =
    by_kind clients s.facts (CanTakePlain s) (record {
      alone = λ e settled may kind plain. stands_can clients s few apart e may;
      of_record = λ n k r settled next kind plain. record_can clients s few apart n k r next;
      steps = λ e es step is kind plain. absurd (false≢true (sym kind ∙ steps_settle e es step));
      brief = λ n empty kind plain room. alone s (entry.Brief n) room (fresh empty);
      rows = λ e es row is kind plain. absurd (false≢true (sym plain ∙ rows_are_rows e es row));
    }) b a kind plain room

-- ---- it is noted how the journal began

abbrev begun_so : StateValue → Start → StateValue
begun_so s x = record s { facts = record s.facts { start = x } }

rows_noted : (s : StateValue) (x : Start) (n : ℕ) → HasRowsOfSession s n → HasRowsOfSession (begun_so s x) n
rows_noted s x n h = record { known = h.known; rows = h.rows }

mark_noted : (s : StateValue) (x : Start) (n : ℕ) (id : Id) → CanMark s n id → CanMark (begun_so s x) n id
mark_noted s x n id h = record { on = rows_noted s x n h.on; held = h.held }

hold_noted : (f : Facts) (x : Start) (m : MessageValue) → CanHold f m → CanHold (record f { start = x }) m
hold_noted f x m h = record { known = h.known; new = h.new; few = h.few }

send_noted : (f : Facts) (x : Start) (what : Out) → CanSend f what → CanSend (record f { start = x }) what
send_noted f x (out.Acks ids) h = h
send_noted f x (out.Requests ids) h = tt
send_noted f x (out.Offers ids) h = h
send_noted f x (out.Send id) h = h

kind_noted : (s : StateValue) (x : Start) (e : Entry) → CanTakeKind s e → CanTakeKind (begun_so s x) e
kind_noted s x (entry.Author m) k = hold_noted s.facts x m k
kind_noted s x (entry.Arrive n m) k = (hold_noted s.facts x m k.0, k.1, k.2)
kind_noted s x (entry.Again n id) k = mark_noted s x n id k
kind_noted s x (entry.Seen n id) k = mark_noted s x n id k
kind_noted s x (entry.Asked n id) k = mark_noted s x n id k
kind_noted s x (entry.Out n now what) k = (rows_noted s x n k.0, send_noted s.facts x what k.1)
kind_noted s x (entry.Kept from m) k = hold_noted s.facts x m k
kind_noted s x _ k = k

-- what an entry needs is there as before
pub can_noted : (s : StateValue) (e : Entry) → CanTake s e → CanTake (noted s e) e
can_noted s e can = record { room = can.room; kind = kind_noted s (start_after s.facts.start e) e can.kind }
