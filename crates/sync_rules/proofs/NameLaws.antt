-- What an allowed batch names is held before it.
use Rattle.std.proofs.Common.{◌≡◌, ℕ, zero, suc, Bool, true, false, not, cond, ◌&&◌, List, [], ◌∷◌}
use Rattle.std.specs.Option.{option_or}
use Rattle.std.proofs.Common.{◌++◌, take, refl, ap, subst, inl, inr, Option, Some, None, is_some}
use Rattle.std.specs.List.{list_all}
use Rattle.std.proofs.lemmas.Bool.{and_parts, and_from, false≢true}
use Rattle.sync_ids.specs.Values.{MessageValue}
use Rattle.sync_ids.specs.Ids.{message_id_of}
use Rattle.sync_ids.specs.declared.lists.TheConstants.{MAX_IDS}
use Rattle.sync_ids.specs.declared.records.Record.{Record}
use Rattle.sync_ids.specs.declared.records.Record.TheVariants as record_kind
use Rattle.sync_rules.specs.declared.entries.Entry.{Entry}
use Rattle.sync_rules.specs.declared.entries.Entry.TheVariants as entry
use Rattle.sync_rules.specs.declared.entries.Mode.{Mode}
use Rattle.sync_rules.specs.declared.entries.Mode.TheVariants as mode_kind
use Rattle.sync_rules.specs.declared.entries.Out.{Out}
use Rattle.sync_rules.specs.declared.entries.Out.TheVariants as out
use Rattle.sync_rules.specs.declared.entries.Session.{Session}
use Rattle.sync_rules.specs.Clients.{Meaning}
use Rattle.sync_rules.specs.Lists.{same_id, firsts}
use Rattle.sync_rules.specs.Facts.{Facts, Held, Id, after, contact_of, held_at, is_held}
use Rattle.sync_rules.specs.Facts.{is_invisible, level_at, row_at, session_at}
use Rattle.sync_rules.specs.Sessions.{acks_due, due_by, first_id, ids_where, is_remembered, is_ripe}
use Rattle.sync_rules.specs.Sessions.{is_sendable, is_shown, is_shown_held}
use Rattle.sync_rules.specs.Sessions.{is_welcome, offers_due, offers_of, one_if, owed_to}
use Rattle.sync_rules.specs.Sessions.{requests_due, room_after, send_due, send_of}
use Rattle.sync_rules.specs.Sessions.{due_on_any_way, goes_sooner, sooner_due, sooner_of}
use Rattle.sync_rules.specs.Sessions.{sooner_offers_of}
use Rattle.sync_rules.specs.Sessions.{shared_ids, taken, taken_acks, taken_message}
use Rattle.sync_rules.specs.Sessions.{taken_message_of, taken_offers, taken_requests, wanted_of}
use Rattle.sync_rules.specs.Legal.{Allowed, AreRows, IsDue, IsSettling, MayStandAlone, SuitsRows}
use Rattle.sync_rules.specs.Growth.{IsStepOf}
use Rattle.sync_rules.specs.Knowing.{NamesHeld, held_named, held_names}
use Rattle.sync_rules.proofs.BatchKinds.{by_kind}
use Rattle.sync_rules.proofs.Elements.{same_id_itself}
use Rattle.sync_rules.proofs.Outputs.{option_or-cases}
use Rattle.sync_rules.proofs.StepKinds.{next_is_step, settling_only}

-- the names of an entry are held in this list
abbrev are_held : List Held → Entry → Bool
are_held held e = list_all (is_held held) (held_names e)

all-append : (test : Entry → Bool) (es fs : List Entry) → list_all test es ≡ true → list_all test fs ≡ true → list_all test (es ++ fs) ≡ true
all-append test [] fs a b = b
all-append test (e ∷ es) fs a b =
    let both = and_parts (test e) (list_all test es) a in
    and_from (test e) (list_all test (es ++ fs)) both.0 (all-append test es fs both.1 b)

-- ---- the entries of a record

shown_is_held : (f : Facts) (contact : ℕ) (o : Option Held) → is_shown_held f contact o ≡ true → is_some o ≡ true
shown_is_held f contact None s = absurd (false≢true s)
shown_is_held f contact (Some h) s = refl

one_name : (held : List Held) (id : Id) → is_held held id ≡ true → list_all (is_held held) (id ∷ []) ≡ true
one_name held id is = ap (λ b. b && true) is

-- an entry that stands where a test passes
one_held : (held : List Held) (b : Bool) (e : Entry) → (b ≡ true → are_held held e ≡ true) → list_all (are_held held) (one_if b e) ≡ true
one_held held true e is = ap (λ b. b && true) (is refl)
one_held held false e is = refl

module _ (f : Facts) (session contact : ℕ) where
  shown_name : (id : Id) → is_shown f contact id ≡ true → list_all (is_held f.held) (id ∷ []) ≡ true
  shown_name id s = one_name f.held id (shown_is_held f contact (held_at f.held id) s)

  acks_held : (ids : List Id) → list_all (are_held f.held) (taken_acks f session contact ids) ≡ true
  acks_held [] = refl
  acks_held (id ∷ ids) =
      let new : Bool = not (row_at f.rows contact id).seen in
      all-append (are_held f.held) (one_if (is_shown f contact id && new) (entry.Seen session id)) (taken_acks f session contact ids)
      (one_held f.held (is_shown f contact id && new) (entry.Seen session id) (λ t. shown_name id (and_parts (is_shown f contact id) new t).0))
      (acks_held ids)

  requests_held : (ids : List Id) → list_all (are_held f.held) (taken_requests f session contact ids) ≡ true
  requests_held [] = refl
  requests_held (id ∷ ids) =
      all-append (are_held f.held) (one_if (is_shown f contact id) (entry.Asked session id)) (taken_requests f session contact ids)
      (one_held f.held (is_shown f contact id) (entry.Asked session id) (shown_name id)) (requests_held ids)

  offers_held : (room : ℕ) (ids : List Id) → list_all (are_held f.held) (taken_offers f session contact room ids) ≡ true
  offers_held room [] = refl
  offers_held room (id ∷ ids) =
      let left : ℕ = room_after (is_remembered f contact room id) room in
      all-append (are_held f.held)
      (one_if (is_shown f contact id) (entry.Again session id) ++ one_if (is_remembered f contact room id) (entry.Offered session id))
      (taken_offers f session contact left ids)
      (all-append (are_held f.held) (one_if (is_shown f contact id) (entry.Again session id)) (one_if (is_remembered f contact room id) (entry.Offered session id))
      (one_held f.held (is_shown f contact id) (entry.Again session id) (shown_name id))
      (one_held f.held (is_remembered f contact room id) (entry.Offered session id) (λ _. refl)))
      (offers_held left ids)

  message_held : (m : MessageValue) → list_all (are_held f.held) (taken_message f session contact m) ≡ true
  message_held m = by (is_welcome f contact m.group) (held_at f.held (message_id_of m)) refl
    where
      by_held : (o : Option Held) → held_at f.held (message_id_of m) ≡ o → list_all (are_held f.held) (taken_message_of f session contact m o) ≡ true
      by_held None e = refl
      by_held (Some h) e =
          one_held f.held (not (is_invisible (level_at f.levels contact h.message.group))) (entry.Again session (message_id_of m))
          (λ _. one_name f.held (message_id_of m) (ap is_some e))

      by : (w : Bool) (o : Option Held) → held_at f.held (message_id_of m) ≡ o
          → list_all (are_held f.held) (cond w (taken_message_of f session contact m o) []) ≡ true
      by true o e = by_held o e
      by false o e = refl

record_held : (f : Facts) (session : ℕ) (r : Record) → list_all (are_held f.held) (taken f session r) ≡ true
record_held f session (record_kind.Ack ids) = acks_held f session (contact_of f.sessions session) (firsts ids)
record_held f session (record_kind.Message m) = message_held f session (contact_of f.sessions session) m
record_held f session (record_kind.Offer ids) = offers_held f session (contact_of f.sessions session) _ (firsts ids)
record_held f session (record_kind.Request ids) = requests_held f session (contact_of f.sessions session) (firsts ids)
record_held f session (record_kind.Versions versions) = refl
record_held f session (record_kind.Priority nonce) = refl

-- ---- settling

step_held : (f : Facts) (e : Entry) → IsStepOf f e → are_held f.held e ≡ true
step_held f (entry.Judged id) s = one_name f.held id s
step_held f (entry.Deliver id) s = one_name f.held id s
step_held f (entry.Invalid id) s = one_name f.held id s
step_held f _ s = absurd s

settling_held : (clients : Meaning) (f : Facts) (es : List Entry) → IsSettling clients f es → list_all (are_held f.held) es ≡ true
settling_held clients f [] s = refl
settling_held clients f (e ∷ es) s =
    let same : (after f e).held ≡ f.held = (settling_only clients f (e ∷ []) (s.0, tt)).held in
    and_from (are_held f.held e) (list_all (are_held f.held) es) (step_held f e (next_is_step clients f e s.0))
    (subst (λ (held : List Held). list_all (are_held held) es ≡ true) same (settling_held clients (after f e) es s.1))

-- ---- rows and wanted ids

row_held : (f : Facts) (e : Entry) → SuitsRows f e → are_held f.held e ≡ true
row_held f (entry.Tried t) s = one_name f.held t.id s.held
row_held f (entry.Want contact id) s = refl
row_held f _ s = absurd s

row_leaves : (f : Facts) (e : Entry) → SuitsRows f e → (after f e).held ≡ f.held
row_leaves f (entry.Tried t) s = refl
row_leaves f (entry.Want contact id) s = refl
row_leaves f _ s = absurd s

rows_held : (f : Facts) (es : List Entry) → AreRows f es → list_all (are_held f.held) es ≡ true
rows_held f [] s = refl
rows_held f (e ∷ es) s =
    and_from (are_held f.held e) (list_all (are_held f.held) es) (row_held f e s.0)
    (subst (λ (held : List Held). list_all (are_held held) es ≡ true) (row_leaves f e s.0) (rows_held (after f e) es s.1))

-- ---- an output

first_held : (h : Held) (hs : List Held) → is_held (h ∷ hs) h.id ≡ true
first_held h hs = ap (λ b. is_some (cond b (Some h) (held_at hs h.id))) (same_id_itself h.id)

later_held : (h : Held) (hs : List Held) (id : Id) → is_held hs id ≡ true
    → is_held (h ∷ hs) id ≡ true
later_held h hs id e =
    elim (same_id h.id id) as (λ b. is_some (cond b (Some h) (held_at hs id)) ≡ true) [
      | true ↦ refl
      | false ↦ e
    ]

all_later : (h : Held) (hs : List Held) (ids : List Id) → list_all (is_held hs) ids ≡ true
    → list_all (is_held (h ∷ hs)) ids ≡ true
all_later h hs [] all = refl
all_later h hs (id ∷ ids) all =
    let both = and_parts (is_held hs id) (list_all (is_held hs) ids) all in
    and_from (is_held (h ∷ hs) id) (list_all (is_held (h ∷ hs)) ids) (later_held h hs id both.0)
    (all_later h hs ids both.1)

where_held : (test : Held → Bool) (hs : List Held)
    → list_all (is_held hs) (ids_where test hs) ≡ true
where_held test [] = refl
where_held test (h ∷ hs) =
    let later = all_later h hs (ids_where test hs) (where_held test hs) in
    elim (test h) as
    (λ b. list_all (is_held (h ∷ hs)) (cond b (h.id ∷ ids_where test hs) (ids_where test hs))
    ≡ true) [
      | true ↦ and_from (is_held (h ∷ hs) h.id) (list_all (is_held (h ∷ hs)) (ids_where test hs))
          (first_held h hs) later
      | false ↦ later
    ]

all_take : (test : Id → Bool) (n : ℕ) (ids : List Id) → list_all test ids ≡ true
    → list_all test (take n ids) ≡ true
all_take test zero [] all = refl
all_take test zero (id ∷ ids) all = refl
all_take test (suc n) [] all = refl
all_take test (suc n) (id ∷ ids) all =
    let both = and_parts (test id) (list_all test ids) all in
    and_from (test id) (list_all test (take n ids)) both.0 (all_take test n ids both.1)

-- what each part of what is due names passes, where its ids do
module _ (test : Id → Bool) where
  abbrev NamesPass : Out → Type 0
  NamesPass what = list_all test (held_named what) ≡ true

  acks_pass : (ids : List Id) (what : Out) → list_all test ids ≡ true → acks_due ids ≡ Some what
      → NamesPass what
  acks_pass [] what all e = cc
  acks_pass (id ∷ ids) what all e = let same : out.Acks (id ∷ ids) ≡ what = cc in
      subst NamesPass same all

  requests_pass : (mode : Mode) (ids : List Id) (what : Out) → requests_due mode ids ≡ Some what
      → NamesPass what
  requests_pass mode_kind.Batch ids what e = cc
  requests_pass mode_kind.Interactive [] what e = cc
  requests_pass mode_kind.Interactive (id ∷ ids) what e =
      let same : out.Requests (id ∷ ids) ≡ what = cc in subst NamesPass same refl

  send_pass : (ids : List Id) (what : Out) → list_all test ids ≡ true
      → send_due (first_id ids) ≡ Some what → NamesPass what
  send_pass [] what all e = cc
  send_pass (id ∷ ids) what all e =
      let one : NamesPass (out.Send id) =
      ap (λ b. b && true) (and_parts (test id) (list_all test ids) all).0 in
      let same : out.Send id ≡ what = cc in
      subst NamesPass same one

  offers_pass : (mode : Mode) (ids : List Id) (what : Out) → list_all test ids ≡ true
      → offers_due mode ids ≡ Some what → NamesPass what
  offers_pass mode_kind.Batch ids what all e = cc
  offers_pass mode_kind.Interactive [] what all e = cc
  offers_pass mode_kind.Interactive (id ∷ ids) what all e =
      let same : out.Offers (id ∷ ids) ≡ what = cc in subst NamesPass same all

any_way_held : (f : Facts) (shared : List Id) (x : Session) (now : ℕ) (what : Out)
    → due_on_any_way f shared x now ≡ Some what
    → list_all (is_held f.held) (held_named what) ≡ true
any_way_held f shared x now what e =
    let test : Id → Bool = is_held f.held in
    let acks : Option Out = acks_due (owed_to f x.contact) in
    let requests : Option Out = requests_due x.mode (wanted_of f x.contact) in
    let send : Option Out = send_due (send_of f shared x.contact x.mode now) in
    let offers : Option Out = offers_due x.mode (offers_of f shared x.contact now) in
    elim (option_or-cases acks (option_or requests (option_or send offers)) what e) [
      | inl a ↦ acks_pass test (owed_to f x.contact) what
          (all_take test MAX_IDS _ (where_held _ f.held)) a
      | inr r ↦
          elim (option_or-cases requests (option_or send offers) what r) [
            | inl a ↦ requests_pass test x.mode (wanted_of f x.contact) what a
            | inr r ↦
                elim (option_or-cases send offers what r) [
                  | inl a ↦ send_pass test _ what
                      (where_held
                      (λ h. is_sendable f shared x.contact h && is_ripe x.mode now
                      (row_at f.rows x.contact h.id)) f.held) a
                  | inr a ↦ offers_pass test x.mode (offers_of f shared x.contact now) what
                      (all_take test MAX_IDS _ (where_held _ f.held)) a
                ]
          ]
    ]

sooner_held : (f : Facts) (test : Held → Bool) (mode : Mode) (what : Out)
    → sooner_due mode (first_id (ids_where test f.held)) (take MAX_IDS (ids_where test f.held)) ≡ Some what
    → list_all (is_held f.held) (held_named what) ≡ true
sooner_held f test mode_kind.Batch what e = send_pass (is_held f.held) (ids_where test f.held) what (where_held test f.held) e
sooner_held f test mode_kind.Interactive what e =
    offers_pass (is_held f.held) mode_kind.Interactive (take MAX_IDS (ids_where test f.held)) what
    (all_take (is_held f.held) MAX_IDS _ (where_held _ f.held)) e

due_held : (f : Facts) (shared : List Id) (x : Session) (now : ℕ) (what : Out)
    → due_by f shared x now ≡ Some what
    → list_all (is_held f.held) (held_named what) ≡ true
due_held f shared x now what e =
    elim (option_or-cases (due_on_any_way f shared x now)
    (sooner_due x.mode (sooner_of f shared x.contact x.latency now) (sooner_offers_of f shared x.contact x.latency now)) what e) [
      | inl a ↦ any_way_held f shared x now what a
      | inr b ↦ sooner_held f (λ h. is_sendable f shared x.contact h && goes_sooner x.latency now (row_at f.rows x.contact h.id)) x.mode what b
    ]

out_held : (clients : Meaning) (f : Facts) (o : Option Session) (now : ℕ) (what : Out)
    → IsDue clients f o now what
    → list_all (is_held f.held) (held_named what) ≡ true
out_held clients f None now what due = absurd due
out_held clients f (Some x) now what due = due_held f (shared_ids clients f) x now what due

-- ---- batches

stands_held : (clients : Meaning) (f : Facts) (e : Entry) → MayStandAlone clients f e
    → are_held f.held e ≡ true
stands_held clients f (entry.Contact c) may = refl
stands_held clients f (entry.Group def) may = refl
stands_held clients f (entry.Level c g l) may = refl
stands_held clients f (entry.Session x) may = refl
stands_held clients f (entry.Author m) may = refl
stands_held clients f (entry.Out n now what) may =
    out_held clients f (session_at f.sessions n) now what may
stands_held clients f (entry.Kept from m) may = refl
stands_held clients f _ may = absurd may

pub allowed_names_held : (clients : Meaning) (f : Facts) (b : List Entry) → Allowed clients f b
    → NamesHeld f b
allowed_names_held clients f =
    by_kind clients f (NamesHeld f) (record {
      alone = λ e settled may. ap (λ b. b && true) (stands_held clients f e may);
      of_record = λ n k r settled next. record_held f n r;
      steps = λ e es step is. settling_held clients f (e ∷ es) is.2;
      brief = λ n empty. refl;
      rows = λ e es row is. rows_held f (e ∷ es) is.suits;
    })
