-- The test of a batch decides whether it is allowed.
use Rattle.std.proofs.Common.{◌≡◌, ℕ, ◌≤◌, Bool, true, false, not, ◌&&◌, ◌||◌, List, [], ◌∷◌, length, refl, sym, ◌∙◌, ap, arith, Option, Some, None, is_some, nat_eq, nat_lt, nat_le, eqb-true, eq-eqb, inl, inr}
use Rattle.std.specs.Prelude.{is_none}
use Rattle.std.specs.Bool.{Decides}
use Rattle.std.proofs.lemmas.Bool.{and_parts, and_from, or_cases, false≢true, not-true, leb-true, le-leb}
use Rattle.std.proofs.lemmas.Bool.Decides.{Decides-eqb, Decides-ltb}
use Rattle.sync_ids.specs.Values.{GroupValue, MessageValue}
use Rattle.sync_ids.specs.Ids.{group_id_of, message_id_of}
use Rattle.sync_rules.specs.declared.entries.Entry.{Entry}
use Rattle.sync_rules.specs.declared.entries.Entry.TheVariants as entry
use Rattle.sync_rules.specs.declared.entries.Out.{Out}
use Rattle.sync_rules.specs.declared.entries.Session.{Session}
use Rattle.sync_rules.specs.declared.entries.Tried.{Tried}
use Rattle.sync_rules.specs.declared.states.Origin.{Origin}
use Rattle.sync_rules.specs.declared.states.Origin.TheVariants as origin
use Rattle.sync_rules.specs.declared.states.Start.{Start}
use Rattle.sync_rules.specs.declared.states.Start.TheVariants as start
use Rattle.sync_rules.specs.declared.limits.TheConstants.{MAX_CONTACTS, MAX_GROUPS, MAX_ROWS, MAX_SESSIONS, MAX_STEPS, MAX_TRIES, MAX_WANTED}
use Rattle.sync_rules.specs.Clients.{Meaning}
use Rattle.sync_rules.specs.Lists.{is_among}
use Rattle.sync_rules.specs.Facts.{Facts, Id, group_at, held_at, is_held, is_no_row, row_at, session_at, takes_of, wanted_from, after}
use Rattle.sync_rules.specs.Steps.{IsSettled, next, kind_of_def, verdict_in}
use Rattle.sync_rules.specs.Sessions.{due}
use Rattle.sync_rules.specs.Legal.{Allowed, AreRows, IsDue, IsKeptFrom, IsRowsBatch, IsSettling}
use Rattle.sync_rules.specs.Legal.{IsSettlingBatch, MayAddGroup, MayAuthor, MayBegin, MayKeep}
use Rattle.sync_rules.specs.Legal.{MayRestore, MayStandAlone, MayTake, MayWant, SuitsRows}
use Rattle.sync_rules.specs.Legal.{accepts_served, is_empty_row, suits_nonce}
use Rattle.sync_rules.proofs.StepLaws.{next_is_settling}
use Rattle.sync_rules.specs.Allows.{allows, alone, are_rows, gives, is_due_on, is_empty}
use Rattle.sync_rules.specs.Allows.{is_empty_start, is_kept_from, is_opening, is_rows, is_settled}
use Rattle.sync_rules.specs.Allows.{is_settling, is_some_of, may_add_group, may_author, may_begin}
use Rattle.sync_rules.specs.Allows.{may_keep, may_restore, may_stand_alone, may_take, may_want}
use Rattle.sync_rules.specs.Allows.{read_as, same_entry, settles, suits_rows}
use Rattle.sync_rules.specs.EntryTests.{IsSettlingEntry}
use Rattle.sync_rules.proofs.SameEntries.{both_decide, same_entry-is, some_out-Decides}
use Rattle.sync_rules.proofs.TakenBack.{WholeIds, gives_some, some_gives}
use Rattle.sync_rules.proofs.Elements.{same_id_itself}

itself : (b : Bool) → Decides b (b ≡ true)
itself b = (λ h. h, λ h. h)

le_decides : (a b : ℕ) → Decides (nat_le a b) (a ≤ b)
le_decides a b = (leb-true a b, le-leb a b)

none_decides : {A : Type 0} (o : Option A) → Decides (is_none o) (is_some o ≡ false)
none_decides o = (not-true (is_some o), λ h. ap not h)

settled_decides : (clients : Meaning) (f : Facts) → Decides (is_settled clients f) (IsSettled clients f)
settled_decides clients f = by (next clients f) where
  by : (o : Option Entry) → Decides (is_none o) (o ≡ None)
  by None = (λ h. refl, λ h. refl)
  by (Some e) = (λ h. absurd (false≢true h), λ h. absurd cc)

empty_decides : (rest : List Entry) → Decides (is_empty rest) (rest ≡ [])
empty_decides [] = (λ h. refl, λ h. refl)
empty_decides (e ∷ es) = (λ h. absurd (false≢true h), λ h. absurd cc)

-- ---- one entry alone

-- nothing else stands in the batch, the journal is settled, and one more thing holds
alone_decides : {P : Type 0} (clients : Meaning) (f : Facts) (rest : List Entry) (b : Bool) → Decides b P
    → Decides (alone clients f rest && b) ((rest ≡ []) × IsSettled clients f × P)
alone_decides clients f rest b d =
    let all = both_decide (alone clients f rest) b (both_decide (is_empty rest) (is_settled clients f) (empty_decides rest) (settled_decides clients f)) d in
    (λ h. let t = all.0 h in (t.0.0, t.0.1, t.1), λ h. all.1 ((h.0, h.1), h.2))

add_group_decides : (clients : Meaning) (f : Facts) (def : GroupValue) → Decides (may_add_group clients f def) (MayAddGroup clients f def)
add_group_decides clients f def =
    let all = both_decide (is_some (kind_of_def clients def)) (is_none (group_at f.groups (group_id_of def)) && nat_lt (length f.groups) MAX_GROUPS) (itself (is_some (kind_of_def clients def)))
    (both_decide (is_none (group_at f.groups (group_id_of def))) (nat_lt (length f.groups) MAX_GROUPS) (none_decides (group_at f.groups (group_id_of def))) (Decides-ltb (length f.groups) MAX_GROUPS)) in
    (λ h. let t = all.0 h in record { known_client = t.0; new = t.1.0; few = t.1.1 }, λ h. all.1 (h.known_client, (h.new, h.few)))

begin_decides : (f : Facts) (s : Session) → Decides (may_begin f s) (MayBegin f s)
begin_decides f s =
    let all = both_decide (nat_eq s.number f.begun) (nat_lt s.number MAX_SESSIONS && (nat_lt s.contact f.contacts && (nat_le 1 s.latency && suits_nonce s.mode s.nonce)))
    (Decides-eqb s.number f.begun)
    (both_decide (nat_lt s.number MAX_SESSIONS) (nat_lt s.contact f.contacts && (nat_le 1 s.latency && suits_nonce s.mode s.nonce)) (Decides-ltb s.number MAX_SESSIONS)
    (both_decide (nat_lt s.contact f.contacts) (nat_le 1 s.latency && suits_nonce s.mode s.nonce) (Decides-ltb s.contact f.contacts)
    (both_decide (nat_le 1 s.latency) (suits_nonce s.mode s.nonce) (le_decides 1 s.latency) (itself (suits_nonce s.mode s.nonce))))) in (
      λ h. let t = all.0 h in record { numbered = t.0; few = t.1.0; known_contact = t.1.1.0; some_latency = t.1.1.1.0; suited_nonce = t.1.1.1.1 },
      λ h. all.1 (h.numbered, (h.few, (h.known_contact, (h.some_latency, h.suited_nonce)))),
    )

author_decides : (clients : Meaning) (f : Facts) (m : MessageValue) → Decides (may_author clients f m) (MayAuthor clients f m)
author_decides clients f m =
    let accepted : Bool = accepts_served f m.group (verdict_in clients f.groups m) in
    let all = both_decide (is_some (group_at f.groups m.group)) (is_none (held_at f.held (message_id_of m)) && accepted) (itself (is_some (group_at f.groups m.group)))
    (both_decide (is_none (held_at f.held (message_id_of m))) accepted (none_decides (held_at f.held (message_id_of m))) (itself accepted)) in
    (λ h. let t = all.0 h in record { known_group = t.0; new = t.1.0; accepted = t.1.1 }, λ h. all.1 (h.known_group, (h.new, h.accepted)))

due_decides : (clients : Meaning) (f : Facts) (o : Option Session) (now : ℕ) (what : Out)
    → Decides (is_due_on clients f o now what) (IsDue clients f o now what)
due_decides clients f None now what = (λ h. absurd (false≢true h), λ h. absurd h)
due_decides clients f (Some s) now what = some_out-Decides (due clients f s now) what

-- ---- a record

take_decides : WholeIds → (f : Facts) (s k : ℕ) (rest : List Entry) → Decides (may_take f s k rest) (MayTake f s k rest)
take_decides all f s k rest = (there, back) where
  there : may_take f s k rest ≡ true → MayTake f s k rest
  there h =
      let a = and_parts (is_some (session_at f.sessions s)) (nat_eq k (takes_of f.takes s) && gives f s rest (read_as rest)) h in
      let b = and_parts (nat_eq k (takes_of f.takes s)) (gives f s rest (read_as rest)) a.1 in
      let some = gives_some f s rest b.1 in
      record { known_session = a.0; numbered = eqb-true k (takes_of f.takes s) b.0; read = some.read; within = some.within; taken_so = some.taken_so }

  back : MayTake f s k rest → may_take f s k rest ≡ true
  back h =
      and_from (is_some (session_at f.sessions s)) (nat_eq k (takes_of f.takes s) && gives f s rest (read_as rest)) h.known_session
      (and_from (nat_eq k (takes_of f.takes s)) (gives f s rest (read_as rest)) (eq-eqb k (takes_of f.takes s) h.numbered)
      (some_gives all f s rest h.read h.within h.taken_so))

-- ---- settling

step_itself : (e : Entry) → IsSettlingEntry e → same_entry e e ≡ true
step_itself (entry.Judged id) is = same_id_itself id
step_itself (entry.Deliver id) is = same_id_itself id
step_itself (entry.Invalid id) is = same_id_itself id
step_itself _ is = absurd is

next_decides : (clients : Meaning) (f : Facts) (e : Entry) → Decides (is_some_of same_entry (next clients f) e) (next clients f ≡ Some e)
next_decides clients f e = (by (next clients f), back) where
  by : (o : Option Entry) → is_some_of same_entry o e ≡ true → o ≡ Some e
  by None h = absurd (false≢true h)
  by (Some d) h = ap Some (same_entry-is d e h)

  back : next clients f ≡ Some e → is_some_of same_entry (next clients f) e ≡ true
  back h = ap (λ (o : Option Entry). is_some_of same_entry o e) h ∙ step_itself e (next_is_settling clients f e h)

settles_decides : (clients : Meaning) (f : Facts) (es : List Entry) → Decides (settles clients f es) (IsSettling clients f es)
settles_decides clients f [] = (λ h. tt, λ h. refl)
settles_decides clients f (e ∷ es) =
    both_decide (is_some_of same_entry (next clients f) e) (settles clients (after f e) es) (next_decides clients f e) (settles_decides clients (after f e) es)

settling_decides : (clients : Meaning) (f : Facts) (e : Entry) (es : List Entry) → Decides (is_settling clients f (e ∷ es)) (IsSettlingBatch clients f (e ∷ es))
settling_decides clients f e es =
    let all = both_decide (nat_le (length (e ∷ es)) MAX_STEPS) (settles clients f (e ∷ es)) (le_decides (length (e ∷ es)) MAX_STEPS) (settles_decides clients f (e ∷ es)) in
    (λ h. let t = all.0 h in (omega arith, t.0, t.1), λ h. all.1 (h.1, h.2))

-- ---- a brief account

not_decides : (b : Bool) → Decides (not b) (b ≡ false)
not_decides b = (not-true b, λ h. ap not h)

empty_start_decides : (s : Start) → Decides (is_empty_start s) (s ≡ start.Empty)
empty_start_decides start.Empty = (λ h. refl, λ h. refl)
empty_start_decides start.Opening = (λ h. absurd (false≢true h), λ h. absurd cc)
empty_start_decides start.Going = (λ h. absurd (false≢true h), λ h. absurd cc)

opening_decides : (s : Start) → Decides (is_opening s) (s ≡ start.Opening)
opening_decides start.Empty = (λ h. absurd (false≢true h), λ h. absurd cc)
opening_decides start.Opening = (λ h. refl, λ h. refl)
opening_decides start.Going = (λ h. absurd (false≢true h), λ h. absurd cc)

kept_from_decides : (clients : Meaning) (f : Facts) (from : Origin) (m : MessageValue) → Decides (is_kept_from clients f from m) (IsKeptFrom clients f from m)
kept_from_decides clients f origin.Author m = itself (accepts_served f m.group (verdict_in clients f.groups m))
kept_from_decides clients f (origin.From contact) m = Decides-ltb contact f.contacts

keep_decides : (clients : Meaning) (f : Facts) (from : Origin) (m : MessageValue) → Decides (may_keep clients f from m) (MayKeep clients f from m)
keep_decides clients f from m =
    let so : Bool = is_kept_from clients f from m in
    let all = both_decide (is_some (group_at f.groups m.group)) (is_none (held_at f.held (message_id_of m)) && so) (itself (is_some (group_at f.groups m.group)))
    (both_decide (is_none (held_at f.held (message_id_of m))) so (none_decides (held_at f.held (message_id_of m))) (kept_from_decides clients f from m)) in
    (λ h. let t = all.0 h in record { known_group = t.0; new = t.1.0; kept_from = t.1.1 }, λ h. all.1 (h.known_group, (h.new, h.kept_from)))

-- no wait without a try
wait_decides : (tries expiry : ℕ) → Decides (not (nat_eq tries 0) || nat_eq expiry 0) (tries ≡ 0 → expiry ≡ 0)
wait_decides tries expiry = (there, back) where
  there : (not (nat_eq tries 0) || nat_eq expiry 0) ≡ true → tries ≡ 0 → expiry ≡ 0
  there h none =
      elim (or_cases (not (nat_eq tries 0)) (nat_eq expiry 0) h) [
        | inl some ↦ absurd (false≢true (sym (not-true (nat_eq tries 0) some) ∙ eq-eqb tries 0 none))
        | inr waits ↦ eqb-true expiry 0 waits
      ]

  back : (tries ≡ 0 → expiry ≡ 0) → (not (nat_eq tries 0) || nat_eq expiry 0) ≡ true
  back none = by (nat_eq tries 0) refl where
    by : (b : Bool) → nat_eq tries 0 ≡ b → (not b || nat_eq expiry 0) ≡ true
    by true e = eq-eqb expiry 0 (none (eqb-true tries 0 e))
    by false e = refl

restore_decides : (f : Facts) (t : Tried) → Decides (may_restore f t) (MayRestore f t)
restore_decides f t =
    let known : Bool = nat_lt t.contact f.contacts in
    let held : Bool = is_held f.held t.id in
    let few : Bool = nat_le t.tries MAX_TRIES in
    let waits : Bool = not (nat_eq t.tries 0) || nat_eq t.expiry 0 in
    let some : Bool = not (is_empty_row t) in
    let first : Bool = is_no_row (row_at f.rows t.contact t.id) in
    let all = both_decide known (held && (few && (waits && (some && first)))) (Decides-ltb t.contact f.contacts)
    (both_decide held (few && (waits && (some && first))) (itself held)
    (both_decide few (waits && (some && first)) (le_decides t.tries MAX_TRIES)
    (both_decide waits (some && first) (wait_decides t.tries t.expiry)
    (both_decide some first (not_decides (is_empty_row t)) (itself first))))) in (
      λ h. let x = all.0 h in
          record { known_contact = x.0; held = x.1.0; few_tries = x.1.1.0; no_wait = x.1.1.1.0; not_empty = x.1.1.1.1.0; first = x.1.1.1.1.1 },
      λ h. all.1 (h.known_contact, (h.held, (h.few_tries, (h.no_wait, (h.not_empty, h.first))))),
    )

want_decides : (f : Facts) (contact : ℕ) (id : Id) → Decides (may_want f contact id) (MayWant f contact id)
want_decides f contact id =
    let known : Bool = nat_lt contact f.contacts in
    let ids : List Id = wanted_from f.wanted contact in
    let new : Bool = not (is_held f.held id) in
    let other : Bool = not (is_among ids id) in
    let few : Bool = nat_lt (length ids) MAX_WANTED in
    let all = both_decide known (new && (other && few)) (Decides-ltb contact f.contacts)
    (both_decide new (other && few) (not_decides (is_held f.held id))
    (both_decide other few (not_decides (is_among ids id)) (Decides-ltb (length ids) MAX_WANTED))) in (
      λ h. let x = all.0 h in record { known_contact = x.0; not_held = x.1.0; not_wanted = x.1.1.0; few = x.1.1.1 },
      λ h. all.1 (h.known_contact, (h.not_held, (h.not_wanted, h.few))),
    )

suits_decides : (f : Facts) (e : Entry) → Decides (suits_rows f e) (SuitsRows f e)
suits_decides f (entry.Tried t) = restore_decides f t
suits_decides f (entry.Want contact id) = want_decides f contact id
suits_decides f _ = (λ h. false≢true h, λ h. absurd h)

are_rows_decides : (f : Facts) (es : List Entry) → Decides (are_rows f es) (AreRows f es)
are_rows_decides f [] = (λ h. tt, λ h. refl)
are_rows_decides f (e ∷ es) =
    both_decide (suits_rows f e) (are_rows (after f e) es) (suits_decides f e) (are_rows_decides (after f e) es)

rows_decides : (clients : Meaning) (f : Facts) (e : Entry) (es : List Entry) → Decides (is_rows clients f (e ∷ es)) (IsRowsBatch clients f (e ∷ es))
rows_decides clients f e es =
    let few : Bool = nat_le (length (e ∷ es)) MAX_ROWS in
    let all = both_decide (is_opening f.start) (is_settled clients f && (few && are_rows f (e ∷ es))) (opening_decides f.start)
    (both_decide (is_settled clients f) (few && are_rows f (e ∷ es)) (settled_decides clients f)
    (both_decide few (are_rows f (e ∷ es)) (le_decides (length (e ∷ es)) MAX_ROWS) (are_rows_decides f (e ∷ es)))) in (
      λ h. let t = all.0 h in record { opening = t.0; settled = t.1.0; some = omega arith; few = t.1.1.0; suits = t.1.1.1 },
      λ h. all.1 (h.opening, (h.settled, (h.few, h.suits))),
    )

-- ---- batches

never : Decides false ⊥
never = (λ h. false≢true h, λ h. absurd h)

stands_decides : (clients : Meaning) (f : Facts) (e : Entry)
    → Decides (may_stand_alone clients f e) (MayStandAlone clients f e)
stands_decides clients f (entry.Contact c) =
    both_decide (nat_eq c f.contacts) (nat_lt c MAX_CONTACTS) (Decides-eqb c f.contacts)
    (Decides-ltb c MAX_CONTACTS)
stands_decides clients f (entry.Group def) = add_group_decides clients f def
stands_decides clients f (entry.Level c g l) =
    let known : Bool = is_some (group_at f.groups g) in
    both_decide (nat_lt c f.contacts) known (Decides-ltb c f.contacts) (itself known)
stands_decides clients f (entry.Session s) = begin_decides f s
stands_decides clients f (entry.Author m) = author_decides clients f m
stands_decides clients f (entry.Out s now what) =
    due_decides clients f (session_at f.sessions s) now what
stands_decides clients f (entry.Kept from m) =
    both_decide (is_opening f.start) (may_keep clients f from m) (opening_decides f.start)
    (keep_decides clients f from m)
stands_decides clients f _ = never

pub allows_decides : WholeIds → (clients : Meaning) (f : Facts) (b : List Entry) → Decides (allows clients f b) (Allowed clients f b)
allows_decides all clients f [] = never
allows_decides all clients f (entry.Take s k ∷ rest) =
    both_decide (is_settled clients f) (may_take f s k rest) (settled_decides clients f)
    (take_decides all f s k rest)
allows_decides all clients f (entry.Judged id ∷ rest) = settling_decides clients f (entry.Judged id) rest
allows_decides all clients f (entry.Deliver id ∷ rest) = settling_decides clients f (entry.Deliver id) rest
allows_decides all clients f (entry.Invalid id ∷ rest) = settling_decides clients f (entry.Invalid id) rest
allows_decides all clients f (entry.Brief n ∷ rest) =
    both_decide (is_empty rest) (is_empty_start f.start) (empty_decides rest) (empty_start_decides f.start)
allows_decides all clients f (entry.Tried t ∷ rest) = rows_decides clients f (entry.Tried t) rest
allows_decides all clients f (entry.Want contact id ∷ rest) = rows_decides clients f (entry.Want contact id) rest
allows_decides all clients f (e ∷ rest) =
    alone_decides clients f rest (may_stand_alone clients f e) (stands_decides clients f e)
