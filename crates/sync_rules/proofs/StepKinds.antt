-- What the next step is, and what settling, outputs and records leave of it and of the facts.
use Rattle.std.proofs.Common.{◌≡◌, ℕ, Bool, true, false, cond, nat_eq, List, [], ◌∷◌, ◌++◌, refl, sym, ◌∙◌, ap, subst, inl, inr, Some, None, is_some}
use Rattle.std.specs.Option.{option_or}
use Rattle.std.specs.List.{list_all}
use Rattle.std.proofs.lemmas.Bool.{and_parts, and_from, false≢true}
use Rattle.sync_ids.specs.Values.{MessageValue}
use Rattle.sync_ids.specs.Ids.{message_id_of}
use Rattle.sync_ids.specs.declared.records.Record.{Record}
use Rattle.sync_ids.specs.declared.records.Record.TheVariants as record_kind
use Rattle.sync_rules.specs.declared.entries.Entry.{Entry}
use Rattle.sync_rules.specs.declared.entries.Entry.TheVariants as entry
use Rattle.sync_rules.specs.declared.states.Start.{Start}
use Rattle.sync_rules.specs.declared.states.Start.TheVariants as start
use Rattle.sync_rules.specs.Clients.{Meaning}
use Rattle.sync_rules.specs.Lists.{same_id, firsts, In}
use Rattle.sync_rules.specs.Facts.{Facts, Held, Id, Known, Ids, after, after_all, after_batches, facts, held_at, is_held, contact_of, start_after, takes_of}
use Rattle.sync_rules.specs.Steps.{step, first_step, next, IsSettled}
use Rattle.sync_rules.specs.Sessions.{taken, taken_message, taken_message_of, taken_acks, taken_requests, taken_offers, taken_offer, one_if, is_welcome, is_remembered, room_after}
use Rattle.sync_rules.specs.Legal.{Allowed, IsSettling, AllSettling}
use Rattle.sync_rules.specs.Hearing.{SettlesJournal}
use Rattle.sync_rules.specs.Growth.{IsBegun, IsStepOf, HasSameSteps, leaves_steps, OnlySettles, TakesOne}
use Rattle.sync_rules.specs.EntryTests.{IsSettlingEntry}
use Rattle.std.specs.Cmp.{nat_eq_equiv}
use Rattle.sync_rules.proofs.Elements.{same_id_itself}
use Rattle.sync_rules.proofs.StepLaws.{Told, first_step_some, told_some, next_is_settling}
use Rattle.sync_rules.proofs.Continuing.{one_more_there, facts-append}

-- ---- the next step

pub held_if_In : (held : List Held) (h : Held) → In h held → is_held held h.id ≡ true
held_if_In [] h inside = absurd inside
held_if_In (y ∷ held) h inside =
    elim inside [
      | inl e ↦ ap (λ b. is_some (cond b (Some y) (held_at held h.id))) (ap (λ (w : Held). same_id y.id w.id) e ∙ same_id_itself y.id)
      | inr later ↦
          elim (same_id y.id h.id) as (λ b. is_some (cond b (Some y) (held_at held h.id)) ≡ true) [
            | true ↦ refl
            | false ↦ held_if_In held h later
          ]
    ]

step_of : (clients : Meaning) (f : Facts) (h : Held) (e : Entry) → In h f.held → Told clients f h (Some e) → IsStepOf f e
step_of clients f h (entry.Judged id) inside t = ap (is_held f.held) t.same ∙ held_if_In f.held h inside
step_of clients f h (entry.Deliver id) inside t = ap (is_held f.held) t.same ∙ held_if_In f.held h inside
step_of clients f h (entry.Invalid id) inside t = ap (is_held f.held) t.same ∙ held_if_In f.held h inside
step_of clients f h _ inside t = absurd t

pub next_is_step : (clients : Meaning) (f : Facts) (e : Entry) → next clients f ≡ Some e → IsStepOf f e
next_is_step clients f e n =
    let s = first_step_some clients f f.held e n in
    step_of clients f s.of e s.inside (told_some clients f s.of (Some e) s.steps)

-- ---- facts with the same steps

-- the parts of some facts that steps read, with the others as they are
abbrev with_steps : Facts → List Known → List Held → Ids → Ids → List Id → Facts
with_steps f groups held judged invalid delivered =
    record f { groups = groups; held = held; judged = judged; invalid = invalid; delivered = delivered }

-- what steps read decides the first step
first_step_same : (clients : Meaning) (f g : Facts) (groups : List Known) (held : List Held) (judged invalid : Ids) (delivered : List Id) (hs : List Held)
    → first_step clients (with_steps f groups held judged invalid delivered) hs ≡ first_step clients (with_steps g groups held judged invalid delivered) hs
first_step_same clients f g groups held judged invalid delivered [] = refl
first_step_same clients f g groups held judged invalid delivered (h ∷ hs) =
    ap (option_or (step clients (with_steps g groups held judged invalid delivered) h))
    (first_step_same clients f g groups held judged invalid delivered hs)

pub same_next : (clients : Meaning) (f later : Facts) → HasSameSteps f later → next clients later ≡ next clients f
same_next clients f later s =
    (λ i. first_step clients (with_steps later (s.groups i) (s.held i) (s.judged i) (s.invalid i) (s.delivered i)) (s.held i))
    ∙ first_step_same clients later f f.groups f.held f.judged f.invalid f.delivered f.held

same_steps_after : (f : Facts) (e : Entry) → leaves_steps e ≡ true → HasSameSteps f (after f e)
same_steps_after f (entry.Group def) l = absurd (false≢true l)
same_steps_after f (entry.Author m) l = absurd (false≢true l)
same_steps_after f (entry.Arrive s m) l = absurd (false≢true l)
same_steps_after f (entry.Judged id) l = absurd (false≢true l)
same_steps_after f (entry.Deliver id) l = absurd (false≢true l)
same_steps_after f (entry.Invalid id) l = absurd (false≢true l)
same_steps_after f (entry.Kept from m) l = absurd (false≢true l)
same_steps_after f _ l = record { groups = refl; held = refl; judged = refl; invalid = refl; delivered = refl }

pub same_steps_then : (f g h : Facts) → HasSameSteps f g → HasSameSteps g h → HasSameSteps f h
same_steps_then f g h a b = record {
  groups = b.groups ∙ a.groups;
  held = b.held ∙ a.held;
  judged = b.judged ∙ a.judged;
  invalid = b.invalid ∙ a.invalid;
  delivered = b.delivered ∙ a.delivered;
}

pub same_steps_all : (f : Facts) (es : List Entry) → list_all leaves_steps es ≡ true → HasSameSteps f (after_all f es)
same_steps_all f [] l = record { groups = refl; held = refl; judged = refl; invalid = refl; delivered = refl }
same_steps_all f (e ∷ es) l =
    let both = and_parts (leaves_steps e) (list_all leaves_steps es) l in
    same_steps_then f (after f e) (after_all (after f e) es) (same_steps_after f e both.0) (same_steps_all (after f e) es both.1)

pub settled_stays : (clients : Meaning) (f : Facts) (es : List Entry) → list_all leaves_steps es ≡ true → IsSettled clients f → IsSettled clients (after_all f es)
settled_stays clients f es l settled = same_next clients f (after_all f es) (same_steps_all f es l) ∙ settled

-- ---- settling

pub only_settles_itself : (f : Facts) → OnlySettles f f
only_settles_itself f = record {
  start = λ some. refl;
  contacts = refl;
  groups = refl;
  levels = refl;
  begun = refl;
  sessions = refl;
  takes = refl;
  held = refl;
  rows = refl;
  wanted = refl;
}

pub only_settles_then : (f g h : Facts) → OnlySettles f g → OnlySettles g h → OnlySettles f h
only_settles_then f g h a b = record {
  start = λ some. b.start (subst IsBegun (sym (a.start some)) some) ∙ a.start some;
  contacts = b.contacts ∙ a.contacts;
  groups = b.groups ∙ a.groups;
  levels = b.levels ∙ a.levels;
  begun = b.begun ∙ a.begun;
  sessions = b.sessions ∙ a.sessions;
  takes = b.takes ∙ a.takes;
  held = b.held ∙ a.held;
  rows = b.rows ∙ a.rows;
  wanted = b.wanted ∙ a.wanted;
}

-- settling begins no account, and leaves one that is begun as it is
start_settles : (s : Start) (e : Entry) → IsSettlingEntry e → IsBegun s → start_after s e ≡ s
start_settles start.Empty e k some = absurd some
start_settles start.Opening (entry.Judged id) k some = refl
start_settles start.Opening (entry.Deliver id) k some = refl
start_settles start.Opening (entry.Invalid id) k some = refl
start_settles start.Opening _ k some = absurd k
start_settles start.Going e k some = refl

settles_one : (f : Facts) (e : Entry) → IsSettlingEntry e → OnlySettles f (after f e)
settles_one f (entry.Judged id) k = record { start = start_settles f.start (entry.Judged id) k; contacts = refl; groups = refl; levels = refl; begun = refl; sessions = refl; takes = refl; held = refl; rows = refl; wanted = refl }
settles_one f (entry.Deliver id) k = record { start = start_settles f.start (entry.Deliver id) k; contacts = refl; groups = refl; levels = refl; begun = refl; sessions = refl; takes = refl; held = refl; rows = refl; wanted = refl }
settles_one f (entry.Invalid id) k = record { start = start_settles f.start (entry.Invalid id) k; contacts = refl; groups = refl; levels = refl; begun = refl; sessions = refl; takes = refl; held = refl; rows = refl; wanted = refl }
settles_one f _ k = absurd k

pub settling_only : (clients : Meaning) (f : Facts) (es : List Entry) → IsSettling clients f es → OnlySettles f (after_all f es)
settling_only clients f [] s = only_settles_itself f
settling_only clients f (e ∷ es) s =
    only_settles_then f (after f e) (after_all (after f e) es) (settles_one f e (next_is_settling clients f e s.0))
    (settling_only clients (after f e) es s.1)

pub all_settling_only : (clients : Meaning) (f : Facts) (bs : List (List Entry)) → AllSettling clients f bs → OnlySettles f (after_batches f bs)
all_settling_only clients f [] s = only_settles_itself f
all_settling_only clients f (b ∷ bs) s =
    only_settles_then f (after_all f b) (after_batches (after_all f b) bs) (settling_only clients f b s.0.2)
    (all_settling_only clients (after_all f b) bs s.1)

pub settles_only : (clients : Meaning) (old new : List (List Entry)) → SettlesJournal clients old new → OnlySettles (facts old) (facts new)
settles_only clients old new s =
    subst (OnlySettles (facts old)) (sym (ap facts s.extends ∙ facts-append old s.more)) (all_settling_only clients (facts old) s.more s.settling)

-- ---- the entries of a record

-- an entry that a record on this session is taken as
abbrev pub is_taken_on : ℕ → Entry → Bool
is_taken_on session (entry.Arrive s m) = nat_eq s session
is_taken_on session (entry.Again s id) = nat_eq s session
is_taken_on session (entry.Offered s id) = nat_eq s session
is_taken_on session (entry.Seen s id) = nat_eq s session
is_taken_on session (entry.Asked s id) = nat_eq s session
is_taken_on session _ = false

all-append : (test : Entry → Bool) (es fs : List Entry) → list_all test es ≡ true → list_all test fs ≡ true → list_all test (es ++ fs) ≡ true
all-append test [] fs a b = b
all-append test (e ∷ es) fs a b =
    let both = and_parts (test e) (list_all test es) a in
    and_from (test e) (list_all test (es ++ fs)) both.0 (all-append test es fs both.1 b)

all_one_if : (test : Entry → Bool) (b : Bool) (e : Entry) → test e ≡ true → list_all test (one_if b e) ≡ true
all_one_if test true e t = and_from (test e) true t refl
all_one_if test false e t = refl

-- a test that all entries of records pass
module _ (test : Entry → Bool) (session : ℕ) (seen : (id : Id) → test (entry.Seen session id) ≡ true) where
  pub all_of_acks : (f : Facts) (contact : ℕ) (ids : List Id) → list_all test (taken_acks f session contact ids) ≡ true
  all_of_acks f contact [] = refl
  all_of_acks f contact (id ∷ ids) =
      all-append test (one_if _ (entry.Seen session id)) (taken_acks f session contact ids) (all_one_if test _ (entry.Seen session id) (seen id)) (all_of_acks f contact ids)

module _ (test : Entry → Bool) (session : ℕ) (asked : (id : Id) → test (entry.Asked session id) ≡ true) where
  pub all_of_requests : (f : Facts) (contact : ℕ) (ids : List Id) → list_all test (taken_requests f session contact ids) ≡ true
  all_of_requests f contact [] = refl
  all_of_requests f contact (id ∷ ids) =
      all-append test (one_if _ (entry.Asked session id)) (taken_requests f session contact ids) (all_one_if test _ (entry.Asked session id) (asked id)) (all_of_requests f contact ids)

module _ (test : Entry → Bool) (session : ℕ) (again : (id : Id) → test (entry.Again session id) ≡ true)
    (offered : (id : Id) → test (entry.Offered session id) ≡ true) where
  pub all_of_offers : (f : Facts) (contact room : ℕ) (ids : List Id) → list_all test (taken_offers f session contact room ids) ≡ true
  all_of_offers f contact room [] = refl
  all_of_offers f contact room (id ∷ ids) =
      all-append test (taken_offer f session contact room id) (taken_offers f session contact (room_after (is_remembered f contact room id) room) ids)
      (all-append test (one_if _ (entry.Again session id)) (one_if _ (entry.Offered session id))
      (all_one_if test _ (entry.Again session id) (again id)) (all_one_if test _ (entry.Offered session id) (offered id)))
      (all_of_offers f contact (room_after (is_remembered f contact room id) room) ids)

module _ (test : Entry → Bool) (session : ℕ) (arrive : (m : MessageValue) → test (entry.Arrive session m) ≡ true)
    (again : (id : Id) → test (entry.Again session id) ≡ true) where
  pub all_of_message : (f : Facts) (contact : ℕ) (m : MessageValue) → list_all test (taken_message f session contact m) ≡ true
  all_of_message f contact m =
      elim (is_welcome f contact m.group) as (λ b. list_all test (cond b (taken_message_of f session contact m (held_at f.held (message_id_of m))) []) ≡ true) [
        | true ↦
            elim (held_at f.held (message_id_of m)) as (λ o. list_all test (taken_message_of f session contact m o) ≡ true) [
              | None ↦ and_from (test (entry.Arrive session m)) true (arrive m) refl
              | Some h ↦ all_one_if test _ (entry.Again session (message_id_of m)) (again (message_id_of m))
            ]
        | false ↦ refl
      ]

pub all_of_record : (test : Entry → Bool) (session : ℕ) → ((e : Entry) → is_taken_on session e ≡ true → test e ≡ true)
    → (f : Facts) (r : Record) → list_all test (taken f session r) ≡ true
all_of_record test session up f (record_kind.Ack ids) =
    all_of_acks test session (λ id. up (entry.Seen session id) (nat_eq_equiv.refl session)) f (contact_of f.sessions session) (firsts ids)
all_of_record test session up f (record_kind.Message m) =
    all_of_message test session (λ m. up (entry.Arrive session m) (nat_eq_equiv.refl session)) (λ id. up (entry.Again session id) (nat_eq_equiv.refl session)) f (contact_of f.sessions session) m
all_of_record test session up f (record_kind.Offer ids) =
    all_of_offers test session (λ id. up (entry.Again session id) (nat_eq_equiv.refl session)) (λ id. up (entry.Offered session id) (nat_eq_equiv.refl session)) f (contact_of f.sessions session) _ (firsts ids)
all_of_record test session up f (record_kind.Request ids) =
    all_of_requests test session (λ id. up (entry.Asked session id) (nat_eq_equiv.refl session)) f (contact_of f.sessions session) (firsts ids)
all_of_record test session up f (record_kind.Versions versions) = refl
all_of_record test session up f (record_kind.Priority nonce) = refl

-- ---- a record is taken

abbrev pub is_of_record : Entry → Bool
is_of_record (entry.Arrive s m) = true
is_of_record (entry.Again s id) = true
is_of_record (entry.Offered s id) = true
is_of_record (entry.Seen s id) = true
is_of_record (entry.Asked s id) = true
is_of_record _ = false

-- what the entries of a record leave
pub record LeftByRecord (f later : Facts) : Type 0 where
  pub contacts : later.contacts ≡ f.contacts
  pub groups : later.groups ≡ f.groups
  pub levels : later.levels ≡ f.levels
  pub begun : later.begun ≡ f.begun
  pub sessions : later.sessions ≡ f.sessions
  pub takes : later.takes ≡ f.takes
  pub judged : later.judged ≡ f.judged
  pub invalid : later.invalid ≡ f.invalid
  pub delivered : later.delivered ≡ f.delivered

left_itself : (f : Facts) → LeftByRecord f f
left_itself f = record {
  contacts = refl;
  groups = refl;
  levels = refl;
  begun = refl;
  sessions = refl;
  takes = refl;
  judged = refl;
  invalid = refl;
  delivered = refl;
}

left_one : (f : Facts) (e : Entry) → is_of_record e ≡ true → LeftByRecord f (after f e)
left_one f (entry.Arrive s m) k = record { contacts = refl; groups = refl; levels = refl; begun = refl; sessions = refl; takes = refl; judged = refl; invalid = refl; delivered = refl }
left_one f (entry.Again s id) k = record { contacts = refl; groups = refl; levels = refl; begun = refl; sessions = refl; takes = refl; judged = refl; invalid = refl; delivered = refl }
left_one f (entry.Offered s id) k = record { contacts = refl; groups = refl; levels = refl; begun = refl; sessions = refl; takes = refl; judged = refl; invalid = refl; delivered = refl }
left_one f (entry.Seen s id) k = record { contacts = refl; groups = refl; levels = refl; begun = refl; sessions = refl; takes = refl; judged = refl; invalid = refl; delivered = refl }
left_one f (entry.Asked s id) k = record { contacts = refl; groups = refl; levels = refl; begun = refl; sessions = refl; takes = refl; judged = refl; invalid = refl; delivered = refl }
left_one f _ k = absurd (false≢true k)

pub left_all : (f : Facts) (es : List Entry) → list_all is_of_record es ≡ true → LeftByRecord f (after_all f es)
left_all f [] k = left_itself f
left_all f (e ∷ es) k =
    let both = and_parts (is_of_record e) (list_all is_of_record es) k in
    let a : LeftByRecord f (after f e) = left_one f e both.0 in
    let b : LeftByRecord (after f e) (after_all (after f e) es) = left_all (after f e) es both.1 in
    record {
      contacts = b.contacts ∙ a.contacts;
      groups = b.groups ∙ a.groups;
      levels = b.levels ∙ a.levels;
      begun = b.begun ∙ a.begun;
      sessions = b.sessions ∙ a.sessions;
      takes = b.takes ∙ a.takes;
      judged = b.judged ∙ a.judged;
      invalid = b.invalid ∙ a.invalid;
      delivered = b.delivered ∙ a.delivered;
    }

pub taken_of_record : (session : ℕ) (e : Entry) → is_taken_on session e ≡ true
    → is_of_record e ≡ true
taken_of_record session (entry.Arrive s m) k = refl
taken_of_record session (entry.Again s id) k = refl
taken_of_record session (entry.Offered s id) k = refl
taken_of_record session (entry.Seen s id) k = refl
taken_of_record session (entry.Asked s id) k = refl
taken_of_record session _ k = absurd (false≢true k)

pub takes_one : (clients : Meaning) (f : Facts) (session k : ℕ) (rest : List Entry) → Allowed clients f (entry.Take session k ∷ rest)
    → TakesOne f (after_all f (entry.Take session k ∷ rest)) session
takes_one clients f session k rest a =
    let g : Facts = after f (entry.Take session k) in
    let all : list_all is_of_record rest ≡ true =
    ap (list_all is_of_record) a.1.taken_so ∙ all_of_record is_of_record session (taken_of_record session) f a.1.read in
    let left : LeftByRecord g (after_all g rest) = left_all g rest all in
    record {
      contacts = left.contacts;
      groups = left.groups;
      levels = left.levels;
      begun = left.begun;
      sessions = left.sessions;
      takes = λ n. ap (λ t. takes_of t n) left.takes ∙ one_more_there f.takes session n;
      judged = left.judged;
      invalid = left.invalid;
      delivered = left.delivered;
    }
