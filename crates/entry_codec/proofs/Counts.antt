-- A batch that may follow a journal adds one message at most, and one session at most to the list of those that began.
use Rattle.std.proofs.Common.{◌≡◌, ℕ, ◌+◌, ◌≤◌, Bool, true, false, cond, List, [], ◌∷◌, length}
use Rattle.std.proofs.Common.{refl, arith, length-append}
use Rattle.std.specs.Prelude.{Option, Some, None, not}
use Rattle.std.specs.List.{AllByRecursion, list_all}
use Rattle.std.proofs.lemmas.Bool.{false≢true}
use Rattle.sync_ids.specs.Values.{MessageValue}
use Rattle.sync_ids.specs.Ids.{message_id_of}
use Rattle.sync_ids.specs.declared.records.Record.{Record}
use Rattle.sync_ids.specs.declared.records.Record.TheVariants as record_kind
use Rattle.sync_rules.specs.declared.entries.Entry.{Entry}
use Rattle.sync_rules.specs.declared.entries.Entry.TheVariants as entry
use Rattle.sync_rules.specs.Clients.{Meaning}
use Rattle.sync_rules.specs.Lists.{firsts}
use Rattle.sync_rules.specs.Facts.{Facts, Held, after, after_all, arrived, authored, contact_of, held_at, is_invisible, kept_as, level_at}
use Rattle.sync_rules.specs.Sessions.{is_welcome, one_if, taken, taken_message, taken_message_of}
use Rattle.sync_rules.specs.Legal.{Allowed, SuitsRows}
use Rattle.sync_rules.specs.EntryTests.{IsSettlingEntry}
use Rattle.sync_rules.proofs.BatchEntries.{all_pass, rows_each, settling_each}
use Rattle.sync_rules.proofs.BatchKinds.{by_kind}
use Rattle.sync_rules.proofs.StepKinds.{all_of_acks, all_of_offers, all_of_requests}

-- how many messages and sessions an entry adds
abbrev adds : Entry → ℕ
adds (entry.Session s) = 1
adds (entry.Author m) = 1
adds (entry.Arrive s m) = 1
adds (entry.Kept from m) = 1
adds _ = 0

abbrev adds_all : List Entry → ℕ
adds_all [] = 0
adds_all (e ∷ es) = adds e + adds_all es

-- the counts of messages and of listed sessions after an entry
held_after : (f : Facts) (e : Entry) → length (after f e).held ≤ length f.held + adds e
held_after f (entry.Author m) = omega (arith, length-append f.held (authored m ∷ []))
held_after f (entry.Arrive s m) = omega (arith, length-append f.held (arrived (contact_of f.sessions s) m ∷ []))
held_after f (entry.Kept from m) = omega (arith, length-append f.held (kept_as from m ∷ []))
held_after f _ = omega arith

listed_after : (f : Facts) (e : Entry) → length (after f e).sessions ≤ length f.sessions + adds e
listed_after f (entry.Session s) = omega (arith, length-append f.sessions (s ∷ []))
listed_after f _ = omega arith

held_after_all : (f : Facts) (es : List Entry) → length (after_all f es).held ≤ length f.held + adds_all es
held_after_all f [] = omega arith
held_after_all f (e ∷ es) = omega (arith, held_after_all (after f e) es, held_after f e)

listed_after_all : (f : Facts) (es : List Entry) → length (after_all f es).sessions ≤ length f.sessions + adds_all es
listed_after_all f [] = omega arith
listed_after_all f (e ∷ es) = omega (arith, listed_after_all (after f e) es, listed_after f e)

-- an entry that adds nothing
abbrev AddsNone : Entry → Type 0
AddsNone e = adds e ≡ 0

none_added : (es : List Entry) → AllByRecursion AddsNone es → adds_all es ≤ 1
none_added es all = go es all where
  sum : (es : List Entry) → AllByRecursion AddsNone es → adds_all es ≡ 0
  sum [] all = refl
  sum (e ∷ es) all = omega (arith, all.0, sum es all.1)

  go : (es : List Entry) → AllByRecursion AddsNone es → adds_all es ≤ 1
  go es all = omega (arith, sum es all)

-- ---- a record adds one message at most

-- a record that is taken as no message adds nothing
abbrev is_mark : Entry → Bool
is_mark (entry.Again s id) = true
is_mark (entry.Offered s id) = true
is_mark (entry.Seen s id) = true
is_mark (entry.Asked s id) = true
is_mark _ = false

mark_adds : (e : Entry) → is_mark e ≡ true → AddsNone e
mark_adds (entry.Session s) is = absurd (false≢true is)
mark_adds (entry.Author m) is = absurd (false≢true is)
mark_adds (entry.Arrive s m) is = absurd (false≢true is)
mark_adds (entry.Kept from m) is = absurd (false≢true is)
mark_adds _ is = refl

marks_add : (es : List Entry) → list_all is_mark es ≡ true → adds_all es ≤ 1
marks_add es all = none_added es (all_pass is_mark AddsNone mark_adds es all)

one_message : (f : Facts) (s c : ℕ) (m : MessageValue) (o : Option Held) → adds_all (taken_message_of f s c m o) ≤ 1
one_message f s c m None = omega arith
one_message f s c m (Some h) = go (not (is_invisible (level_at f.levels c h.message.group))) where
  go : (b : Bool) → adds_all (one_if b (entry.Again s (message_id_of m))) ≤ 1
  go true = omega arith
  go false = omega arith

message_adds : (f : Facts) (s c : ℕ) (m : MessageValue) → adds_all (taken_message f s c m) ≤ 1
message_adds f s c m = go (is_welcome f c m.group) where
  go : (b : Bool) → adds_all (cond b (taken_message_of f s c m (held_at f.held (message_id_of m))) []) ≤ 1
  go true = one_message f s c m (held_at f.held (message_id_of m))
  go false = omega arith

taken_adds : (f : Facts) (s : ℕ) (r : Record) → adds_all (taken f s r) ≤ 1
taken_adds f s (record_kind.Ack ids) =
    marks_add (taken f s (record_kind.Ack ids))
    (all_of_acks is_mark s (λ id. refl) f (contact_of f.sessions s) (firsts ids))
taken_adds f s (record_kind.Message m) = message_adds f s (contact_of f.sessions s) m
taken_adds f s (record_kind.Offer ids) =
    marks_add (taken f s (record_kind.Offer ids))
    (all_of_offers is_mark s (λ id. refl) (λ id. refl) f (contact_of f.sessions s) _ (firsts ids))
taken_adds f s (record_kind.Request ids) =
    marks_add (taken f s (record_kind.Request ids))
    (all_of_requests is_mark s (λ id. refl) f (contact_of f.sessions s) (firsts ids))
taken_adds f s (record_kind.Versions versions) = omega arith
taken_adds f s (record_kind.Priority nonce) = omega arith

-- ---- batches

few_added : (e : Entry) → adds e ≤ 1
few_added (entry.Contact c) = omega arith
few_added _ = omega arith

step_adds : (e : Entry) → IsSettlingEntry e → AddsNone e
step_adds (entry.Judged id) is = refl
step_adds (entry.Deliver id) is = refl
step_adds (entry.Invalid id) is = refl
step_adds _ is = absurd is

row_adds : (f : Facts) (e : Entry) → SuitsRows f e → AddsNone e
row_adds f (entry.Tried t) is = refl
row_adds f (entry.Want contact id) is = refl
row_adds f _ is = absurd is

batch_adds : (clients : Meaning) (f : Facts) (batch : List Entry) → Allowed clients f batch → adds_all batch ≤ 1
batch_adds clients f =
    by_kind clients f (λ (es : List Entry). adds_all es ≤ 1) (record {
      alone = λ e settled may. omega (arith, few_added e);
      of_record = λ s k r settled next. omega (arith, taken_adds f s r);
      steps = λ e es step is. none_added (e ∷ es)
          (settling_each AddsNone step_adds clients f (e ∷ es) is.2);
      brief = λ n empty. omega arith;
      rows = λ e es row is. none_added (e ∷ es) (rows_each AddsNone row_adds f (e ∷ es) is.suits);
    })

pub one_more : (clients : Meaning) (f : Facts) (batch : List Entry) → Allowed clients f batch
    → (length (after_all f batch).held ≤ length f.held + 1) × (length (after_all f batch).sessions ≤ length f.sessions + 1)
one_more clients f batch is =
    let adds = batch_adds clients f batch is in
    (omega (arith, held_after_all f batch, adds), omega (arith, listed_after_all f batch, adds))
