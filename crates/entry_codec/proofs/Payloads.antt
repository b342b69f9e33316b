-- How long the payload of a batch is that may follow a journal.
use Rattle.std.proofs.Common.{◌≡◌, ℕ, suc, ◌+◌, ◌*◌, ◌-◌, ◌≤◌, Bool, true, false, cond, List, []}
use Rattle.std.proofs.Common.{◌∷◌, ◌++◌, length, refl, arith, length-append}
use Rattle.std.specs.Prelude.{Option, Some, None, is_some, not, ◌&&◌, nat_lt}
use Rattle.std.specs.List.{AllByRecursion, flat_map}
use Rattle.sync_ids.specs.Values.{MessageValue}
use Rattle.sync_ids.specs.Ids.{message_id_of}
use Rattle.sync_ids.specs.Records.{IsRecord}
use Rattle.sync_ids.specs.declared.records.Record.{Record}
use Rattle.sync_ids.specs.declared.records.Record.TheVariants as record_kind
use Rattle.sync_rules.specs.declared.entries.Entry.{Entry}
use Rattle.sync_rules.specs.declared.entries.Entry.TheVariants as entry
use Rattle.sync_rules.specs.Clients.{Meaning}
use Rattle.sync_rules.specs.Lists.{firsts, firsts_after, is_among, unless_among}
use Rattle.sync_rules.specs.Facts.{Facts, Held, contact_of, held_at, is_invisible, level_at, row_at}
use Rattle.sync_rules.specs.Facts.{wanted_from}
use Rattle.sync_rules.specs.declared.limits.TheConstants.{MAX_WANTED}
use Rattle.sync_rules.specs.Sessions.{is_remembered, is_shown, is_shown_held, is_welcome, one_if}
use Rattle.sync_rules.specs.Sessions.{room_after, taken, taken_acks, taken_from, taken_message}
use Rattle.sync_rules.specs.Sessions.{taken_message_of, taken_offers, taken_requests}
use Rattle.sync_rules.specs.Legal.{Allowed, SuitsRows}
use Rattle.sync_rules.specs.EntryTests.{IsSettlingEntry}
use Rattle.sync_rules.proofs.BatchEntries.{rows_each, settling_each}
use Rattle.sync_rules.proofs.BatchKinds.{by_kind}
use Rattle.entry_codec.specs.declared.lengths.TheConstants.{MAX_BATCH_LEN}
use Rattle.entry_codec.specs.Spelling.{IsEntry, spelling, spelling_in}
use Rattle.entry_codec.specs.declared.naming.Format.{Format}
use Rattle.entry_codec.specs.declared.naming.Format.TheVariants as format
use Rattle.entry_codec.specs.Payloads.{payload_len}
use Rattle.entry_codec.proofs.LawProofs.{batch_not_longer}
use Rattle.entry_codec.proofs.Bounds.{length_within, most_of, short, spelled_some}

abbrev AreEntries : List Entry → Type 0
AreEntries es = AllByRecursion IsEntry es

-- the spellings of the first format, which are the longest
abbrev spellings : List Entry → List ℕ
spellings es = flat_map spelling es

payload_cons : (e : Entry) (es : List Entry) → length (spellings (e ∷ es)) ≡ length (spelling e) + length (spellings es)
payload_cons e es = length-append (spelling e) (spellings es)

-- one entry of at most 37 bytes, where there is one, before others
one_short : (b : Bool) (e : Entry) (es : List Entry) (n : ℕ) → most_of e ≤ 37 → (AreEntries es → length (spellings es) ≤ 37 * n) → AreEntries (one_if b e ++ es) → length (spellings (one_if b e ++ es)) ≤ 37 * suc n
one_short true e es n most others all = omega (arith, payload_cons e es, (length_within e all.0).1, others all.1)
one_short false e es n most others all = omega (arith, others all)

acks_short : (f : Facts) (s c : ℕ) (ids : List (List ℕ)) → AreEntries (taken_acks f s c ids) → length (spellings (taken_acks f s c ids)) ≤ 37 * length ids
acks_short f s c [] all = omega arith
acks_short f s c (id ∷ ids) all =
    one_short (is_shown f c id && not (row_at f.rows c id).seen) (entry.Seen s id) (taken_acks f s c ids) (length ids) (omega arith) (acks_short f s c ids) all

requests_short : (f : Facts) (s c : ℕ) (ids : List (List ℕ)) → AreEntries (taken_requests f s c ids) → length (spellings (taken_requests f s c ids)) ≤ 37 * length ids
requests_short f s c [] all = omega arith
requests_short f s c (id ∷ ids) all =
    one_short (is_shown f c id) (entry.Asked s id) (taken_requests f s c ids) (length ids) (omega arith) (requests_short f s c ids) all

-- an id that is shown is held, and one that is remembered is not
one_of_two : (o : Option Held) (f : Facts) (c : ℕ) (x : Bool) → is_shown_held f c o ≡ true → (not (is_some o) && x) ≡ true → ⊥
one_of_two None f c x shown remembered = absurd cc
one_of_two (Some h) f c x shown remembered = absurd cc

-- at most one of two entries before others
two_short : (a b : Bool) (d e : Entry) (es : List Entry) (n : ℕ) → (a ≡ true → b ≡ true → ⊥) → most_of d ≤ 37 → most_of e ≤ 37 → (AreEntries es → length (spellings es) ≤ 37 * n)
    → AreEntries ((one_if a d ++ one_if b e) ++ es) → length (spellings ((one_if a d ++ one_if b e) ++ es)) ≤ 37 * suc n
two_short true true d e es n apart dm em others all = absurd (apart refl refl)
two_short true false d e es n apart dm em others all = one_short true d es n dm others all
two_short false true d e es n apart dm em others all = one_short true e es n em others all
two_short false false d e es n apart dm em others all = one_short false e es n em others all

offers_short : (f : Facts) (s c room : ℕ) (ids : List (List ℕ)) → AreEntries (taken_offers f s c room ids) → length (spellings (taken_offers f s c room ids)) ≤ 37 * length ids
offers_short f s c room [] all = omega arith
offers_short f s c room (id ∷ ids) all =
    two_short (is_shown f c id) (is_remembered f c room id) (entry.Again s id) (entry.Offered s id) (taken_offers f s c (room_after (is_remembered f c room id) room) ids) (length ids)
    (one_of_two (held_at f.held id) f c (not (is_among (wanted_from f.wanted c) id) && nat_lt 0 room)) (omega arith) (omega arith)
    (offers_short f s c (room_after (is_remembered f c room id) room) ids) all

firsts_few : (earlier ids : List (List ℕ)) → length (firsts_after earlier ids) ≤ length ids
firsts_few earlier [] = omega arith
firsts_few earlier (id ∷ ids) = go (is_among earlier id) (firsts_few (id ∷ earlier) ids) where
  go : (b : Bool) → length (firsts_after (id ∷ earlier) ids) ≤ length ids → length (unless_among b id (firsts_after (id ∷ earlier) ids)) ≤ length (id ∷ ids)
  go true few = omega arith
  go false few = omega arith

one_message : (f : Facts) (s c : ℕ) (m : MessageValue) (o : Option Held) → AreEntries (taken_message_of f s c m o) → length (spellings (taken_message_of f s c m o)) ≤ 32815
one_message f s c m None all = omega (arith, payload_cons (entry.Arrive s m) [], (length_within (entry.Arrive s m) all.0).1)
one_message f s c m (Some h) all = go (not (is_invisible (level_at f.levels c h.message.group))) all where
  go : (b : Bool) → AreEntries (one_if b (entry.Again s (message_id_of m))) → length (spellings (one_if b (entry.Again s (message_id_of m)))) ≤ 32815
  go true all = omega (arith, payload_cons (entry.Again s (message_id_of m)) [], (length_within (entry.Again s (message_id_of m)) all.0).1)
  go false all = omega arith

message_short : (f : Facts) (s c : ℕ) (m : MessageValue) → AreEntries (taken_message f s c m) → length (spellings (taken_message f s c m)) ≤ 32815
message_short f s c m all = go (is_welcome f c m.group) all where
  go : (b : Bool) → AreEntries (cond b (taken_message_of f s c m (held_at f.held (message_id_of m))) []) → length (spellings (cond b (taken_message_of f s c m (held_at f.held (message_id_of m))) [])) ≤ 32815
  go true all = one_message f s c m (held_at f.held (message_id_of m)) all
  go false all = omega arith

taken_short : (f : Facts) (s c : ℕ) (r : Record) → IsRecord r → AreEntries (taken_from f s c r) → length (spellings (taken_from f s c r)) ≤ 56832
taken_short f s c (record_kind.Ack ids) is all = omega (arith, acks_short f s c (firsts ids) all, firsts_few [] ids, is.few)
taken_short f s c (record_kind.Message m) is all = omega (arith, message_short f s c m all)
taken_short f s c (record_kind.Offer ids) is all = omega (arith, offers_short f s c (MAX_WANTED - length (wanted_from f.wanted c)) (firsts ids) all, firsts_few [] ids, is.few)
taken_short f s c (record_kind.Request ids) is all = omega (arith, requests_short f s c (firsts ids) all, firsts_few [] ids, is.few)
taken_short f s c (record_kind.Versions versions) is all = omega arith
taken_short f s c (record_kind.Priority nonce) is all = omega arith

-- ---- steps, rows and wanted ids

-- an entry of at most 44 bytes
abbrev IsRow : Entry → Type 0
IsRow e = most_of e ≤ 44

few_each : (es : List Entry) → AllByRecursion IsRow es → AreEntries es → length (spellings es) ≤ 44 * length es
few_each [] few all = omega arith
few_each (e ∷ es) few all = omega (arith, payload_cons e es, few.0, (length_within e all.0).1, few_each es few.1 all.1)

step_short : (e : Entry) → IsSettlingEntry e → IsRow e
step_short (entry.Judged id) is = omega arith
step_short (entry.Deliver id) is = omega arith
step_short (entry.Invalid id) is = omega arith
step_short _ is = absurd is

row_short : (f : Facts) (e : Entry) → SuitsRows f e → IsRow e
row_short f (entry.Tried t) is = omega arith
row_short f (entry.Want contact id) is = omega arith
row_short f _ is = absurd is

-- ---- batches

-- the spellings of a batch are within a frame
abbrev FitFrame : List Entry → Type 0
FitFrame es = AreEntries es → length (spellings es) ≤ 56845

record_short : (f : Facts) (s k : ℕ) (r : Record) → IsRecord r
    → FitFrame (entry.Take s k ∷ taken f s r)
record_short f s k r within all =
    omega (
      arith,
      payload_cons (entry.Take s k) (taken f s r),
      (length_within (entry.Take s k) all.0).1,
      taken_short f s (contact_of f.sessions s) r within all.1,
    )

batch_short : (clients : Meaning) (f : Facts) (batch : List Entry) → Allowed clients f batch
    → FitFrame batch
batch_short clients f =
    by_kind clients f FitFrame (record {
      alone = λ e settled may all. omega (arith, payload_cons e [], (short e all.0).1);
      of_record = λ s k r settled next. record_short f s k r next.within;
      steps = λ e es step is all.
          omega (
            arith,
            is.1,
            few_each (e ∷ es)
                (settling_each IsRow step_short clients f (e ∷ es) is.2) all,
          );
      brief = λ n empty all. omega
          (arith, payload_cons (entry.Brief n) [], (short (entry.Brief n) all.0).1);
      rows = λ e es row is all.
          omega (
            arith,
            is.few,
            few_each (e ∷ es)
                (rows_each IsRow row_short f (e ∷ es) is.suits) all,
          );
    })

first_len : (batch : List Entry) → payload_len format.Whole batch ≡ length (spellings batch)
unfolding spelling spelling_in
first_len batch = refl

len_within : (f : Format) (batch : List Entry) → AreEntries batch → length (spellings batch) ≤ MAX_BATCH_LEN → payload_len f batch ≤ MAX_BATCH_LEN
len_within format.Whole batch all most = omega (arith, first_len batch, most)
len_within format.Short batch all most = omega (arith, first_len batch, batch_not_longer batch all, most)

pub batch_within : (clients : Meaning) (f : Facts) (format : Format) (batch : List Entry) → Allowed clients f batch → AreEntries batch
    → (2 ≤ payload_len format batch) × (payload_len format batch ≤ MAX_BATCH_LEN)
batch_within clients f format [] is all = absurd is
batch_within clients f format (e ∷ es) is all = (
  omega (arith, length-append (spelling_in format [] e) (flat_map (spelling_in format []) es), spelled_some format [] e all.0),
  len_within format (e ∷ es) all (batch_short clients f (e ∷ es) is all),
)
