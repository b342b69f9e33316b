-- A frame is read, and the reader goes on.
use Rattle.std.proofs.Common.{◌≡◌, ℕ, ◌+◌, ◌*◌, ◌<◌, ◌≤◌, Bool, true, false, nat_le, if◌then◌else◌, List, [], ◌∷◌, ◌++◌, length, length-append, length-take, length-drop, take, drop, Option, Some, None, refl, sym, ◌∙◌, ap, arith}
use Rattle.std.proofs.lemmas.Bool.{le-leb, leb-true}
use Rattle.std.proofs.lemmas.List.{append-nil}
use Rattle.outside.specs.declared.limits.TheConstants.{MAX_JOURNAL}
use Rattle.outside.specs.Frames.{Frame, broken, closed, frame_at, framed}
use Rattle.entry_codec.specs.declared.naming.Format.{Format}
use Rattle.entry_codec.specs.Payloads.{batch_in, names_of}
use Rattle.entry_codec.specs.Standing.{damaged, journal, room_of, step_bytes}
use Rattle.entry_codec.specs.ReadingFiles.{read_on, rest_from, taken_on}
use Rattle.entry_codec.proofs.FrontLaws.{framed_fits, rest_once}
use Rattle.sync_rules.specs.declared.entries.Entry.{Entry}
use Rattle.sync_rules.specs.Allows.{AllowsIsAllowed, allows}
use Rattle.sync_rules.specs.Clients.{Meaning}
use Rattle.sync_rules.specs.Facts.{Facts, after_all, entries_of, facts, nothing}
use Rattle.sync_rules.specs.Legal.{Legal}
use Rattle.sync_rules.proofs.Continuing.{legal-push}
use Rattle.sync_rules.proofs.Outputs.{entries_of-append}
use Rattle.sync_rules.proofs.WorkLaws.{facts-push}
use Rattle.journal_audit.specs.declared.facts.PlainFacts.{PlainFacts}
use Rattle.journal_audit.specs.declared.reading.Played.{Played}
use Rattle.journal_audit.specs.Frames.{IsOpenAt}
use Rattle.journal_audit.specs.Lines.{left_in}
use Rattle.journal_audit.specs.Plain.{IsPlainSound, KnowsMeanings, facts_of}
use Rattle.journal_audit.specs.Playing.{IsOfLegal, PlaysEntries}
use Rattle.journal_audit.specs.Reading.{IsJournalRead, ReadSoFar, whole_of}
use Rattle.journal_audit.proofs.Steps.{left_is}

-- what the next frame makes of the whole
once : (clients : Meaning) (file : ℕ) (format : Format) (bytes : List ℕ) (p : Played) (frame : Frame) (so : ReadSoFar clients file format bytes p) → frame_at bytes p.place ≡ frame
    → whole_of clients file format bytes ≡ read_on clients format file (rest_from clients format file bytes) p.place so.of.done frame
once clients file format bytes p frame so is =
    let behind = so.behind in
    so.going
    ∙ (rest_once clients format file bytes p.place so.of.done (omega (arith, behind)) ∙ ap (read_on clients format file (rest_from clients format file bytes) p.place so.of.done) is)

pub gate_broken : (clients : Meaning) (file : ℕ) (format : Format) (bytes : List ℕ) (p : Played) → ReadSoFar clients file format bytes p → frame_at bytes p.place ≡ broken
    → whole_of clients file format bytes ≡ damaged file p.place
gate_broken clients file format bytes p so is = once clients file format bytes p broken so is

-- the batch of a payload
batch_once : (clients : Meaning) (file : ℕ) (format : Format) (bytes : List ℕ) (p : Played) (size : ℕ) (payload : List ℕ) (read : Option (List Entry)) (so : ReadSoFar clients file format bytes p)
    → IsOpenAt bytes p.place size → payload ≡ take size (drop (p.place + 5) bytes) → read ≡ batch_in format (names_of (facts_of p.facts)) payload
    → whole_of clients file format bytes ≡ taken_on clients file (rest_from clients format file bytes (p.place + 5 + length payload)) p.place so.of.done read
batch_once clients file format bytes p size payload read so frame is read_is =
    once clients file format bytes p (framed payload) so (frame.frame ∙ ap framed (sym is))
    ∙ ap (taken_on clients file (rest_from clients format file bytes (p.place + 5 + length payload)) p.place so.of.done)
    (sym (read_is ∙ ap (λ (f : Facts). batch_in format (names_of f) payload) so.of.facts_are))

pub batch_unread : (clients : Meaning) (file : ℕ) (format : Format) (bytes : List ℕ) (p : Played) (size : ℕ) (payload : List ℕ) (read : Option (List Entry))
    → ReadSoFar clients file format bytes p → IsOpenAt bytes p.place size → payload ≡ take size (drop (p.place + 5) bytes) → read ≡ batch_in format (names_of (facts_of p.facts)) payload → read ≡ None
    → whole_of clients file format bytes ≡ damaged file p.place
batch_unread clients file format bytes p size payload read so frame is read_is none =
    batch_once clients file format bytes p size payload read so frame is read_is
    ∙ ap (taken_on clients file (rest_from clients format file bytes (p.place + 5 + length payload)) p.place so.of.done) none

-- the test of a batch
test_once : (clients : Meaning) (file : ℕ) (format : Format) (bytes : List ℕ) (p : Played) (size : ℕ) (payload : List ℕ) (read : Option (List Entry)) (b : List Entry) (test : Bool)
    (so : ReadSoFar clients file format bytes p) → IsOpenAt bytes p.place size → payload ≡ take size (drop (p.place + 5) bytes) → read ≡ batch_in format (names_of (facts_of p.facts)) payload
    → read ≡ Some b → test ≡ allows clients (facts_of p.facts) b
    → whole_of clients file format bytes ≡ (if test then rest_from clients format file bytes (p.place + 5 + length payload) (so.of.done ++ b ∷ []) else damaged file p.place)
test_once clients file format bytes p size payload read b test so frame is read_is some told =
    batch_once clients file format bytes p size payload read so frame is read_is
    ∙ (ap (taken_on clients file (rest_from clients format file bytes (p.place + 5 + length payload)) p.place so.of.done) some
    ∙ ap (λ (t : Bool). if t then rest_from clients format file bytes (p.place + 5 + length payload) (so.of.done ++ b ∷ []) else damaged file p.place)
    (sym (told ∙ ap (λ (f : Facts). allows clients f b) so.of.facts_are)))

pub batch_refused : (clients : Meaning) (file : ℕ) (format : Format) (bytes : List ℕ) (p : Played) (size : ℕ) (payload : List ℕ) (read : Option (List Entry)) (b : List Entry) (new : PlainFacts) (test : Bool)
    → ReadSoFar clients file format bytes p → IsOpenAt bytes p.place size → payload ≡ take size (drop (p.place + 5) bytes) → read ≡ batch_in format (names_of (facts_of p.facts)) payload
    → read ≡ Some b → PlaysEntries clients p.facts new (allows clients (facts_of p.facts) b) b test → test ≡ false → whole_of clients file format bytes ≡ damaged file p.place
batch_refused clients file format bytes p size payload read b new test so frame is read_is some plays refused =
    test_once clients file format bytes p size payload read b test so frame is read_is some plays.answer
    ∙ ap (λ (t : Bool). if t then rest_from clients format file bytes (p.place + 5 + length payload) (so.of.done ++ b ∷ []) else damaged file p.place) refused

-- ---- one batch more

legal_more : (clients : Meaning) (p : PlainFacts) (new : PlainFacts) (b : List Entry) (test : Bool) → AllowsIsAllowed → (of : IsOfLegal clients p) → PlaysEntries clients p new (allows clients (facts_of p) b) b test
    → test ≡ true → (Legal clients (of.done ++ b ∷ [])) × (facts_of new ≡ facts (of.done ++ b ∷ []))
legal_more clients p new b test law of plays told =
    let allowed = (law clients (facts of.done) b).0 (sym (ap (λ (f : Facts). allows clients f b) of.facts_are) ∙ (sym plays.answer ∙ told)) in
    (legal-push clients of.done b of.legal allowed, (plays.taken told).facts ∙ (ap (λ (f : Facts). after_all f b) of.facts_are ∙ sym (facts-push of.done b)))

entries_push : (done : List (List Entry)) (b : List Entry) → entries_of (done ++ b ∷ []) ≡ entries_of done ++ b
entries_push done b = entries_of-append done (b ∷ []) ∙ ap (λ es. entries_of done ++ es) (append-nil b)

pub frame_more : (clients : Meaning) (file : ℕ) (format : Format) (bytes : List ℕ) (p : Played) (size : ℕ) (payload : List ℕ) (read : Option (List Entry)) (b : List Entry) (new : PlainFacts) (test : Bool)
    (batches entries : ℕ) → AllowsIsAllowed → ReadSoFar clients file format bytes p → IsOpenAt bytes p.place size → payload ≡ take size (drop (p.place + 5) bytes)
    → read ≡ batch_in format (names_of (facts_of p.facts)) payload → read ≡ Some b → PlaysEntries clients p.facts new (allows clients (facts_of p.facts) b) b test → test ≡ true
    → batches ≡ p.batches + 1 → entries ≡ p.entries + length b
    → ReadSoFar clients file format bytes (record { facts = new; batches = batches; entries = entries; place = p.place + (5 + size) })
frame_more clients file format bytes p size payload read b new test batches entries law so frame is read_is some plays told batches_are entries_are =
    let next = legal_more clients p.facts new b test law so.of plays told in
    let long : length payload ≡ size =
    ap length is ∙ omega (arith, frame.whole, length-take size (drop (p.place + 5) bytes), length-drop (p.place + 5) bytes) in
    let fits = framed_fits bytes p.place payload (frame.frame ∙ ap framed (sym is)) in
    let bounded = fits.bounded in
    let behind = so.behind in
    let place : p.place + 5 + length payload ≡ p.place + (5 + size) = omega (arith, long) in
    record {
      of = record { done = so.of.done ++ b ∷ []; legal = next.0; facts_are = next.1; sound = (plays.taken told).sound; knows = (plays.taken told).knows };
      going =
          test_once clients file format bytes p size payload read b test so frame is read_is some plays.answer
          ∙ (ap (λ (t : Bool). if t then rest_from clients format file bytes (p.place + 5 + length payload) (so.of.done ++ b ∷ []) else damaged file p.place) told
          ∙ ap (λ n. rest_from clients format file bytes n (so.of.done ++ b ∷ [])) place);
      batches = let old = so.batches in omega (arith, batches_are, old, length-append so.of.done (b ∷ []));
      entries =
          entries_are
          ∙ (ap (λ n. n + length b) so.entries
          ∙ (sym (length-append (entries_of so.of.done) b) ∙ ap length (sym (entries_push so.of.done b))));
      behind = omega (arith, behind);
      within = omega (arith, bounded, long);
    }

-- ---- the end

-- the room of the journal
room_fits : (clients : Meaning) (file : ℕ) (format : Format) (bytes : List ℕ) (p : Played) (so : ReadSoFar clients file format bytes p) (fits : Bool) → frame_at bytes p.place ≡ closed
    → nat_le (p.place + 1 + room_of format (facts_of p.facts)) MAX_JOURNAL ≡ fits
    → whole_of clients file format bytes ≡ (if fits then journal so.of.done else damaged file p.place)
room_fits clients file format bytes p so fits is told =
    once clients file format bytes p closed so is
    ∙ (ap (λ (f : Facts). if nat_le (p.place + 1 + room_of format f) MAX_JOURNAL then journal so.of.done else damaged file p.place) (sym so.of.facts_are)
    ∙ ap (λ (t : Bool). if t then journal so.of.done else damaged file p.place) told)

-- ---- the begin

pub begun : (clients : Meaning) (file : ℕ) (format : Format) (bytes : List ℕ) (p : PlainFacts) → facts_of p ≡ nothing → IsPlainSound p → KnowsMeanings clients p
    → ReadSoFar clients file format bytes (record { facts = p; batches = 0; entries = 0; place = 14 })
begun clients file format bytes p none sound knows = record {
  of = record { done = []; legal = tt; facts_are = none; sound = sound; knows = knows };
  going = refl;
  batches = refl;
  entries = refl;
  behind = omega arith;
  within = omega arith;
}

-- the room by what is counted
pub room_is : (format : Format) (p : PlainFacts) (left room : ℕ) → IsPlainSound p → left ≡ left_in p.messages.lines → room ≡ step_bytes format * left → room ≡ room_of format (facts_of p)
room_is format p left room sound counted is = is ∙ ap (λ n. step_bytes format * n) (counted ∙ left_is p sound)

not_within : (a m : ℕ) → m < a → nat_le a m ≡ false
not_within a m past = by (nat_le a m) refl where
  by : (b : Bool) → nat_le a m ≡ b → b ≡ false
  by true e = let le = leb-true a m e in absurd (omega (arith, le, past))
  by false e = refl

pub too_long : (clients : Meaning) (file : ℕ) (format : Format) (bytes : List ℕ) (p : Played) (left room : ℕ) → ReadSoFar clients file format bytes p → frame_at bytes p.place ≡ closed
    → left ≡ left_in p.facts.messages.lines → room ≡ step_bytes format * left → MAX_JOURNAL < p.place + 1 + room → whole_of clients file format bytes ≡ damaged file p.place
too_long clients file format bytes p left room so is counted room_is_so past =
    room_fits clients file format bytes p so false is
    (sym (ap (λ n. nat_le (p.place + 1 + n) MAX_JOURNAL) (room_is format p.facts left room so.of.sound counted room_is_so)) ∙ not_within (p.place + 1 + room) MAX_JOURNAL past)

pub read_whole : (clients : Meaning) (file : ℕ) (format : Format) (bytes : List ℕ) (p : Played) (left room : ℕ) → ReadSoFar clients file format bytes p → frame_at bytes p.place ≡ closed
    → left ≡ left_in p.facts.messages.lines → room ≡ step_bytes format * left → p.place + 1 + room ≤ MAX_JOURNAL → IsJournalRead clients (whole_of clients file format bytes) p
read_whole clients file format bytes p left room so is counted room_is_so fits = record {
  of = so.of;
  stands_for =
      room_fits clients file format bytes p so true is
      (sym (ap (λ n. nat_le (p.place + 1 + n) MAX_JOURNAL) (room_is format p.facts left room so.of.sound counted room_is_so)) ∙ le-leb (p.place + 1 + room) MAX_JOURNAL fits);
  batches = so.batches;
  entries = so.entries;
}
