-- How a reader of frames goes on: what it keeps, one frame more, and where it ends.
use Rattle.std.specs.Prelude.{◌≡◌, ◌≢◌, ℕ, zero, suc, ◌+◌, ◌-◌, ◌<◌, ◌≤◌, Bool, true, false, not, ◌==◌, ◌&&◌, nat_le, nat_lt, cond, List, [], ◌∷◌, ◌++◌, length, take, drop, slice_index, Option, Some, None}
use Rattle.std.specs.List.{AllByRecursion, flat_map}
use Rattle.std.proofs.Common.{refl, sym, ap, subst, ◌∙◌, arith, append_assoc, drop-cons, length-append}
use Rattle.std.proofs.lemmas.Bool.{and_parts, cond-false, cond-true, eqb-false, eqb-true, le-leb, leb-true, leb-false, lt-leb, ltb-false, not-false, not-true, or_parts}
use Rattle.std.proofs.lemmas.List.{append-nil, drop-drop, drop_at, length-drop, length-take-le, take-append-drop}
use Rattle.std.proofs.lemmas.List.Elements.{All-nil, All-push, All-same}
use Rattle.sync_rules.specs.declared.entries.Entry.{Entry}
use Rattle.sync_rules.specs.Clients.{Meaning}
use Rattle.sync_rules.specs.Facts.{facts, nothing}
use Rattle.sync_rules.specs.Legal.{Allowed}
use Rattle.sync_rules.specs.Allows.{allows}
use Rattle.outside.specs.declared.limits.TheConstants.{MAX_FRAME, MAX_JOURNAL}
use Rattle.outside.specs.Files.{Two, file_of}
use Rattle.outside.specs.Frames.{Frame, HasFrames, IsPayload, broken, closed, format_in, frame_at, frame_of, framed, is_broken, is_open, journal_file, size_at}
use Rattle.entry_codec.specs.declared.naming.Format.{Format}
use Rattle.entry_codec.specs.Naming.{format_of}
use Rattle.entry_codec.specs.Spelling.{IsEntry, IsOfFormat}
use Rattle.entry_codec.specs.Payloads.{batch_of, names_of, payload, payloads}
use Rattle.sync_rules.proofs.Continuing.{legal-push}
use Rattle.entry_codec.proofs.BatchLaws.{batch_kinds}
use Rattle.entry_codec.proofs.Growing.{all_push, frames_push, length_frame, payloads_push}
use Rattle.entry_codec.specs.Standing.{Standing, damaged, journal, no_store, room_of}
use Rattle.entry_codec.specs.ReadingFiles.{frames_from, read_in, read_on, read_standing, rest_from, stands_in, taken_on}
use Rattle.entry_codec.specs.Fronts.{FitsFile, Front}

past_end : (bytes : List ℕ) (place : ℕ) → length bytes ≤ place → frame_at bytes place ≡ broken
past_end bytes place past = cond-true (nat_le (length bytes) place) _ _ (le-leb (length bytes) place past)

-- the second of two answers
second_of : {A : Type 0} (t : Bool) (x y z : A) → (x ≡ z → ⊥) → cond t x y ≡ z → (t ≡ false) × (y ≡ z)
second_of true x y z ne e = absurd (ne e)
second_of false x y z ne e = (refl, e)

size_fits : (bytes : List ℕ) (place size : ℕ) (to : List ℕ) → (size ≡ 0 → ⊥) → size ≤ MAX_FRAME → place + 5 + size ≤ length bytes → place + 6 + size ≤ MAX_JOURNAL
    → take size (drop (place + 5) bytes) ≡ to → FitsFile bytes place to
size_fits bytes place size to some few there bounded is =
    let long : length to ≡ size = ap length (sym is) ∙ length-take-le size (drop (place + 5) bytes) (omega (arith, length-drop (place + 5) bytes)) in
    record { some = omega (arith, some); few = omega arith; there = omega arith; bounded = omega arith }

pub framed_fits : (bytes : List ℕ) (place : ℕ) (to : List ℕ) → frame_at bytes place ≡ framed to → FitsFile bytes place to
framed_fits bytes place to e =
    let inside = second_of (nat_le (length bytes) place) broken _ (framed to) (λ h. cc) e in
    let gate = second_of (not (slice_index bytes place == 1)) closed _ (framed to) (λ h. cc) inside.1 in
    let whole = second_of (is_broken bytes place) broken _ (framed to) (λ h. cc) gate.1 in
    let bounded = or_parts _ (nat_lt MAX_JOURNAL (place + 6 + size_at bytes place)) whole.0 in
    let there = or_parts _ (nat_lt (length bytes) (place + 5 + size_at bytes place)) bounded.0 in
    let few = or_parts _ (nat_lt MAX_FRAME (size_at bytes place)) there.0 in
    let some = or_parts _ (size_at bytes place == 0) few.0 in
    let is : take (size_at bytes place) (drop (place + 5) bytes) ≡ to = cc (whole.1) in
    size_fits bytes place (size_at bytes place) to (eqb-false (size_at bytes place) 0 some.1) (ltb-false _ _ few.1) (ltb-false _ _ there.1) (ltb-false _ _ bounded.1) is

-- what a frame that is there is made of: an open gate, its payload's length, and the payload
pub record FramedParts (bytes : List ℕ) (place : ℕ) (to : List ℕ) : Type 0 where
  pub gate : slice_index bytes place ≡ 1
  pub size : size_at bytes place ≡ length to
  pub body : take (length to) (drop (place + 5) bytes) ≡ to

pub framed_parts : (bytes : List ℕ) (place : ℕ) (to : List ℕ) → frame_at bytes place ≡ framed to
    → FramedParts bytes place to
framed_parts bytes place to e =
    let inside = second_of (nat_le (length bytes) place) broken _ (framed to) (λ h. cc) e in
    let gate = second_of (not (slice_index bytes place == 1)) closed _ (framed to) (λ h. cc)
    inside.1 in
    let whole = second_of (is_broken bytes place) broken _ (framed to) (λ h. cc) gate.1 in
    let bounded = or_parts _ (nat_lt MAX_JOURNAL (place + 6 + size_at bytes place)) whole.0 in
    let there = or_parts _ (nat_lt (length bytes) (place + 5 + size_at bytes place)) bounded.0 in
    let is : take (size_at bytes place) (drop (place + 5) bytes) ≡ to = cc (whole.1) in
    let left = ltb-false (length bytes) (place + 5 + size_at bytes place) there.1 in
    let size : size_at bytes place ≡ length to =
    sym (length-take-le (size_at bytes place) (drop (place + 5) bytes)
    (omega (arith, left, length-drop (place + 5) bytes))) ∙ ap length is in
    record {
      gate = eqb-true (slice_index bytes place) 1 (not-false (slice_index bytes place == 1) gate.0);
      size = size;
      body = ap (λ (n : ℕ). take n (drop (place + 5) bytes)) (sym size) ∙ is;
    }

-- ---- the rest of a file, one frame at a time
same_taken : (clients : Meaning) (file : ℕ) (f g : List (List Entry) → Standing) (place : ℕ) (done : List (List Entry)) (o : Option (List Entry)) → ((d : List (List Entry)) → f d ≡ g d)
    → taken_on clients file f place done o ≡ taken_on clients file g place done o
same_taken clients file f g place done None same = refl
same_taken clients file f g place done (Some batch) same =
    ap (λ s. cond (allows clients (facts done) batch) s (damaged file place)) (same (done ++ batch ∷ []))

same_on : (clients : Meaning) (format : Format) (file : ℕ) (f g : ℕ → List (List Entry) → Standing) (place : ℕ) (done : List (List Entry)) (frame : Frame)
    → ((to : List ℕ) (d : List (List Entry)) → f (place + 5 + length to) d ≡ g (place + 5 + length to) d)
    → read_on clients format file f place done frame ≡ read_on clients format file g place done frame
same_on clients format file f g place done closed same = refl
same_on clients format file f g place done broken same = refl
same_on clients format file f g place done (framed to) same =
    same_taken clients file (f (place + 5 + length to)) (g (place + 5 + length to)) place done (batch_of format (facts done) to) (same to)

-- more frames than there can be are not asked for
more_frames : (clients : Meaning) (format : Format) (file n : ℕ) (bytes : List ℕ) (place : ℕ) (done : List (List Entry)) → length bytes < n + place
    → frames_from clients format file (suc n) bytes place done ≡ frames_from clients format file n bytes place done
unfolding frames_from
more_frames clients format file zero bytes place done enough =
    ap (read_on clients format file (frames_from clients format file zero bytes) place done) (past_end bytes place (omega arith))
more_frames clients format file (suc n) bytes place done enough =
    same_on clients format file (frames_from clients format file (suc n) bytes) (frames_from clients format file n bytes) place done (frame_at bytes place)
    (λ to d. more_frames clients format file n bytes (place + 5 + length to) d (omega arith))

pub rest_once : (clients : Meaning) (format : Format) (file : ℕ) (bytes : List ℕ) (place : ℕ) (done : List (List Entry)) → 1 ≤ place
    → rest_from clients format file bytes place done ≡ read_on clients format file (rest_from clients format file bytes) place done (frame_at bytes place)
unfolding frames_from
rest_once clients format file bytes place done some = sym (more_frames clients format file (length bytes) bytes place done (omega arith))

open_long : (bytes : List ℕ) → is_open bytes ≡ true → 14 ≤ length bytes
open_long bytes e =
    let a = and_parts _ (slice_index bytes 4 == 74) e in
    let b = and_parts _ (slice_index bytes 3 == 80) a.0 in
    let c = and_parts _ (slice_index bytes 2 == 83) b.0 in
    let d = and_parts _ (slice_index bytes 1 == 66) c.0 in
    let f = and_parts (nat_le 14 (length bytes)) (slice_index bytes 0 == 1) d.0 in
    leb-true 14 (length bytes) f.0

named_open : (files : Two (List ℕ)) (n file : ℕ) → is_open (file_of files n) ≡ true → Some n ≡ Some file → is_open (file_of files file) ≡ true
named_open files n file is e = let same : n ≡ file = cc in subst (λ (k : ℕ). is_open (file_of files k) ≡ true) same is

-- the journal's file has an open header
open_in : (a b c : Bool) (files : Two (List ℕ)) (file : ℕ) → is_open files.first ≡ a → is_open files.second ≡ b
    → cond a (cond (b && c) (Some 1) (Some 0)) (cond b (Some 1) None) ≡ Some file → is_open (file_of files file) ≡ true
open_in true true true files file is_a is_b e = named_open files 1 file is_b e
open_in true true false files file is_a is_b e = named_open files 0 file is_a e
open_in true false c files file is_a is_b e = named_open files 0 file is_a e
open_in false true c files file is_a is_b e = named_open files 1 file is_b e
open_in false false c files file is_a is_b e = absurd cc

pub found_open : (files : Two (List ℕ)) (file : ℕ) → journal_file files ≡ Some file → is_open (file_of files file) ≡ true
found_open files file e = open_in (is_open files.first) (is_open files.second) _ files file refl refl e

-- no header is open
pub front_none : (clients : Meaning) (files : Two (List ℕ)) → journal_file files ≡ None → read_standing clients files ≡ no_store
unfolding read_standing
front_none clients files e = ap (stands_in clients files) e

-- the journal's file has another format
pub front_format : (clients : Meaning) (files : Two (List ℕ)) (file : ℕ) → journal_file files ≡ Some file → format_of (format_in (file_of files file)) ≡ None
    → read_standing clients files ≡ damaged file 5
unfolding read_standing
front_format clients files file e other = ap (stands_in clients files) e ∙ ap (read_in clients file (file_of files file)) other

-- the first gate
pub front_start : (clients : Meaning) (files : Two (List ℕ)) (file : ℕ) (format : Format) → journal_file files ≡ Some file
    → format_of (format_in (file_of files file)) ≡ Some format → Front clients files file format [] 15
unfolding read_standing
front_start clients files file format e known =
    let bytes = file_of files file in
    let header : take 14 bytes ++ [] ≡ take 14 bytes = append-nil (take 14 bytes) in
    record {
      found = e;
      format_is = known;
      going = ap (stands_in clients files) e ∙ ap (read_in clients file bytes) known;
      legal = tt;
      kinds = tt;
      within = tt;
      long = length-take-le 14 bytes (open_long bytes (found_open files file e));
      whole = sym (take-append-drop 14 bytes) ∙ ap (λ (l : List ℕ). l ++ drop 14 bytes) (sym header);
      payloads_fit = All-nil IsPayload;
      end_is = refl;
    }

some_end : (clients : Meaning) (files : Two (List ℕ)) (file : ℕ) (format : Format) (done : List (List Entry)) (end : ℕ) → Front clients files file format done end → 15 ≤ end
some_end clients files file format done end front = omega (arith, front.end_is)

-- what the files stand for, by the frame at the gate
pub front_once : (clients : Meaning) (files : Two (List ℕ)) (file : ℕ) (format : Format) (done : List (List Entry)) (end : ℕ) (frame : Frame) → Front clients files file format done end
    → frame_at (file_of files file) (end - 1) ≡ frame → read_standing clients files ≡ read_on clients format file (rest_from clients format file (file_of files file)) (end - 1) done frame
front_once clients files file format done end frame front e =
    let far = some_end clients files file format done end front in
    front.going ∙ rest_once clients format file (file_of files file) (end - 1) done (omega arith)
    ∙ ap (read_on clients format file (rest_from clients format file (file_of files file)) (end - 1) done) e

-- no gate or no whole frame stands there
pub front_broken : (clients : Meaning) (files : Two (List ℕ)) (file : ℕ) (format : Format) (done : List (List Entry)) (end : ℕ) → Front clients files file format done end
    → frame_at (file_of files file) (end - 1) ≡ broken → read_standing clients files ≡ damaged file (end - 1)
front_broken clients files file format done end front e = front_once clients files file format done end broken front e

-- the payload is no batch
pub front_unread : (clients : Meaning) (files : Two (List ℕ)) (file : ℕ) (format : Format) (done : List (List Entry)) (end : ℕ) (to : List ℕ) → Front clients files file format done end
    → frame_at (file_of files file) (end - 1) ≡ framed to → batch_of format (facts done) to ≡ None → read_standing clients files ≡ damaged file (end - 1)
front_unread clients files file format done end to front e none =
    front_once clients files file format done end (framed to) front e
    ∙ ap (taken_on clients file (rest_from clients format file (file_of files file) (end - 1 + 5 + length to)) (end - 1) done) none

-- the batch is not allowed
pub front_refused : (clients : Meaning) (files : Two (List ℕ)) (file : ℕ) (format : Format) (done : List (List Entry)) (end : ℕ) (to : List ℕ) (batch : List Entry) → Front clients files file format done end
    → frame_at (file_of files file) (end - 1) ≡ framed to → batch_of format (facts done) to ≡ Some batch → allows clients (facts done) batch ≡ false → read_standing clients files ≡ damaged file (end - 1)
front_refused clients files file format done end to batch front e some refused =
    front_once clients files file format done end (framed to) front e
    ∙ ap (taken_on clients file (rest_from clients format file (file_of files file) (end - 1 + 5 + length to)) (end - 1) done) some
    ∙ cond-false (allows clients (facts done) batch) _ _ refused

closed_at : (clients : Meaning) (files : Two (List ℕ)) (file : ℕ) (format : Format) (done : List (List Entry)) (end : ℕ) (t : Bool) → Front clients files file format done end
    → frame_at (file_of files file) (end - 1) ≡ closed → nat_le (end + room_of format (facts done)) MAX_JOURNAL ≡ t → read_standing clients files ≡ cond t (journal done) (damaged file (end - 1))
closed_at clients files file format done end t front e sum =
    let far = some_end clients files file format done end front in
    let same : end - 1 + 1 + room_of format (facts done) ≡ end + room_of format (facts done) = omega arith in
    front_once clients files file format done end closed front e
    ∙ ap (λ (b : Bool). cond b (journal done) (damaged file (end - 1))) (ap (λ (n : ℕ). nat_le n MAX_JOURNAL) same ∙ sum)

-- the journal ends there
pub front_closed : (clients : Meaning) (files : Two (List ℕ)) (file : ℕ) (format : Format) (done : List (List Entry)) (end : ℕ) → Front clients files file format done end
    → frame_at (file_of files file) (end - 1) ≡ closed → end + room_of format (facts done) ≤ MAX_JOURNAL → read_standing clients files ≡ journal done
front_closed clients files file format done end front e fits =
    closed_at clients files file format done end true front e (le-leb (end + room_of format (facts done)) MAX_JOURNAL fits)

-- its room is not left
pub front_full : (clients : Meaning) (files : Two (List ℕ)) (file : ℕ) (format : Format) (done : List (List Entry)) (end : ℕ) → Front clients files file format done end
    → frame_at (file_of files file) (end - 1) ≡ closed → MAX_JOURNAL < end + room_of format (facts done) → read_standing clients files ≡ damaged file (end - 1)
front_full clients files file format done end front e over =
    closed_at clients files file format done end false front e (lt-leb (end + room_of format (facts done)) MAX_JOURNAL over)

-- the first of two answers
first_of_two : {A : Type 0} (t : Bool) (x y z : A) → (y ≡ z → ⊥) → cond t x y ≡ z → t ≡ true
first_of_two true x y z ne e = refl
first_of_two false x y z ne e = absurd (ne e)

never_closed : (t : Bool) (to : List ℕ) → cond t broken (framed to) ≡ closed → ⊥
never_closed true to e = cc
never_closed false to e = cc

closed_gate : (bytes : List ℕ) (place : ℕ) → frame_at bytes place ≡ closed → (place < length bytes) × (slice_index bytes place ≢ 1)
closed_gate bytes place e =
    let inside = second_of (nat_le (length bytes) place) broken _ closed (λ h. cc) e in
    let gate = first_of_two (not (slice_index bytes place == 1)) closed _ closed (never_closed (is_broken bytes place) _) inside.1 in
    (leb-false (length bytes) place inside.0, eqb-false (slice_index bytes place) 1 (not-true (slice_index bytes place == 1) gate))

-- the frames of a journal that is read to its end
pub front_frames : (clients : Meaning) (files : Two (List ℕ)) (file : ℕ) (format : Format) (done : List (List Entry)) (end : ℕ) → Front clients files file format done end
    → frame_at (file_of files file) (end - 1) ≡ closed → HasFrames (file_of files file) (take 14 (file_of files file)) (payloads format nothing done)
front_frames clients files file format done end front e =
    let bytes = file_of files file in
    let gate = closed_gate bytes (end - 1) e in
    record {
      gate = slice_index bytes (end - 1);
      rest = drop (suc (end - 1)) bytes;
      whole = front.whole ∙ ap (λ (l : List ℕ). take 14 bytes ++ flat_map frame_of (payloads format nothing done) ++ l) (drop-cons bytes (end - 1) 0 gate.0);
      closed = gate.1;
      long = front.long;
      payloads_fit = front.payloads_fit;
    }

-- one frame more
pub front_more : (clients : Meaning) (files : Two (List ℕ)) (file : ℕ) (format : Format) (done : List (List Entry)) (end : ℕ) (to behind : List ℕ) (batch : List Entry) → Front clients files file format done end
    → frame_at (file_of files file) (end - 1) ≡ framed to → drop (end - 1) (file_of files file) ≡ frame_of to ++ behind
    → batch_of format (facts done) to ≡ Some batch → to ≡ payload format (facts done) batch → AllByRecursion IsEntry batch
    → allows clients (facts done) batch ≡ true → Allowed clients (facts done) batch
    → Front clients files file format (done ++ batch ∷ []) (end + 5 + length to)
front_more clients files file format done end to behind batch front e spelled some is within granted allowed =
    let bytes = file_of files file in
    let header = take 14 bytes in
    let before = flat_map frame_of (payloads format nothing done) in
    let after = drop (end + 5 + length to - 1) bytes in
    let far = some_end clients files file format done end front in
    let grown = frames_push format done batch to is in
    let left : after ≡ behind =
    ap (λ (n : ℕ). drop n bytes) (omega (arith, length_frame to)) ∙ sym (drop-drop (length (frame_of to)) (end - 1) bytes)
    ∙ ap (drop (length (frame_of to))) spelled ∙ drop_at (frame_of to) behind (length (frame_of to)) refl in
    let fits = framed_fits bytes (end - 1) to e in
    let Fits : List ℕ → Type 0 = λ p. IsPayload p in
    let payload_fits : IsPayload (payload format (facts done) batch) = subst Fits is (fits.some, fits.few) in
    record {
      found = front.found;
      format_is = front.format_is;
      going =
          front_once clients files file format done end (framed to) front e
          ∙ ap (taken_on clients file (rest_from clients format file bytes (end - 1 + 5 + length to)) (end - 1) done) some
          ∙ cond-true (allows clients (facts done) batch) _ _ granted
          ∙ ap (λ (n : ℕ). rest_from clients format file bytes n (done ++ batch ∷ [])) (omega arith);
      legal = legal-push clients done batch front.legal allowed;
      kinds = all_push (AllByRecursion (IsOfFormat format)) done batch front.kinds (batch_kinds format (names_of (facts done)) to batch some);
      within = all_push (AllByRecursion IsEntry) done batch front.within within;
      long = front.long;
      whole =
          front.whole ∙ ap (λ (l : List ℕ). header ++ before ++ l) (spelled ∙ ap (λ (l : List ℕ). frame_of to ++ l) (sym left))
          ∙ sym (append_assoc (header ++ before) (frame_of to) after)
          ∙ ap (λ (l : List ℕ). l ++ after) (append_assoc header before (frame_of to) ∙ ap (λ (l : List ℕ). header ++ l) (sym grown));
      payloads_fit =
          All-same IsPayload (payloads format nothing (done ++ batch ∷ [])) (payloads format nothing done ++ payload format (facts done) batch ∷ []) (payloads_push format nothing done batch)
          (All-push IsPayload (payloads format nothing done) (payload format (facts done) batch) front.payloads_fit payload_fits);
      end_is = omega (arith, front.end_is, ap length grown, length-append before (frame_of to), length_frame to);
    }
