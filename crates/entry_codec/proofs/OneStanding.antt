-- Two files of bytes stand for one thing alone.
use Rattle.std.specs.Prelude.{◌≡◌, ℕ, suc, ◌+◌, ◌-◌, ◌≤◌, Bool, true, false, nat_le, List, [], ◌∷◌}
use Rattle.std.specs.Prelude.{◌++◌, length, take, drop, Option, Some, None}
use Rattle.std.specs.List.{flat_map}
use Rattle.std.proofs.Common.{refl, sym, ap, inl, inr, ◌∙◌, arith, append_assoc, length-append}
use Rattle.std.proofs.lemmas.Bool.{leb-true, leb-false}
use Rattle.std.proofs.lemmas.List.{length-take, length-take-le, take-append-drop, take_at}
use Rattle.sync_ids.proofs.IdLengths.{message_id_whole}
use Rattle.sync_rules.proofs.Allowing.{allows_decides}
use Rattle.sync_rules.specs.declared.entries.Entry.{Entry}
use Rattle.sync_rules.specs.Clients.{Meaning}
use Rattle.sync_rules.specs.Facts.{Facts, after_all, after_batches, facts, nothing}
use Rattle.sync_rules.specs.Legal.{GoesOn}
use Rattle.sync_rules.specs.Allows.{allows}
use Rattle.outside.specs.declared.limits.TheConstants.{MAX_JOURNAL}
use Rattle.outside.specs.Files.{Two, file_of}
use Rattle.outside.specs.Frames.{Frame, broken, closed, format_in, frame_at, frame_of, framed}
use Rattle.outside.specs.Frames.{journal_file}
use Rattle.entry_codec.specs.declared.naming.Format.{Format}
use Rattle.entry_codec.specs.Naming.{AreNames, format_of}
use Rattle.entry_codec.specs.Payloads.{batch_of, names_of, payload, payloads}
use Rattle.entry_codec.specs.Standing.{Standing, damaged, journal, no_store, room_of}
use Rattle.entry_codec.specs.ReadingFiles.{read_standing, rest_from}
use Rattle.entry_codec.specs.FilesHold.{AreBytes, BreaksOff, HasStanding}
use Rattle.entry_codec.specs.Fronts.{Front}
use Rattle.entry_codec.proofs.BatchLaws.{batch_spelled, written_kinds, written_named}
use Rattle.entry_codec.proofs.BatchLaws.{written_within}
use Rattle.entry_codec.proofs.Counts.{one_more}
use Rattle.entry_codec.proofs.FrontLaws.{front_broken, front_format, front_full, front_none}
use Rattle.entry_codec.proofs.FrontLaws.{front_refused, front_unread}
use Rattle.entry_codec.proofs.Growing.{length_frame}
use Rattle.entry_codec.proofs.HeldNames.{legal_names}
use Rattle.entry_codec.proofs.Journals.{Follows, stands_behind, stands_has}
use Rattle.entry_codec.proofs.Standings.{framed_bytes}

-- fewer messages are held than there are bytes of frames
held_few : (clients : Meaning) (format : Format) (f : Facts) (j : List (List Entry))
    → GoesOn clients f j
    → length (after_batches f j).held ≤ length f.held + length
    (flat_map frame_of (payloads format f j))
held_few clients format f [] legal = omega arith
held_few clients format f (b ∷ j) legal =
    let p = payload format f b in
    omega (
      arith,
      held_few clients format (after_all f b) j legal.1,
      (one_more clients f b legal.0).0,
      length-append (frame_of p) (flat_map frame_of (payloads format (after_all f b) j)),
      length_frame p,
    )

-- ---- a file up to where it breaks off

module _ (clients : Meaning) (files : Two (List ℕ)) (file : ℕ) (format : Format) (place : ℕ)
    (off : BreaksOff clients (file_of files file) format place) where
  abbrev bytes : List ℕ
  bytes = file_of files file

  abbrev frames : List ℕ
  frames = flat_map frame_of (payloads format nothing off.done)

  long : length (off.header ++ frames) ≡ place
  long = omega (arith, length-append off.header frames, off.frames.long, off.place_is)

  -- the bytes reach as far
  there : place ≤ length bytes
  there =
      let all = ap length off.frames.whole in
      omega (
        arith,
        all,
        length-append (take place bytes) (0 ∷ []),
        length-append (off.header ++ frames) (off.frames.gate ∷ off.frames.rest),
        long,
        length-take place bytes,
      )

  front_is : take place bytes ≡ off.header ++ frames
  front_is =
      sym (take_at (take place bytes) (0 ∷ []) place (length-take-le place bytes there))
      ∙ ap (take place) off.frames.whole
      ∙ take_at (off.header ++ frames) (off.frames.gate ∷ off.frames.rest) place long

  whole : bytes ≡ (off.header ++ frames) ++ drop place bytes
  whole = sym (take-append-drop place bytes) ∙ ap (λ (l : List ℕ). l ++ drop place bytes) front_is

  header_is : take 14 bytes ≡ off.header
  header_is =
      ap (take 14) (whole ∙ append_assoc off.header frames (drop place bytes))
      ∙ take_at off.header (frames ++ drop place bytes) 14 off.frames.long

  follows : Follows clients format bytes 14 nothing [] off.done
  follows = record {
    begun = tt;
    few = omega arith;
    same = refl;
    front = off.header;
    behind = drop place bytes;
    split = whole;
    long = off.frames.long;
    some = omega arith;
    payloads_fit = off.frames.payloads_fit;
    legal = off.legal;
    kinds = off.kinds;
    within = off.within;
    bounded = omega (arith, off.bounded, off.place_is);
  }

  -- a reader comes there
  walked : journal_file files ≡ Some file → format_of (format_in bytes) ≡ Some format
      → Front clients files file format off.done (place + 1)
  walked found known =
      let is : 14 + length frames ≡ place + 1 - 1 = omega (arith, off.place_is) in
      let at : place ≡ place + 1 - 1 = omega arith in
      record {
        found = found;
        format_is = known;
        going =
            stands_behind clients (λ f b. (allows_decides message_id_whole clients f b).1)
            message_id_whole files file format off.done found known follows
            ∙ ap (λ (n : ℕ). rest_from clients format file bytes n off.done) is;
        legal = off.legal;
        kinds = off.kinds;
        within = off.within;
        long = ap length header_is ∙ off.frames.long;
        whole = whole ∙ ap (λ (l : List ℕ). (l ++ frames) ++ drop place bytes) (sym header_is)
            ∙ ap (λ (n : ℕ). (take 14 bytes ++ frames) ++ drop n bytes) at;
        payloads_fit = off.frames.payloads_fit;
        end_is = off.place_is;
      }

  names : AreNames (names_of (facts off.done))
  names = legal_names message_id_whole clients off.done off.legal
      (omega (arith, held_few clients format nothing off.done off.legal, off.bounded, off.place_is))

  module _ (fits : AreBytes files) (found : journal_file files ≡ Some file)
      (known : format_of (format_in bytes) ≡ Some format) where
    abbrev IsDamaged : Type 0
    IsDamaged = read_standing clients files ≡ damaged file place

    at : place ≡ place + 1 - 1
    at = omega arith

    front : Front clients files file format off.done (place + 1)
    front = walked found known

    damaged_there : read_standing clients files ≡ damaged file (place + 1 - 1) → IsDamaged
    damaged_there e = e ∙ ap (damaged file) (sym at)

    by_test : (to : List ℕ) (batch : List Entry) (t : Bool) → frame_at bytes place ≡ framed to
        → batch_of format (facts off.done) to ≡ Some batch
        → allows clients (facts off.done) batch ≡ t → IsDamaged
    by_test to batch false e read refused =
        damaged_there (front_refused clients files file format off.done (place + 1) to batch front
        (ap (frame_at bytes) (sym at) ∙ e) read refused)
    by_test to batch true e read granted =
        let spelled = batch_spelled format (names_of (facts off.done)) names to batch
        (framed_bytes bytes place to (λ i. fits file i) e) read in
        absurd (off.no_batch batch (record {
          allowed = (allows_decides message_id_whole clients (facts off.done) batch).0 granted;
          writable = record {
            kinds = written_kinds format (names_of (facts off.done)) batch spelled.written;
            within = written_within format (names_of (facts off.done)) batch spelled.written;
            named = written_named format (names_of (facts off.done)) batch spelled.written;
          };
          frame = e ∙ ap (λ (l : List ℕ). framed l) spelled.is;
        }))

    by_batch : (to : List ℕ) (o : Option (List Entry)) → frame_at bytes place ≡ framed to
        → batch_of format (facts off.done) to ≡ o → IsDamaged
    by_batch to None e none = damaged_there (front_unread clients files file format off.done
        (place + 1) to front (ap (frame_at bytes) (sym at) ∙ e) none)
    by_batch to (Some batch) e read = by_test to batch (allows clients (facts off.done) batch) e
        read refl

    by_frame : (frame : Frame) → frame_at bytes place ≡ frame → IsDamaged
    by_frame closed e = damaged_there (front_full clients files file format off.done (place + 1)
        front (ap (frame_at bytes) (sym at) ∙ e) (off.no_end e))
    by_frame broken e = damaged_there (front_broken clients files file format off.done (place + 1)
        front (ap (frame_at bytes) (sym at) ∙ e))
    by_frame (framed to) e = by_batch to (batch_of format (facts off.done) to) e refl

-- ---- all that files may stand for

pub one_standing : (clients : Meaning) (files : Two (List ℕ)) → AreBytes files → (s : Standing)
    → HasStanding clients files s → read_standing clients files ≡ s
one_standing clients files fits no_store none = front_none clients files none
one_standing clients files fits (damaged file place) (found, inl (other, is)) =
    front_format clients files file found other ∙ ap (damaged file) (sym is)
one_standing clients files fits (damaged file place) (found, inr (format, known, off)) =
    by_frame clients files file format place off fits found known
    (frame_at (file_of files file) place) refl
one_standing clients files fits (journal j) (file, format, holds) =
    stands_has clients (λ f b. (allows_decides message_id_whole clients f b).1) message_id_whole
    files file format j holds
