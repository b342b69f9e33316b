-- What a reader of two files of bytes finds is what they stand for.
use Rattle.std.specs.Prelude.{◌≡◌, ℕ, zero, suc, ◌+◌, ◌-◌, ◌<◌, ◌≤◌, Bool, true, false, nat_le}
use Rattle.std.specs.Prelude.{List, [], ◌∷◌, ◌++◌, length, take, drop, slice_index, Option, Some}
use Rattle.std.specs.Prelude.{None}
use Rattle.std.specs.Int.{w32, from_be_bytes, to_be_bytes}
use Rattle.std.specs.List.{flat_map}
use Rattle.std.proofs.Common.{refl, sym, ap, subst, inl, inr, ◌∙◌, arith, append_assoc, drop-cons}
use Rattle.std.proofs.Common.{length-append}
use Rattle.std.proofs.lemmas.Bool.{leb-false, leb-true}
use Rattle.std.proofs.lemmas.List.{drop-drop, length-drop, length-take-le, take-append-drop}
use Rattle.std.proofs.lemmas.List.{take_at}
use Rattle.sync_ids.proofs.IdLengths.{message_id_whole}
use Rattle.sync_rules.proofs.Allowing.{allows_decides}
use Rattle.sync_rules.specs.declared.entries.Entry.{Entry}
use Rattle.sync_rules.specs.Clients.{Meaning}
use Rattle.sync_rules.specs.Facts.{Facts, after_all, facts, nothing}
use Rattle.sync_rules.specs.Legal.{Allowed}
use Rattle.sync_rules.specs.Allows.{allows}
use Rattle.outside.specs.declared.limits.TheConstants.{MAX_JOURNAL}
use Rattle.outside.specs.Files.{Two, file_of}
use Rattle.outside.specs.Frames.{Frame, HasFrames, broken, closed, format_in, frame_at, frame_of}
use Rattle.outside.specs.Frames.{framed, journal_file}
use Rattle.entry_codec.specs.declared.naming.Format.{Format}
use Rattle.entry_codec.specs.Naming.{AreNames, format_of}
use Rattle.entry_codec.specs.Payloads.{batch_of, names_of, payload, payloads}
use Rattle.entry_codec.specs.Standing.{Standing, damaged, journal, no_store, room_of}
use Rattle.entry_codec.specs.ReadingFiles.{read_standing}
use Rattle.entry_codec.specs.Fronts.{FitsFile, Front}
use Rattle.entry_codec.specs.FilesHold.{AreBytes, BreaksOff, HasStanding, IsDamagedAt, IsNextBatch}
use Rattle.entry_codec.specs.FilesHold.{StandingOf}
use Rattle.entry_codec.proofs.BatchLaws.{batch_back, batch_spelled, written_by, written_within}
use Rattle.entry_codec.proofs.Counts.{one_more}
use Rattle.entry_codec.proofs.FrontLaws.{FramedParts, framed_fits, framed_parts, front_broken}
use Rattle.entry_codec.proofs.FrontLaws.{front_closed, front_format, front_frames, front_full}
use Rattle.entry_codec.proofs.FrontLaws.{front_more, front_none, front_refused, front_start}
use Rattle.entry_codec.proofs.FrontLaws.{front_unread}
use Rattle.entry_codec.proofs.Growing.{facts_push}
use Rattle.entry_codec.proofs.HeldNames.{legal_names}
use Rattle.entry_codec.proofs.Parts.{some_same}
use Rattle.entry_codec.proofs.Readers.{IsBytes, IsBytes-rest, IsBytes-take, wide32}

-- ---- a frame of bytes

IsBytes-drop : (n : ℕ) (bytes : List ℕ) → IsBytes bytes → IsBytes (drop n bytes)
IsBytes-drop n bytes fits = IsBytes-rest bytes (take n bytes) (drop n bytes)
    (sym (take-append-drop n bytes)) fits

-- a frame that is read is spelled where it was read
framed_spelled : (bytes : List ℕ) (place : ℕ) (to : List ℕ) → IsBytes bytes
    → frame_at bytes place ≡ framed to
    → drop place bytes ≡ frame_of to ++ drop (length to) (drop (place + 5) bytes)
framed_spelled bytes place to fits e =
    let parts = framed_parts bytes place to e in
    let there = (framed_fits bytes place to e).there in
    let rest = drop (suc place) bytes in
    let body = drop (place + 5) bytes in
    let behind = drop (length to) body in
    let at : place + 1 ≡ suc place = omega arith in
    let long : length (take 4 rest) ≡ 4 = length-take-le 4 rest
    (omega (arith, length-drop (suc place) bytes)) in
    let width : to_be_bytes w32 (length to) ≡ take 4 rest =
    ap (to_be_bytes w32) (sym parts.size)
    ∙ ap (λ (n : ℕ). to_be_bytes w32 (from_be_bytes w32 (take 4 (drop n bytes)))) at
    ∙ wide32.back (take 4 rest) long (IsBytes-take 4 rest (IsBytes-drop (suc place) bytes fits)) in
    let body_is : drop 4 rest ≡ body = drop-drop 4 (suc place) bytes
    ∙ ap (λ (n : ℕ). drop n bytes) (omega arith) in
    let spelled : body ≡ to ++ behind = sym (take-append-drop (length to) body)
    ∙ ap (λ (l : List ℕ). l ++ behind) parts.body in
    drop-cons bytes place 0 (omega (arith, there))
    ∙ ap (λ (n : ℕ). n ∷ rest) parts.gate
    ∙ ap (λ (l : List ℕ). 1 ∷ l) (sym (take-append-drop 4 rest))
    ∙ ap (λ (l : List ℕ). 1 ∷ (take 4 rest ++ l)) (body_is ∙ spelled)
    ∙ ap (λ (l : List ℕ). 1 ∷ (l ++ (to ++ behind))) (sym width)
    ∙ ap (λ (l : List ℕ). 1 ∷ l) (sym (append_assoc (to_be_bytes w32 (length to)) to behind))

pub framed_bytes : (bytes : List ℕ) (place : ℕ) (to : List ℕ) → IsBytes bytes
    → frame_at bytes place ≡ framed to → IsBytes to
framed_bytes bytes place to fits e =
    subst IsBytes (framed_parts bytes place to e).body (IsBytes-take (length to)
    (drop (place + 5) bytes) (IsBytes-drop (place + 5) bytes fits))

-- ---- where a file breaks off

cut_frames : (clients : Meaning) (files : Two (List ℕ)) (file : ℕ) (format : Format)
    (done : List (List Entry)) (end : ℕ) → Front clients files file format done end
    → HasFrames (take (end - 1) (file_of files file) ++ 0 ∷ []) (take 14 (file_of files file))
    (payloads format nothing done)
cut_frames clients files file format done end front =
    let bytes = file_of files file in
    let frames = flat_map frame_of (payloads format nothing done) in
    let long : length (take 14 bytes ++ frames) ≡ end - 1 = omega
    (arith, length-append (take 14 bytes) frames, front.long, front.end_is) in
    record {
      gate = 0;
      rest = [];
      whole = ap (λ (l : List ℕ). l ++ 0 ∷ []) (ap (take (end - 1)) front.whole ∙ take_at
          (take 14 bytes ++ frames) (drop (end - 1) bytes) (end - 1) long);
      closed = λ e. omega (arith, e);
      long = front.long;
      payloads_fit = front.payloads_fit;
    }

module _ (clients : Meaning) (files : Two (List ℕ)) (fits : AreBytes files) where
  abbrev Stood : Type 0
  Stood = HasStanding clients files (read_standing clients files)

  -- the files stand for this
  stood_as : (s : Standing) → read_standing clients files ≡ s → HasStanding clients files s → Stood
  stood_as s is holds = subst (HasStanding clients files) (sym is) holds

  module _ (file : ℕ) (format : Format) where
    abbrev bytes : List ℕ
    bytes = file_of files file

    -- how far a reader has come, behind fewer messages than bytes
    record Walked (done : List (List Entry)) (end : ℕ) : Type 0 where
      pub front : Front clients files file format done end
      pub few : length (facts done).held + 15 ≤ end
      pub near : end ≤ MAX_JOURNAL

    module _ (done : List (List Entry)) (end : ℕ) (walked : Walked done end) where
      abbrev place : ℕ
      place = end - 1

      abbrev Next : List Entry → Type 0
      Next batch = IsNextBatch clients format bytes place done batch

      breaks : read_standing clients files ≡ damaged file place
          → ((batch : List Entry) → Next batch → ⊥)
          → (frame_at bytes place ≡ closed → MAX_JOURNAL < place + 1 + room_of format (facts done))
          → Stood
      breaks is no_batch no_end =
          let front = walked.front in
          let off : BreaksOff clients bytes format place = record {
            done = done;
            legal = front.legal;
            kinds = front.kinds;
            within = front.within;
            header = take 14 bytes;
            frames = cut_frames clients files file format done end front;
            place_is = omega (arith, front.end_is, walked.few);
            bounded = omega (arith, walked.near, walked.few);
            no_batch = no_batch;
            no_end = no_end;
          } in
          stood_as (damaged file place) is (front.found, inr (format, front.format_is, off))

      -- another frame than this one
      not_framed : (frame : Frame) → frame_at bytes place ≡ frame
          → ((to : List ℕ) → frame ≡ framed to → ⊥) → (batch : List Entry) → Next batch → ⊥
      not_framed frame e other batch next = other (payload format (facts done) batch)
          (sym e ∙ next.frame)

      -- ---- at a closed gate

      by_room : (t : Bool) → nat_le (end + room_of format (facts done)) MAX_JOURNAL ≡ t
          → frame_at bytes place ≡ closed → Stood
      by_room true sum e =
          let front = walked.front in
          stood_as (journal done) (front_closed clients files file format done end front e
          (leb-true _ _ sum)) (
            file,
            format,
            record {
              found = front.found;
              format_is = front.format_is;
              header = take 14 bytes;
              frames = front_frames clients files file format done end front e;
              legal = front.legal;
              kinds = front.kinds;
              within = front.within;
              bounded = omega (arith, front.end_is, leb-true _ _ sum);
            },
          )
      by_room false sum e =
          let over : MAX_JOURNAL < end + room_of format (facts done) = leb-false _ _ sum in
          breaks (front_full clients files file format done end walked.front e over)
          (not_framed closed e (λ to h. cc))
          (λ h. omega (arith, over, walked.few))

      -- ---- at a frame

      module _ (to : List ℕ) (e : frame_at bytes place ≡ framed to) where
        names : AreNames (names_of (facts done))
        names =
            let bounded = (framed_fits bytes place to e).bounded in
            legal_names message_id_whole clients done walked.front.legal
            (omega (arith, bounded, walked.few))

        no_end : frame_at bytes place ≡ closed
            → MAX_JOURNAL < place + 1 + room_of format (facts done)
        no_end h = let clash : framed to ≡ closed = sym e ∙ h in absurd cc

        -- a batch that is next is read
        next_read : (batch : List Entry) → Next batch → batch_of format (facts done) to ≡ Some batch
        next_read batch next =
            let same : framed to ≡ framed (payload format (facts done) batch) = sym e
            ∙ next.frame in
            let is : to ≡ payload format (facts done) batch = cc in
            let w = next.writable in
            ap (batch_of format (facts done)) is
            ∙ batch_back format (names_of (facts done)) names batch
            (written_by format (names_of (facts done)) batch w.within w.named w.kinds)
            (some_allowed batch next.allowed)
          where
            some_allowed : (batch : List Entry) → Allowed clients (facts done) batch
                → 1 ≤ length batch
            some_allowed [] allowed = absurd allowed
            some_allowed (x ∷ xs) allowed = omega arith

        -- one batch more
        more : (batch : List Entry) → batch_of format (facts done) to ≡ Some batch
            → allows clients (facts done) batch ≡ true
            → Walked (done ++ batch ∷ []) (end + 5 + length to)
        more batch read granted =
            let byte : IsBytes bytes = λ i. fits file i in
            let spelled = batch_spelled format (names_of (facts done)) names to batch
            (framed_bytes bytes place to byte e) read in
            let allowed = (allows_decides message_id_whole clients (facts done) batch).0 granted in
            let grown : length (facts (done ++ batch ∷ [])).held ≡ length
            (after_all (facts done) batch).held = ap (λ (f : Facts). length f.held)
            (facts_push done batch) in
            record {
              front =
                  front_more clients files file format done end to
                  (drop (length to) (drop (place + 5) bytes)) batch walked.front e
                  (framed_spelled bytes place to byte e) read spelled.is
                  (written_within format (names_of (facts done)) batch spelled.written) granted
                  allowed;
              few = omega (
                arith,
                walked.few,
                grown,
                (one_more clients (facts done) batch
                    allowed).0,
              );
              near = omega (arith, (framed_fits bytes place to e).bounded, walked.few);
            }

        by_test : (batch : List Entry) (t : Bool) → batch_of format (facts done) to ≡ Some batch
            → allows clients (facts done) batch ≡ t
            → (Walked (done ++ batch ∷ []) (end + 5 + length to) → Stood) → Stood
        by_test batch true read granted further = further (more batch read granted)
        by_test batch false read refused further =
            breaks (front_refused clients files file format done end to batch walked.front e read
            refused)
            (λ other next.
            let same : other ≡ batch = some_same other batch (sym (next_read other next) ∙ read) in
            let granted : allows clients (facts done) other ≡ true =
            (allows_decides message_id_whole clients (facts done) other).1 next.allowed in
            let clash : true ≡ false = sym granted ∙ ap (allows clients (facts done)) same
            ∙ refused in
            absurd cc) no_end

        by_batch : (o : Option (List Entry)) → batch_of format (facts done) to ≡ o
            → ((batch : List Entry) → Walked (done ++ batch ∷ []) (end + 5 + length to) → Stood)
            → Stood
        by_batch None none further =
            breaks (front_unread clients files file format done end to walked.front e none)
            (λ batch next. let clash : None ≡ Some batch = sym none
            ∙ next_read batch next in absurd cc) no_end
        by_batch (Some batch) read further = by_test batch (allows clients (facts done) batch) read
            refl (further batch)

      by_frame : (frame : Frame) → frame_at bytes place ≡ frame
          → ((batch : List Entry) (to : List ℕ) → FitsFile bytes place to
          → Walked (done ++ batch ∷ []) (end + 5 + length to) → Stood) → Stood
      by_frame closed e further = by_room (nat_le (end + room_of format (facts done)) MAX_JOURNAL)
          refl e
      by_frame broken e further =
          breaks (front_broken clients files file format done end walked.front e)
          (not_framed broken e (λ to h. cc))
          (λ h. let clash : broken ≡ closed = sym e ∙ h in absurd cc)
      by_frame (framed to) e further =
          by_batch to e (batch_of format (facts done) to) refl
          (λ batch. further batch to (framed_fits bytes place to e))

    -- the frames that are left, fewer than the bytes
    stood_from : (n : ℕ) (done : List (List Entry)) (end : ℕ) → Walked done end
        → length bytes < n + end → Stood
    stood_from zero done end walked enough =
        by_frame done end walked (frame_at bytes (end - 1)) refl (λ batch to there next.
        absurd (omega (arith, there.there, enough)))
    stood_from (suc n) done end walked enough =
        by_frame done end walked (frame_at bytes (end - 1)) refl (λ batch to there next.
        stood_from n (done ++ batch ∷ []) (end + 5 + length to) next (omega (arith, enough)))

    stood_in_format : journal_file files ≡ Some file → format_of (format_in bytes) ≡ Some format
        → Stood
    stood_in_format found known =
        stood_from (length bytes) [] 15 (record {
          front = front_start clients files file format found known;
          few = omega arith;
          near =
              omega arith;
        }) (omega arith)

  stood_in_file : (file : ℕ) (o : Option Format) → journal_file files ≡ Some file
      → format_of (format_in (file_of files file)) ≡ o → Stood
  stood_in_file file None found other = stood_as (damaged file 5)
      (front_format clients files file found other) (found, inl (other, refl))
  stood_in_file file (Some format) found known = stood_in_format file format found known

  stood_in : (o : Option ℕ) → journal_file files ≡ o → Stood
  stood_in None none = stood_as no_store (front_none clients files none) none
  stood_in (Some file) found = stood_in_file file (format_of (format_in (file_of files file))) found
      refl

pub standing_holds : (clients : Meaning) (files : Two (List ℕ)) → AreBytes files
    → HasStanding clients files (read_standing clients files)
standing_holds clients files fits = stood_in clients files fits (journal_file files) refl

-- Two files stand for something. This is all that a definition needs to know of a reader.
abbrev pub standing : (clients : Meaning) (files : Two (List ℕ)) → StandingOf clients files
standing clients files = record {
  of = read_standing clients files;
  holds = standing_holds clients
      files;
}
