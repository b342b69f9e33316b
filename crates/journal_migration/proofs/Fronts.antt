-- A reader of a journal's frames: it has read a front of the journal that the files stand for.
use Rattle.std.proofs.Common.{◌≡◌, ℕ, zero, suc, ◌+◌, ◌-◌, ◌≤◌, Bool, true, false, cond, List, []}
use Rattle.std.proofs.Common.{◌∷◌, ◌++◌, length, take, drop, refl, sym, ap, subst, ◌∙◌, arith}
use Rattle.std.proofs.Common.{append_assoc, append-nil}
use Rattle.std.specs.Prelude.{Option, Some, None, nat_le}
use Rattle.std.specs.List.{flat_map}
use Rattle.std.proofs.lemmas.Bool.{leb-true}
use Rattle.outside.specs.declared.limits.TheConstants.{MAX_JOURNAL}
use Rattle.outside.specs.Files.{Two, file_of}
use Rattle.outside.specs.Frames.{Frame, broken, closed, format_in, frame_at, frame_of, framed}
use Rattle.outside.specs.Frames.{journal_file}
use Rattle.sync_rules.specs.declared.entries.Entry.{Entry}
use Rattle.sync_rules.specs.Clients.{Meaning}
use Rattle.sync_rules.specs.Facts.{facts, nothing}
use Rattle.sync_rules.specs.Allows.{allows}
use Rattle.entry_codec.specs.declared.naming.Format.{Format}
use Rattle.entry_codec.specs.Naming.{format_of}
use Rattle.entry_codec.specs.Payloads.{batch_of, payloads}
use Rattle.entry_codec.specs.Standing.{Standing, damaged, journal}
use Rattle.entry_codec.specs.ReadingFiles.{frames_from, read_on, rest_from}
use Rattle.entry_codec.specs.Standing.{room_of}
use Rattle.entry_codec.specs.ReadingFiles.{taken_on}
use Rattle.file_standing.specs.Standing.{stands}
use Rattle.entry_codec.specs.Fronts.{Front}
use Rattle.entry_codec.proofs.FrontLaws.{front_once}
use Rattle.journal_migration.proofs.Sides.{stands_own}

journal_is : (d j : List (List Entry)) → journal d ≡ journal j → d ≡ j
journal_is d j e = cc

same_cond : (t : Bool) (x y z : Standing) → (y ≡ z → ⊥) → cond t x y ≡ z → x ≡ z
same_cond true x y z ne e = e
same_cond false x y z ne e = absurd (ne e)

true_cond : (t : Bool) (x y z : Standing) → (y ≡ z → ⊥) → cond t x y ≡ z → t ≡ true
true_cond true x y z ne e = refl
true_cond false x y z ne e = absurd (ne e)

-- ---- what is read is a front

taken_front : (clients : Meaning) (file : ℕ) (further : List (List Entry) → Standing) (place : ℕ)
    (done j : List (List Entry))
    → ((d : List (List Entry)) → further d ≡ journal j → (left : List (List Entry))
    × (j ≡ d ++ left))
    → (o : Option (List Entry)) → taken_on clients file further place done o ≡ journal j
    → (left : List (List Entry)) × (j ≡ done ++ left)
taken_front clients file further place done j later None e = absurd cc
taken_front clients file further place done j later (Some b) e =
    let same = same_cond (allows clients (facts done) b) (further (done ++ b ∷ []))
    (damaged file place) (journal j) (λ h. cc) e in
    let on = later (done ++ b ∷ []) same in
    (b ∷ on.0, on.1 ∙ append_assoc done (b ∷ []) on.0)

on_front : (clients : Meaning) (format : Format) (file : ℕ)
    (further : ℕ → List (List Entry) → Standing) (place : ℕ) (done j : List (List Entry))
    → ((next : ℕ) (d : List (List Entry)) → further next d ≡ journal j → (left : List (List Entry))
    × (j ≡ d ++ left))
    → (frame : Frame) → read_on clients format file further place done frame ≡ journal j
    → (left : List (List Entry)) × (j ≡ done ++ left)
on_front clients format file further place done j later closed e =
    let same = same_cond (nat_le (place + 1 + room_of format (facts done)) MAX_JOURNAL)
    (journal done) (damaged file place) (journal j) (λ h. cc) e in
    ([], sym (journal_is done j same) ∙ sym (append-nil done))
on_front clients format file further place done j later broken e = absurd cc
on_front clients format file further place done j later (framed to) e =
    taken_front clients file (further (place + 5 + length to)) place done j
    (later (place + 5 + length to)) (batch_of format (facts done) to) e

frames_front : (clients : Meaning) (format : Format) (file n : ℕ) (bytes : List ℕ) (place : ℕ)
    (done j : List (List Entry)) → frames_from clients format file n bytes place done ≡ journal j
    → (left : List (List Entry)) × (j ≡ done ++ left)
unfolding frames_from
frames_front clients format file zero bytes place done j e = absurd cc
frames_front clients format file (suc n) bytes place done j e =
    on_front clients format file (frames_from clients format file n bytes) place done j (λ next d h.
    frames_front clients format file n bytes next d j h) (frame_at bytes place) e

pub rest_front : (clients : Meaning) (format : Format) (file : ℕ) (bytes : List ℕ) (place : ℕ)
    (done j : List (List Entry)) → rest_from clients format file bytes place done ≡ journal j
    → (left : List (List Entry)) × (j ≡ done ++ left)
rest_front clients format file bytes place done j e =
    frames_front clients format file (length bytes) bytes place done j e

-- ---- the batch of a frame that is read

-- where the files stand for a journal each frame's batch is allowed
pub frame_granted : (clients : Meaning) (files : Two (List ℕ)) (file : ℕ) (format : Format)
    (done j : List (List Entry)) (end : ℕ) (to : List ℕ) (batch : List Entry)
    → Front clients files file format done end → stands clients files ≡ journal j
    → frame_at (file_of files file) (end - 1) ≡ framed to
    → batch_of format (facts done) to ≡ Some batch
    → allows clients (facts done) batch ≡ true
frame_granted clients files file format done j end to batch front stood e some =
    let going = sym (front_once clients files file format done end (framed to) front e) ∙ stood in
    let here : taken_on clients file
    (rest_from clients format file (file_of files file) (end - 1 + 5 + length to)) (end - 1)
    done (Some batch) ≡ journal j =
    sym
    (ap (taken_on clients file
    (rest_from clients format file (file_of files file) (end - 1 + 5 + length to)) (end - 1)
    done) some) ∙ going in
    true_cond (allows clients (facts done) batch) _ (damaged file (end - 1)) (journal j) (λ h.
    cc) here

-- at the closed gate the journal is read, and its room is left
pub gate_whole : (clients : Meaning) (files : Two (List ℕ)) (file : ℕ) (format : Format)
    (done j : List (List Entry)) (end : ℕ) → 1 ≤ end
    → Front clients files file format done end → stands clients files ≡ journal j
    → frame_at (file_of files file) (end - 1) ≡ closed
    → (done ≡ j) × (end + room_of format (facts done) ≤ MAX_JOURNAL)
gate_whole clients files file format done j end some front stood e =
    let going : cond (nat_le (end - 1 + 1 + room_of format (facts done)) MAX_JOURNAL) (journal done)
    (damaged file (end - 1)) ≡ journal j =
    sym (front_once clients files file format done end closed front e) ∙ stood in
    let fits = true_cond (nat_le (end - 1 + 1 + room_of format (facts done)) MAX_JOURNAL)
    (journal done) (damaged file (end - 1)) (journal j) (λ h. cc) going in
    let same = same_cond (nat_le (end - 1 + 1 + room_of format (facts done)) MAX_JOURNAL)
    (journal done) (damaged file (end - 1)) (journal j) (λ h. cc) going in (
      journal_is done j same,
      omega (arith, leb-true (end - 1 + 1 + room_of format (facts done)) MAX_JOURNAL fits, some),
    )

-- ---- a front of other files

-- the reader stands as it did where the journal's file is as it was
pub front_moves : (clients : Meaning) (m n : Two (List ℕ)) (file : ℕ) (format : Format)
    (done : List (List Entry)) (end : ℕ) → Front clients m file format done end
    → journal_file n ≡ Some file → file_of n file ≡ file_of m file
    → Front clients n file format done end
front_moves clients m n file format done end front found same =
    let back : file_of m file ≡ file_of n file = sym same in
    record {
      found = found;
      format_is = ap (λ (bytes : List ℕ). format_of (format_in bytes)) same ∙ front.format_is;
      going =
          stands_own clients n m file found front.found same ∙ front.going
          ∙ ap (λ (bytes : List ℕ). rest_from clients format file bytes (end - 1) done) back;
      legal = front.legal;
      kinds = front.kinds;
      within = front.within;
      long = ap (λ (bytes : List ℕ). length (take 14 bytes)) same ∙ front.long;
      whole =
          subst (λ (bytes : List ℕ).
          bytes ≡ take 14 bytes ++ flat_map frame_of (payloads format nothing done)
          ++ drop (end - 1) bytes) back front.whole;
      payloads_fit = front.payloads_fit;
      end_is = front.end_is;
    }
