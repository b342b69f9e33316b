-- What a frame more makes of files that fit a store.
use Rattle.std.proofs.Common.{◌≡◌, ℕ, zero, suc, ◌+◌, ◌≤◌, Bool, true, false, List, [], ◌∷◌, ◌++◌}
use Rattle.std.proofs.Common.{length, Option, Some, Ok, Err, refl, sym, ap, ◌∙◌, subst, inl, inr}
use Rattle.std.proofs.Common.{arith}
use Rattle.std.specs.List.{AllByRecursion}
use Rattle.std.specs.Option.{ForSome}
use Rattle.outside.specs.Files.{Two, File, IsFileImage, IsImage, NothingPending, file_of}
use Rattle.outside.specs.Files.{read_files, settled}
use Rattle.outside.specs.Frames.{HasFrames, IsAtRest, format_in, generation_in}
use Rattle.outside.specs.Links.{sent_of}
use Rattle.outside.specs.Disk.{RelatesTold}
use Rattle.outside.specs.Outside.{Outside, Moment, MomentsAre}
use Rattle.outside.specs.Steps.{FileMoment, PassedMoments, other_of}
use Rattle.outside.proofs.CallSteps.{becomes_told, image_file, image_other, moments_map}
use Rattle.outside.proofs.CallSteps.{moments_none}
use Rattle.frame_journal.specs.Append.{payload_of, AppendsFrame, BeforeOrWith, IsFramed}
use Rattle.sync_rules.specs.declared.entries.Entry.{Entry}
use Rattle.sync_rules.specs.Clients.{Meaning}
use Rattle.sync_rules.specs.Facts.{Facts, after_all, facts, nothing}
use Rattle.sync_rules.specs.Legal.{Allowed, Legal}
use Rattle.entry_codec.specs.declared.naming.Format.{Format}
use Rattle.entry_codec.specs.Naming.{format_of}
use Rattle.entry_codec.specs.Payloads.{journal_end, names_of, payload, payload_len, payloads}
use Rattle.entry_codec.proofs.LawProofs.{batch_len_same}
use Rattle.sync_rules.proofs.Continuing.{legal-push}
use Rattle.entry_codec.proofs.Growing.{all_push, facts_push, payloads_push}
use Rattle.entry_codec.specs.Spelling.{IsEntry, IsOfFormat}
use Rattle.entry_codec.specs.Standing.{journal, room_of}
use Rattle.file_standing.specs.Standing.{stands}
use Rattle.entry_codec.specs.StandingLaws.{JournalsStand}
use Rattle.outside.specs.declared.limits.TheConstants.{MAX_JOURNAL}
use Rattle.outside.proofs.Calm.{settled_only}
use Rattle.sync_store.specs.declared.fault.StoreFault.{StoreFault}
use Rattle.sync_store.specs.Store.{StoreValue, format_meant, written_in}
use Rattle.sync_store.specs.Fitting.{FitsFiles, FitsSome}
use Rattle.sync_store.specs.Commits.{GainsBatch, MayAdd}
use Rattle.sync_store.specs.Moments.{JournalMoment, LeadsTo, WithAtMost, RunsCommit}
use Rattle.frame_journal.proofs.Framed.{framed_long}
use Rattle.sync_store.proofs.Framing.{end_framed}
use Rattle.sync_store.proofs.Headers.{one_format, one_generation, one_journal_file}

-- ---- the two files

-- a crash leaves of a file in which nothing is pending what it reads as
pub other_settled : (two : Two File) (file : ℕ) → NothingPending two 0 → NothingPending two 1
    → other_of two file ≡ settled (other_of two file).now
other_settled two zero first second = second
other_settled two (suc _) first second = first

this_settled : (two : Two File) (file : ℕ) → NothingPending two 0 → NothingPending two 1
    → NothingPending two file
this_settled two zero first second = first
this_settled two (suc _) first second = second

pub first_of : (two : Two File) (file : ℕ) → NothingPending two file → other_of two file ≡ settled
    (other_of two file).now → NothingPending two 0
first_of two zero this other = this
first_of two (suc _) this other = other

pub second_of : (two : Two File) (file : ℕ) → NothingPending two file → other_of two file ≡ settled
    (other_of two file).now → NothingPending two 1
second_of two zero this other = other
second_of two (suc _) this other = this

pub other_reads : (two : Two File) (file : ℕ) → other_of (read_files two) file ≡ (other_of two file).now
other_reads two zero = refl
other_reads two (suc _) = refl

pub this_reads : (two : Two File) (file : ℕ)
    → file_of (read_files two) file ≡ (file_of two file).now
this_reads two zero = refl
this_reads two (suc _) = refl

-- ---- what the files of a moment stand for

-- frames of a journal behind the store's header, and the other file as it was
pub stands_at : JournalsStand → (clients : Meaning) (s : StoreValue) (j : List (List Entry))
    (two : Two File) (fits : FitsFiles clients s j two) (m : Two (List ℕ)) (k : List (List Entry))
    → HasFrames (file_of m s.file) fits.header (payloads (written_in s) nothing k)
    → other_of m s.file ≡ (other_of two s.file).now → Legal clients k
    → AllByRecursion (AllByRecursion (IsOfFormat (written_in s))) k
    → AllByRecursion (AllByRecursion IsEntry) k
    → journal_end (written_in s) k + room_of (written_in s) (facts k) ≤ MAX_JOURNAL
    → stands clients m ≡ journal k
stands_at stand clients s j two fits m k frames other legal kinds within bounded =
    let reads : HasFrames (file_of (read_files two) s.file) fits.header
    (payloads (written_in s) nothing j) =
    subst (λ (bytes : List ℕ). HasFrames bytes fits.header (payloads (written_in s) nothing j))
    (sym (this_reads two s.file)) fits.frames in
    stand clients m s.file (written_in s) k (record {
      found =
          one_journal_file m (read_files two) s.file fits.header (payloads (written_in s) nothing k)
          (payloads (written_in s) nothing j) frames reads (other
          ∙ sym (other_reads two s.file))
          ∙ fits.file_is;
      format_is =
          ap format_of
          (one_format (file_of m s.file) (file_of two s.file).now fits.header
          (payloads (written_in s) nothing k) (payloads (written_in s) nothing j) frames
          fits.frames
          ∙ fits.format_is)
          ∙ fits.format_known;
      header = fits.header;
      frames = frames;
      legal = legal;
      kinds = kinds;
      within = within;
      bounded = bounded;
    })

-- the room of a store in words of its journal
pub bounded_now : (clients : Meaning) (s : StoreValue) (j : List (List Entry)) (two : Two File)
    → FitsFiles clients s j two → s.end + room_of (written_in s) s.state.facts ≤ MAX_JOURNAL
    → journal_end (written_in s) j + room_of (written_in s) (facts j) ≤ MAX_JOURNAL
bounded_now clients s j two fits roomy =
    let same : room_of (written_in s) (facts j) ≡ room_of (written_in s) s.state.facts =
    ap (room_of (written_in s)) fits.facts_are in
    omega (arith, fits.end_is, same, roomy)

-- every crash of now leaves files that stand for the journal
pub fits_image : JournalsStand → (clients : Meaning) (s : StoreValue) (j : List (List Entry))
    (two : Two File) (m : Two (List ℕ)) → FitsFiles clients s j two
    → s.end + room_of (written_in s) s.state.facts ≤ MAX_JOURNAL → IsImage two m
    → stands clients m ≡ journal j
fits_image stand clients s j two m fits roomy image =
    let this : file_of m s.file ≡ (file_of two s.file).now =
    settled_only (file_of two s.file).now (file_of m s.file)
    (subst (λ (f : File). IsFileImage f (file_of m s.file))
    (this_settled two s.file fits.first_settled fits.second_settled)
    (image_file two m s.file image)) in
    let other : other_of m s.file ≡ (other_of two s.file).now =
    settled_only (other_of two s.file).now (other_of m s.file)
    (subst (λ (f : File). IsFileImage f (other_of m s.file))
    (other_settled two s.file fits.first_settled fits.second_settled)
    (image_other two m s.file image)) in
    stands_at stand clients s j two fits m j
    (subst (λ (bytes : List ℕ). HasFrames bytes fits.header (payloads (written_in s) nothing j))
    (sym this) fits.frames) other fits.legal fits.kinds fits.within
    (bounded_now clients s j two fits roomy)

-- ---- a batch more

-- how long a frame is
pub framed_len : (s : StoreValue) (batch : List Entry) (framed : List ℕ) → IsFramed framed
    → payload_of framed ≡ payload (written_in s) s.state.facts batch
    → length framed ≡ 5 + payload_len (written_in s) batch
framed_len s batch framed is_framed is =
    framed_long framed is_framed ∙ ap (λ p. 5 + length p) is
    ∙ ap (λ n. 5 + n) (batch_len_same (written_in s) (names_of s.state.facts) batch)

-- frames in the format of a store are those of one that has the same
same_frames : (two : Two File) (s new : StoreValue) (header : List ℕ) (j : List (List Entry))
    → new.format ≡ s.format
    → HasFrames (file_of two new.file).now header (payloads (written_in s) nothing j)
    → HasFrames (file_of two new.file).now header (payloads (written_in new) nothing j)
same_frames two s new header j same frames =
    subst (λ n. HasFrames (file_of two new.file).now header (payloads (format_meant n) nothing j))
    (sym same) frames

allowed_here : (clients : Meaning) (s : StoreValue) (j : List (List Entry)) (two : Two File)
    (batch : List Entry) (framed : List ℕ) → FitsFiles clients s j two
    → MayAdd clients s batch framed
    → Allowed clients (facts j) batch
allowed_here clients s j two batch framed fits may =
    subst (λ (f : Facts). Allowed clients f batch) (sym fits.facts_are) may.allowed

payload_here : (clients : Meaning) (s : StoreValue) (j : List (List Entry)) (two : Two File)
    (batch : List Entry) (framed : List ℕ) → FitsFiles clients s j two
    → MayAdd clients s batch framed
    → payload_of framed ≡ payload (written_in s) (facts j) batch
payload_here clients s j two batch framed fits may =
    may.payload_is ∙ ap (λ (f : Facts). payload (written_in s) f batch) (sym fits.facts_are)

bounded_then : (clients : Meaning) (s : StoreValue) (j : List (List Entry)) (two : Two File)
    (batch : List Entry) (framed : List ℕ) → FitsFiles clients s j two
    → MayAdd clients s batch framed
    → journal_end (written_in s) (j ++ batch ∷ [])
    + room_of (written_in s) (facts (j ++ batch ∷ [])) ≤ MAX_JOURNAL
bounded_then clients s j two batch framed fits may =
    let same : room_of (written_in s) (facts (j ++ batch ∷ []))
    ≡ room_of (written_in s) (after_all s.state.facts batch) =
    ap (room_of (written_in s)) (facts_push j batch
    ∙ ap (λ (f : Facts). after_all f batch) fits.facts_are) in
    omega (
      arith,
      end_framed (written_in s) j batch framed may.is_framed
          (payload_here clients s j two batch framed fits may),
      fits.end_is,
      same,
      may.still_roomy,
    )

more_frames : (format : Format) (bytes header : List ℕ) (j : List (List Entry)) (batch : List Entry)
    (framed : List ℕ) → payload_of framed ≡ payload format (facts j) batch
    → HasFrames bytes header (payloads format nothing j ++ payload_of framed ∷ [])
    → HasFrames bytes header (payloads format nothing (j ++ batch ∷ []))
more_frames format bytes header j batch framed same frames =
    subst (λ (ps : List (List ℕ)). HasFrames bytes header ps)
    (ap (λ p. payloads format nothing j ++ p ∷ []) same
    ∙ sym (payloads_push format nothing j batch)) frames

-- a moment of an append: the files stand for the journal, or for it with the batch
adds_moment : JournalsStand → (clients : Meaning) (s : StoreValue) (j : List (List Entry))
    (two : Two File) (batch : List Entry) (framed : List ℕ) (sent : List (List ℕ))
    → FitsFiles clients s j two
    → MayAdd clients s batch framed → (m : Moment)
    → FileMoment (BeforeOrWith (file_of two s.file).now s.end framed) two sent s.file m
    → JournalMoment clients (WithAtMost j batch) sent m
adds_moment stand clients s j two batch framed sent fits may m moment =
    let other : other_of m.files s.file ≡ (other_of two s.file).now =
    settled_only (other_of two s.file).now (other_of m.files s.file)
    (subst (λ (f : File). IsFileImage f (other_of m.files s.file))
    (other_settled two s.file fits.first_settled fits.second_settled) moment.other) in
    elim (moment.this fits.header (payloads (written_in s) nothing j) fits.frames fits.end_is) [
      | inl before ↦ record {
        whole = j;
        has = inl refl;
        stands_for = stands_at stand clients s j two fits m.files j before other fits.legal
            fits.kinds fits.within (bounded_now clients s j two fits may.roomy);
        nothing_sent = moment.nothing_sent;
      }
      | inr with_it ↦ record {
        whole = j ++ batch ∷ [];
        has = inr refl;
        stands_for =
            stands_at stand clients s j two fits m.files (j ++ batch ∷ [])
            (more_frames (written_in s) (file_of m.files s.file) fits.header j batch framed
            (payload_here clients s j two batch framed fits may) with_it) other
            (legal-push clients j batch fits.legal
            (allowed_here clients s j two batch framed fits may))
            (all_push (AllByRecursion (IsOfFormat (written_in s))) j batch fits.kinds may.kinds)
            (all_push (AllByRecursion IsEntry) j batch fits.within may.within)
            (bounded_then clients s j two batch framed fits may);
        nothing_sent = moment.nothing_sent;
      }
    ]

-- after an append the disk fits the store with the batch
pub adds_fits : JournalsStand → (clients : Meaning) (s new : StoreValue) (j : List (List Entry))
    (two two' : Two File) (batch : List Entry) (framed : List ℕ) → FitsFiles clients s j two
    → MayAdd clients s batch framed → AppendsFrame s.file s.end framed two two'
    → GainsBatch s new batch → new.waiting ≡ s.waiting → FitsFiles clients new (j ++ batch ∷ []) two'
adds_fits stand clients s new j two two' batch framed fits may appends is_with waiting =
    let payload_is = payload_here clients s j two batch framed fits may in
    let long : length framed ≡ 5 + payload_len (written_in s) batch =
    framed_len s batch framed may.is_framed may.payload_is in
    let grows : new.end ≡ s.end + length framed = omega (arith, is_with.end, long) in
    let other : other_of two' s.file ≡ settled (other_of two' s.file).now =
    appends.other ∙ other_settled two s.file fits.first_settled fits.second_settled
    ∙ ap (λ (f : File). settled f.now) (sym appends.other) in
    let reads_other : other_of (read_files two') s.file ≡ (other_of two s.file).now =
    other_reads two' s.file ∙ ap (λ (f : File). f.now) appends.other in
    let more = payloads (written_in s) nothing (j ++ batch ∷ []) in
    let frames : HasFrames (file_of two' s.file).now fits.header more =
    more_frames (written_in s) (file_of two' s.file).now fits.header j batch framed payload_is
    (appends.frames fits.header (payloads (written_in s) nothing j) fits.frames fits.end_is) in
    let read_frames : HasFrames (file_of (read_files two') s.file) fits.header more =
    subst (λ (bytes : List ℕ). HasFrames bytes fits.header more) (sym (this_reads two' s.file))
    frames in
    let before : HasFrames (file_of (read_files two) s.file) fits.header
    (payloads (written_in s) nothing j) =
    subst (λ (bytes : List ℕ). HasFrames bytes fits.header (payloads (written_in s) nothing j))
    (sym (this_reads two s.file)) fits.frames in
    let legal =
    legal-push clients j batch fits.legal
    (allowed_here clients s j two batch framed fits may) in
    let kinds = all_push (AllByRecursion (IsOfFormat (written_in s))) j batch fits.kinds
    may.kinds in
    let within = all_push (AllByRecursion IsEntry) j batch fits.within may.within in
    record {
      none_waits = waiting ∙ fits.none_waits;
      first_settled = first_of two' s.file appends.at_rest.settled other;
      second_settled = second_of two' s.file appends.at_rest.settled other;
      stands_for =
          stands_at stand clients s j two fits (read_files two') (j ++ batch ∷ []) read_frames
          reads_other legal kinds within (bounded_then clients s j two batch framed fits may);
      facts_are = facts_push j batch ∙ ap (λ (f : Facts). after_all f batch) fits.facts_are
          ∙ sym is_with.facts;
      legal = legal;
      file_is =
          one_journal_file (read_files two') (read_files two) s.file fits.header more
          (payloads (written_in s) nothing j) read_frames before (reads_other
          ∙ sym (other_reads two s.file))
          ∙ fits.file_is ∙ ap Some (sym is_with.file);
      format_is =
          ap (λ k. format_in (file_of two' k).now) is_with.file
          ∙ one_format (file_of two' s.file).now (file_of two s.file).now fits.header more
          (payloads (written_in s) nothing j) frames fits.frames
          ∙ fits.format_is ∙ sym is_with.format;
      format_known =
          subst (λ n. format_of n ≡ Some (format_meant n)) (sym is_with.format) fits.format_known;
      generation_is =
          ap (λ k. generation_in (file_of two' k).now) is_with.file
          ∙ one_generation (file_of two' s.file).now (file_of two s.file).now fits.header more
          (payloads (written_in s) nothing j) frames fits.frames
          ∙ fits.generation_is ∙ sym is_with.generation;
      header = fits.header;
      frames = same_frames two' s new fits.header (j ++ batch ∷ []) is_with.format
          (subst (λ k. HasFrames (file_of two' k).now fits.header more) (sym is_with.file) frames);
      end_is =
          grows ∙ ap (λ e. e + length framed) fits.end_is
          ∙ sym (end_framed (written_in s) j batch framed may.is_framed payload_is)
          ∙ ap (λ n. journal_end (format_meant n) (j ++ batch ∷ [])) (sym is_with.format);
      kinds =
          subst (λ n. AllByRecursion (AllByRecursion (IsOfFormat (format_meant n)))
          (j ++ batch ∷ [])) (sym is_with.format) kinds;
      within = within;
    }

-- ---- the run of an append

pub adds_moments : JournalsStand → (clients : Meaning) (s : StoreValue) (j : List (List Entry))
    (two : Two File) (batch : List Entry) (framed : List ℕ) (o o' : Outside)
    → FitsFiles clients s j two
    → MayAdd clients s batch framed
    → PassedMoments two o o' s.file (BeforeOrWith (file_of two s.file).now s.end framed)
    → MomentsAre o o' (JournalMoment clients (WithAtMost j batch) (sent_of o.links.told))
adds_moments stand clients s j two batch framed o o' fits may passed =
    moments_map o o' (FileMoment (BeforeOrWith (file_of two s.file).now s.end framed) two
    (sent_of o.links.told) s.file)
    (JournalMoment clients (WithAtMost j batch) (sent_of o.links.told))
    (adds_moment stand clients s j two batch framed (sent_of o.links.told) fits may) passed

pub true≢false : {A : Type 0} (b : Bool) → b ≡ true → b ≡ false → A
true≢false b is_true is_false = cc

pub adds_ok : JournalsStand → (clients : Meaning) (s new : StoreValue) (j : List (List Entry))
    (two : Two File) (batch : List Entry) (framed : List ℕ) (u : Unit {0}) (o o' : Outside)
    → FitsFiles clients s j two
    → MayAdd clients s batch framed → o.files ≡ Some two
    → PassedMoments two o o' s.file (BeforeOrWith (file_of two s.file).now s.end framed)
    → RelatesTold (AppendsFrame s.file s.end framed) o.files o'.files → GainsBatch s new batch
    → new.waiting ≡ s.waiting → RunsCommit clients batch (Ok u) new o o' j
adds_ok stand clients s new j two batch framed u o o' fits may told passed becomes is_with waiting =
    record {
      moments = adds_moments stand clients s j two batch framed o o' fits may passed;
      ends = λ still two' told'.
          let there = becomes_told (AppendsFrame s.file s.end framed) o.files o'.files two told
          becomes in
          let same : there.0 ≡ two' = cc in (
            j ++ batch ∷ [],
            refl,
            adds_fits stand clients s new j two two' batch framed fits may
                (subst (λ (t : Two File). AppendsFrame s.file s.end framed two t) same there.2)
                is_with waiting,
          );
    }

pub adds_err : JournalsStand → (clients : Meaning) (s new : StoreValue) (j : List (List Entry))
    (two : Two File) (batch : List Entry) (framed : List ℕ) (e : StoreFault) (o o' : Outside)
    → FitsFiles clients s j two
    → MayAdd clients s batch framed
    → PassedMoments two o o' s.file (BeforeOrWith (file_of two s.file).now s.end framed)
    → new.closed ≡ true → RunsCommit clients batch (Err e) new o o' j
adds_err stand clients s new j two batch framed e o o' fits may passed closed = record {
  moments = adds_moments stand clients s j two batch framed o o' fits may passed;
  ends = λ still two' told'. true≢false new.closed closed still;
}

-- the facts of a store, its file, its end and what waits are as before
pub record IsSame (s new : StoreValue) : Type 0 where
  pub facts : new.state.facts ≡ s.state.facts
  pub file : new.file ≡ s.file
  pub format : new.format ≡ s.format
  pub generation : new.generation ≡ s.generation
  pub end : new.end ≡ s.end
  pub waiting : new.waiting ≡ s.waiting

pub fits_same : (clients : Meaning) (s new : StoreValue) (j : List (List Entry)) (two : Two File)
    → FitsFiles clients s j two → IsSame s new → FitsFiles clients new j two
fits_same clients s new j two fits same = record {
  none_waits = same.waiting ∙ fits.none_waits;
  first_settled = fits.first_settled;
  second_settled = fits.second_settled;
  stands_for = fits.stands_for;
  facts_are = fits.facts_are ∙ sym same.facts;
  legal = fits.legal;
  file_is = fits.file_is ∙ ap Some (sym same.file);
  format_is = ap (λ k. format_in (file_of two k).now) same.file ∙ fits.format_is ∙ sym same.format;
  format_known =
      subst (λ n. format_of n ≡ Some (format_meant n)) (sym same.format) fits.format_known;
  generation_is =
      ap (λ k. generation_in (file_of two k).now) same.file ∙ fits.generation_is
      ∙ sym same.generation;
  header = fits.header;
  frames =
      same_frames two s new fits.header j same.format
      (subst (λ k. HasFrames (file_of two k).now fits.header
      (payloads (written_in s) nothing j)) (sym same.file) fits.frames);
  end_is = same.end ∙ fits.end_is ∙ ap (λ n. journal_end (format_meant n) j) (sym same.format);
  kinds =
      subst (λ n. AllByRecursion (AllByRecursion (IsOfFormat (format_meant n))) j) (sym same.format)
      fits.kinds;
  within = fits.within;
}

pub fits_some_same : (clients : Meaning) (s new : StoreValue) (files : Option (Two File))
    → FitsSome clients s files → IsSame s new → FitsSome clients new files
fits_some_same clients s new files fits same two told =
    let there = fits two told in (there.0, fits_same clients s new there.0 two there.1 same)

-- no call on the disk
pub leads_none : JournalsStand → (clients : Meaning) (P Q : List (List Entry) → Type 0)
    (s new : StoreValue) (j : List (List Entry)) (two : Two File) (o : Outside)
    → FitsFiles clients s j two
    → s.end + room_of (written_in s) s.state.facts ≤ MAX_JOURNAL → o.files ≡ Some two → IsSame s new
    → P j → Q j → LeadsTo clients P Q new o o
leads_none stand clients P Q s new j two o fits roomy told same p q = record {
  moments =
      moments_none o (JournalMoment clients P (sent_of o.links.told))
      (λ m w.
      let now = o.now_is two m told w in
      record {
        whole = j;
        has = p;
        stands_for = fits_image stand clients s j two m.files fits roomy now.image;
        nothing_sent = now.sent;
      });
  ends = λ still two' told'.
      let one : two ≡ two' = cc in (
        j,
        q,
        subst (λ (t : Two File). FitsFiles clients new j t) one
            (fits_same clients s new j two fits same),
      );
}

-- a journal's file at rest, as an append asks
pub at_rest : (clients : Meaning) (s : StoreValue) (j : List (List Entry)) (two : Two File)
    → FitsFiles clients s j two → IsAtRest two s.file s.end
at_rest clients s j two fits = record {
  settled = this_settled two s.file fits.first_settled fits.second_settled;
  header = fits.header;
  payloads = payloads (written_in s) nothing j;
  frames = fits.frames;
  end_is = fits.end_is;
}

pub rests : (clients : Meaning) (s : StoreValue) (files : Option (Two File))
    → FitsSome clients s files → ForSome files (λ two. IsAtRest two s.file s.end)
rests clients s files fits two told =
    let there = fits two told in at_rest clients s there.0 two there.1
