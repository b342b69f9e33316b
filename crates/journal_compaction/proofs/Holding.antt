-- The files stand for the journal, as long as the other file has no open header.
use Rattle.std.proofs.Common.{◌≡◌, ℕ, ◌-◌, ◌<◌, true, false, List, [], ◌∷◌, Some, Result, Err}
use Rattle.std.proofs.Common.{inl, inr, refl, sym, ap, subst}
use Rattle.std.proofs.Common.{◌∙◌, arith}
use Rattle.outside.specs.Disk.{RelatesTold}
use Rattle.outside.specs.Files.{Two, File, IsFileImage, NothingPending, file_of, read_files}
use Rattle.outside.specs.Files.{settled}
use Rattle.outside.specs.Frames.{HasFrames, format_in, generation_in, is_open, journal_file}
use Rattle.outside.specs.Links.{sent_of}
use Rattle.outside.specs.Outside.{DiskRun, Moment, MomentsAre, Outside}
use Rattle.outside.specs.Steps.{FileMoment, PassedMoments, other_of}
use Rattle.outside.proofs.CallSteps.{becomes_then, becomes_told, moments_map, moments_none}
use Rattle.outside.proofs.CallSteps.{moments_then, now_images}
use Rattle.frame_journal.specs.Create.{BeforeOrShut, IsCleared, IsClearedAgain, PreparesJournal}
use Rattle.frame_journal.specs.Journal.{JournalValue}
use Rattle.sync_rules.specs.declared.entries.Entry.{Entry}
use Rattle.sync_rules.specs.Clients.{Meaning}
use Rattle.entry_codec.specs.declared.naming.Format.TheVariants as kind
use Rattle.sync_rules.specs.Facts.{nothing}
use Rattle.entry_codec.specs.Payloads.{payloads}
use Rattle.entry_codec.specs.Standing.{journal}
use Rattle.file_standing.specs.Standing.{stands}
use Rattle.entry_codec.proofs.FrontLaws.{found_open}
use Rattle.journal_migration.specs.Migrating.{HoldsSecond}
use Rattle.journal_migration.specs.Starting.{ClearsAgain, EndsOrStays, StaysShut}
use Rattle.journal_migration.specs.declared.fault.MigrationFault.{MigrationFault}
use Rattle.journal_migration.specs.declared.fault.MigrationFault.TheVariants as migration
use Rattle.journal_migration.proofs.Sides.{image_only, one_open, own_file, read_file, settled_first}
use Rattle.journal_migration.proofs.Sides.{settled_one}
use Rattle.journal_migration.proofs.Sides.{settled_second, stands_own, two_same}
use Rattle.journal_migration.proofs.Shut.{own_still, pending_still}
use Rattle.journal_compaction.specs.declared.fault.CompactionFault.{CompactionFault}
use Rattle.journal_compaction.specs.declared.fault.CompactionFault.TheVariants as fault
use Rattle.journal_compaction.specs.Compacting.{CompactsJournal, FilesHoldCompacted}
use Rattle.journal_compaction.specs.Compacting.{StandsForEither}
use Rattle.journal_compaction.specs.Faults.{fault_of}
use Rattle.journal_compaction.specs.Writing.{IsFileIdle, StaysIdle}
use Rattle.journal_compaction.proofs.Working.{passed_before}

-- a moment whose files stand for the journal
record StandsStill (clients : Meaning) (j : List (List Entry)) (sent : List (List ℕ))
    (m : Moment) : Type 0 where
  stands_for : stands clients m.files ≡ journal j
  nothing_sent : m.sent ≡ sent

module _ (clients : Meaning) (m : JournalValue) (j : List (List Entry)) (two : Two File)
    (few : m.file < 2)
    (holds : HoldsSecond clients m j two) where
  abbrev own : ℕ
  own = m.file

  -- files of which the journal's is as it was, and the other has no open header
  pub shut_stands : (x : Two (List ℕ)) → file_of x own ≡ (file_of two own).now
      → is_open (file_of x (1 - own)) ≡ false
      → (journal_file x ≡ Some own) × (stands clients x ≡ journal j)
  shut_stands x this other =
      let same : file_of x own ≡ file_of (read_files two) own = this ∙ sym (read_file two own) in
      let open_own : is_open (file_of x own) ≡ true = ap is_open same
      ∙ found_open (read_files two) own holds.found in
      let found = one_open x own few open_own other in
      (found, stands_own clients x (read_files two) own found holds.found same ∙ holds.stands_for)

  -- files that are both as they were
  same_stands : (x : Two (List ℕ)) → file_of x own ≡ (file_of two own).now
      → file_of x (1 - own) ≡ (file_of two (1 - own)).now → stands clients x ≡ journal j
  same_stands x this other =
      ap (stands clients) (two_same x (read_files two) own few (this ∙ sym (read_file two own))
      (other
      ∙ sym (read_file two (1 - own)))) ∙ holds.stands_for

  pending : NothingPending two own
  pending = settled_one two own few holds.first_settled holds.second_settled

  -- the file of the journal is as it was
  pub own_kept : (Q : List ℕ → Type 0) (sent : List (List ℕ)) (x : Moment) → FileMoment Q two sent
      (1 - own) x
      → file_of x.files own ≡ (file_of two own).now
  own_kept Q sent x moment =
      image_only two own (file_of x.files own) pending
      (subst (λ (f : File). IsFileImage f (file_of x.files own)) (sym (own_file two own few))
      (subst (λ (c : List ℕ). IsFileImage (other_of two (1 - own)) c)
      (sym (own_file x.files own few)) moment.other))

  -- ---- moments

  still_either : (o o' : Outside) → MomentsAre o o' (StandsStill clients j (sent_of o.links.told))
      → MomentsAre o o' (StandsForEither clients j (sent_of o.links.told))
  still_either o o' moments =
      moments_map o o' (StandsStill clients j (sent_of o.links.told))
      (StandsForEither clients j (sent_of o.links.told))
      (λ x still. record { stands_for = inl still.stands_for; nothing_sent = still.nothing_sent })
      moments

  -- no call was made
  pub unmade : (o : Outside) → o.files ≡ Some two → MomentsAre o o
      (StandsForEither clients j (sent_of o.links.told))
  unmade o told =
      still_either o o
      (moments_none o (StandsStill clients j (sent_of o.links.told))
      (λ x now.
      let at = now_images o o two told refl x now in
      let all : x.files ≡ read_files two =
      two_same x.files (read_files two) 0 (omega arith)
      (image_only two 0 x.files.first holds.first_settled at.image.first)
      (image_only two 1 x.files.second holds.second_settled at.image.second) in
      record { stands_for = ap (stands clients) all ∙ holds.stands_for; nothing_sent = at.sent }))

  -- until the other file's gate is opened
  pub stays_either : (o o' : Outside) → PassedMoments two o o' (1 - own)
      (BeforeOrShut (file_of two (1 - own)).now)
      → MomentsAre o o' (StandsForEither clients j (sent_of o.links.told))
  stays_either o o' passed =
      let Q : List ℕ → Type 0 = BeforeOrShut (file_of two (1 - own)).now in
      let sent = sent_of o.links.told in
      still_either o o'
      (moments_map o o' (FileMoment Q two sent (1 - own)) (StandsStill clients j sent)
      (λ x moment. elim moment.this [
        | inl same ↦ record {
          stands_for = same_stands x.files (own_kept Q sent x moment) same;
          nothing_sent = moment.nothing_sent;
        }
        | inr shut ↦ record {
          stands_for = (shut_stands x.files (own_kept Q sent x moment) shut).1;
          nothing_sent = moment.nothing_sent;
        }
      ]) passed)

  -- ---- the journal is held on

  pub holds_on : (two' : Two File) → other_of two' (1 - own) ≡ other_of two (1 - own) → IsFileIdle
      (1 - own) two'
      → HoldsSecond clients m j two'
  holds_on two' other idle =
      let this = own_still two two' own few other in
      let now : (file_of two' own).now ≡ (file_of two own).now = ap (λ (f : File). f.now) this in
      let still = pending_still two two' own this pending in
      let both = shut_stands (read_files two') (read_file two' own
      ∙ now) (ap is_open (read_file two' (1 - own))
      ∙ idle.shut) in
      record {
        first_settled = settled_first two' own few still idle.settled;
        second_settled = settled_second two' own few still idle.settled;
        found = both.0;
        format_is = ap format_in now ∙ holds.format_is;
        generation_is = ap generation_in now ∙ holds.generation_is;
        header = holds.header;
        frames = subst (λ (b : List ℕ). HasFrames b holds.header (payloads kind.Short nothing j))
            (sym now) holds.frames;
        end_is = holds.end_is;
        legal = holds.legal;
        within = holds.within;
        bounded = holds.bounded;
        stands_for = both.1;
      }

-- ---- answers

module _ (clients : Meaning) (m : JournalValue) (j : List (List Entry)) (two : Two File)
    (few : m.file < 2)
    (holds : HoldsSecond clients m j two) where
  -- the files that are told in the end are those at first
  one_told : (o : Outside) (two' : Two File) → o.files ≡ Some two → o.files ≡ Some two'
      → HoldsSecond clients m j two'
  one_told o two' told told' =
      let both : Some two ≡ Some two' = sym told ∙ told' in
      let one : two ≡ two' = cc in
      subst (HoldsSecond clients m j) one holds

  -- no call on the disk was made
  pub memory_unmade : (o : Outside) (result : Result JournalValue CompactionFault)
      → o.files ≡ Some two
      → result ≡ Err fault.Memory → CompactsJournal clients m j o o result
  memory_unmade o result told is =
      subst (λ (r : Result JournalValue CompactionFault). CompactsJournal clients m j o o r)
      (sym is)
      (record {
        moments = unmade clients m j two few holds o told;
        ends = λ two' told'. one_told o two' told told';
      })

  pub full_unmade : (o : Outside) → o.files ≡ Some two → CompactsJournal clients m j o o
      (Err fault.Full)
  full_unmade o told =
      record {
        moments = unmade clients m j two few holds o told;
        ends = λ two' told'. one_told o two' told told';
      }

  -- a call on the disk failed before the gate was opened
  pub begun_failed : (o o' : Outside) (result : Result JournalValue CompactionFault)
      → o.files ≡ Some two
      → EndsOrStays (1 - m.file) o o' → result ≡ Err fault.DiskFault
      → CompactsJournal clients m j o o' result
  begun_failed o o' result told stays is =
      subst (λ (r : Result JournalValue CompactionFault). CompactsJournal clients m j o o' r)
      (sym is)
      (record {
        moments = stays_either clients m j two few holds o o' (stays two told);
        ends = λ two' told'. tt;
      })

-- ---- the other file is begun and written

-- the other file was begun, and then has no open header
pub stays_then : (file generation : ℕ) (o0 o1 o2 : Outside) → EndsOrStays file o0 o1 → DiskRun o0 o1
    → RelatesTold (PreparesJournal file 2 generation) o0.files o1.files → StaysShut file o1 o2
    → EndsOrStays file o0 o2
stays_then file generation o0 o1 o2 first run becomes second two told =
    let Q : List ℕ → Type 0 = BeforeOrShut (file_of two file).now in
    let mid = becomes_told (PreparesJournal file 2 generation) o0.files o1.files two told becomes in
    let shut = passed_before (λ left. is_open left ≡ false) two mid.0 file o0 o1 o2 mid.2.other
    run.same_links
    (second mid.0 mid.1) in
    moments_then o0 o1 o2 (FileMoment Q two (sent_of o0.links.told) file) (first two told)
    (moments_map o1 o2 (FileMoment (λ left. is_open left ≡ false) two (sent_of o0.links.told) file)
    (FileMoment Q two (sent_of o0.links.told) file)
    (λ x moment. record {
      this = inr moment.this;
      other = moment.other;
      nothing_sent = moment.nothing_sent;
    }) shut)

-- a file that is cleared
idle_cleared : (file : ℕ) (two : Two File) → IsCleared two file → IsFileIdle file two
idle_cleared file two cleared =
    let now : (file_of two file).now ≡ cleared.gate ∷ [] = ap (λ (f : File). f.now) cleared.bytes in
    record {
      settled = cleared.bytes ∙ ap settled (sym now);
      shut = ap is_open now;
    }

-- no memory was found while it was written, or a call on the disk failed
module _ (clients : Meaning) (m : JournalValue) (j : List (List Entry)) (two : Two File)
    (few : m.file < 2)
    (holds : HoldsSecond clients m j two) where
  written_so : (file generation : ℕ) (o0 o1 o2 : Outside) (e : MigrationFault) → file ≡ 1 - m.file
      → o0.files ≡ Some two → RelatesTold (PreparesJournal file 2 generation) o0.files o1.files
      → ClearsAgain {A = Unit {0}} file o1.files o2.files (Err e) → (two' : Two File)
      → o2.files ≡ Some two'
      → FilesHoldCompacted clients m j (Err (fault_of e)) two'
  written_so file generation o0 o1 o2 migration.DiskFault is told becomes idle two' told' = tt
  written_so file generation o0 o1 o2 migration.Memory is told becomes idle two' told' =
      let all : RelatesTold (StaysIdle file) o0.files o2.files =
      becomes_then (PreparesJournal file 2 generation) (IsClearedAgain file) (StaysIdle file)
      o0.files o1.files o2.files
      (λ a b c x y. record {
        other = y.other ∙ x.other;
        idle = idle_cleared file c y.cleared;
      }) becomes idle in
      let new = becomes_told (StaysIdle file) o0.files o2.files two told all in
      let both : Some new.0 ≡ Some two' = sym new.1 ∙ told' in
      let one : new.0 ≡ two' = cc in
      let there : StaysIdle (1 - m.file) two two' =
      subst (λ (t : Two File). StaysIdle (1 - m.file) two t) one
      (subst (λ (k : ℕ). StaysIdle k two new.0) is new.2) in
      holds_on clients m j two few holds two' there.other there.idle

  pub written_failed : (file generation : ℕ) (o0 o1 o2 : Outside) (e : MigrationFault)
      (result : Result JournalValue CompactionFault) → file ≡ 1 - m.file → o0.files ≡ Some two
      → EndsOrStays file o0 o1 → DiskRun o0 o1
      → RelatesTold (PreparesJournal file 2 generation) o0.files o1.files
      → StaysShut file o1 o2
      → ClearsAgain {A = Unit {0}} file o1.files o2.files (Err e) → result ≡ Err (fault_of e)
      → CompactsJournal clients m j o0 o2 result
  written_failed file generation o0 o1 o2 e result is told begun run becomes shut idle answer =
      let stays : EndsOrStays (1 - m.file) o0 o2 =
      subst (λ (k : ℕ). EndsOrStays k o0 o2) is
      (stays_then file generation o0 o1 o2 begun run becomes shut) in
      subst (λ (r : Result JournalValue CompactionFault). CompactsJournal clients m j o0 o2 r)
      (sym answer)
      (record {
        moments = stays_either clients m j two few holds o0 o2 (stays two told);
        ends = λ two' told'. written_so file generation o0 o1 o2 e is told becomes idle two' told';
      })
