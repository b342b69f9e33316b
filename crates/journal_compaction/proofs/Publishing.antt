-- The brief account is published: the header's gate of the other file is opened, and that file is
-- the journal's.
use Rattle.std.proofs.Common.{◌≡◌, ◌≢◌, ℕ, ◌+◌, ◌-◌, ◌^◌, ◌<◌, ◌≤◌, true, List, [], ◌∷◌, Some}
use Rattle.std.proofs.Common.{Option, Result, Ok}
use Rattle.std.proofs.Common.{Err, inl, inr, refl, sym, ap, subst, ◌∙◌, arith}
use Rattle.std.specs.List.{AllByRecursion}
use Rattle.std.specs.Option.{ForSome}
use Rattle.outside.specs.declared.limits.TheConstants.{MAX_JOURNAL}
use Rattle.outside.specs.Disk.{RelatesTold}
use Rattle.outside.specs.Files.{Two, File, NothingPending, file_of, read_files, settled}
use Rattle.outside.specs.Frames.{HasFrames, format_in, generation_in, is_open}
use Rattle.outside.specs.Links.{sent_of}
use Rattle.outside.specs.Outside.{DiskRun, MomentsAre, Outside}
use Rattle.outside.specs.Steps.{FileMoment, PassedMoments, other_of}
use Rattle.outside.proofs.CallSteps.{becomes_told, moments_map, moments_then, told_back}
use Rattle.frame_journal.specs.Create.{PreparesJournal, PublishesHeader, ShutOrOpened, opened}
use Rattle.frame_journal.specs.Journal.{JournalValue, fresh_journal}
use Rattle.sync_rules.specs.declared.entries.Entry.{Entry}
use Rattle.sync_rules.specs.Clients.{Meaning}
use Rattle.sync_rules.specs.Facts.{Facts, Held, facts, nothing}
use Rattle.sync_rules.specs.Left.{left_among, left_of}
use Rattle.sync_rules.specs.Steps.{IsSettled}
use Rattle.brief_account.specs.Account.{brief_of}
use Rattle.brief_account.specs.Brief.{brief, without_sessions}
use Rattle.entry_codec.specs.declared.naming.Format.TheVariants as kind
use Rattle.entry_codec.specs.Naming.{format_of}
use Rattle.entry_codec.specs.Payloads.{journal_end, names_of, payloads}
use Rattle.entry_codec.specs.Spelling.{IsEntry}
use Rattle.entry_codec.specs.Standing.{room_of}
use Rattle.entry_codec.specs.StandingLaws.{HoldsJournal}
use Rattle.entry_codec.proofs.FormatKinds.{short_journal}
use Rattle.entry_codec.proofs.FrontLaws.{found_open}
use Rattle.journal_migration.specs.Copying.{header_mark}
use Rattle.journal_migration.specs.Migrating.{HoldsSecond}
use Rattle.journal_migration.specs.Starting.{ClearsAgain, EndsOrStays, StaysShut}
use Rattle.journal_migration.specs.declared.fault.MigrationFault.{MigrationFault}
use Rattle.journal_migration.proofs.Published.{greater_found, opened_format, opened_frames}
use Rattle.journal_migration.proofs.Published.{opened_generation}
use Rattle.journal_migration.proofs.Published.{opened_open}
use Rattle.journal_migration.proofs.Shut.{begun_frames, own_still, pending_still}
use Rattle.journal_migration.proofs.Sides.{read_file, settled_first, settled_one, settled_second}
use Rattle.journal_compaction.specs.declared.fault.CompactionFault.{CompactionFault}
use Rattle.journal_compaction.specs.declared.fault.CompactionFault.TheVariants as fault
use Rattle.journal_compaction.specs.declared.plan.Plan.{Plan}
use Rattle.journal_compaction.specs.Cited.{CompactionLaws}
use Rattle.journal_compaction.specs.Compacting.{CompactsJournal, IsCompacted, StandsForEither}
use Rattle.journal_compaction.specs.Faults.{fault_of}
use Rattle.journal_compaction.specs.Planning.{AreWritten, IsPlan, plan_pages}
use Rattle.frame_journal.specs.Gathering.{AppendsPayloads, WritesPayloads}
use Rattle.journal_compaction.specs.Writing.{IsWriterShut}
use Rattle.journal_compaction.proofs.Filling.{written}
use Rattle.journal_compaction.proofs.Holding.{own_kept, shut_stands, stays_either, stays_then}
use Rattle.journal_compaction.proofs.Holding.{written_failed}
use Rattle.journal_compaction.proofs.Sections.{brief_within, plan_end, plan_written}
use Rattle.journal_compaction.proofs.Spelled.{payloads_written}
use Rattle.journal_compaction.proofs.Working.{passed_before}

-- the steps that are left do not depend on the sessions
left_same : (f : Facts) (hs : List Held) → left_among (without_sessions f) hs ≡ left_among f hs
left_same f [] = refl
left_same f (h ∷ hs) = omega (arith, left_same f hs)

-- ---- what is written

-- the brief account is written into the other file, behind a closed gate
pub record IsWritten (clients : Meaning) (f : Facts) (m n : JournalValue)
    (two now : Two File) : Type 0 where
  pub other : other_of now n.file ≡ other_of two n.file
  pub settled : NothingPending now n.file
  pub gate : ℕ
  pub closed : gate ≢ 1
  pub frames : HasFrames (file_of now n.file).now (gate ∷ header_mark (m.generation + 1))
      (written (names_of f) (brief_of clients f))

pub written_now : (clients : Meaning) (f : Facts) (p : Plan) (m n0 n : JournalValue)
    (two mid now : Two File)
    → IsPlan clients f p → PreparesJournal n0.file 2 (m.generation + 1) two mid
    → n0.end ≡ 15 → n.file ≡ n0.file → AppendsPayloads n0.file n0.end (plan_pages f p) mid now
    → IsWriterShut n now
    → IsWritten clients f m n two now
written_now clients f p m n0 n two mid now plan prepares begun file adds works =
    let header = prepares.gate ∷ header_mark (m.generation + 1) in
    let first : HasFrames (file_of mid n0.file).now header [] =
    subst (λ (b : List ℕ). HasFrames b header []) (sym (ap (λ (x : File). x.now) prepares.bytes))
    (begun_frames prepares.gate (m.generation + 1)) in
    let all : HasFrames (file_of now n0.file).now header (plan_pages f p) =
    adds.frames header [] first begun in
    record {
      other = subst (λ (k : ℕ). other_of now k ≡ other_of two k) (sym file) (adds.other
          ∙ prepares.other);
      settled = works.at_rest.settled;
      gate = prepares.gate;
      closed = prepares.closed;
      frames =
          subst (λ (k : ℕ). HasFrames (file_of now k).now header
          (written (names_of f) (brief_of clients f))) (sym file)
          (subst (HasFrames (file_of now n0.file).now header) (plan_written clients f p plan) all);
    }

-- ---- the opened header

module _ (laws : CompactionLaws) (clients : Meaning) (f : Facts) (m n : JournalValue)
    (j : List (List Entry))
    (two now : Two File) (few : m.file < 2) (many : m.generation + 1 < 2 ^ 64)
    (holds : HoldsSecond clients m j two) (same : facts j ≡ f) (still : IsSettled clients f)
    (made : IsCompacted clients f m n)
    (within : AllByRecursion (AllByRecursion IsEntry) (brief_of clients f))
    (room : journal_end kind.Short (brief_of clients f) + room_of kind.Short f ≤ MAX_JOURNAL)
    (so : IsWritten clients f m n two now) where
  abbrev own : ℕ
  own = m.file

  bytes : List ℕ
  bytes = (file_of now n.file).now

  settled_so : IsSettled clients (facts j)
  settled_so = subst (IsSettled clients) (sym same) still

  brief_is : brief j ≡ brief_of clients f
  brief_is = laws.by_facts clients j holds.legal settled_so ∙ ap (brief_of clients) same

  brief_facts : facts (brief j) ≡ without_sessions f
  brief_facts = (laws.keeps clients j holds.legal settled_so).same ∙ ap without_sessions same

  payloads_are : written (names_of f) (brief_of clients f) ≡ payloads kind.Short nothing (brief j)
  payloads_are =
      let names : names_of (facts (brief j)) ≡ names_of f = ap names_of brief_facts in
      sym
      (payloads_written laws.names clients nothing (brief j)
      (laws.keeps clients j holds.legal settled_so).legal
      ∙ (λ i. written (names i) (brief_is i)))

  brief_room : journal_end kind.Short (brief j) + room_of kind.Short (facts (brief j)) ≤ MAX_JOURNAL
  brief_room =
      let left : left_of (facts (brief j)) ≡ left_of f = ap left_of brief_facts
      ∙ left_same f f.held in
      omega (arith, room, ap (journal_end kind.Short) brief_is, left)

  there : n.file ≡ 1 - own
  there = made.file_is

  -- files of which the one is as it was and the other's gate is open hold the brief account in the
  -- other
  pub second_holds : (x : Two (List ℕ)) → file_of x own ≡ (file_of two own).now
      → file_of x (1 - own) ≡ opened (file_of now n.file).now
      → HoldsJournal clients x (1 - own) kind.Short (brief j)
  second_holds x this other =
      let frames = so.frames in
      let g = m.generation + 1 in
      let own_open : is_open (file_of x own) ≡ true = ap is_open (this ∙ sym (read_file two own))
      ∙ found_open (read_files two) own holds.found in
      let own_generation : generation_in (file_of x own) ≡ m.generation = ap generation_in this
      ∙ holds.generation_is in
      let other_open : is_open (file_of x (1 - own)) ≡ true = ap is_open other
      ∙ opened_open (file_of now n.file).now so.gate g _ frames in
      let other_generation : generation_in (file_of x (1 - own)) ≡ g = ap generation_in other
      ∙ opened_generation (file_of now n.file).now so.gate g _ frames many in
      record {
        found = greater_found x own m.generation few own_open other_open own_generation
            other_generation;
        format_is = ap (λ (b : List ℕ). format_of (format_in b)) other
            ∙ ap format_of (opened_format (file_of now n.file).now so.gate g _ frames);
        header = 1 ∷ header_mark g;
        frames =
            subst (λ (b : List ℕ).
            HasFrames b (1 ∷ header_mark g) (payloads kind.Short nothing (brief j))) (sym other)
            (subst (HasFrames (opened (file_of now n.file).now) (1 ∷ header_mark g)) payloads_are
            (opened_frames (file_of now n.file).now so.gate g _ frames));
        legal = (laws.keeps clients j holds.legal settled_so).legal;
        kinds = short_journal (brief j);
        within = subst (AllByRecursion (AllByRecursion IsEntry)) (sym brief_is) within;
        bounded = brief_room;
      }

  -- at each moment of the opening the files stand for the journal or for its brief account
  pub opening_either : (o0 o o' : Outside) → o.links ≡ o0.links
      → PassedMoments now o o' n.file (ShutOrOpened (file_of now n.file).now)
      → MomentsAre o o' (StandsForEither clients j (sent_of o0.links.told))
  opening_either o0 o o' links passed =
      let Q : List ℕ → Type 0 = ShutOrOpened (file_of now n.file).now in
      let sent = sent_of o0.links.told in
      let at : MomentsAre o o' (FileMoment Q two sent (1 - own)) =
      subst (λ (k : ℕ). MomentsAre o o' (FileMoment Q two sent k)) there
      (passed_before Q two now n.file o0 o o' so.other links passed) in
      moments_map o o' (FileMoment Q two sent (1 - own)) (StandsForEither clients j sent)
      (λ x moment. elim moment.this [
        | inl shut ↦ record {
          stands_for =
              inl (shut_stands clients m j two few holds x.files
              (own_kept clients m j two few holds Q sent x moment)
              shut).1;
          nothing_sent = moment.nothing_sent;
        }
        | inr there_open ↦ record {
          stands_for =
              inr (laws.stand clients x.files (1 - own) kind.Short (brief j)
              (second_holds x.files (own_kept clients m j two few holds Q sent x moment)
              there_open));
          nothing_sent = moment.nothing_sent;
        }
      ]) at

  -- and then they hold it in the other file
  pub second_so : (two' : Two File) → PublishesHeader n.file now two' → HoldsSecond clients n
      (brief j) two'
  second_so two' publishes =
      let before = (file_of now n.file).now in
      let g = m.generation + 1 in
      let other : other_of two' (1 - own) ≡ other_of two (1 - own) =
      subst (λ (k : ℕ). other_of two' k ≡ other_of two k) there (publishes.other ∙ so.other) in
      let this = own_still two two' own few other in
      let file : file_of two' (1 - own) ≡ settled (opened before) =
      subst (λ (k : ℕ). file_of two' k ≡ settled (opened before)) there publishes.bytes in
      let now_is : (file_of two' (1 - own)).now ≡ opened before = ap (λ (x : File). x.now) file in
      let pending : NothingPending two' (1 - own) = file ∙ ap settled (sym now_is) in
      let own_pending =
      pending_still two two' own this
      (settled_one two own few holds.first_settled holds.second_settled) in
      let second =
      second_holds (read_files two') (read_file two' own
      ∙ ap (λ (x : File). x.now) this) (read_file two' (1 - own) ∙ now_is) in
      let here : (file_of two' n.file).now ≡ (file_of two' (1 - own)).now =
      ap (λ (k : ℕ). (file_of two' k).now) there in
      let end : n.end ≡ journal_end kind.Short (brief j) =
      made.end_is ∙ ap (journal_end kind.Short) (sym brief_is) in
      record {
        first_settled = settled_first two' own few own_pending pending;
        second_settled = settled_second two' own few own_pending pending;
        found = second.found ∙ ap (λ (k : ℕ). Some k) (sym there);
        format_is = ap format_in (here ∙ now_is) ∙ opened_format before so.gate g _ so.frames;
        generation_is =
            ap generation_in (here ∙ now_is) ∙ opened_generation before so.gate g _ so.frames many
            ∙ sym made.generation_is;
        header = second.header;
        frames =
            subst (λ (b : List ℕ).
            HasFrames b second.header (payloads kind.Short nothing (brief j)))
            (sym (here ∙ sym (read_file two' (1 - own)))) second.frames;
        end_is = end;
        legal = second.legal;
        within = second.within;
        bounded = subst (λ (e : ℕ). e + room_of kind.Short (facts (brief j)) ≤ MAX_JOURNAL)
            (sym end) second.bounded;
        stands_for = laws.stand clients (read_files two') (1 - own) kind.Short (brief j) second;
      }

-- ---- from the first call on

-- the other file was prepared, and a writer of it begun
pub record Begun (m n0 : JournalValue) (o0 o1 : Outside) : Type 0 where
  pub value : n0 ≡ fresh_journal (1 - m.file) 2 (m.generation + 1)
  pub prepared : RelatesTold (PreparesJournal (1 - m.file) 2 (m.generation + 1)) o0.files o1.files
  pub stays : EndsOrStays (1 - m.file) o0 o1
  pub run : DiskRun o0 o1

pub begun_so : (m n0 : JournalValue) (file generation : ℕ) (o0 o1 : Outside) → file ≡ m.file
    → generation ≡ m.generation → n0 ≡ fresh_journal (1 - file) 2 (generation + 1)
    → RelatesTold (PreparesJournal (1 - file) 2 (generation + 1)) o0.files o1.files
    → EndsOrStays (1 - file) o0 o1
    → DiskRun o0 o1 → Begun m n0 o0 o1
begun_so m n0 file generation o0 o1 one other value prepared stays run = record {
  value = value ∙ (λ i. fresh_journal (1 - one i) 2 (other i + 1));
  prepared =
      subst (λ (k : ℕ). RelatesTold (PreparesJournal (1 - k) 2 (m.generation + 1)) o0.files
      o1.files) one
      (subst (λ (g : ℕ). RelatesTold (PreparesJournal (1 - file) 2 (g + 1)) o0.files o1.files) other
      prepared);
  stays = subst (λ (k : ℕ). EndsOrStays (1 - k) o0 o1) one stays;
  run = run;
}

-- the writer may write
pub works_begun : (m n0 : JournalValue) (o0 o1 : Outside) → Begun m n0 o0 o1 → ForSome o1.files
    (IsWriterShut n0)
works_begun m n0 o0 o1 begun x told =
    let before = told_back o0 o1 x begun.run.same_told told in
    let new = becomes_told (PreparesJournal (1 - m.file) 2 (m.generation + 1)) o0.files o1.files
    before.0 before.1
    begun.prepared in
    let both : Some new.0 ≡ Some x = sym new.1 ∙ told in
    let one : new.0 ≡ x = cc in
    let prepares = new.2 in
    let frames : HasFrames (file_of new.0 (1 - m.file)).now
    (prepares.gate ∷ header_mark (m.generation + 1)) [] =
    subst (λ (b : List ℕ). HasFrames b (prepares.gate ∷ header_mark (m.generation + 1)) [])
    (sym (ap (λ (f : File). f.now) prepares.bytes))
    (begun_frames prepares.gate (m.generation + 1)) in
    let there : IsWriterShut (fresh_journal (1 - m.file) 2 (m.generation + 1)) new.0 = record {
      at_rest = prepares.at_rest;
      shut = record {
        gate = prepares.gate;
        behind = header_mark (m.generation + 1);
        payloads = [];
        closed = prepares.closed;
        header = refl;
        frames = frames;
        end_is = refl;
      };
    } in
    subst (IsWriterShut n0) one
    (subst (λ (v : JournalValue). IsWriterShut v new.0) (sym begun.value) there)

-- no memory was found while it was written, or a call on the disk failed
pub write_failed : (clients : Meaning) (m n0 : JournalValue) (j : List (List Entry))
    (two : Two File)
    (o0 o1 o2 : Outside) (e : MigrationFault) (result : Result JournalValue CompactionFault)
    → m.file < 2 → HoldsSecond clients m j two → o0.files ≡ Some two → Begun m n0 o0 o1
    → StaysShut n0.file o1 o2
    → ClearsAgain {A = Unit {0}} n0.file o1.files o2.files (Err e)
    → result ≡ Err (fault_of e) → CompactsJournal clients m j o0 o2 result
write_failed clients m n0 j two o0 o1 o2 e result few holds told begun shut idle is =
    let file : n0.file ≡ 1 - m.file = ap (λ (v : JournalValue). v.file) begun.value in
    written_failed clients m j two few holds (1 - m.file) (m.generation + 1) o0 o1 o2 e result refl
    told begun.stays
    begun.run begun.prepared
    (subst (λ (k : ℕ). StaysShut k o1 o2) file shut)
    (subst (λ (k : ℕ). ClearsAgain {A = Unit {0}} k o1.files o2.files (Err e)) file idle) is

-- what the writer is then
pub compacted_so : (clients : Meaning) (f : Facts) (p : Plan) (m n0 n : JournalValue)
    (o0 o1 : Outside)
    (o o' : Option (Two File)) → IsPlan clients f p → Begun m n0 o0 o1
    → WritesPayloads n0 n (plan_pages f p) o o' → IsCompacted clients f m n
compacted_so clients f p m n0 n o0 o1 o o' plan begun adding = record {
  file_is = adding.grows.file_is ∙ ap (λ (v : JournalValue). v.file) begun.value;
  format_is = adding.grows.format_is ∙ ap (λ (v : JournalValue). v.format) begun.value;
  generation_is = adding.grows.generation_is ∙ ap (λ (v : JournalValue). v.generation) begun.value;
  end_is =
      omega (
        arith,
        adding.grows.end_is,
        ap (λ (v : JournalValue). v.end) begun.value,
        plan_end clients f p plan,
      );
}

module _ (laws : CompactionLaws) (clients : Meaning) (f : Facts) (p : Plan) (m n0 n : JournalValue)
    (j : List (List Entry))
    (two : Two File) (o0 o1 o2 o3 : Outside) (told : o0.files ≡ Some two)
    (few : m.file < 2) (many : m.generation + 1 < 2 ^ 64) (holds : HoldsSecond clients m j two)
    (same : facts j ≡ f)
    (still : IsSettled clients f)
    (plan : IsPlan clients f p) (within : AreWritten f p)
    (room : journal_end kind.Short (brief_of clients f) + room_of kind.Short f ≤ MAX_JOURNAL)
    (begun : Begun m n0 o0 o1) (adding : WritesPayloads n0 n (plan_pages f p) o1.files o2.files)
    (works : ForSome o2.files (IsWriterShut n)) (shut : StaysShut n0.file o1 o2)
    (run : DiskRun o1 o2)
    (passed : (t : Two File) → o2.files ≡ Some t
    → PassedMoments t o2 o3 n.file (ShutOrOpened (file_of t n.file).now)) where
  file_begun : n0.file ≡ 1 - m.file
  file_begun = ap (λ (v : JournalValue). v.file) begun.value

  made : IsCompacted clients f m n
  made = compacted_so clients f p m n0 n o0 o1 o1.files o2.files plan begun adding

  -- the files before the gate is opened
  now_written : (now : Two File) × (o2.files ≡ Some now) × IsWritten clients f m n two now
  now_written =
      let mid = becomes_told (PreparesJournal (1 - m.file) 2 (m.generation + 1)) o0.files o1.files
      two told begun.prepared in
      let new = becomes_told (AppendsPayloads n0.file n0.end (plan_pages f p)) o1.files o2.files
      mid.0 mid.1 adding.adds in
      let prepares : PreparesJournal n0.file 2 (m.generation + 1) two mid.0 =
      subst (λ (k : ℕ). PreparesJournal k 2 (m.generation + 1) two mid.0) (sym file_begun) mid.2 in (
        new.0,
        new.1,
        written_now clients f p m n0 n two mid.0 new.0 plan prepares
            (ap (λ (v : JournalValue). v.end) begun.value)
            adding.grows.file_is new.2 (works new.0 new.1),
      )

  brief_limits : AllByRecursion (AllByRecursion IsEntry) (brief_of clients f)
  brief_limits = brief_within clients f p plan within

  all_moments : MomentsAre o0 o3 (StandsForEither clients j (sent_of o0.links.told))
  all_moments =
      let now = now_written in
      let there : StaysShut (1 - m.file) o1 o2 =
      subst (λ (k : ℕ). StaysShut k o1 o2) file_begun shut in
      let stays = stays_then (1 - m.file) (m.generation + 1) o0 o1 o2 begun.stays begun.run
      begun.prepared there in
      moments_then o0 o2 o3 (StandsForEither clients j (sent_of o0.links.told))
      (stays_either clients m j two few holds o0 o2 (stays two told))
      (opening_either laws clients f m n j two now.0 few many holds same still made brief_limits
      room now.2 o0 o2 o3
      (run.same_links ∙ begun.run.same_links) (passed now.0 now.1))

  -- the gate was not opened, or was and that is not known
  pub open_failed : (result : Result JournalValue CompactionFault) → result ≡ Err fault.DiskFault
      → CompactsJournal clients m j o0 o3 result
  open_failed result is =
      subst (λ (r : Result JournalValue CompactionFault). CompactsJournal clients m j o0 o3 r)
      (sym is)
      (record { moments = all_moments; ends = λ two' told'. tt })

  -- the other file has the journal
  pub opened_so : RelatesTold (PublishesHeader n.file) o2.files o3.files
      → CompactsJournal clients m j o0 o3 (Ok n)
  opened_so becomes = record {
    moments = all_moments;
    ends = λ two' told'.
        let now = now_written in
        let new = becomes_told (PublishesHeader n.file) o2.files o3.files now.0 now.1 becomes in
        let both : Some new.0 ≡ Some two' = sym new.1 ∙ told' in
        let one : new.0 ≡ two' = cc in
        subst (HoldsSecond clients n (brief j)) one
        (second_so laws clients f m n j two now.0 few many holds same still made brief_limits room
        now.2 new.0 new.2);
  }
