-- A copy that is begun: nothing is copied yet.
use Rattle.std.proofs.Common.{◌≡◌, ℕ, ◌+◌, ◌-◌, ◌<◌, List, [], ◌∷◌, Some, refl, sym, ap, subst, ◌∙◌}
use Rattle.outside.specs.Disk.{RelatesTold}
use Rattle.outside.specs.Files.{Two, File, file_of, read_files}
use Rattle.outside.specs.Frames.{HasFrames, format_in}
use Rattle.outside.specs.Outside.{OnlyReads, Outside}
use Rattle.outside.proofs.CallSteps.{becomes_told}
use Rattle.frame_journal.specs.Create.{PreparesJournal}
use Rattle.frame_journal.specs.Journal.{JournalValue, fresh_journal}
use Rattle.sync_rules.specs.declared.entries.Entry.{Entry}
use Rattle.sync_rules.specs.Clients.{Meaning}
use Rattle.sync_rules.specs.Facts.{Facts, facts}
use Rattle.entry_codec.specs.declared.naming.Format.TheVariants as kind
use Rattle.entry_codec.specs.Naming.{format_of}
use Rattle.entry_codec.specs.Fronts.{Front}
use Rattle.entry_codec.proofs.FrontLaws.{front_start}
use Rattle.journal_migration.specs.Copying.{CopiesBatches, header_mark}
use Rattle.journal_migration.specs.Migrating.{HoldsFirst, KeepsJournal}
use Rattle.journal_migration.specs.Starting.{EndsOrStays}
use Rattle.journal_migration.proofs.Copied.{shut_header}
use Rattle.journal_migration.proofs.Keeping.{begun_still, keeps_looks, keeps_then}
use Rattle.journal_migration.proofs.Shut.{begun_frames, own_still}
use Rattle.journal_migration.proofs.Sides.{holds_on, read_file}

pub copies_begun : (clients : Meaning) (f : Facts) (generation : ℕ) (j : List (List Entry))
    (file : ℕ) (r n : JournalValue) (two two' : Two File) → file < 2
    → HoldsFirst clients file generation j two
    → facts j ≡ f → r.file ≡ file → r.end ≡ 15 → n ≡ fresh_journal (1 - file) 2 (generation + 1)
    → PreparesJournal (1 - file) 2 (generation + 1) two two'
    → CopiesBatches clients f generation j r n 0 two'
copies_begun clients f generation j file r n two two' few holds same reader begun writer prepares =
    let header = prepares.gate ∷ header_mark (generation + 1) in
    let frames : HasFrames (file_of two' (1 - file)).now header [] =
    subst (λ (b : List ℕ). HasFrames b header []) (sym (ap (λ (f : File). f.now) prepares.bytes))
    (begun_frames prepares.gate (generation + 1)) in
    let shut = shut_header (file_of two' (1 - file)).now prepares.gate
    (header_mark (generation + 1)) []
    frames prepares.closed in
    let now = holds_on clients file generation j two two' few holds
    (own_still two two' file few prepares.other) prepares.at_rest.settled shut in
    let front : Front clients (read_files two') file kind.Whole [] 15 =
    front_start clients (read_files two') file kind.Whole now.found
    (ap format_of (ap format_in (read_file two' file) ∙ now.format_is)) in
    let At : ℕ → ℕ → Type 0 = λ t e. Front clients (read_files two') t kind.Whole [] e in
    record {
      holds = subst (λ (t : ℕ). HoldsFirst clients t generation j two') (sym reader) now;
      facts_are = same;
      done = [];
      front = subst (λ (t : ℕ). At t r.end) (sym reader) (subst (At file) (sym begun) front);
      left = j;
      goes_on = refl;
      gate = prepares.gate;
      closed = prepares.closed;
      frames = subst (λ (v : JournalValue). HasFrames (file_of two' v.file).now header [])
          (sym writer) frames;
      end_is = ap (λ (v : JournalValue). v.end) writer;
      counted = refl;
    }

module _ (clients : Meaning) (f : Facts) (generation : ℕ) (j : List (List Entry)) (file : ℕ)
    (r n : JournalValue) (o0 o1 o2 : Outside) (two : Two File) (told : o0.files ≡ Some two)
    (few : file < 2)
    (holds : HoldsFirst clients file generation j two) (looks : OnlyReads o0 o1)
    (stays : EndsOrStays (1 - file) o1 o2) where
  there : o1.files ≡ Some two
  there = looks.same_files ∙ told

  -- at each moment until the other file is prepared the files stand for the journal
  pub begun_so : (P : Two File → Type 0) → ((t : Two File) → o2.files ≡ Some t → P t)
      → KeepsJournal clients j P o0 o2
  begun_so P ends =
      keeps_then clients j (λ t. t ≡ two) P o0 o1 o2 two told looks.run
      (keeps_looks clients j file generation o0 o1 two few holds told looks)
      (λ mid at same. record {
        moments = begun_still clients j file generation two o1 o2 few holds (stays two there);
        ends = ends;
      })

  -- and then all is ready for the first frame
  pub begun_copies : facts j ≡ f → r.file ≡ file → r.end ≡ 15 → n ≡ fresh_journal (1 - file) 2
      (generation + 1) → RelatesTold (PreparesJournal (1 - file) 2 (generation + 1)) o1.files
      o2.files
      → KeepsJournal clients j (CopiesBatches clients f generation j r n 0) o0 o2
  begun_copies same reader begun writer becomes =
      begun_so (CopiesBatches clients f generation j r n 0)
      (λ t end.
      let new = becomes_told (PreparesJournal (1 - file) 2 (generation + 1)) o1.files o2.files two
      there becomes in
      let both : Some new.0 ≡ Some t = sym new.1 ∙ end in
      let one : new.0 ≡ t = cc in
      subst (CopiesBatches clients f generation j r n 0) one
      (copies_begun clients f generation j file r n two new.0 few holds same reader begun writer
      new.2))
