-- A writer's file: all of an open header but the gate, which is closed, and some frames.
use Rattle.std.proofs.Common.{◌≡◌, ℕ, ◌-◌, ◌<◌, List, [], ◌∷◌, ◌++◌, length, Bool, Option, Some}
use Rattle.std.proofs.Common.{Ok, true, refl, sym, ap, subst, ◌∙◌, arith}
use Rattle.std.specs.Option.{ForSome}
use Rattle.outside.specs.Disk.{RelatesTold}
use Rattle.outside.specs.Files.{Two, File, NothingPending, file_of, read_files, settled}
use Rattle.outside.specs.Frames.{HasFrames, IsAtRest}
use Rattle.outside.specs.Outside.{DiskRun, OnlyReads, Outside}
use Rattle.outside.specs.Steps.{other_of}
use Rattle.outside.proofs.CallSteps.{becomes_told, told_back}
use Rattle.frame_journal.specs.Gathering.{Gathered, GathersFrames, WritesPayloads}
use Rattle.frame_journal.specs.Group.{IsGroup}
use Rattle.frame_journal.specs.Create.{IsPrepared, PreparesJournal, behind_gate}
use Rattle.frame_journal.specs.Header.{StartsJournal}
use Rattle.frame_journal.specs.Journal.{JournalValue, fresh_journal}
use Rattle.frame_journal.specs.Next.{MovesReader}
use Rattle.frame_journal.proofs.Waiting.{frames_long}
use Rattle.journal_migration.specs.Copying.{IsPair, IsShut, AreBothShut, header_mark}
use Rattle.journal_migration.specs.Starting.{IsSettledBoth}
use Rattle.journal_migration.proofs.Sides.{own_file, read_file, settled_first, settled_one}
use Rattle.journal_migration.proofs.Sides.{settled_second}

-- a prepared file has the header of a journal of format 2
pub begun_frames : (gate generation : ℕ) → HasFrames (gate ∷ behind_gate 2 generation)
    (gate ∷ header_mark generation) []
begun_frames gate generation =
    record {
      gate = 0;
      rest = [];
      whole = refl;
      closed = λ is. cc;
      long = refl;
      payloads_fit = λ k d below. absurd (omega (arith, below));
    }

-- the reader's file is as it was
pub own_still : (two two' : Two File) (own : ℕ) → own < 2 → other_of two' (1 - own) ≡ other_of two
    (1 - own) → file_of two' own ≡ file_of two own
own_still two two' own few other = own_file two' own few ∙ other ∙ sym (own_file two own few)

pub pending_still : (two two' : Two File) (own : ℕ) → file_of two' own ≡ file_of two own
    → NothingPending two own → NothingPending two' own
pending_still two two' own same before = same ∙ before ∙ ap (λ (f : File). settled f.now) (sym same)

-- what may be published
pub prepared_so : (r n : JournalValue) (two : Two File) → AreBothShut r n two
    → IsPrepared two n.file
prepared_so r n two works = record {
  settled = works.at_rest.settled;
  gate = works.shut.gate;
  marked = works.shut.behind;
  payloads = works.shut.payloads;
  closed = works.shut.closed;
  header = works.shut.header;
  frames = works.shut.frames;
}

-- frames more
works_on : (r r' n n' : JournalValue) (written : List (List ℕ)) (two two' : Two File) → IsPair r n
    → AreBothShut r n two → WritesPayloads n n' written (Some two) (Some two')
    → IsAtRest two' n'.file n'.end → r'.file ≡ r.file → r'.len ≡ r.len → AreBothShut r' n' two'
works_on r r' n n' written two two' pair works writes rest reader len =
    let appends = writes.adds in
    let writer = writes.grows.file_is in
    let header = works.shut.gate ∷ works.shut.behind in
    let other : other_of two' (1 - r.file) ≡ other_of two (1 - r.file) =
    subst (λ (t : ℕ). other_of two' t ≡ other_of two t) pair.writes appends.other in
    let same = own_still two two' r.file pair.reads other in
    let own =
    pending_still two two' r.file same
    (settled_one two r.file pair.reads works.first_settled works.second_settled) in
    let there : NothingPending two' (1 - r.file) =
    subst (NothingPending two') (writer ∙ pair.writes) rest.settled in
    record {
      first_settled = settled_first two' r.file pair.reads own there;
      second_settled = settled_second two' r.file pair.reads own there;
      long = ap (λ (t : ℕ). length (file_of two' t).now) reader
          ∙ ap (λ (f : File). length f.now) same ∙ works.long ∙ sym len;
      at_rest = rest;
      shut = record {
        gate = works.shut.gate;
        behind = works.shut.behind;
        payloads = works.shut.payloads ++ written;
        closed = works.shut.closed;
        header = works.shut.header;
        frames =
            subst (λ (t : ℕ). HasFrames (file_of two' t).now header
            (works.shut.payloads ++ written)) (sym writer)
            (appends.frames header works.shut.payloads works.shut.frames works.shut.end_is);
        end_is = omega (
          arith,
          writes.grows.end_is,
          works.shut.end_is,
          frames_long works.shut.payloads written,
        );
      };
    }

-- the reader begun in the one file, the writer in the other
pub works_begun : (file generation : ℕ) (r n : JournalValue) (two two' : Two File) → file < 2
    → r.file ≡ file → length (file_of two file).now ≡ r.len
    → n ≡ fresh_journal (1 - file) 2 generation
    → IsSettledBoth two → PreparesJournal (1 - file) 2 generation two two' → AreBothShut r n two'
works_begun file generation r n two two' few reader len writer settled prepares =
    let same = own_still two two' file few prepares.other in
    let own =
    pending_still two two' file same (settled_one two file few settled.first settled.second) in
    let there = prepares.at_rest.settled in
    let frames : HasFrames (file_of two' (1 - file)).now
    (prepares.gate ∷ header_mark generation) [] =
    subst (λ (b : List ℕ). HasFrames b (prepares.gate ∷ header_mark generation) [])
    (sym (ap (λ (f : File). f.now) prepares.bytes)) (begun_frames prepares.gate generation) in
    record {
      first_settled = settled_first two' file few own there;
      second_settled = settled_second two' file few own there;
      long = ap (λ (t : ℕ). length (file_of two' t).now) reader
          ∙ ap (λ (f : File). length f.now) same ∙ len;
      at_rest =
          subst (λ (v : JournalValue). IsAtRest two' v.file v.end) (sym writer) prepares.at_rest;
      shut =
          subst (λ (v : JournalValue). IsShut (file_of two' v.file).now v.end) (sym writer)
          (record {
            gate = prepares.gate;
            behind = header_mark generation;
            payloads = [];
            closed = prepares.closed;
            header = refl;
            frames = frames;
            end_is = refl;
          });
    }

-- frames were gathered behind reads
pub works_gathered : (r r' n n' : JournalValue) (g g' : List ℕ) (added : List (List ℕ))
    (o o1 o2 : Outside) → IsPair r n → IsGroup g → ForSome o.files (AreBothShut r n)
    → OnlyReads o o1 → DiskRun o1 o2 → GathersFrames n n' g g' added o1.files o2.files
    → ForSome o2.files (λ x. IsAtRest x n'.file n'.end) → r'.file ≡ r.file → r'.len ≡ r.len
    → ForSome o2.files (AreBothShut r' n')
works_gathered r r' n n' g g' added o o1 o2 pair waits works looks run gathers rests reader len x
    told =
    let mid = told_back o1 o2 x run.same_told told in
    let before : o.files ≡ Some mid.0 = sym looks.same_files ∙ mid.1 in
    let all = waits.payloads ++ added in
    let at : Gathered n n' g' all (Some mid.0) (Some x) =
    subst (λ (y : Option (Two File)). Gathered n n' g' all (Some mid.0) y) told
    (subst (λ (y : Option (Two File)). Gathered n n' g' all y o2.files) mid.1
    (gathers.each waits.payloads waits.joined)) in
    works_on r r' n n' at.written mid.0 x pair (works mid.0 before) at.writes (rests x told) reader
    len

-- the reader's file and its length are as before
pub moves_true : (r r' : JournalValue) (more : Bool) → more ≡ true → MovesReader r r' (Ok more)
    → (r'.file ≡ r.file) × (r'.len ≡ r.len)
moves_true r r' more is moves = let P : Bool → Type 0 =
    λ b. MovesReader r r' (Ok b) in let all : P true = subst P is moves in (all.0, all.1)

-- a reader that starts and a writer in a prepared file
pub works_ready : (file generation : ℕ) (r n : JournalValue) (o0 o1 o2 : Outside) → file < 2
    → ForSome o0.files IsSettledBoth → OnlyReads o0 o1 → DiskRun o1 o2
    → ForSome o0.files (λ two. StartsJournal (read_files two) (Ok r))
    → RelatesTold (PreparesJournal (1 - file) 2 generation) o1.files o2.files → r.file ≡ file
    → n ≡ fresh_journal (1 - file) 2 generation
    → ForSome o2.files (AreBothShut r n)
works_ready file generation r n o0 o1 o2 few settled looks run starts becomes reader writer x told =
    let mid = told_back o1 o2 x run.same_told told in
    let before : o0.files ≡ Some mid.0 = sym looks.same_files ∙ mid.1 in
    let new = becomes_told (PreparesJournal (1 - file) 2 generation) o1.files o2.files mid.0 mid.1
    becomes in
    let both : Some new.0 ≡ Some x = sym new.1 ∙ told in
    let one : new.0 ≡ x = cc in
    let len : length (file_of mid.0 file).now ≡ r.len =
    ap (λ (t : ℕ). length (file_of mid.0 t).now) (sym reader)
    ∙ ap length (sym (read_file mid.0 r.file))
    ∙ sym (ap (λ (v : JournalValue). v.len) (starts mid.0 before).2) in
    subst (AreBothShut r n) one
    (works_begun file generation r n mid.0 new.0 few reader len writer (settled mid.0 before)
    new.2)
