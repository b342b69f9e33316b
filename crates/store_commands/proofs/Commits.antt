-- From the batch that is added to the entry and its line.
use Rattle.std.proofs.Common.{◌≡◌, ℕ, List, [], ◌∷◌, ◌++◌, sym, ap}
use Rattle.std.proofs.Common.{◌∙◌, subst, inl, Some, Result, Ok, Err}
use Rattle.outside.specs.Files.{Two, File, IsFileImage, IsImage, NothingPending, read_files}
use Rattle.outside.specs.Files.{settled}
use Rattle.outside.specs.Links.{sent_of}
use Rattle.outside.specs.Outside.{Outside, Moment, DiskRun}
use Rattle.outside.proofs.CallSteps.{moments_none, run_none}
use Rattle.outside.specs.Streams.{Stream, IsIdle}
use Rattle.outside.proofs.Calm.{settled_only}
use Rattle.sync_rules.specs.declared.entries.Entry.{Entry}
use Rattle.sync_rules.specs.Clients.{Meaning}
use Rattle.sync_rules.proofs.WorkLaws.{settles_itself}
use Rattle.file_standing.specs.Standing.{stands}
use Rattle.sync_store.specs.Store.{StoreValue}
use Rattle.sync_store.specs.Fitting.{FitsFiles}
use Rattle.sync_store.specs.Moments.{JournalMoment}
use Rattle.sync_words.specs.declared.outcome.Outcome.{Outcome}
use Rattle.sync_words.specs.declared.outcome.Outcome.TheVariants as outcome
use Rattle.store_commands.specs.declared.commit.Settling.{Settling}
use Rattle.store_commands.specs.Commit.{ExtendsBy, ExtendsEnds, ExtendsTold, GoesOnByBatch, IsAdded}
use Rattle.store_commands.specs.Commit.{OnceSettled}
use Rattle.store_commands.specs.Entries.{EntryAdded, adding}
use Rattle.store_commands.specs.Plans.{adds}
use Rattle.store_commands.specs.Running.{PrintsOut}
use Rattle.store_commands.specs.Show.{PrintsText}
use Rattle.store_commands.specs.Shown.{added_text}
use Rattle.store_commands.specs.Works.{WorkEnds}
use Rattle.store_commands.proofs.Working.{failed_by, printed_by, printed_ends, prints_plain}

-- ---- no call was made

-- a crash leaves of a file in which nothing is pending what a read gives
file_only : (file : File) (left : List ℕ) → file ≡ settled file.now → IsFileImage file left
    → left ≡ file.now
file_only file left pending image =
    settled_only file.now left (subst (λ (f : File). IsFileImage f left) pending image)

files_only : (two : Two File) (left : Two (List ℕ)) → NothingPending two 0 → NothingPending two 1
    → IsImage two left → left ≡ read_files two
files_only two left first second image =
    let one : left.first ≡ two.first.now = file_only two.first left.first first image.first in
    let other : left.second ≡ two.second.now =
    file_only two.second left.second second image.second in
    let with_first : List ℕ → Two (List ℕ) = λ a. record { first = a; second = left.second } in
    let with_second : List ℕ → Two (List ℕ) = λ a. record { first = two.first.now; second = a } in
    ap with_first one ∙ ap with_second other

-- each moment of now stands for the journal that the disk fits
still_moment : (clients : Meaning) (s : StoreValue) (batch : List Entry) (j : List (List Entry))
    (two : Two File) (o : Outside) → o.files ≡ Some two → FitsFiles clients s j two → (m : Moment)
    → o.moments o.clock m
    → JournalMoment clients (GoesOnByBatch clients j batch) (sent_of o.links.told) m
still_moment clients s batch j two o files fits m w =
    let now = o.now_is two m files w in
    let same = files_only two m.files fits.first_settled fits.second_settled now.image in
    record {
      whole = j;
      has = inl (settles_itself clients j);
      stands_for = ap (stands clients) same ∙ fits.stands_for;
      nothing_sent = now.sent;
    }

-- memory was wanting before any call
pub entry_none : (clients : Meaning) (settling : Settling) (s : StoreValue) (e : Entry)
    (o : Outside) (out out' : Stream) (came : Outcome) → came ≡ outcome.Memory → IsIdle out out'
    → EntryAdded clients settling s e o o out out' came
entry_none clients settling s e o out out' came is idle =
    subst (λ (c : Outcome). EntryAdded clients settling s e o o out out' c) (sym is) (record {
      run = run_none o;
      by = idle;
      told = λ two files j fits. record {
        moments = moments_none o _ (still_moment clients s (e ∷ []) j two o files fits);
        ends = λ two' files'. tt;
      };
    })

-- ---- the line

-- what is so of the settled journal leads to what follows from it
once_map : (clients : Meaning) (j : List (List Entry)) (P Q : List (List Entry) → Type 0)
    → ((whole : List (List Entry)) → P whole → Q whole) → OnceSettled clients j P
    → OnceSettled clients j Q
once_map clients j P Q leads once = record {
  first = once.first;
  settles = once.settles;
  settled = once.settled;
  filled = once.filled;
  has = leads (j ++ once.first) once.has;
}

-- what is told of a batch, for the batch of an entry
of_entry : (clients : Meaning) (settling : Settling) (two : Two File) (o o2 : Outside)
    (j : List (List Entry)) (e : Entry) (batch : List Entry) (result : Result (Unit {0}) Outcome)
    → batch ≡ e ∷ [] → ExtendsTold clients settling j batch two o o2 result
    → ExtendsTold clients settling j (e ∷ []) two o o2 result
of_entry clients settling two o o2 j e batch result is told =
    subst (λ (b : List Entry). ExtendsTold clients settling j b two o o2 result) is told

pub entry_printed : (clients : Meaning) (settling : Settling) (s : StoreValue) (e : Entry)
    (o o2 : Outside) (out out' : Stream) (text : List ℕ) (batch : List Entry) (u : Unit {0})
    (came : Outcome)
    → batch ≡ e ∷ [] → text ≡ added_text e → DiskRun o o2
    → ((two : Two File) → o.files ≡ Some two → (j : List (List Entry)) → FitsFiles clients s j two
    → ExtendsTold clients settling j batch two o o2 (Ok u))
    → PrintsText text out out' came → EntryAdded clients settling s e o o2 out out' came
entry_printed clients settling s e o o2 out out' text batch u came is line run told printed =
    let p : PrintsOut outcome.Done (added_text e) out out' came =
    prints_plain (added_text e) out out' came
    (subst (λ (t : List ℕ). PrintsText t out out' came) line printed) in
    record {
      run = run;
      by = printed_by outcome.Done (added_text e) o o2 out out' came p;
      told = λ two files j fits.
          let went = of_entry clients settling two o o2 j e batch (Ok u) is
          (told two files j fits) in
          record {
            moments = went.moments;
            ends = λ two' files'.
                printed_ends clients outcome.Done (adding clients settling (adds e)) j
                (read_files two) two' out out' (added_text e) came (λ P q. (
                  once_map clients j (IsAdded clients settling (e ∷ []) two')
                      (λ settled. IsAdded clients settling (e ∷ []) two' settled × P (added_text e))
                      (λ settled added. (added, q)) (went.ends two' files'),
                  λ last. went.spent last,
                  went.moved two' files',
                )) p;
          };
    }

-- ---- the batch was not added

failed_ends : (clients : Meaning) (settling : Settling) (o o2 : Outside) (j : List (List Entry))
    (e : Entry) (out out' : Stream) (came : Outcome) (two two' : Two File)
    → ExtendsBy o o2 (Err came) → ExtendsEnds clients settling j (e ∷ []) (Err came) two two'
    → WorkEnds clients (adding clients settling (adds e)) j (read_files two) two' out out' came
failed_ends clients settling o o2 j e out out' outcome.Full two two' by ends = ends
failed_ends clients settling o o2 j e out out' outcome.DiskFault two two' by ends = tt
failed_ends clients settling o o2 j e out out' outcome.Memory two two' by ends = tt
failed_ends clients settling o o2 j e out out' _ two two' by ends = absurd by

pub entry_failed : (clients : Meaning) (settling : Settling) (s : StoreValue) (e : Entry)
    (o o2 : Outside) (out out' : Stream) (batch : List Entry) (came : Outcome)
    → batch ≡ e ∷ [] → IsIdle out out' → DiskRun o o2 → ExtendsBy o o2 (Err came)
    → ((two : Two File) → o.files ≡ Some two → (j : List (List Entry)) → FitsFiles clients s j two
    → ExtendsTold clients settling j batch two o o2 (Err came))
    → EntryAdded clients settling s e o o2 out out' came
entry_failed clients settling s e o o2 out out' batch came is idle run by told = record {
  run = run;
  by = failed_by outcome.Done o o2 out out' came idle by;
  told = λ two files j fits.
      let went = of_entry clients settling two o o2 j e batch (Err came) is
      (told two files j fits) in
      record {
        moments = went.moments;
        ends = λ two' files'.
            failed_ends clients settling o o2 j e out out' came two two' by (went.ends two' files');
      };
}
