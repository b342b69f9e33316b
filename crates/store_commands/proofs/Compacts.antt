-- A journal written anew as its brief account, from the loaded store to the line.
use Rattle.std.proofs.Common.{◌≡◌, ℕ, ◌+◌, ◌-◌, ◌^◌, ◌<◌, ◌≤◌, false, List, ◌++◌, refl}
use Rattle.std.proofs.Common.{sym, ap, ◌∙◌, subst, inl, inr, arith, Some, None, Result, Ok, Err}
use Rattle.std.specs.Prelude.{IsErrAnd}
use Rattle.outside.specs.declared.limits.TheConstants.{MAX_JOURNAL}
use Rattle.outside.specs.Files.{Two, File, read_files}
use Rattle.outside.specs.Links.{sent_of}
use Rattle.outside.specs.Outside.{DiskRun, MomentsAre, Outside}
use Rattle.outside.specs.Streams.{Stream, IsIdle}
use Rattle.outside.proofs.CallSteps.{moments_map, moments_then, run_then, told_on}
use Rattle.sync_rules.specs.declared.entries.Entry.{Entry}
use Rattle.sync_rules.specs.Clients.{Meaning}
use Rattle.sync_rules.specs.Facts.{Facts, after_batches, facts}
use Rattle.sync_rules.specs.Hearing.{SettlesJournal}
use Rattle.sync_rules.specs.Legal.{AllSettling}
use Rattle.sync_rules.specs.Steps.{IsSettled}
use Rattle.brief_account.specs.Brief.{brief}
use Rattle.brief_account.specs.Laws.{BriefIsByFacts}
use Rattle.entry_codec.specs.declared.naming.Format.{Format}
use Rattle.entry_codec.specs.declared.naming.Format.TheVariants as kind
use Rattle.entry_codec.specs.Payloads.{journal_end}
use Rattle.entry_codec.specs.Standing.{room_of}
use Rattle.file_standing.specs.Standing.{stands}
use Rattle.journal_compaction.specs.Compacting.{compacted_len}
use Rattle.sync_store.specs.Compactions.{IsOrBrief}
use Rattle.sync_store.specs.Fitting.{FitsFiles}
use Rattle.sync_store.specs.Moments.{JournalMoment}
use Rattle.sync_store.specs.Store.{StoreValue, format_meant, written_in}
use Rattle.sync_words.specs.EntryTexts.{compacted_text}
use Rattle.sync_words.specs.Outcomes.{came_to}
use Rattle.sync_words.specs.declared.outcome.Outcome.{Outcome}
use Rattle.sync_words.specs.declared.outcome.Outcome.TheVariants as outcome
use Rattle.store_commands.specs.Commit.{ExtendsBy, IsMoved, OnceSettled, SettlesAnew}
use Rattle.store_commands.specs.Commit.{next_generation}
use Rattle.store_commands.specs.Compact.{AreFilesCompacted, CompactsAs, GoesBrief, HasCompacted}
use Rattle.store_commands.specs.Compact.{IsUncompacted, LacksGeneration, MakesBrief, brief_len}
use Rattle.store_commands.specs.Compact.{compacting}
use Rattle.store_commands.specs.Load.{IsLoaded, LoadKeeps, LoadedBy, MayExtend}
use Rattle.store_commands.specs.Running.{PrintsOut}
use Rattle.store_commands.specs.Show.{PrintsText, LeavesFilesSo}
use Rattle.store_commands.specs.Works.{WorkEnds}
use Rattle.store_commands.proofs.Adds.{caused_later, sent_before, settled_fits, settles_from}
use Rattle.store_commands.proofs.Passing.{passed}
use Rattle.store_commands.proofs.Working.{failed_by, printed_by, printed_ends, prints_plain}
use Rattle.store_commands.proofs.Working.{settling_moments, work_unsettled, worked_loaded}
use Rattle.store_commands.proofs.Working.{worked_none}
use Rattle.store_commands.proofs.Alone.{stands_alone}
use Rattle.store_commands.proofs.Stood.{fits_known, fits_synced, lacked_here, lacks_here}
use Rattle.store_commands.proofs.Stood.{moved_here}

-- ---- settling

-- it begins as each work
begins : (clients : Meaning) (j whole : List (List Entry)) → SettlesJournal clients j whole
    → GoesBrief clients j whole
begins clients j whole settles = inl settles

-- migrating or settling that failed
pub brief_unsettled : (clients : Meaning) (s s1 : StoreValue) (o o1 : Outside) (out out' : Stream)
    (came : Outcome) → IsIdle out out' → DiskRun o o1 → ExtendsBy o o1 (Err came)
    → (came ≡ outcome.Full → o1 ≡ o) → SettlesAnew clients s s1 o o1 (Err came)
    → MakesBrief clients s o o1 out out' came
brief_unsettled clients s s1 o o1 out out' came idle run by still settled =
    work_unsettled clients outcome.Done (compacting clients) (begins clients) s s1 o o1 out out'
    came idle run by still settled

-- ---- settling, and the brief account

-- the sum of a settled store is that of its journal's brief account
sum_is : BriefIsByFacts → (clients : Meaning) (s : StoreValue) (j : List (List Entry))
    (two : Two File) → FitsFiles clients s j two → IsSettled clients s.state.facts
    → compacted_len clients s.state.facts ≡ brief_len j
sum_is law clients s j two fits settled =
    let steps : IsSettled clients (facts j) =
    subst (IsSettled clients) (sym fits.facts_are) settled in
    ap (compacted_len clients) (sym fits.facts_are)
    ∙ ap (λ (bs : List (List Entry)). journal_end kind.Short bs + room_of kind.Short (facts j))
    (sym (law clients j fits.legal steps))

-- where there was a generation once the store was settled the files had one
had_generation : (clients : Meaning) (s s1 : StoreValue) (o o1 : Outside) (u : Unit {0})
    → SettlesAnew clients s s1 o o1 (Ok u) → (two : Two File) (j : List (List Entry))
    → FitsFiles clients s j two
    → s1.generation < 2 ^ 64 - 1 → LacksGeneration (read_files two) → ⊥
had_generation clients s s1 o o1 u settled two j fits next lacks =
    let last : 2 ^ 64 - 1 ≤ next_generation s = lacked_here clients s j two fits lacks in
    let same : s1.generation ≡ next_generation s = settled.answer.4 in
    omega (arith, next, last, same)

-- and where there was none they had none
had_none : (clients : Meaning) (s s1 : StoreValue) (o o1 : Outside) (u : Unit {0})
    → SettlesAnew clients s s1 o o1 (Ok u) → (two : Two File) (j : List (List Entry))
    → FitsFiles clients s j two
    → s1.generation ≡ 2 ^ 64 - 1 → LacksGeneration (read_files two)
had_none clients s s1 o o1 u settled two j fits last =
    let same : s1.generation ≡ next_generation s = settled.answer.4 in
    lacks_here clients s j two fits (omega (arith, last, same))

module _ (clients : Meaning) (s s1 : StoreValue) (o o1 : Outside) (u : Unit {0})
    (settled : SettlesAnew clients s s1 o o1 (Ok u)) (two : Two File) (j : List (List Entry))
    (fits : FitsFiles clients s j two) where
  settling_is : AllSettling clients (facts j) settled.more
  settling_is = settles_from clients s two j settled.more fits settled.comes.settling

  -- what is so of the settled journal is so once the journal is settled
  once : (P : List (List Entry) → Type 0) → P (j ++ settled.more) → OnceSettled clients j P
  once P has = record {
    first = settled.more;
    settles = settling_is;
    settled =
        subst (IsSettled clients) (settled.comes.facts
        ∙ ap (λ (g : Facts). after_batches g settled.more) (sym fits.facts_are))
        settled.answer.1;
    filled = settled.filled;
    has = has;
  }

  -- the settled journal goes on so, and so does its brief account
  brief_goes : (whole : List (List Entry)) → IsOrBrief (j ++ settled.more) whole
      → GoesBrief clients j whole
  brief_goes whole (inl same) =
      inl (record { more = settled.more; extends = same; settling = settling_is })
  brief_goes whole (inr same) = inr (once (λ j1. whole ≡ brief j1) same)

brief_moments : (clients : Meaning) (s s1 s2 : StoreValue) (o o1 o2 : Outside) (u : Unit {0})
    (r : Result (Unit {0}) Outcome) → DiskRun o o1 → SettlesAnew clients s s1 o o1 (Ok u)
    → CompactsAs clients s1 s2 o1 o2 r → (two : Two File) → o.files ≡ Some two
    → (j : List (List Entry)) → FitsFiles clients s j two
    → MomentsAre o o2 (JournalMoment clients (GoesBrief clients j) (sent_of o.links.told))
brief_moments clients s s1 s2 o o1 o2 u r run settled compacted two files j fits =
    let told1 = told_on o o1 two run.same_told files in
    let fits1 = settled_fits clients o o1 s s1 u two told1.0 j files told1.1 fits settled in
    let leads = compacted.leads told1.0 told1.1 (j ++ settled.more) fits1 in
    moments_then o o1 o2 _
    (settling_moments clients outcome.Done (compacting clients) j (begins clients j) s s1 o o1
    (Ok u) two files fits settled)
    (sent_before clients (GoesBrief clients j) o o1 o2 run.same_links
    (moments_map o1 o2 _ _ (λ m w. record {
      whole = w.whole;
      has = brief_goes clients s s1 o o1 u settled two j fits w.whole w.has;
      stands_for = w.stands_for;
      nothing_sent = w.nothing_sent;
    }) leads.moments))

-- the brief account was written
brief_whole : BriefIsByFacts → (clients : Meaning) (s s1 s2 : StoreValue) (o o1 o2 : Outside)
    (u v : Unit {0}) → DiskRun o o1 → SettlesAnew clients s s1 o o1 (Ok u)
    → CompactsAs clients s1 s2 o1 o2 (Ok v) → s.limit ≡ MAX_JOURNAL → (two : Two File)
    → o.files ≡ Some two → (j : List (List Entry)) → FitsFiles clients s j two
    → (old new : ℕ) → old ≡ s1.end → new ≡ s2.end → (P : List ℕ → Type 0)
    → P (compacted_text old new) → (two2 : Two File) → o2.files ≡ Some two2
    → OnceSettled clients j (AreFilesCompacted clients two2 P)
brief_whole law clients s s1 s2 o o1 o2 u v run settled compacted limited two files j fits old new
    first last P printed two2 files2 =
    let told1 = told_on o o1 two run.same_told files in
    let fits1 = settled_fits clients o o1 s s1 u two told1.0 j files told1.1 fits settled in
    let at = (compacted.leads told1.0 told1.1 (j ++ settled.more) fits1).ends
    compacted.answer.closed two2 files2 in
    let fits2 : FitsFiles clients s2 (brief (j ++ settled.more)) two2 =
    subst (λ (w : List (List Entry)). FitsFiles clients s2 w two2) at.1 at.2 in
    let sum : compacted_len clients s1.state.facts ≡ brief_len (j ++ settled.more) =
    sum_is law clients s1 (j ++ settled.more) told1.0 fits1 settled.answer.1 in
    let limit : s1.limit ≡ MAX_JOURNAL = settled.comes.limit ∙ limited in
    let roomy : compacted_len clients s1.state.facts ≤ s1.limit = compacted.answer.may.roomy in
    let short : written_in s2 ≡ kind.Short = ap format_meant compacted.answer.format in
    let old_is : old ≡ journal_end kind.Short (j ++ settled.more) =
    first ∙ fits1.end_is
    ∙ ap (λ (f : Format). journal_end f (j ++ settled.more)) settled.answer.2 in
    let new_is : new ≡ journal_end kind.Short (brief (j ++ settled.more)) =
    last ∙ fits2.end_is ∙ ap (λ (f : Format). journal_end f (brief (j ++ settled.more))) short in
    once clients s s1 o o1 u settled two j fits (AreFilesCompacted clients two2 P)
    (record {
      roomy =
          subst (λ (n : ℕ). n ≤ MAX_JOURNAL) sum
          (subst (λ (n : ℕ). compacted_len clients s1.state.facts ≤ n) limit roomy);
      stands = record {
        short = record {
          file = s2.file;
          found = fits2.file_is;
          is = fits_known clients s2 (brief (j ++ settled.more)) two2 fits2 ∙ ap Some short;
        };
        stands_for = fits2.stands_for;
        first_settled = fits2.first_settled;
        second_settled = fits2.second_settled;
      };
      old = stands_alone clients s1 s2 (j ++ settled.more) told1.0 two2 o1 o2 told1.1 files2 fits1
          compacted.own compacted.answer.file;
      printed =
          subst (λ (n : ℕ). P (compacted_text (journal_end kind.Short (j ++ settled.more)) n))
          new_is
          (subst (λ (n : ℕ). P (compacted_text n new)) old_is printed);
    })

-- and where it is
brief_moved : (clients : Meaning) (s s1 s2 : StoreValue) (o o1 o2 : Outside) (u v : Unit {0})
    → DiskRun o o1 → SettlesAnew clients s s1 o o1 (Ok u) → CompactsAs clients s1 s2 o1 o2 (Ok v)
    → (two : Two File) → o.files ≡ Some two → (j : List (List Entry)) → FitsFiles clients s j two
    → (two2 : Two File) → o2.files ≡ Some two2 → IsMoved 1 (read_files two) two2
brief_moved clients s s1 s2 o o1 o2 u v run settled compacted two files j fits two2 files2 =
    let told1 = told_on o o1 two run.same_told files in
    let fits1 = settled_fits clients o o1 s s1 u two told1.0 j files told1.1 fits settled in
    let at = (compacted.leads told1.0 told1.1 (j ++ settled.more) fits1).ends
    compacted.answer.closed two2 files2 in
    moved_here clients s s2 j at.0 two two2 1 fits at.2 (ap format_meant compacted.answer.format)
    (compacted.answer.file ∙ ap (λ (k : ℕ). 1 - k) settled.answer.5)
    (omega (arith, compacted.answer.generation, settled.answer.4))

-- there was no room for it, or no generation
brief_full : BriefIsByFacts → (clients : Meaning) (s s1 s2 : StoreValue) (o o1 o2 : Outside)
    (u : Unit {0}) → DiskRun o o1 → SettlesAnew clients s s1 o o1 (Ok u)
    → CompactsAs clients s1 s2 o1 o2 (Err outcome.Full) → s.limit ≡ MAX_JOURNAL → (two : Two File)
    → o.files ≡ Some two → (j : List (List Entry)) → FitsFiles clients s j two
    → (two2 : Two File) → o2.files ≡ Some two2
    → OnceSettled clients j (IsUncompacted clients (read_files two) two2)
brief_full law clients s s1 s2 o o1 o2 u run settled compacted limited two files j fits two2
    files2 =
    let told1 = told_on o o1 two run.same_told files in
    let fits1 = settled_fits clients o o1 s s1 u two told1.0 j files told1.1 fits settled in
    let same = compacted.answer.1 in
    let still : s2.closed ≡ false = ap (λ (x : StoreValue). x.closed) same ∙ settled.answer.0 in
    let at = (compacted.leads told1.0 told1.1 (j ++ settled.more) fits1).ends still two2 files2 in
    let fits2 : FitsFiles clients s2 (j ++ settled.more) two2 =
    subst (λ (w : List (List Entry)). FitsFiles clients s2 w two2) at.1 at.2 in
    let sum : compacted_len clients s1.state.facts ≡ brief_len (j ++ settled.more) =
    sum_is law clients s1 (j ++ settled.more) told1.0 fits1 settled.answer.1 in
    let limit : s1.limit ≡ MAX_JOURNAL = settled.comes.limit ∙ limited in
    once clients s s1 o o1 u settled two j fits (IsUncompacted clients (read_files two) two2)
    (record {
      stands = fits_synced clients s2 (j ++ settled.more) two2 fits2
          (ap (λ (x : StoreValue). written_in x) same ∙ settled.answer.2);
      moved = moved_here clients s s2 j (j ++ settled.more) two two2 0 fits fits2
          (ap (λ (x : StoreValue). written_in x) same ∙ settled.answer.2)
          (ap (λ (x : StoreValue). x.file) same ∙ settled.answer.5)
          (omega (arith, ap (λ (x : StoreValue). x.generation) same, settled.answer.4));
      over = elim compacted.answer.0 [
        | inl last ↦ inr (had_none clients s s1 o o1 u settled two j fits last)
        | inr past
            ↦ inl (subst (λ (n : ℕ). MAX_JOURNAL < n) sum
            (subst (λ (n : ℕ). n < compacted_len clients s1.state.facts) limit past))
      ];
    })

stopped_ends : BriefIsByFacts → (clients : Meaning) (s s1 s2 : StoreValue) (o o1 o2 : Outside)
    (u : Unit {0}) (out out' : Stream) (came : Outcome) → DiskRun o o1
    → SettlesAnew clients s s1 o o1 (Ok u)
    → CompactsAs clients s1 s2 o1 o2 (Err came) → s.limit ≡ MAX_JOURNAL → (two : Two File)
    → o.files ≡ Some two → (j : List (List Entry)) → FitsFiles clients s j two
    → (two2 : Two File) → o2.files ≡ Some two2
    → WorkEnds clients (compacting clients) j (read_files two) two2 out out' came
stopped_ends law clients s s1 s2 o o1 o2 u out out' outcome.Full run settled compacted limited two
    files j fits two2 files2 =
    inl (brief_full law clients s s1 s2 o o1 o2 u run settled compacted limited two files j fits
    two2 files2)
stopped_ends law clients s s1 s2 o o1 o2 u out out' outcome.Memory run settled compacted limited two
    files j fits two2 files2 = tt
stopped_ends law clients s s1 s2 o o1 o2 u out out' outcome.DiskFault run settled compacted limited
    two files j fits two2 files2 = tt
stopped_ends law clients s s1 s2 o o1 o2 u out out' _ run settled compacted limited two files j fits
    two2 files2 = absurd compacted.answer

-- the brief account was not written
pub brief_stopped : BriefIsByFacts → (clients : Meaning) (s s1 s2 : StoreValue) (o o1 o2 : Outside)
    (u : Unit {0}) (out out' : Stream) (came : Outcome) → IsIdle out out' → s.limit ≡ MAX_JOURNAL
    → DiskRun o o1 → SettlesAnew clients s s1 o o1 (Ok u) → DiskRun o1 o2
    → ExtendsBy o1 o2 (Err came) → CompactsAs clients s1 s2 o1 o2 (Err came)
    → MakesBrief clients s o o2 out out' came
brief_stopped law clients s s1 s2 o o1 o2 u out out' came idle limited run settled run2 by
    compacted =
    let caused = caused_later o o1 o2 (Err came) run.later by in
    record {
      run = run_then o o1 o2 run run2;
      by = failed_by outcome.Done o o2 out out' came idle caused;
      told = λ two files j fits. record {
        moments = brief_moments clients s s1 s2 o o1 o2 u (Err came) run settled compacted two files
            j fits;
        ends = λ two2 files2.
            stopped_ends law clients s s1 s2 o o1 o2 u out out' came run settled compacted limited
            two files j fits two2 files2;
      };
    }

-- ---- the line

-- the brief account was written, and the line of the two ends came to this
pub brief_printed : BriefIsByFacts → (clients : Meaning) (s s1 s2 : StoreValue) (o o1 o2 : Outside)
    (u v : Unit {0}) (out out' : Stream) (came : Outcome) (old new : ℕ) → s.limit ≡ MAX_JOURNAL
    → DiskRun o o1 → SettlesAnew clients s s1 o o1 (Ok u) → DiskRun o1 o2
    → CompactsAs clients s1 s2 o1 o2 (Ok v) → old ≡ s1.end → new ≡ s2.end
    → PrintsText (compacted_text old new) out out' came → MakesBrief clients s o o2 out out' came
brief_printed law clients s s1 s2 o o1 o2 u v out out' came old new limited run settled run2
    compacted first last printed =
    let text : List ℕ = compacted_text old new in
    let p : PrintsOut outcome.Done text out out' came = prints_plain text out out' came printed in
    let next = compacted.answer.may.generation in
    record {
      run = run_then o o1 o2 run run2;
      by = printed_by outcome.Done text o o2 out out' came p;
      told = λ two files j fits. record {
        moments =
            brief_moments clients s s1 s2 o o1 o2 u (Ok v) run settled compacted two files j fits;
        ends = λ two2 files2.
            printed_ends clients outcome.Done (compacting clients) j (read_files two) two2 out out'
            text came (λ P q. (
              brief_whole law clients s s1 s2 o o1 o2 u v run settled compacted limited two files j
                  fits old new first last P q two2 files2,
              λ lacks. had_generation clients s s1 o o1 u settled two j fits next lacks,
              brief_moved clients s s1 s2 o o1 o2 u v run settled compacted two files j fits two2
                  files2,
            )) p;
      };
    }

-- ---- no store was loaded

pub brief_none : (clients : Meaning) (old new : Outside) (out out' : Stream) (came : Outcome)
    → DiskRun old new
    → ((two : Two File) → old.files ≡ Some two
    → LeavesFilesSo (LoadKeeps (Err came) two) two old new) → LoadedBy old new (Err came)
    → ((two : Two File) → old.files ≡ Some two
    → IsLoaded (stands clients (read_files two)) (Err came)) → IsIdle out out'
    → HasCompacted clients old new out out' came
brief_none clients old new out out' came run rests by loaded idle =
    worked_none clients (λ f. None) (λ f. compacting clients) old new out out' came run rests by
    loaded idle

-- ---- from the loaded store

pub brief_loaded : (clients : Meaning) (o o1 o2 : Outside) (out out' : Stream) (s : StoreValue)
    (came : Outcome) → DiskRun o o1
    → ((two : Two File) → o.files ≡ Some two → LeavesFilesSo (LoadKeeps (Ok s) two) two o o1)
    → MayExtend clients s o1.files → MakesBrief clients s o1 o2 out out' came
    → HasCompacted clients o o2 out out' came
brief_loaded clients o o1 o2 out out' s came run rests ready made =
    worked_loaded clients (λ f. None) (λ f. compacting clients) o o1 o2 out out' s came run rests
    ready refl made

-- ---- an error that goes on by `?`

module _ (r : Result (Unit {0}) Outcome) (x : Outcome) (is : IsErrAnd r (λ e. e ≡ x))
    (clients : Meaning) where
  pub makes_on : (s : StoreValue) (o o' : Outside) (out out' : Stream)
      → MakesBrief clients s o o' out out' x → MakesBrief clients s o o' out out' (came_to r)
  makes_on s o o' out out' =
      passed (λ (came : Outcome). MakesBrief clients s o o' out out' came) r x is

  pub made_on : (o o' : Outside) (out out' : Stream) → HasCompacted clients o o' out out' x
      → HasCompacted clients o o' out out' (came_to r)
  made_on o o' out out' =
      passed (λ (came : Outcome). HasCompacted clients o o' out out' came) r x is
