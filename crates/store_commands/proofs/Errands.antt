-- An errand, from the loaded store to the text.
use Rattle.std.proofs.Common.{◌≡◌, ℕ, ◌<◌, false, List, ◌++◌, sym, ap, ◌∙◌, subst, inl, inr, arith}
use Rattle.std.proofs.Common.{Some, Result, Ok, Err}
use Rattle.std.specs.Prelude.{IsErrAnd}
use Rattle.outside.specs.declared.limits.TheConstants.{MAX_JOURNAL}
use Rattle.outside.specs.Files.{Two, File, read_files}
use Rattle.outside.specs.Links.{sent_of}
use Rattle.outside.specs.Outside.{DiskRun, MomentsAre, Outside}
use Rattle.outside.specs.Streams.{Stream, IsIdle}
use Rattle.outside.proofs.CallSteps.{moments_map, moments_then, run_then, told_on}
use Rattle.sync_rules.specs.declared.entries.Entry.{Entry}
use Rattle.sync_rules.specs.Clients.{Meaning}
use Rattle.sync_rules.specs.Facts.{Facts, after_batches, facts}
use Rattle.sync_rules.specs.Hearing.{SettlesJournal}
use Rattle.sync_rules.specs.Legal.{AllSettling}
use Rattle.sync_rules.specs.Steps.{IsSettled}
use Rattle.sync_rules.proofs.Continuing.{facts-append}
use Rattle.entry_codec.specs.declared.naming.Format.{Format}
use Rattle.entry_codec.specs.declared.naming.Format.TheVariants as kind
use Rattle.sync_store.specs.Commits.{needed}
use Rattle.sync_store.specs.Fitting.{FitsFiles}
use Rattle.sync_store.specs.Moments.{JournalMoment}
use Rattle.sync_store.specs.Store.{StoreValue, format_meant, written_in}
use Rattle.sync_words.specs.declared.outcome.Outcome.{Outcome}
use Rattle.sync_words.specs.declared.outcome.Outcome.TheVariants as outcome
use Rattle.sync_words.specs.Outcomes.{came_to}
use Rattle.sync_store.specs.Rooms.{AreRoomy}
use Rattle.store_commands.specs.Commit.{ExtendsBy, IsMoved, OnceSettled, SettlesAnew, needed_by}
use Rattle.store_commands.specs.Errands.{Errand, ErrandOn, HasErrandBehind, IsErrandCutShort, IsRun}
use Rattle.store_commands.specs.Errands.{running}
use Rattle.store_commands.specs.Running.{DoesErrand, PrintsOut, RunsErrand}
use Rattle.store_commands.specs.Works.{WorkEnds}
use Rattle.store_commands.proofs.Adds.{caused_later, sent_before, settles_from, weighed}
use Rattle.store_commands.proofs.Passing.{passed}
use Rattle.store_commands.proofs.Stood.{fits_synced, moved_here, spent_here}
use Rattle.store_commands.proofs.Working.{failed_by, printed_by, printed_ends, settling_moments}
use Rattle.store_commands.proofs.Working.{work_unsettled}

-- ---- settling

-- it begins as each work
begins : (clients : Meaning) (errand : Errand) (j whole : List (List Entry))
    → SettlesJournal clients j whole → ErrandOn clients errand j whole
begins clients errand j whole settles = inl settles

-- migrating or settling that failed
pub errand_unsettled : (clients : Meaning) (errand : Errand) (s s1 : StoreValue) (o o1 : Outside)
    (out out' : Stream)
    (came : Outcome) → IsIdle out out' → DiskRun o o1 → ExtendsBy o o1 (Err came)
    → (came ≡ outcome.Full → o1 ≡ o)
    → SettlesAnew clients s s1 o o1 (Err came) → RunsErrand clients errand s o o1 out out' came
errand_unsettled clients errand s s1 o o1 out out' came idle run by still settled =
    work_unsettled clients errand.comes (running clients errand) (begins clients errand) s s1 o o1
    out out' came idle run by still settled

-- ---- settling, and the errand

module _ (clients : Meaning) (errand : Errand) (s s1 s2 : StoreValue) (o o1 o2 : Outside)
    (u : Unit {0})
    (r : Result (Unit {0}) Outcome) (run : DiskRun o o1)
    (settled : SettlesAnew clients s s1 o o1 (Ok u))
    (does : DoesErrand clients errand s1 s2 o1 o2 r) (limited : s.limit ≡ MAX_JOURNAL)
    (two : Two File)
    (files : o.files ≡ Some two) (j : List (List Entry)) (fits : FitsFiles clients s j two) where
  -- the facts of the settled journal
  begun : s1.state.facts ≡ after_batches (facts j) settled.more
  begun =
      settled.comes.facts ∙ ap (λ (g : Facts). after_batches g settled.more) (sym fits.facts_are)

  is_settled : IsSettled clients (after_batches (facts j) settled.more)
  is_settled = subst (IsSettled clients) begun settled.answer.1

  settles : AllSettling clients (facts j) settled.more
  settles = settles_from clients s two j settled.more fits settled.comes.settling

  -- what is so of the settled journal is so once the journal is settled
  once : (P : List (List Entry) → Type 0) → P (j ++ settled.more) → OnceSettled clients j P
  once P has = record {
    first = settled.more;
    settles = settles;
    settled = is_settled;
    filled = settled.filled;
    has = has;
  }

  -- the journal that the disk fits once it is settled
  settled_fits : (two1 : Two File) → o1.files ≡ Some two1 → FitsFiles clients s1
      (j ++ settled.more) two1
  settled_fits two1 files1 =
      let at = (settled.comes.leads two files j fits).ends settled.answer.0 two1 files1 in
      subst (λ (w : List (List Entry)). FitsFiles clients s1 w two1) at.1 at.2

  -- the facts of the settled store are those of the settled journal
  facts_then : s1.state.facts ≡ facts (j ++ settled.more)
  facts_then = begun ∙ sym (facts-append j settled.more)

  errand_moments : MomentsAre o o2
      (JournalMoment clients (ErrandOn clients errand j) (sent_of o.links.told))
  errand_moments =
      let told1 = told_on o o1 two run.same_told files in
      let fits1 = settled_fits told1.0 told1.1 in
      moments_then o o1 o2 _
      (settling_moments clients errand.comes (running clients errand) j (begins clients errand j)
      s s1 o o1 (Ok u) two files fits settled)
      (sent_before clients (ErrandOn clients errand j) o o1 o2 run.same_links
      (moments_map o1 o2 _ _ (λ m w. record {
        whole = w.whole;
        has = inr (once (HasErrandBehind errand w.whole) (record {
          rest = does.more;
          some = subst (λ (f : Facts). errand.some f does.more) facts_then does.some;
          between = w.has;
        }));
        stands_for = w.stands_for;
        nothing_sent = w.nothing_sent;
      }) (does.comes.runs.leads told1.0 told1.1 (j ++ settled.more) fits1).moments))

  last_fits : s2.closed ≡ false → (two2 : Two File) → o2.files ≡ Some two2
      → FitsFiles clients s2 ((j ++ settled.more) ++ does.more) two2
  last_fits still two2 files2 =
      let told1 = told_on o o1 two run.same_told files in
      let fits1 = settled_fits told1.0 told1.1 in
      let at = (does.comes.runs.leads told1.0 told1.1 (j ++ settled.more) fits1).ends still two2
      files2 in
      subst (λ (w : List (List Entry)). FitsFiles clients s2 w two2) at.1 at.2

  -- the store is in format 2 at the end
  last_short : written_in s2 ≡ kind.Short
  last_short = ap format_meant does.comes.runs.format ∙ settled.answer.2

  -- the journal was moved by a migration alone
  pub errand_moved : s2.closed ≡ false → (two2 : Two File) → o2.files ≡ Some two2
      → IsMoved 0 (read_files two) two2
  errand_moved still two2 files2 =
      moved_here clients s s2 j ((j ++ settled.more) ++ does.more) two two2 0 fits
      (last_fits still two2 files2) last_short (does.comes.runs.file ∙ settled.answer.5)
      (omega (arith, does.comes.runs.generation, settled.answer.4))

  -- there was room for what was done
  roomy : AreRoomy kind.Short MAX_JOURNAL (j ++ settled.more) does.more
  roomy =
      let told1 = told_on o o1 two run.same_told files in
      let fits1 = settled_fits told1.0 told1.1 in
      let limit : s1.limit ≡ MAX_JOURNAL = settled.comes.limit ∙ limited in
      subst (λ (n : ℕ). AreRoomy kind.Short n (j ++ settled.more) does.more) limit
      (subst (λ (f : Format). AreRoomy f s1.limit (j ++ settled.more) does.more) settled.answer.2
      (does.comes.roomy told1.0 told1.1 (j ++ settled.more) fits1))

  errand_run : s2.closed ≡ false → IsSettled clients s2.state.facts
      → errand.whole s1.state.facts does.more
      → (text : List ℕ)
      → ((two1 : Two File) (j1 : List (List Entry)) → FitsFiles clients s1 j1 two1
      → text ≡ errand.text j1 does.more)
      → (P : List ℕ → Type 0) → P text → (two2 : Two File) → o2.files ≡ Some two2
      → OnceSettled clients j (IsRun clients errand two2 P)
  errand_run still still_settled whole text is P printed two2 files2 =
      let fits2 = last_fits still two2 files2 in
      let told1 = told_on o o1 two run.same_told files in
      once (IsRun clients errand two2 P) (record {
        rest = does.more;
        whole = subst (λ (f : Facts). errand.whole f does.more) facts_then whole;
        roomy = roomy;
        ends_settled = subst (IsSettled clients) (sym fits2.facts_are) still_settled;
        stands = fits_synced clients s2 ((j ++ settled.more) ++ does.more) two2 fits2 last_short;
        printed = subst P (is told1.0 (j ++ settled.more) (settled_fits told1.0 told1.1)) printed;
      })

  -- there was no room for the next batch
  errand_cut : s2.closed ≡ false → (next : List Entry) → errand.next s1.state.facts does.more next
      → s2.limit < needed s2 next → (two2 : Two File) → o2.files ≡ Some two2
      → OnceSettled clients j (IsErrandCutShort clients errand two2)
  errand_cut still next follows over two2 files2 =
      let fits2 = last_fits still two2 files2 in
      let limit : s2.limit ≡ MAX_JOURNAL = does.comes.runs.limit ∙ settled.comes.limit ∙ limited in
      let sum : needed s2 next ≡ needed_by ((j ++ settled.more) ++ does.more) next =
      weighed s2 ((j ++ settled.more) ++ does.more) next fits2.end_is (sym fits2.facts_are)
      last_short in
      once (IsErrandCutShort clients errand two2) (record {
        rest = does.more;
        next = next;
        follows = subst (λ (f : Facts). errand.next f does.more next) facts_then follows;
        full = record {
          stands =
              fits_synced clients s2 ((j ++ settled.more) ++ does.more) two2 fits2 last_short;
          over = omega (arith, sum, limit, over);
        };
      })

-- ---- an errand that failed

cut_ends : (clients : Meaning) (errand : Errand) (s s1 s2 : StoreValue) (o o1 o2 : Outside)
    (out out' : Stream)
    (u : Unit {0}) (came : Outcome) → DiskRun o o1 → SettlesAnew clients s s1 o o1 (Ok u)
    → DoesErrand clients errand s1 s2 o1 o2 (Err came) → s.limit ≡ MAX_JOURNAL → (two : Two File)
    → o.files ≡ Some two → (j : List (List Entry)) → FitsFiles clients s j two → (two2 : Two File)
    → o2.files ≡ Some two2
    → WorkEnds clients (running clients errand) j (read_files two) two2 out out' came
cut_ends clients errand s s1 s2 o o1 o2 out out' u outcome.Full run settled does limited two files j
    fits two2 files2 =
    inl (errand_cut clients errand s s1 s2 o o1 o2 u (Err outcome.Full) run settled does limited two
    files j fits
    does.answer.0 does.answer.1.next does.answer.1.follows does.answer.1.over two2 files2)
cut_ends clients errand s s1 s2 o o1 o2 out out' u outcome.Memory run settled does limited two files
    j fits two2 files2 = tt
cut_ends clients errand s s1 s2 o o1 o2 out out' u outcome.DiskFault run settled does limited two
    files j fits two2 files2 = tt
cut_ends clients errand s s1 s2 o o1 o2 out out' u _ run settled does limited two files j fits two2
    files2 =
    absurd does.answer

pub errand_stopped : (clients : Meaning) (errand : Errand) (s s1 s2 : StoreValue)
    (o o1 o2 : Outside) (out out' : Stream)
    (u : Unit {0}) (came : Outcome) → IsIdle out out' → s.limit ≡ MAX_JOURNAL → DiskRun o o1
    → SettlesAnew clients s s1 o o1 (Ok u) → DoesErrand clients errand s1 s2 o1 o2 (Err came)
    → RunsErrand clients errand s o o2 out out' came
errand_stopped clients errand s s1 s2 o o1 o2 out out' u came idle limited run settled does =
    let whole = caused_later o o1 o2 (Err came) run.later does.by in
    record {
      run = run_then o o1 o2 run does.comes.runs.run;
      by = failed_by errand.comes o o2 out out' came idle whole;
      told = λ two files j fits. record {
        moments = errand_moments clients errand s s1 s2 o o1 o2 u (Err came) run settled does
            limited two files j fits;
        ends = λ two2 files2.
            cut_ends clients errand s s1 s2 o o1 o2 out out' u came run settled does limited two
            files j fits two2 files2;
      };
    }

-- ---- an errand and its text

pub errand_printed : (clients : Meaning) (errand : Errand) (s s1 s2 : StoreValue)
    (o o1 o2 : Outside) (out out' : Stream)
    (u v : Unit {0}) (text : List ℕ) (came : Outcome) → s.limit ≡ MAX_JOURNAL → DiskRun o o1
    → SettlesAnew clients s s1 o o1 (Ok u) → (does : DoesErrand clients errand s1 s2 o1 o2 (Ok v))
    → ((two1 : Two File) (j1 : List (List Entry)) → FitsFiles clients s1 j1 two1
    → text ≡ errand.text j1 does.more)
    → PrintsOut errand.comes text out out' came → RunsErrand clients errand s o o2 out out' came
errand_printed clients errand s s1 s2 o o1 o2 out out' u v text came limited run settled does is
    printed = record {
      run = run_then o o1 o2 run does.comes.runs.run;
      by = printed_by errand.comes text o o2 out out' came printed;
      told = λ two files j fits. record {
        moments =
            errand_moments clients errand s s1 s2 o o1 o2 u (Ok v) run settled does limited two
            files j fits;
        ends = λ two2 files2.
            printed_ends clients errand.comes (running clients errand) j (read_files two) two2 out
            out' text came (λ P p. (
              errand_run clients errand s s1 s2 o o1 o2 u (Ok v) run settled does limited two files
                  j fits does.answer.0 does.answer.1 does.answer.2 text is P p two2 files2,
              λ last. settled.answer.3 (spent_here clients s j two fits last),
              errand_moved clients errand s s1 s2 o o1 o2 u (Ok v) run settled does limited two
                  files j fits does.answer.0 two2 files2,
            )) printed;
      };
    }

-- ---- an error that goes on by `?`

pub errand_on : (r : Result (Unit {0}) Outcome) (x : Outcome) → IsErrAnd r (λ e. e ≡ x)
    → (clients : Meaning)
    (errand : Errand) (s : StoreValue) (o o' : Outside) (out out' : Stream)
    → RunsErrand clients errand s o o' out out' x
    → RunsErrand clients errand s o o' out out' (came_to r)
errand_on r x is clients errand s o o' out out' =
    passed (λ (came : Outcome). RunsErrand clients errand s o o' out out' came) r x is
