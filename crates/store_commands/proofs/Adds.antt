-- Settling, a batch, and settling again, as moments and as journals.
use Rattle.std.proofs.Common.{◌≡◌, ◌≢◌, ℕ, ◌+◌, ◌<◌, ◌≤◌, false, List, [], ◌∷◌, ◌++◌, refl, sym, ap}
use Rattle.std.proofs.Common.{◌∙◌, subst, inl, inr, append_assoc, append-nil, arith, Some, Result}
use Rattle.std.proofs.Common.{Ok, Err, OnOk}
use Rattle.outside.specs.declared.limits.TheConstants.{MAX_JOURNAL}
use Rattle.outside.specs.Faults.{CountRose}
use Rattle.outside.specs.Files.{Two, File}
use Rattle.outside.specs.Links.{Links, sent_of}
use Rattle.outside.specs.Outside.{Outside, Moment, MomentsAre, DiskRun}
use Rattle.outside.proofs.CallSteps.{moments_map, moments_then, told_on}
use Rattle.sync_rules.specs.declared.entries.Entry.{Entry}
use Rattle.sync_rules.specs.Clients.{Meaning}
use Rattle.sync_rules.specs.Facts.{Facts, facts, after_all, after_batches}
use Rattle.sync_rules.specs.Legal.{Allowed, AllSettling}
use Rattle.sync_rules.specs.Steps.{IsSettled}
use Rattle.sync_rules.specs.Hearing.{SettlesJournal}
use Rattle.sync_rules.proofs.Continuing.{facts-append}
use Rattle.sync_rules.proofs.WorkLaws.{facts-push}
use Rattle.outside.specs.Files.{read_files}
use Rattle.entry_codec.specs.declared.naming.Format.{Format}
use Rattle.entry_codec.specs.declared.naming.Format.TheVariants as kind
use Rattle.entry_codec.specs.Payloads.{journal_end, payload_len}
use Rattle.entry_codec.specs.Standing.{room_of}
use Rattle.sync_store.specs.Commits.{needed}
use Rattle.sync_store.specs.Store.{StoreValue, format_meant, written_in}
use Rattle.sync_store.specs.Fitting.{FitsFiles}
use Rattle.sync_store.specs.Moments.{IsBetween, JournalMoment}
use Rattle.sync_store.specs.Runs.{AddsBatch, HasExtended, RunsBy}
use Rattle.sync_store.specs.Settling.{AreFilled}
use Rattle.sync_words.specs.declared.outcome.Outcome.{Outcome}
use Rattle.sync_words.specs.declared.outcome.Outcome.TheVariants as outcome
use Rattle.store_commands.specs.declared.commit.Settling.{Settling}
use Rattle.store_commands.specs.declared.commit.Settling.TheVariants as settling
use Rattle.store_commands.specs.Commit.{AddedSo, AddsAs, ExtendsBy, ExtendsEnds, ExtendsTold}
use Rattle.store_commands.specs.Commit.{GoesOnByBatch, IsBatchAndSettling, IsMoved, MayFollow}
use Rattle.store_commands.specs.Commit.{SettledAnew, SettlesAnew, SettlesBehind, StandsSynced}
use Rattle.store_commands.specs.Commit.{needed_by, next_file, next_generation}
use Rattle.store_commands.proofs.Stood.{fits_synced, last_here, moved_here, spent_here}

-- ---- longer journals

-- a front of settling is settling
front_settles : (clients : Meaning) (f : Facts) (front rest : List (List Entry))
    → AllSettling clients f (front ++ rest) → AllSettling clients f front
front_settles clients f [] rest s = tt
front_settles clients f (b ∷ front) rest s =
    (s.0, front_settles clients (after_all f b) front rest s.1)

front_of : (clients : Meaning) (f : Facts) (more front rest : List (List Entry))
    → more ≡ front ++ rest → AllSettling clients f more → AllSettling clients f front
front_of clients f more front rest parts s =
    front_settles clients f front rest (subst (AllSettling clients f) parts s)

-- a journal with a front of settling is settled in part
pub front_settles_on : (clients : Meaning) (j more whole : List (List Entry))
    → AllSettling clients (facts j) more → IsBetween j more whole → SettlesJournal clients j whole
front_settles_on clients j more whole settles between = record {
  more = between.front;
  extends = between.is;
  settling =
      front_of clients (facts j) more between.front between.rest between.parts settles;
}

-- ---- moments

-- a moment of settling
settling_moment : (clients : Meaning) (j more : List (List Entry)) (batch : List Entry)
    (sent : List (List ℕ)) (m : Moment) → AllSettling clients (facts j) more
    → JournalMoment clients (IsBetween j more) sent m
    → JournalMoment clients (GoesOnByBatch clients j batch) sent m
settling_moment clients j more batch sent m settles w = record {
  whole = w.whole;
  has = inl (front_settles_on clients j more w.whole settles w.has);
  stands_for = w.stands_for;
  nothing_sent = w.nothing_sent;
}

-- behind settling, a front of the batch and its settling
front_adds : (clients : Meaning) (j : List (List Entry)) (batch : List Entry)
    (first more front rest : List (List Entry)) → AllSettling clients (facts j) first
    → AddsBatch clients (after_batches (facts j) first) batch more → more ≡ front ++ rest
    → GoesOnByBatch clients j batch ((j ++ first) ++ front)
front_adds clients j batch first more [] rest settles adds parts =
    inl (record { more = first; extends = append-nil (j ++ first); settling = settles })
front_adds clients j batch first [] (b ∷ front) rest settles adds parts = cc
front_adds clients j batch first (x ∷ more) (b ∷ front) rest settles adds parts =
    let head : x ≡ b = cc in
    let same : b ≡ batch = sym head ∙ adds.0 in
    let tail : more ≡ front ++ rest = cc in
    let f : facts ((j ++ first) ++ batch ∷ []) ≡ after_all (after_batches (facts j) first) batch =
    facts-push (j ++ first) batch
    ∙ ap (λ (g : Facts). after_all g batch) (facts-append j first) in
    inr (record {
      before = j ++ first;
      settles = record { more = first; extends = refl; settling = settles };
      settles_again = record {
        more = front;
        extends = ap (λ (y : List Entry). (j ++ first) ++ y ∷ front) same
            ∙ sym (append_assoc (j ++ first) (batch ∷ []) front);
        settling =
            subst (λ (g : Facts). AllSettling clients g front) (sym f)
            (front_of clients (after_all (after_batches (facts j) first) batch) more front rest
            tail adds.1);
      };
    })

-- a moment of the batch and its settling, behind settling
batch_moment : (clients : Meaning) (j first more : List (List Entry)) (batch : List Entry)
    (sent : List (List ℕ)) (m : Moment) → AllSettling clients (facts j) first
    → AddsBatch clients (after_batches (facts j) first) batch more
    → JournalMoment clients (IsBetween (j ++ first) more) sent m
    → JournalMoment clients (GoesOnByBatch clients j batch) sent m
batch_moment clients j first more batch sent m settles adds w = record {
  whole = w.whole;
  has =
      subst (λ (x : List (List Entry)). GoesOnByBatch clients j batch x) (sym w.has.is)
      (front_adds clients j batch first more w.has.front w.has.rest settles adds w.has.parts);
  stands_for = w.stands_for;
  nothing_sent = w.nothing_sent;
}

-- a run's moments in words of what had been sent before an earlier run
pub sent_before : (clients : Meaning) (P : List (List Entry) → Type 0) (o o1 o2 : Outside)
    → o1.links ≡ o.links
    → MomentsAre o1 o2 (JournalMoment clients P (sent_of o1.links.told))
    → MomentsAre o1 o2 (JournalMoment clients P (sent_of o.links.told))
sent_before clients P o o1 o2 same run =
    subst (λ (l : Links). MomentsAre o1 o2 (JournalMoment clients P (sent_of l.told))) same run

-- ---- settling

pub settles_from : (clients : Meaning) (s : StoreValue) (two : Two File)
    (j more : List (List Entry)) → FitsFiles clients s j two
    → AllSettling clients s.state.facts more → AllSettling clients (facts j) more
settles_from clients s two j more fits settling =
    subst (λ (g : Facts). AllSettling clients g more) (sym fits.facts_are) settling

settling_moments : (clients : Meaning) (o o1 : Outside) (s s1 : StoreValue) (batch : List Entry)
    (result : Result (Unit {0}) Outcome) (two : Two File) (j : List (List Entry))
    → o.files ≡ Some two → FitsFiles clients s j two → SettlesAnew clients s s1 o o1 result
    → MomentsAre o o1 (JournalMoment clients (GoesOnByBatch clients j batch)
    (sent_of o.links.told))
settling_moments clients o o1 s s1 batch result two j files fits settled =
    moments_map o o1 _ _ (λ m w.
    settling_moment clients j settled.more batch (sent_of o.links.told) m
    (settles_from clients s two j settled.more fits settled.comes.settling) w)
    (settled.comes.leads two files j fits).moments

-- the journal that the disk fits once it is settled
pub settled_fits : (clients : Meaning) (o o1 : Outside) (s s1 : StoreValue) (u : Unit {0})
    (two two1 : Two File) (j : List (List Entry)) → o.files ≡ Some two → o1.files ≡ Some two1
    → FitsFiles clients s j two → (settled : SettlesAnew clients s s1 o o1 (Ok u))
    → FitsFiles clients s1 (j ++ settled.more) two1
settled_fits clients o o1 s s1 u two two1 j files files1 fits settled =
    let at = (settled.comes.leads two files j fits).ends settled.answer.0 two1 files1 in
    subst (λ (w : List (List Entry)). FitsFiles clients s1 w two1) at.1 at.2

not_settled_ends : (clients : Meaning) (asked : Settling) (j : List (List Entry))
    (batch : List Entry) (s s1 : StoreValue) (came : Outcome) (two two' : Two File)
    → FitsFiles clients s j two
    → (came ≡ outcome.Full → read_files two' ≡ read_files two) → SettledAnew clients s s1 (Err came)
    → ExtendsEnds clients asked j batch (Err came) two two'
not_settled_ends clients asked j batch s s1 outcome.Full two two' fits still answer =
    inr (last_here clients s j two fits answer.0, still refl)
not_settled_ends clients asked j batch s s1 outcome.Memory two two' fits still answer = tt
not_settled_ends clients asked j batch s s1 outcome.DiskFault two two' fits still answer = tt
not_settled_ends clients asked j batch s s1 _ two two' fits still answer = absurd answer

-- files that are told of one outside are one
pub same_told : (o o1 : Outside) (two two' : Two File) → o1 ≡ o → o.files ≡ Some two
    → o1.files ≡ Some two' → read_files two' ≡ read_files two
same_told o o1 two two' same files files' =
    let both : Some two' ≡ Some two = sym files' ∙ ap (λ (x : Outside). x.files) same ∙ files in
    let one : two' ≡ two = cc in
    ap read_files one

-- migrating or settling that failed
pub settles_only : (clients : Meaning) (o o1 : Outside) (s s1 : StoreValue) (batch : List Entry)
    (asked : Settling) (came : Outcome) (two : Two File) (j : List (List Entry))
    → o.files ≡ Some two → FitsFiles clients s j two → (came ≡ outcome.Full → o1 ≡ o)
    → SettlesAnew clients s s1 o o1 (Err came)
    → ExtendsTold clients asked j batch two o o1 (Err came)
settles_only clients o o1 s s1 batch asked came two j files fits still settled = record {
  moments = settling_moments clients o o1 s s1 batch (Err came) two j files fits settled;
  ends = λ two' files'.
      not_settled_ends clients asked j batch s s1 came two two' fits (λ is.
      same_told o o1 two two' (still is) files files') settled.answer;
  spent = λ last. tt;
  moved = tt;
}

-- ---- settling and a batch

-- the sum of a store in format 2 is that of the journal that the disk fits
pub weighed : (s : StoreValue) (j : List (List Entry)) (batch : List Entry) → s.end ≡ journal_end
    (written_in s) j → s.state.facts ≡ facts j → written_in s ≡ kind.Short
    → needed s batch ≡ needed_by j batch
weighed s j batch ends same short =
    (λ i. ends i + 5 + payload_len (written_in s) batch
    + room_of (written_in s) (after_all (same i) batch))
    ∙ ap (λ (f : Format). journal_end f j + 5 + payload_len f batch
    + room_of f (after_all (facts j) batch)) short

adds_ends : (clients : Meaning) (asked : Settling) (j first more : List (List Entry))
    (batch : List Entry) (s1 s2 : StoreValue) (two two1 two2 : Two File)
    (result : Result (Unit {0}) Outcome) → AreFilled first
    → s2.format ≡ s1.format → written_in s1 ≡ kind.Short → AllSettling clients (facts j) first
    → IsSettled clients s1.state.facts → s1.limit ≡ MAX_JOURNAL
    → FitsFiles clients s1 (j ++ first) two1
    → AddedSo clients asked s1 s2 batch more result
    → (s2.closed ≡ false → (whole : List (List Entry)) × (whole ≡ (j ++ first) ++ more)
    × FitsFiles clients s2 whole two2)
    → ExtendsEnds clients asked j batch result two two2
adds_ends clients asked j first more batch s1 s2 two two1 two2 (Ok u) filled format short
    settles settled limit fits answer ends =
    let at = ends answer.0 in
    let whole = answer.2 in
    let f : s1.state.facts ≡ after_batches (facts j) first = sym fits.facts_are
    ∙ facts-append j first in
    let within : needed s1 batch ≤ MAX_JOURNAL = subst (λ n. needed s1 batch ≤ n) limit answer.1 in
    record {
      first = first;
      settles = settles;
      settled = subst (IsSettled clients) f settled;
      filled = filled;
      has = record {
        rest = whole.rest;
        roomy =
            subst (λ n. n ≤ MAX_JOURNAL)
            (weighed s1 (j ++ first) batch fits.end_is (sym fits.facts_are) short) within;
        follows =
            subst (λ (g : Facts). SettlesBehind asked clients (after_all g batch) whole.rest)
            (sym fits.facts_are) whole.follows;
        stands =
            subst (StandsSynced clients two2)
            (at.1 ∙ ap (λ (bs : List (List Entry)). (j ++ first) ++ bs) whole.is)
            (fits_synced clients s2 at.0 two2 at.2 (ap format_meant format ∙ short));
      };
    }
adds_ends clients asked j first more batch s1 s2 two two1 two2 (Err outcome.Full) filled
    format short settles settled limit fits answer ends =
    let at = ends answer.0 in
    let over : MAX_JOURNAL < needed s1 batch = subst (λ n. n < needed s1 batch) limit answer.1 in
    inl (record {
      first = first;
      settles = settles;
      settled = subst (IsSettled clients) (sym fits.facts_are ∙ facts-append j first) settled;
      filled = filled;
      has = record {
        stands =
            subst (StandsSynced clients two2)
            (at.1 ∙ ap (λ (bs : List (List Entry)). (j ++ first) ++ bs) answer.2
            ∙ append-nil (j ++ first))
            (fits_synced clients s2 at.0 two2 at.2 (ap format_meant format ∙ short));
        over =
            subst (λ n. MAX_JOURNAL < n)
            (weighed s1 (j ++ first) batch fits.end_is (sym fits.facts_are) short) over;
      };
    })
adds_ends clients asked j first more batch s1 s2 two two1 two2 (Err outcome.Memory) filled
    format short settles settled limit fits answer ends = tt
adds_ends clients asked j first more batch s1 s2 two two1 two2 (Err outcome.DiskFault) filled
    format short settles settled limit fits answer ends = tt
adds_ends clients asked j first more batch s1 s2 two two1 two2 (Err _) filled format short
    settles settled limit fits answer ends = absurd answer

-- and where the journal is then
adds_moved : (clients : Meaning) (which : Settling) (s s1 s2 : StoreValue) (batch : List Entry)
    (more j1 j : List (List Entry)) (o2 : Outside) (two : Two File)
    (result : Result (Unit {0}) Outcome) → FitsFiles clients s j two → written_in s1 ≡ kind.Short
    → s1.generation ≡ next_generation s → s1.file ≡ next_file s → s2.file ≡ s1.file
    → s2.format ≡ s1.format → s2.generation ≡ s1.generation
    → AddedSo clients which s1 s2 batch more result
    → (s2.closed ≡ false → (two2 : Two File) → o2.files ≡ Some two2
    → (whole : List (List Entry)) × (whole ≡ j1 ++ more) × FitsFiles clients s2 whole two2)
    → OnOk result ((two' : Two File) → o2.files ≡ Some two' → IsMoved 0 (read_files two) two')
adds_moved clients which s s1 s2 batch more j1 j o2 two (Ok u) fits short taken went file format
    generation answer ends = λ two' files'.
    let at = ends answer.0 two' files' in
    moved_here clients s s2 j at.0 two two' 0 fits at.2 (ap format_meant format ∙ short)
    (file ∙ went) (omega (arith, generation, taken))
adds_moved clients which s s1 s2 batch more j1 j o2 two (Err e) fits short taken went file format
    generation answer ends = tt

pub adds : (clients : Meaning) (asked which : Settling) (o o1 o2 : Outside) (s s1 s2 : StoreValue)
    (batch : List Entry) (u : Unit {0}) (result : Result (Unit {0}) Outcome) (two : Two File)
    (j : List (List Entry)) → asked ≡ which → o.files ≡ Some two → FitsFiles clients s j two
    → s.limit ≡ MAX_JOURNAL → DiskRun o o1 → SettlesAnew clients s s1 o o1 (Ok u)
    → AddsAs clients which s1 s2 batch o1 o2 result
    → ExtendsTold clients asked j batch two o o2 result
adds clients asked which o o1 o2 s s1 s2 batch u result two j same files fits limited run settled
    added =
    let told1 = told_on o o1 two run.same_told files in
    let first = settled.more in
    let settles = settles_from clients s two j first fits settled.comes.settling in
    let fits1 = settled_fits clients o o1 s s1 u two told1.0 j files told1.1 fits settled in
    let f : s1.state.facts ≡ after_batches (facts j) first = sym fits1.facts_are
    ∙ facts-append j first in
    let adds : AddsBatch clients (after_batches (facts j) first) batch added.more =
    subst (λ (g : Facts). AddsBatch clients g batch added.more) f added.adds in
    let second = added.leads told1.0 told1.1 (j ++ first) fits1 in
    record {
      moments =
          moments_then o o1 o2 _
          (settling_moments clients o o1 s s1 batch (Ok u) two j files fits settled)
          (moments_map o1 o2 _ _ (λ m w.
          batch_moment clients j first added.more batch (sent_of o.links.told) m settles adds w)
          (sent_before clients (IsBetween (j ++ first) added.more) o o1 o2 run.same_links
          second.moments));
      ends = λ two' files'.
          adds_ends clients asked j first added.more batch s1 s2 two told1.0 two' result
          settled.filled added.format settled.answer.2 settles settled.answer.1 (settled.comes.limit
          ∙ limited) fits1
          (subst (λ (w : Settling). AddedSo clients w s1 s2 batch added.more result) (sym same)
          added.answer) (λ still_open. second.ends still_open two' files');
      spent = λ last. absurd (settled.answer.3 (spent_here clients s j two fits last));
      moved =
          adds_moved clients which s s1 s2 batch added.more (j ++ first) j o2 two result fits
          settled.answer.2 settled.answer.4 settled.answer.5 added.file added.format
          added.generation added.answer second.ends;
    }

-- what follows a settled journal follows the facts that settling came to
pub follows_settled : (clients : Meaning) (o o1 : Outside) (s s1 : StoreValue) (batch : List Entry)
    (u : Unit {0}) → MayFollow clients s.state.facts batch
    → SettlesAnew clients s s1 o o1 (Ok u) → Allowed clients s1.state.facts batch
follows_settled clients o o1 s s1 batch u may settled =
    subst (λ (h : Facts). Allowed clients h batch) (sym settled.comes.facts)
    (may.follows settled.more settled.comes.settling
    (subst (IsSettled clients) settled.comes.facts settled.answer.1))

-- ---- what a store answers

-- no batch stands behind one that was committed
pub one_whole : (clients : Meaning) (f : Facts) (batch : List Entry)
    → IsBatchAndSettling clients settling.Before f batch (batch ∷ [])
one_whole clients f batch = record { rest = []; is = refl; follows = refl }

settled_whole : (clients : Meaning) (s s' : StoreValue) (o o' : Outside) (batch : List Entry)
    (more : List (List Entry)) → RunsBy clients s s' o o' more
    → AddsBatch clients s.state.facts batch more
    → s'.closed ≡ false → more ≢ [] → IsSettled clients s'.state.facts
    → IsBatchAndSettling clients settling.BeforeAndAfter s.state.facts batch more
settled_whole clients s s' o o' batch [] runs adds still some settled = absurd (some refl)
settled_whole clients s s' o o' batch (b ∷ rest) runs adds still some settled = record {
  rest = rest;
  is = ap (λ (x : List Entry). x ∷ rest) adds.0;
  follows = (
    adds.1,
    subst (IsSettled clients) (runs.facts still
        ∙ ap (λ (x : List Entry). after_batches (after_all s.state.facts x) rest) adds.0) settled,
    adds.2,
  );
}

-- settling that is whole
pub extended_whole : (clients : Meaning) (s s' : StoreValue) (batch : List Entry) (u : Unit {0})
    (o o' : Outside) (has : HasExtended clients s s' batch (Ok u) o o')
    → IsBatchAndSettling clients settling.BeforeAndAfter s.state.facts batch has.more
extended_whole clients s s' batch u o o' has =
    settled_whole clients s s' o o' batch has.more has.runs has.adds has.answer.0 has.answer.2
    has.answer.3

-- ---- causes

pub rose_before : (a b c : ℕ) → a ≤ b → CountRose b c → CountRose a c
rose_before a b c later rose = omega arith

-- a later run's causes are those of the whole
pub caused_later : (o o1 o2 : Outside) (result : Result (Unit {0}) Outcome)
    → o.disk_faults ≤ o1.disk_faults → ExtendsBy o1 o2 result → ExtendsBy o o2 result
caused_later o o1 o2 (Ok u) later by = tt
caused_later o o1 o2 (Err outcome.DiskFault) later by =
    rose_before o.disk_faults o1.disk_faults o2.disk_faults later by
caused_later o o1 o2 (Err outcome.Full) later by = tt
caused_later o o1 o2 (Err outcome.Memory) later by = tt
caused_later o o1 o2 (Err _) later by = absurd by
