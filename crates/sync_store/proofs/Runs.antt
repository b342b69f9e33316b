-- Runs of a store's calls, one behind the other: for whoever calls a store more than once.
use Rattle.std.proofs.Common.{◌≡◌, ℕ, ◌+◌, ◌*◌, ◌≤◌, length, false, List, [], ◌∷◌, ◌++◌, Option, Some, Result, Ok, Err}
use Rattle.std.proofs.Common.{refl, sym, ap, ◌∙◌, subst, append-nil, length-append, arith}
use Rattle.std.specs.Prelude.{IsErrOf}
use Rattle.outside.specs.Faults.{CountRose}
use Rattle.outside.specs.Files.{Two, File}
use Rattle.outside.specs.Links.{sent_of}
use Rattle.outside.specs.Outside.{Outside, DiskRun, MakesAtMost, MakesCalls, MakesJust}
use Rattle.frame_journal.specs.Group.{IsGroup}
use Rattle.outside.proofs.CallCounts.{most_more}
use Rattle.outside.proofs.CallSteps.{moments_none, run_none, run_then}
use Rattle.sync_rules.specs.declared.entries.Entry.{Entry}
use Rattle.sync_rules.specs.Clients.{Meaning}
use Rattle.sync_rules.specs.Facts.{Facts, after_batches}
use Rattle.sync_rules.specs.Legal.{AllSettling, Allowed, GoesOn}
use Rattle.sync_rules.proofs.Settling.{after_batches-append, goes_on_both}
use Rattle.sync_rules.proofs.WorkLaws.{settling_goes_on}
use Rattle.sync_store.specs.declared.fault.StoreFault.{StoreFault}
use Rattle.sync_store.specs.declared.fault.StoreFault.TheVariants as fault
use Rattle.entry_codec.specs.Standing.{room_of}
use Rattle.sync_store.specs.Store.{StoreValue, HasNumbers, IsStore, counts_to, format_meant}
use Rattle.sync_store.specs.Store.{written_in}
use Rattle.sync_store.specs.Commits.{AnswersCommit, KeepsStore, UnaskedDisk, needed}
use Rattle.sync_store.specs.Fitting.{FitsFiles, ImagesStand}
use Rattle.sync_store.specs.Ready.{IsReady}
use Rattle.sync_store.specs.Appending.{AppendsFor}
use Rattle.sync_store.specs.Gathering.{SettlesOut}
use Rattle.sync_store.specs.Moments.{RunsCommit, IsBetween, JournalMoment, groups_for}
use Rattle.sync_store.specs.Runs.{ExtendsSo, HasExtended, LeadsBy, RunsBy, committed_by}
use Rattle.sync_store.specs.Settling.{HasSettled, SettlesSo}
use Rattle.sync_store.proofs.FitSteps.{IsSame, fits_same, true≢false}
use Rattle.sync_store.proofs.GroupCounts.{few_groups}
use Rattle.sync_store.proofs.Growth.{ready_same}
use Rattle.sync_store.proofs.SettleSteps.{calls_closed, calls_none, calls_one, calls_runs}
use Rattle.sync_store.proofs.SettleSteps.{leads_one, leads_one_closed, leads_then}

-- ---- none

same_store : (s new : StoreValue) → KeepsStore s new → IsSame s new
same_store s new stays =
    record {
      facts = stays.facts;
      file = stays.file;
      format = stays.format;
      generation = stays.generation;
      end = stays.end;
      waiting = stays.waiting;
    }

-- a store that all is as before of keeps what it kept
store_back : (s new : StoreValue) → KeepsStore s new → IsStore new → IsStore s
store_back s new stays store = record {
  waits = subst IsGroup stays.waiting store.waits;
  limited = omega (arith, stays.limit, store.limited);
  roomy =
      omega (
        arith,
        stays.end,
        ap (λ (f : Facts). room_of (written_in new) f) stays.facts,
        ap (λ n. room_of (format_meant n) s.state.facts) stays.format,
        store.roomy,
      );
  numbers =
      subst (λ (f : Facts). HasNumbers f (counts_to (written_in s) s.end)) stays.facts
      (subst (λ (n : ℕ). HasNumbers new.state.facts (counts_to (format_meant n) s.end)) stays.format
      (subst (λ (n : ℕ). HasNumbers new.state.facts (counts_to (written_in new) n)) stays.end
      store.numbers));
}

-- no call was made of the disk
pub runs_nothing : ImagesStand → (clients : Meaning) (s new : StoreValue) (o : Outside) → IsStore s
    → KeepsStore s new → (r : RunsBy clients s new o o []) × (r.groups ≡ 0)
runs_nothing images clients s new o store stays = (
  record {
    goes_on = tt;
    facts = λ still. stays.facts;
    file = stays.file;
    format = stays.format;
    generation = stays.generation;
    limit = stays.limit;
    run = run_none o;
    leads = λ two told j fits. record {
      moments =
          moments_none o (JournalMoment clients (IsBetween j []) (sent_of o.links.told))
          (λ m w.
          let now = o.now_is two m told w in
          record {
            whole = j;
            has = record { front = []; rest = []; parts = refl; is = sym (append-nil j) };
            stands_for = images clients s j two m.files fits store.roomy now.image;
            nothing_sent = now.sent;
          });
      ends = λ still two' told'.
          let one : two ≡ two' = cc in (
            j,
            sym (append-nil j),
            subst (λ (t : Two File). FitsFiles clients new j t) one
                (fits_same clients s new j two fits (same_store s new stays)),
          );
    };
    groups = 0;
    few = omega arith;
    calls = calls_none s new o stays.end stays.closed;
  },
  refl,
)

pub runs_none : ImagesStand → (clients : Meaning) (s new : StoreValue) (o : Outside) → IsStore s
    → KeepsStore s new → RunsBy clients s new o o []
runs_none images clients s new o store stays = (runs_nothing images clients s new o store stays).0

-- ---- one commit

-- a batch was committed
runs_committed : (clients : Meaning) (s new : StoreValue) (batch : List Entry) (u : Unit {0})
    (o o' : Outside) → Allowed clients s.state.facts batch → AnswersCommit s new batch (Ok u)
    → DiskRun o o' → MakesJust 4 o o' → AppendsFor s new o o'
    → ((two : Two File) → o.files ≡ Some two → (j : List (List Entry)) → FitsFiles clients s j two
    → RunsCommit clients batch (Ok u) new o o' j) → RunsBy clients s new o o' (batch ∷ [])
runs_committed clients s new batch u o o' allowed commits run made appends adds = record {
  goes_on = (allowed, tt);
  facts = λ still. commits.2.facts;
  file = commits.2.file;
  format = commits.2.format;
  generation = commits.2.generation;
  limit = commits.2.limit;
  run = run;
  leads = λ two told j fits. leads_one clients j batch new u o o' (adds two told j fits);
  groups = 1;
  few = omega arith;
  calls = calls_one s new o o' made appends;
}

-- the disk failed
runs_broken : (clients : Meaning) (s new : StoreValue) (batch : List Entry) (o o' : Outside)
    → Allowed clients s.state.facts batch → AnswersCommit s new batch (Err fault.DiskFault)
    → DiskRun o o' → MakesAtMost 4 o o' → AppendsFor s new o o'
    → ((two : Two File) → o.files ≡ Some two → (j : List (List Entry)) → FitsFiles clients s j two
    → RunsCommit clients batch (Err fault.DiskFault) new o o' j)
    → RunsBy clients s new o o' (batch ∷ [])
runs_broken clients s new batch o o' allowed commits run made appends adds = record {
  goes_on = (allowed, tt);
  facts = λ still. true≢false new.closed commits.2.closed still;
  file = commits.2.file;
  format = commits.2.format;
  generation = commits.2.generation;
  limit = commits.2.limit;
  run = run;
  leads = λ two told j fits.
      leads_one_closed clients j batch new fault.DiskFault o o' (adds two told j fits)
      commits.2.closed;
  groups = 1;
  few = omega arith;
  calls = calls_closed s new o o' commits.2.closed made appends;
}

-- A commit, whatever it answered: `tells` says what a disk tells, `d` and `d'` are the disk before
-- and after.
pub runs_commit : ImagesStand → (clients : Meaning) (s new : StoreValue) (batch : List Entry)
    (result : Result (Unit {0}) StoreFault) (D : Type 0) (tells : D → Outside) (d d' : D)
    → IsStore new
    → s.closed ≡ false → Allowed clients s.state.facts batch → AnswersCommit s new batch result
    → UnaskedDisk result d d' → DiskRun (tells d) (tells d')
    → MakesCalls 4 result (tells d) (tells d') → AppendsFor s new (tells d) (tells d')
    → ((two : Two File) → (tells d).files ≡ Some two → (j : List (List Entry))
    → FitsFiles clients s j two → RunsCommit clients batch result new (tells d) (tells d') j)
    → RunsBy clients s new (tells d) (tells d') (committed_by batch result)
runs_commit images clients s new batch (Ok u) D tells d d' store opened allowed commits unasked run
    made appends adds =
    runs_committed clients s new batch u (tells d) (tells d') allowed commits run made.just appends adds
runs_commit images clients s new batch (Err fault.DiskFault) D tells d d' store opened allowed
    commits unasked run made appends adds =
    runs_broken clients s new batch (tells d) (tells d') allowed commits run made.most appends adds
runs_commit images clients s new batch (Err fault.Closed) D tells d d' store opened allowed commits
    unasked run made appends adds = true≢false s.closed commits.0 opened
runs_commit images clients s new batch (Err fault.Full) D tells d d' store opened allowed commits
    unasked run made appends adds =
    subst (λ (x : D). RunsBy clients s new (tells d) (tells x) []) (sym unasked)
    (runs_none images clients s new (tells d) (store_back s new commits.2 store) commits.2)
runs_commit images clients s new batch (Err fault.Memory) D tells d d' store opened allowed commits
    unasked run made appends adds =
    subst (λ (x : D). RunsBy clients s new (tells d) (tells x) []) (sym unasked)
    (runs_none images clients s new (tells d) (store_back s new commits.2 store) commits.2)

-- ---- one settling

pub runs_settled : (clients : Meaning) (s new : StoreValue) (result : Result (Unit {0}) StoreFault)
    (o o' : Outside) (has : HasSettled clients s new result o o') → DiskRun o o'
    → RunsBy clients s new o o' has.more
runs_settled clients s new result o o' has run = record {
  goes_on = settling_goes_on clients s.state.facts has.more has.comes.settling;
  facts = λ still. has.comes.facts;
  file = has.comes.file;
  format = has.comes.format;
  generation = has.comes.generation;
  limit = has.comes.limit;
  run = run;
  leads = has.comes.leads;
  groups = groups_for (written_in s) 0 0 has.more;
  few = few_groups (written_in s) has.more;
  calls = has.comes.calls;
}

-- ---- one run behind another

pub runs_both : (clients : Meaning) (s0 s1 s2 : StoreValue) (o0 o1 o2 : Outside)
    (xs ys : List (List Entry)) → s1.closed ≡ false → (first : RunsBy clients s0 s1 o0 o1 xs)
    (second : RunsBy clients s1 s2 o1 o2 ys)
    → (r : RunsBy clients s0 s2 o0 o2 (xs ++ ys)) × (r.groups ≡ first.groups + second.groups)
runs_both clients s0 s1 s2 o0 o1 o2 xs ys still first second =
    let f = s0.state.facts in (
      record {
        goes_on =
            goes_on_both clients f xs ys first.goes_on
            (subst (λ (g : Facts). GoesOn clients g ys) (first.facts still) second.goes_on);
        facts = λ opened. second.facts opened
            ∙ ap (λ (g : Facts). after_batches g ys) (first.facts still)
            ∙ sym (after_batches-append f xs ys);
        file = second.file ∙ first.file;
        format = second.format ∙ first.format;
        generation = second.generation ∙ first.generation;
        limit = second.limit ∙ first.limit;
        run = run_then o0 o1 o2 first.run second.run;
        leads = leads_then clients s0 s1 s2 o0 o1 o2 xs ys still first.run first.leads second.leads;
        groups = first.groups + second.groups;
        few = omega (arith, first.few, second.few, length-append xs ys);
        calls = calls_runs s0 s1 s2 o0 o1 o2 first.groups second.groups first.file still first.calls
            second.calls;
      },
      refl,
    )

pub runs_then : (clients : Meaning) (s0 s1 s2 : StoreValue) (o0 o1 o2 : Outside)
    (xs ys : List (List Entry)) → s1.closed ≡ false → RunsBy clients s0 s1 o0 o1 xs
    → RunsBy clients s1 s2 o1 o2 ys
    → RunsBy clients s0 s2 o0 o2 (xs ++ ys)
runs_then clients s0 s1 s2 o0 o1 o2 xs ys still first second =
    (runs_both clients s0 s1 s2 o0 o1 o2 xs ys still first second).0

-- what one run leads to behind another
pub leads_both : (clients : Meaning) (s0 s1 s2 : StoreValue) (o0 o1 o2 : Outside)
    (xs ys : List (List Entry)) → s1.closed ≡ false → DiskRun o0 o1 → LeadsBy clients s0 s1 o0 o1 xs
    → LeadsBy clients s1 s2 o1 o2 ys → LeadsBy clients s0 s2 o0 o2 (xs ++ ys)
leads_both clients s0 s1 s2 o0 o1 o2 xs ys still run first second =
    leads_then clients s0 s1 s2 o0 o1 o2 xs ys still run first second

-- ---- a batch, and settling behind it

failed_so : (clients : Meaning) (s new : StoreValue) (batch : List Entry) (e : StoreFault)
    → s.closed ≡ false → AnswersCommit s new batch (Err e) → (e ≡ fault.DiskFault → ⊥)
    → ExtendsSo clients s new batch [] (Err e)
failed_so clients s new batch fault.Closed opened commits other =
    true≢false s.closed commits.0 opened
failed_so clients s new batch fault.Full opened commits other = (commits.1, refl, commits.2)
failed_so clients s new batch fault.Memory opened commits other =
    (commits.2.closed ∙ commits.0, commits.1)
failed_so clients s new batch fault.DiskFault opened commits other = absurd (other refl)

kept_by : (s new : StoreValue) (batch : List Entry) (e : StoreFault) → s.closed ≡ false
    → AnswersCommit s new batch (Err e) → (e ≡ fault.DiskFault → ⊥) → KeepsStore s new
kept_by s new batch fault.Closed opened commits other = commits.1
kept_by s new batch fault.Full opened commits other = commits.2
kept_by s new batch fault.Memory opened commits other = commits.2
kept_by s new batch fault.DiskFault opened commits other = absurd (other refl)

-- the batch was not gathered
pub extends_failed : ImagesStand → (clients : Meaning) (s new : StoreValue) (batch : List Entry)
    (e : StoreFault) (o : Outside) → IsStore s → s.closed ≡ false → AnswersCommit s new batch (Err e)
    → (e ≡ fault.DiskFault → ⊥) → HasExtended clients s new batch (Err e) o o
extends_failed images clients s new batch e o store opened commits other =
    let none = runs_nothing images clients s new o store (kept_by s new batch e opened commits other) in
    record {
      more = [];
      runs = none.0;
      adds = tt;
      counted = none.1;
      answer = failed_so clients s new batch e opened commits other;
    }

settled_so : (clients : Meaning) (s new : StoreValue) (batch : List Entry)
    (rest : List (List Entry)) (result : Result (Unit {0}) StoreFault) → needed s batch ≤ s.limit
    → SettlesSo clients new result
    → ExtendsSo clients s new batch (batch ∷ rest) result
settled_so clients s new batch rest (Ok u) roomy so = (so.0, roomy, (λ none. cc), so.1)
settled_so clients s new batch rest (Err fault.Closed) roomy so = so
settled_so clients s new batch rest (Err fault.Full) roomy so = absurd so
settled_so clients s new batch rest (Err fault.Memory) roomy so = (so, roomy)
settled_so clients s new batch rest (Err fault.DiskFault) roomy so = (so, roomy)

-- the batch was gathered, and the store settled as far as its answer says
pub extends_settled : (clients : Meaning) (s mid new : StoreValue) (batch : List Entry)
    (u : Unit {0}) (result : Result (Unit {0}) StoreFault) (o o' : Outside)
    → AnswersCommit s mid batch (Ok u)
    → SettlesOut clients s mid new (batch ∷ []) result o o'
    → HasExtended clients s new batch result o o'
extends_settled clients s mid new batch u result o o' commits out = record {
  more = batch ∷ out.more;
  runs = out.added.runs;
  adds = (
    refl,
    subst (λ (f : Facts). AllSettling clients f out.more) commits.2.facts out.steps.settling,
    out.steps.filled,
  );
  counted = out.added.counted;
  answer = settled_so clients s new batch out.more result commits.1 out.answer;
}

-- a store of which a batch was not gathered is ready as before
pub ready_failed : (clients : Meaning) (s new : StoreValue) (batch : List Entry) (e : StoreFault)
    (files : Option (Two File)) → s.closed ≡ false → AnswersCommit s new batch (Err e)
    → (e ≡ fault.DiskFault → ⊥) → IsReady clients s files → IsReady clients new files
ready_failed clients s new batch e files opened commits other ready =
    let stays = kept_by s new batch e opened commits other in
    ready_same clients s new files ready (same_store s new stays) stays.answers
    (stays.closed ∙ opened)

-- settling is never full
pub settled_full : (clients : Meaning) (new : StoreValue) (result : Result (Unit {0}) StoreFault)
    → SettlesSo clients new result → IsErrOf result fault.Full → ⊥
settled_full clients new (Ok u) answer full = cc
settled_full clients new (Err fault.Full) answer full = answer
settled_full clients new (Err fault.Closed) answer full = answer
settled_full clients new (Err fault.Memory) answer full = cc
settled_full clients new (Err fault.DiskFault) answer full = cc

-- a count that rose behind a run rose
pub rose_later : (a b c : ℕ) → a ≤ b → CountRose b c → CountRose a c
rose_later a b c later rose = omega arith

-- and one that rose before it
pub rose_still : (a b c : ℕ) → CountRose a b → b ≤ c → CountRose a c
rose_still a b c rose later = omega arith

-- ---- how many calls of the disk

-- no more than four for each batch
pub runs_within : (clients : Meaning) (s s' : StoreValue) (o o' : Outside) (more : List (List Entry))
    → RunsBy clients s s' o o' more → MakesAtMost (4 * length more) o o'
runs_within clients s s' o o' more runs =
    most_more (4 * runs.groups) (4 * length more) o o' (omega (arith, runs.few)) runs.calls.most

pub settled_within : (clients : Meaning) (s s' : StoreValue) (result : Result (Unit {0}) StoreFault)
    (o o' : Outside) (has : HasSettled clients s s' result o o')
    → MakesAtMost (4 * length has.more) o o'
settled_within clients s s' result o o' has =
    most_more (4 * groups_for (written_in s) 0 0 has.more) (4 * length has.more) o o'
    (omega (arith, few_groups (written_in s) has.more)) has.comes.calls.most
