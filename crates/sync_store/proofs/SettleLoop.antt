-- Settling behind batches that wait, one batch after another.
use Rattle.std.proofs.Common.{◌≡◌, true, false, List, [], ◌++◌, Result, Ok, Err}
use Rattle.std.proofs.Common.{refl, sym, ap, ◌∙◌, subst, inl, inr, arith, append-nil, append_assoc}
use Rattle.std.specs.List.{AllByRecursion}
use Rattle.outside.specs.Outside.{Outside}
use Rattle.journal_state.specs.Whole.{StateValue}
use Rattle.sync_rules.specs.declared.entries.Entry.{Entry}
use Rattle.sync_rules.specs.Clients.{Meaning}
use Rattle.sync_rules.specs.Facts.{Facts, after_batches}
use Rattle.sync_rules.specs.Left.{left_of}
use Rattle.sync_rules.proofs.LeftLaws.{left_few}
use Rattle.sync_rules.specs.Legal.{AllSettling}
use Rattle.sync_rules.specs.Steps.{IsSettled}
use Rattle.sync_rules.proofs.Settling.{after_batches-append}
use Rattle.entry_codec.proofs.Growing.{settling-append}
use Rattle.sync_store.specs.declared.fault.StoreFault.{StoreFault}
use Rattle.sync_store.specs.declared.fault.StoreFault.TheVariants as fault
use Rattle.sync_store.specs.Groups.{HasGathered, IsGathering}
use Rattle.sync_store.specs.Appending.{CallsFor}
use Rattle.sync_store.specs.Store.{IsStore, StoreValue, format_meant, written_in}
use Rattle.sync_store.specs.Fitting.{ImagesStand}
use Rattle.sync_store.specs.Gathering.{AddsBehind, GathersBehind, GathersSo, GathersSteps, IsAdded}
use Rattle.sync_store.specs.Gathering.{IsOneBatch, KeepsJournal, MakesRoom, SettlesBehind, SettlesOut}
use Rattle.sync_store.specs.Gathering.{SettlesSoFar, StepsOn}
use Rattle.sync_store.specs.Settling.{HasSettled, IsFullBatch, SettlesSo, settling_len}
use Rattle.sync_store.specs.Settling.{steps_in}
use Rattle.sync_store.proofs.FitSteps.{true≢false}
use Rattle.sync_store.proofs.FormatLaws.{room_split}
use Rattle.sync_store.proofs.Behind.{adds_for_room, behind_adds, behind_joined, behind_none}
use Rattle.sync_store.proofs.Behind.{behind_then}
use Rattle.sync_store.proofs.SettleSteps.{settling_len-append}
use Rattle.sync_store.proofs.Steps.{all-append, batches_lower, filled_push}

full_so_far : (clients : Meaning) (s : StoreValue) (more : List (List Entry))
    → (IsSettled clients s.state.facts → ⊥) → IsOneBatch clients s more
    → AllByRecursion IsFullBatch more
full_so_far clients s more unsettled (inl full) = full
full_so_far clients s more unsettled (inr settled) = absurd (unsettled settled)

each_then : (clients : Meaning) (s : StoreValue) (xs ys : List (List Entry))
    → AllByRecursion IsFullBatch xs → IsOneBatch clients s ys → IsOneBatch clients s (xs ++ ys)
each_then clients s xs ys full (inl all) = inl (all-append IsFullBatch xs ys full all)
each_then clients s xs ys full (inr settled) = inr settled

-- settling was gathered so far, each batch of it full or no step left
pub record SettlesWhile (clients : Meaning) (old new : StoreValue) (o o' : Outside) : Type 0 where
  pub more : List (List Entry)
  pub steps : StepsOn clients old new more
  pub format : new.format ≡ old.format
  pub each : IsOneBatch clients new more
  pub behind : GathersBehind clients old new o o' more

pub while_begins : ImagesStand → (clients : Meaning) (s : StoreValue) (o : Outside)
    → SettlesWhile clients s s o o
while_begins images clients s o = record {
  more = [];
  steps = record { settling = tt; facts = refl; filled = tt; end = λ still. omega arith };
  format = refl;
  each = inl tt;
  behind = behind_none clients images s o;
}

-- the steps so far, and those of one batch more; room was made between them
steps_then : (clients : Meaning) (s0 s1 s2 s3 : StoreValue) (xs : List (List Entry))
    (result : Result (Unit {0}) StoreFault) → StepsOn clients s0 s1 xs → s1.closed ≡ false
    → s1.format ≡ s0.format
    → (IsSettled clients s1.state.facts → ⊥) → IsOneBatch clients s1 xs → KeepsJournal s1 s2
    → (more : GathersSteps clients s2 s3 result) → StepsOn clients s0 s3 (xs ++ more.more)
steps_then clients s0 s1 s2 s3 xs result steps still format unsettled each same more =
    let f = s0.state.facts in
    let facts : s2.state.facts ≡ after_batches f xs =
    ap (λ (v : StateValue). v.facts) same.state ∙ steps.facts in
    let kind : settling_len (written_in s2) more.more ≡ settling_len (written_in s0) more.more =
    ap (λ n. settling_len (format_meant n) more.more) (same.format ∙ format) in
    record {
      settling =
          settling-append clients f xs more.more steps.settling
          (subst (λ (g : Facts). AllSettling clients g more.more) facts more.settling);
      facts = more.facts ∙ ap (λ (g : Facts). after_batches g more.more) facts
          ∙ sym (after_batches-append f xs more.more);
      filled = filled_push xs more.more (full_so_far clients s1 xs unsettled each) more.few;
      end = λ later.
          omega (
            arith,
            steps.end still,
            same.end,
            more.end,
            kind,
            settling_len-append (written_in s0) xs more.more,
          );
    }

-- one batch joined what came so far, once room was made
batch_behind : ImagesStand → (clients : Meaning) (s0 s1 s2 s3 : StoreValue)
    (result : Result (Unit {0}) StoreFault) (o0 o1 o2 : Outside)
    (w : SettlesWhile clients s0 s1 o0 o1) → GathersBehind clients s1 s2 o1 o2 []
    → (steps : GathersSteps clients s2 s3 result)
    → GathersBehind clients s0 s3 o0 o2 (w.more ++ steps.more)
batch_behind images clients s0 s1 s2 s3 result o0 o1 o2 w room steps =
    behind_then clients s0 s2 s3 o0 o2 o2 w.more steps.more
    (subst (GathersBehind clients s0 s2 o0 o2) (append-nil w.more)
    (behind_then clients s0 s1 s2 o0 o1 o2 w.more [] w.behind room))
    (behind_joined clients images s2 s3 o2 steps.more steps.gathers)

-- one batch more
pub while_more : ImagesStand → (clients : Meaning) (s0 s1 s2 s3 : StoreValue)
    (o0 o1 o2 : Outside) (u : Unit {0}) (w : SettlesWhile clients s0 s1 o0 o1)
    → s1.closed ≡ false → (IsSettled clients s1.state.facts → ⊥) → KeepsJournal s1 s2
    → GathersBehind clients s1 s2 o1 o2 [] → GathersSteps clients s2 s3 (Ok u)
    → SettlesWhile clients s0 s3 o0 o2
while_more images clients s0 s1 s2 s3 o0 o1 o2 u w still unsettled same room steps = record {
  more = w.more ++ steps.more;
  steps =
      steps_then clients s0 s1 s2 s3 w.more (Ok u) w.steps still w.format unsettled w.each same
      steps;
  format = steps.format ∙ same.format ∙ w.format;
  each = each_then clients s3 w.more steps.more
      (full_so_far clients s1 w.more unsettled w.each) steps.answer.1;
  behind = batch_behind images clients s0 s1 s2 s3 (Ok u) o0 o1 o2 w room steps;
}

memory_only : (clients : Meaning) (s0 s1 : StoreValue) (more : List (List Entry)) (e : StoreFault)
    (T : Type 0) → GathersSo clients s0 s1 more (Err e) → (e ≡ fault.Memory → T) → T
memory_only clients s0 s1 more fault.Memory T so give = give refl
memory_only clients s0 s1 more fault.Closed T so give = absurd so
memory_only clients s0 s1 more fault.Full T so give = absurd so
memory_only clients s0 s1 more fault.DiskFault T so give = absurd so

-- memory was wanting
pub while_starved : ImagesStand → (clients : Meaning) (s0 s1 s2 s3 : StoreValue)
    (o0 o1 o2 : Outside) (e : StoreFault)
    (w : SettlesWhile clients s0 s1 o0 o1) → s1.closed ≡ false
    → (IsSettled clients s1.state.facts → ⊥) → KeepsJournal s1 s2
    → GathersBehind clients s1 s2 o1 o2 [] → GathersSteps clients s2 s3 (Err e)
    → SettlesBehind clients s0 s3 (Err e) o0 o2
while_starved images clients s0 s1 s2 s3 o0 o1 o2 e w still unsettled same room steps =
    let so : SettlesSoFar clients s0 s3 (w.more ++ steps.more) (Err fault.Memory) o0 o2 =
    (steps.closed, batch_behind images clients s0 s1 s2 s3 (Err e) o0 o1 o2 w room steps) in
    record {
      more = w.more ++ steps.more;
      steps =
          steps_then clients s0 s1 s2 s3 w.more (Err e) w.steps still w.format unsettled w.each same
          steps;
      answer =
          memory_only clients s2 s3 steps.more e
          (SettlesSoFar clients s0 s3 (w.more ++ steps.more) (Err e) o0 o2)
          steps.answer
          (λ is. subst (λ (x : StoreFault).
          SettlesSoFar clients s0 s3 (w.more ++ steps.more) (Err x) o0 o2) (sym is)
          so);
    }

steps_kept : (clients : Meaning) (s0 s1 s2 : StoreValue) (xs : List (List Entry))
    → StepsOn clients s0 s1 xs → s1.closed ≡ false → KeepsJournal s1 s2 → StepsOn clients s0 s2 xs
steps_kept clients s0 s1 s2 xs steps still same = record {
  settling = steps.settling;
  facts = ap (λ (v : StateValue). v.facts) same.state ∙ steps.facts;
  filled = steps.filled;
  end = λ later. same.end ∙ steps.end still;
}

-- the disk failed where room was to be made
pub while_broken : (clients : Meaning) (s0 s1 s2 : StoreValue)
    (o0 o1 o2 : Outside) (w : SettlesWhile clients s0 s1 o0 o1) → s1.closed ≡ false
    → KeepsJournal s1 s2 → s2.closed ≡ true → AddsBehind clients s1 s2 o1 o2 []
    → SettlesBehind clients s0 s2 (Err fault.DiskFault) o0 o2
while_broken clients s0 s1 s2 o0 o1 o2 w still same closed added = record {
  more = w.more;
  steps = steps_kept clients s0 s1 s2 w.more w.steps still same;
  answer = (
    closed,
    subst (AddsBehind clients s0 s2 o0 o2) (append-nil w.more)
        (behind_adds clients s0 s1 s2 o0 o1 o2 w.more [] w.behind added),
  );
}

-- no step is left
pub while_ends : (clients : Meaning) (s0 s1 : StoreValue)
    (o0 o1 : Outside) (u : Unit {0}) (w : SettlesWhile clients s0 s1 o0 o1)
    → s1.closed ≡ false → IsSettled clients s1.state.facts
    → SettlesBehind clients s0 s1 (Ok u) o0 o1
while_ends clients s0 s1 o0 o1 u w still settled = record {
  more = w.more;
  steps = w.steps;
  answer = (still, w.behind, settled);
}

-- ---- and all is added

-- where the store is closed, all was added as far as the disk had it
closed_so : (clients : Meaning) (old new : StoreValue) (more : List (List Entry))
    (result : Result (Unit {0}) StoreFault) (o o' : Outside) → new.closed ≡ true
    → SettlesSoFar clients old new more result o o'
    → AddsBehind clients old new o o' more × SettlesSo clients new result
closed_so clients old new more (Ok u) o o' closed so = true≢false new.closed closed so.0
closed_so clients old new more (Err fault.Memory) o o' closed so =
    true≢false new.closed closed so.0
closed_so clients old new more (Err fault.DiskFault) o o' closed so = (so.1, closed)
closed_so clients old new more (Err fault.Closed) o o' closed so = absurd so
closed_so clients old new more (Err fault.Full) o o' closed so = absurd so

pub out_closed : (clients : Meaning) (before s0 new : StoreValue) (waits : List (List Entry))
    (result : Result (Unit {0}) StoreFault) (o o' : Outside) → new.closed ≡ true
    → IsStore before → HasGathered clients before s0 waits
    → SettlesBehind clients s0 new result o o'
    → SettlesOut clients before s0 new waits result o o'
out_closed clients before s0 new waits result o o' closed kept g on =
    let so = closed_so clients s0 new on.more result o o' closed on.answer in
    record {
      more = on.more;
      steps = on.steps;
      added = so.0.on before kept waits g;
      answer = so.1;
    }

-- where it is not, some wait
pub open_so : (clients : Meaning) (old new : StoreValue) (more : List (List Entry))
    (result : Result (Unit {0}) StoreFault) (o o' : Outside) → new.closed ≡ false
    → SettlesSoFar clients old new more result o o' → GathersBehind clients old new o o' more
open_so clients old new more (Ok u) o o' still so = so.1
open_so clients old new more (Err fault.Memory) o o' still so = so.1
open_so clients old new more (Err fault.DiskFault) o o' still so =
    true≢false new.closed so.0 still
open_so clients old new more (Err fault.Closed) o o' still so = absurd so
open_so clients old new more (Err fault.Full) o o' still so = absurd so

answer_so : (clients : Meaning) (old s new : StoreValue) (more : List (List Entry))
    (result : Result (Unit {0}) StoreFault) (o o' : Outside) → s.closed ≡ false
    → SettlesSoFar clients old s more result o o' → KeepsJournal s new → new.closed ≡ false
    → SettlesSo clients new result
answer_so clients old s new more (Ok u) o o' was so same still =
    (still, subst (λ (v : StateValue). IsSettled clients v.facts) (sym same.state) so.2)
answer_so clients old s new more (Err fault.Memory) o o' was so same still = still
answer_so clients old s new more (Err fault.DiskFault) o o' was so same still =
    true≢false s.closed so.0 was
answer_so clients old s new more (Err fault.Closed) o o' was so same still = absurd so
answer_so clients old s new more (Err fault.Full) o o' was so same still = absurd so

-- what waited was added, as far as the disk had it
all_out : (clients : Meaning) (before s0 s new : StoreValue) (waits more : List (List Entry))
    (o o1 o2 : Outside) → IsStore before → HasGathered clients before s0 waits
    → GathersBehind clients s0 s o o1 more → AddsBehind clients s new o1 o2 []
    → IsAdded clients before new o o2 (waits ++ more)
all_out clients before s0 s new waits more o o1 o2 kept g behind adds =
    subst (λ (l : List (List Entry)). IsAdded clients before new o o2 (waits ++ l))
    (append-nil more)
    ((behind_adds clients s0 s new o o1 o2 more [] behind adds).on before kept waits g)

pub out_added : (clients : Meaning) (before s0 s new : StoreValue) (waits : List (List Entry))
    (result : Result (Unit {0}) StoreFault) (o o1 o2 : Outside) → s.closed ≡ false
    → IsStore before → HasGathered clients before s0 waits
    → SettlesBehind clients s0 s result o o1 → KeepsJournal s new
    → AddsBehind clients s new o1 o2 [] → new.closed ≡ false
    → SettlesOut clients before s0 new waits result o o2
out_added clients before s0 s new waits result o o1 o2 was kept g on same adds still = record {
  more = on.more;
  steps = steps_kept clients s0 s new on.more on.steps was same;
  added = all_out clients before s0 s new waits on.more o o1 o2 kept g
      (open_so clients s0 s on.more result o o1 was on.answer) adds;
  answer = answer_so clients s0 s new on.more result o o1 was on.answer same still;
}

-- the disk failed
pub out_broken : (clients : Meaning) (before s0 s new : StoreValue) (waits : List (List Entry))
    (result : Result (Unit {0}) StoreFault) (o o1 o2 : Outside) → s.closed ≡ false
    → IsStore before → HasGathered clients before s0 waits
    → SettlesBehind clients s0 s result o o1 → KeepsJournal s new
    → AddsBehind clients s new o1 o2 [] → new.closed ≡ true
    → SettlesOut clients before s0 new waits (Err fault.DiskFault) o o2
out_broken clients before s0 s new waits result o o1 o2 was kept g on same adds closed = record {
  more = on.more;
  steps = steps_kept clients s0 s new on.more on.steps was same;
  added = all_out clients before s0 s new waits on.more o o1 o2 kept g
      (open_so clients s0 s on.more result o o1 was on.answer) adds;
  answer = closed;
}

-- ---- a store that is settled

pub settled_out : (clients : Meaning) (s new : StoreValue) (result : Result (Unit {0}) StoreFault)
    (o o' : Outside) → SettlesOut clients s s new [] result o o'
    → HasSettled clients s new result o o'
settled_out clients s new result o o' out =
    let more = out.more in
    let runs = out.added.runs in
    let fewer = batches_lower clients s.state.facts more out.steps.settling in
    let same : left_of new.state.facts ≡ left_of (after_batches s.state.facts more) =
    ap left_of out.steps.facts in
    record {
      more = more;
      comes = record {
        settling = out.steps.settling;
        facts = out.steps.facts;
        file = runs.file;
        format = runs.format;
        generation = runs.generation;
        limit = runs.limit;
        end = out.steps.end;
        leads = runs.leads;
        calls = subst (λ n. CallsFor n s new o o') out.added.counted runs.calls;
      };
      filled = out.steps.filled;
      room = room_split (written_in s) (left_of new.state.facts) (steps_in more)
          (left_of s.state.facts) (omega (arith, fewer, same));
      few = omega (arith, fewer, left_few s.state.facts);
      answer = out.answer;
    }

-- room could not be made
room_is : (clients : Meaning) (before s : StoreValue) (waits : List (List Entry))
    (e : StoreFault) (o o' : Outside) → MakesRoom clients before s waits (Err e) o o'
    → (e ≡ fault.DiskFault) × (s.closed ≡ true)
room_is clients before s waits fault.DiskFault o o' made = (refl, made.0)
room_is clients before s waits fault.Closed o o' made = absurd made
room_is clients before s waits fault.Full o o' made = absurd made
room_is clients before s waits fault.Memory o o' made = absurd made

pub room_failed : (clients : Meaning) (s new : StoreValue) (e : StoreFault) (o o' : Outside)
    → ((before : StoreValue) → IsStore before → (waits : List (List Entry))
    → HasGathered clients before s waits → MakesRoom clients before new waits (Err e) o o')
    → IsGathering clients s o.files
    → (e ≡ fault.DiskFault) × (new.closed ≡ true) × AddsBehind clients s new o o' []
room_failed clients s new e o o' makes w =
    let is = room_is clients w.before new w.more e o o' (makes w.before w.kept w.more w.gathered) in (
      is.0,
      is.1,
      adds_for_room clients s new o o' (λ before kept waits g.
          subst (λ (x : StoreFault). MakesRoom clients before new waits (Err x) o o') is.0
          (makes before kept waits g)),
    )
