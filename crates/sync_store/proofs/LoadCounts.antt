-- How many calls of the disk a load makes.
use Rattle.std.proofs.Common.{◌≡◌, ℕ, ◌+◌, ◌-◌, ◌*◌, ◌≤◌, Bool, true, false, List, length, refl}
use Rattle.std.proofs.Common.{sym, ap, subst, inl, inr, ◌∙◌, arith, length-append}
use Rattle.std.specs.Prelude.{Option, None, Some, Result, Ok, Err}
use Rattle.outside.specs.Calls.{Calls, CallsGoOn, ChangesNone}
use Rattle.outside.specs.Disk.{RelatesTold}
use Rattle.outside.specs.Made.{BreaksIn, DoesAll, MadeAll}
use Rattle.outside.specs.Files.{Two, File, file_of, read_files}
use Rattle.outside.specs.Outside.{MakesAtMost, MakesJust, OnlyReads, Outside}
use Rattle.outside.proofs.CallCounts.{just_then, most_more, most_then, within}
use Rattle.frame_journal.specs.Journal.{JournalValue}
use Rattle.frame_journal.specs.Next.{FrameCalls, MovesReader, NextFrame}
use Rattle.sync_rules.specs.declared.entries.Entry.{Entry}
use Rattle.sync_rules.specs.Clients.{Meaning}
use Rattle.entry_codec.specs.Standing.{journal}
use Rattle.file_standing.specs.Standing.{stands}
use Rattle.journal_migration.proofs.Fronts.{gate_whole, rest_front}
use Rattle.journal_state.specs.Whole.{StateValue}
use Rattle.sync_store.specs.Cited.{StoreLaws}
use Rattle.sync_store.specs.Store.{format_meant}
use Rattle.sync_store.specs.Loading.{HasReadSome, IsAtJournalEnd, LoadsWithin, PlaysFrame}
use Rattle.sync_store.specs.Loading.{ReadsMore, ReadsWithin, TurnCalls}
use Rattle.sync_store.specs.Asking.{LoadDoes, LooksBehind, barrier_calls}
use Rattle.sync_store.specs.declared.fault.LoadFault.{LoadFault}
use Rattle.sync_store.specs.declared.fault.LoadFault.TheVariants as load
use Rattle.sync_store.proofs.LoadSteps.{more_read}

-- ---- a turn

-- a turn that failed
pub turn_failed : {E : Type 0} (e : E) (result : Result Bool E) (o o' : Outside) → result ≡ Err e
    → MakesAtMost 2 o o' → TurnCalls result o o'
turn_failed {E = E} e result o o' is most =
    subst (λ (r : Result Bool E). TurnCalls r o o') (sym is) (record { just = tt; most = most })

pub more_failed : (clients : Meaning) (files : Option (Two File)) (j j' : JournalValue)
    (s s' : StateValue) (e : LoadFault) (result : Result Bool LoadFault) → result ≡ Err e
    → ReadsMore clients files j j' s s' result
more_failed clients files j j' s s' e result is =
    subst (λ (r : Result Bool LoadFault). ReadsMore clients files j j' s s' r) (sym is) tt

pub turn_calls : {E : Type 0} (more known : Bool) (o o' : Outside) → more ≡ known
    → FrameCalls more o o' → MakesAtMost 2 o o' → TurnCalls {E = E} (Ok known) o o'
turn_calls more known o o' is calls most =
    record { just = subst (λ b. FrameCalls b o o') is calls; most = most }

pub none_more : (clients : Meaning) (files : Option (Two File)) (j j' : JournalValue)
    (s : StateValue) (more : Bool) → more ≡ false → MovesReader j j' (Ok more)
    → ReadsMore clients files j j' s s (Ok false)
none_more clients files j j' s more is moves two told batches some =
    let P : Bool → Type 0 = λ b. MovesReader j j' (Ok b) in
    let same : j' ≡ j = subst P is moves in
    subst (λ (v : JournalValue). HasReadSome clients two v s batches) (sym same) some

pub one_more : StoreLaws → (clients : Meaning) (files : Option (Two File)) (j j' : JournalValue)
    (s s' : StateValue) (to : List ℕ) (u : Unit {0})
    → ((two : Two File) → files ≡ Some two → NextFrame (file_of two j.file).now j j' to)
    → PlaysFrame clients j' s s' to (Ok u) → ReadsMore clients files j j' s s' (Ok true)
one_more laws clients files j j' s s' to u next played two told batches some =
    more_read laws clients two j j' s s' to batches some (next two told) played

pub more_as : (clients : Meaning) (files : Option (Two File)) (j j' : JournalValue)
    (s s' : StateValue) (more known : Bool) → more ≡ known
    → ReadsMore clients files j j' s s' (Ok more)
    → ReadsMore clients files j j' s s' (Ok known)
more_as clients files j j' s s' more known is reads =
    subst (λ b. ReadsMore clients files j j' s s' (Ok b)) is reads

pub calls_as : {E : Type 0} (more known : Bool) (o o' : Outside) → more ≡ known → TurnCalls {E = E}
    (Ok more) o o' → FrameCalls known o o'
calls_as more known o o' is calls = subst (λ b. FrameCalls b o o') is calls.just

-- ---- so far

-- so many batches were read, by two calls each
pub record CountsSo (clients : Meaning) (o0 o : Outside) (j : JournalValue) (s : StateValue)
    (two : Two File) : Type 0 where
  pub batches : ℕ
  pub some : HasReadSome clients two j s batches
  pub made : MakesJust (2 * batches) o0 o

pub counts_more : (clients : Meaning) (o0 o o' : Outside) (j j' : JournalValue) (s s' : StateValue)
    (two : Two File) → CountsSo clients o0 o j s two → o.files ≡ Some two
    → ReadsMore clients o.files j j' s s' (Ok true) → FrameCalls true o o'
    → CountsSo clients o0 o' j' s' two
counts_more clients o0 o o' j j' s s' two so told reads calls = record {
  batches = so.batches + 1;
  some = reads two told so.batches so.some;
  made =
      let all : 2 * so.batches + 2 ≡ 2 * (so.batches + 1) = omega arith in
      subst (λ n. MakesJust n o0 o') all (just_then (2 * so.batches) 2 o0 o o' so.made calls);
}

-- it is no more than the journal has
counts_few : (clients : Meaning) (o0 o : Outside) (j : JournalValue) (s : StateValue)
    (two : Two File) (jn : List (List Entry)) → stands clients (read_files two) ≡ journal jn
    → (so : CountsSo clients o0 o j s two) → so.batches ≤ length jn
counts_few clients o0 o j s two jn stood so =
    let read = so.some.read in
    let on = rest_front clients (format_meant j.format) j.file (file_of (read_files two) j.file)
    (j.end - 1) read.done jn (sym read.front.going ∙ stood) in
    omega (arith, ap length on.1, length-append read.done on.0, so.some.counted)

-- ---- the end

pub reads_failed : {T : Type 0} (e : LoadFault) (result : Result T LoadFault) (clients : Meaning)
    (o0 o o' : Outside) (j : JournalValue) (s : StateValue) (two : Two File)
    (jn : List (List Entry))
    → result ≡ Err e → stands clients (read_files two) ≡ journal jn → CountsSo clients o0 o j s two
    → MakesAtMost 2 o o' → ReadsWithin (length jn) result o0 o'
reads_failed {T = T} e result clients o0 o o' j s two jn is stood so most =
    subst (λ (r : Result T LoadFault). ReadsWithin (length jn) r o0 o') (sym is)
    (record {
      just = tt;
      most =
          most_more (2 * so.batches + 2) (2 * length jn + 2) o0 o'
          (omega (arith, counts_few clients o0 o j s two jn stood so))
          (most_then (2 * so.batches) 2 o0 o o'
          (within (2 * so.batches) (2 * so.batches) o0 o (omega arith) so.made) most);
    })

reads_so : (result : Result (Unit {0}) LoadFault) (batches : ℕ) (o0 o' : Outside)
    → MakesJust (2 * batches + 1) o0 o' → ReadsWithin batches result o0 o'
reads_so (Ok u) batches o0 o' made =
    record {
      just = made;
      most = within (2 * batches + 1) (2 * batches + 2) o0 o' (omega arith) made;
    }
reads_so (Err e) batches o0 o' made =
    record { just = tt; most = within (2 * batches + 1) (2 * batches + 2) o0 o' (omega arith) made }

pub reads_ended : (result : Result (Unit {0}) LoadFault) (clients : Meaning) (o0 o o' : Outside)
    (j j' : JournalValue) (s s' : StateValue) (two : Two File) (jn : List (List Entry))
    → stands clients (read_files two) ≡ journal jn → CountsSo clients o0 o j s two
    → o.files ≡ Some two → ReadsMore clients o.files j j' s s' (Ok false)
    → FrameCalls false o o' → 15 ≤ j'.end
    → IsAtJournalEnd (Some two) j' → ReadsWithin (length jn) result o0 o'
reads_ended result clients o0 o o' j j' s s' two jn stood so told reads calls started at_end =
    let there = reads two told so.batches so.some in
    let read = there.read in
    let whole =
    gate_whole clients (read_files two) j'.file (format_meant j'.format) read.done jn j'.end
    (omega (arith, started)) read.front stood (at_end two refl) in
    let all : 2 * so.batches + 1 ≡ 2 * length jn + 1 =
    omega (arith, there.counted, ap length whole.0) in
    let made =
    subst (λ n. MakesJust n o0 o') all (just_then (2 * so.batches) 1 o0 o o' so.made calls) in
    reads_so result (length jn) o0 o' made

-- ---- the whole load

pub loads_failed : {T : Type 0} (e : LoadFault) (result : Result T LoadFault) (batches few : ℕ)
    (o o' : Outside) → result ≡ Err e → few ≤ 6 → MakesAtMost few o o'
    → LoadsWithin batches result o o'
loads_failed {T = T} e result batches few o o' is less most =
    subst (λ (r : Result T LoadFault). LoadsWithin batches r o o') (sym is)
    (record {
      just = tt;
      most = most_more few (2 * batches + 7) o o' (omega (arith, less)) most;
    })

pub loads_cut : {T : Type 0} (e : LoadFault) (result : Result T LoadFault)
    (read : Result (Unit {0}) LoadFault) (batches : ℕ) (o0 o1 o2 o3 : Outside) → result ≡ Err e
    → MakesJust 2 o0 o1 → MakesJust 3 o1 o2
    → ReadsWithin batches read o2 o3 → LoadsWithin batches result o0 o3
loads_cut {T = T} e result read batches o0 o1 o2 o3 is first second third =
    let all : 2 + 3 + (2 * batches + 2) ≡ 2 * batches + 7 = omega arith in
    subst (λ (r : Result T LoadFault). LoadsWithin batches r o0 o3) (sym is)
    (record {
      just = tt;
      most =
          subst (λ n. MakesAtMost n o0 o3) all
          (most_then (2 + 3) (2 * batches + 2) o0 o2 o3
          (within (2 + 3) (2 + 3) o0 o2 (omega arith) (just_then 2 3 o0 o1 o2 first second))
          third.most);
    })

pub loads_whole : {T : Type 0} (value : T) (u : Unit {0}) (batches : ℕ) (o0 o1 o2 o3 : Outside)
    → MakesJust 2 o0 o1 → MakesJust 3 o1 o2
    → ReadsWithin {T = Unit {0}} {E = LoadFault} batches (Ok u) o2 o3
    → LoadsWithin {E = LoadFault} batches (Ok value) o0 o3
loads_whole value u batches o0 o1 o2 o3 first second third =
    let all : 2 + 3 + (2 * batches + 1) ≡ 2 * batches + 6 = omega arith in
    let made =
    subst (λ n. MakesJust n o0 o3) all
    (just_then (2 + 3) (2 * batches + 1) o0 o2 o3 (just_then 2 3 o0 o1 o2 first second)
    third.just) in
    record {
      just = made;
      most = within (2 * batches + 6) (2 * batches + 7) o0 o3 (omega arith) made;
    }

-- ---- which calls they are

-- calls that only look, behind those of the barrier
looks_behind : (a b c : Option Calls) → RelatesTold (MadeAll barrier_calls) a b
    → RelatesTold ChangesNone b c → RelatesTold CallsGoOn b c → RelatesTold LooksBehind a c
looks_behind None None None first none on = tt
looks_behind None None (Some c) first none on = absurd none
looks_behind None (Some b) c first none on = absurd first
looks_behind (Some a) None c first none on = absurd first
looks_behind (Some a) (Some b) None first none on = absurd none
looks_behind (Some a) (Some b) (Some c) first none on =
    record { mid = b; barrier = first; looks = none; later = on.later }

pub load_looks : {T : Type 0} (result : Result T LoadFault) (o0 o1 o2 : Outside)
    → DoesAll barrier_calls o0 o1 → OnlyReads o1 o2 → LoadDoes result o0 o2
load_looks (Ok s) o0 o1 o2 does looks =
    looks_behind o0.calls o1.calls o2.calls does.done looks.unchanged looks.run.calls
load_looks (Err load.NoStore) o0 o1 o2 does looks =
    looks_behind o0.calls o1.calls o2.calls does.done looks.unchanged looks.run.calls
load_looks (Err (load.Damaged place)) o0 o1 o2 does looks =
    looks_behind o0.calls o1.calls o2.calls does.done looks.unchanged looks.run.calls
load_looks (Err load.DiskFault) o0 o1 o2 does looks =
    inr (looks_behind o0.calls o1.calls o2.calls does.done looks.unchanged looks.run.calls)
load_looks (Err load.Memory) o0 o1 o2 does looks =
    looks_behind o0.calls o1.calls o2.calls does.done looks.unchanged looks.run.calls

pub load_broke : {T : Type 0} (result : Result T LoadFault) (o o' : Outside)
    → result ≡ Err load.DiskFault → BreaksIn barrier_calls o o' → LoadDoes result o o'
load_broke {T = T} result o o' is breaks =
    subst (λ (r : Result T LoadFault). LoadDoes r o o') (sym is) (inl breaks)
