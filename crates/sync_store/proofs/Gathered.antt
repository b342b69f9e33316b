-- Batches that are gathered and added in groups, one piece of the work behind the other.
use Rattle.std.proofs.Common.{◌≡◌, ℕ, ◌+◌, ◌*◌, ◌≤◌, Bool, true, false, List, [], ◌∷◌, ◌++◌, length}
use Rattle.std.proofs.Common.{Option, Result, Ok, Err, refl, sym, ap, ◌∙◌, subst, inl, inr, arith}
use Rattle.std.proofs.Common.{append-nil, append_assoc}
use Rattle.std.specs.Prelude.{◌==◌, IfErr, OnOk}
use Rattle.outside.specs.Files.{Two, File}
use Rattle.outside.specs.Outside.{Outside, DiskRun, MakesAtMost, MakesCalls, MakesJust}
use Rattle.outside.proofs.CallSteps.{told_back}
use Rattle.frame_journal.specs.Group.{IsJoined, flush_calls, group_len}
use Rattle.frame_journal.proofs.GroupSteps.{joined_none}
use Rattle.journal_state.specs.Whole.{KnowsJudgements, StateValue}
use Rattle.sync_rules.specs.declared.entries.Entry.{Entry}
use Rattle.sync_rules.specs.Clients.{Meaning}
use Rattle.entry_codec.specs.declared.naming.Format.{Format}
use Rattle.entry_codec.specs.Payloads.{payloads}
use Rattle.sync_store.specs.declared.fault.StoreFault.{StoreFault}
use Rattle.sync_store.specs.declared.fault.StoreFault.TheVariants as fault
use Rattle.sync_store.specs.Store.{IsStore, NoneWaits, StoreValue, format_meant, written_in}
use Rattle.sync_store.specs.Appending.{AppendsFor}
use Rattle.sync_store.specs.Commits.{KeepsStore}
use Rattle.sync_store.specs.Fitting.{FitsSome, ImagesStand}
use Rattle.sync_store.specs.Gathering.{IsAdded, IsUnderway, KeepsJournal}
use Rattle.sync_store.specs.Gathering.{MakesRoom}
use Rattle.sync_store.specs.Groups.{AddsAll, HasGathered, HasGroupRoom, IsGathering, NoneOrAll}
use Rattle.sync_store.specs.Moments.{IsBetween, groups_for}
use Rattle.sync_store.specs.Ready.{IsReady}
use Rattle.sync_store.specs.Runs.{RunsBy}
use Rattle.sync_store.specs.Waiting.{frames_in, has_place}
use Rattle.sync_store.proofs.Counting.{frames_none}
use Rattle.sync_store.proofs.FitSteps.{true≢false}
use Rattle.sync_store.proofs.GroupCounts.{adds_first, calls_of_group, few_groups, one_group, unless}
use Rattle.sync_store.proofs.GroupSteps.{joined_len}
use Rattle.sync_store.proofs.Runs.{runs_both, runs_nothing}
use Rattle.sync_store.proofs.SettleSteps.{leads_map}

-- ---- none waits

-- a store of which none waits has gathered none since itself
pub gathered_none : (clients : Meaning) (s : StoreValue) → s.closed ≡ false → NoneWaits s
    → HasGathered clients s s []
gathered_none clients s still none = record {
  opened = still;
  goes_on = tt;
  facts = refl;
  file = refl;
  format = refl;
  generation = refl;
  end = omega (arith, ap length none);
  limit = refl;
  joined = subst (λ w. IsJoined [] w) (sym none) joined_none;
  together = λ rest.
      ap (λ n. groups_for (written_in s) 0 n rest) (sym frames_none)
      ∙ ap (λ w. groups_for (written_in s) (group_len w) (frames_in w) rest) (sym none);
  kinds = tt;
  within = tt;
}

pub gathering_none : (clients : Meaning) (s : StoreValue) (files : Option (Two File)) → IsStore s
    → IsReady clients s files → IsGathering clients s files
gathering_none clients s files store ready = record {
  still_open = ready.still_open;
  store = store;
  knows = ready.knows;
  before = s;
  kept = store;
  more = [];
  gathered = gathered_none clients s ready.still_open ready.none_waits;
  fits = ready.fits;
}

-- all is as it is
pub stays_itself : (s : StoreValue) → KeepsStore s s
stays_itself s = record {
  facts = refl;
  answers = refl;
  file = refl;
  format = refl;
  generation = refl;
  end = refl;
  waiting = refl;
  limit = refl;
  closed = refl;
}

-- ---- a group is added

none_or_all : (j more whole : List (List Entry)) → NoneOrAll j more whole → IsBetween j more whole
none_or_all j more whole (inl none) =
    record { front = []; rest = more; parts = refl; is = none ∙ sym (append-nil j) }
none_or_all j more whole (inr all) =
    record { front = more; rest = []; parts = sym (append-nil more); is = all }

pub group_added : (clients : Meaning) (before s new : StoreValue) (more : List (List Entry))
    (o o' : Outside) → HasGathered clients before s more → KeepsJournal s new → DiskRun o o'
    → (new.closed ≡ false → MakesJust (flush_calls s.waiting) o o')
    → MakesAtMost (flush_calls s.waiting) o o' → AppendsFor before new o o'
    → AddsAll clients before new o o' more → IsAdded clients before new o o' more
group_added clients before s new more o o' g same run just most appends adds =
    let some : 1 ≤ length s.waiting =
    omega (
      arith,
      joined_len (payloads (written_in before) before.state.facts more) s.waiting
          g.joined,
    ) in
    let groups = unless (length s.waiting == 1) in
    let calls : flush_calls s.waiting ≡ 4 * groups = calls_of_group (length s.waiting == 1) in
    let counted : groups ≡ groups_for (written_in before) 0 0 more =
    sym (one_group (length s.waiting) some) ∙ sym (g.together [])
    ∙ ap (groups_for (written_in before) 0 0) (append-nil more) in
    record {
      runs = record {
        goes_on = g.goes_on;
        facts = λ still. ap (λ (v : StateValue). v.facts) same.state ∙ g.facts;
        file = same.file ∙ g.file;
        format = same.format ∙ g.format;
        generation = same.generation ∙ g.generation;
        limit = same.limit ∙ g.limit;
        run = run;
        leads = λ two told j fits.
            leads_map clients (NoneOrAll j more) (IsBetween j more) (λ whole. whole ≡ j ++ more)
            (λ whole. whole ≡ j ++ more) new o o' (none_or_all j more) (λ whole is. is)
            (adds two told j fits);
        groups = groups;
        few = omega (arith, counted, few_groups (written_in before) more);
        calls = record {
          just = λ still. subst (λ n. MakesJust n o o') calls (just still);
          most = subst (λ n. MakesAtMost n o o') calls most;
          appends = appends;
        };
      };
      counted = counted;
    }

-- where no more may wait, some wait
full_waits : (ps : List (List ℕ)) (waiting : List ℕ) → IsJoined ps waiting
    → has_place (group_len waiting) (frames_in waiting) ≡ false → 1 ≤ group_len waiting
full_waits [] waiting joined full =
    let place : has_place (group_len waiting) (frames_in waiting) ≡ true =
    ap (λ w. has_place (group_len w) (frames_in w)) joined.spelled ∙ ap (has_place 0) frames_none in
    let no : true ≡ false = sym place ∙ full in
    absurd cc
full_waits (p ∷ ps) waiting joined full = omega (arith, joined_len (p ∷ ps) waiting joined)

-- ---- the work so far

module _ (clients : Meaning) where
  pub underway_begins : ImagesStand → (before s : StoreValue) (o : Outside)
      (waits : List (List Entry)) → IsStore before → HasGathered clients before s waits
      → IsUnderway clients before s o o waits
  underway_begins images before s o waits kept g =
      let none = runs_nothing images clients before before o kept (stays_itself before) in
      record {
        mid = before;
        kept = kept;
        done = [];
        rest = waits;
        parts = refl;
        runs = none.0;
        gathered = g;
        counted = λ more. omega (arith, g.together more, none.1);
      }

  -- a group was added to make room
  pub underway_flushed : (before s new : StoreValue) (o o' : Outside) (waits : List (List Entry))
      → IsStore new → HasGathered clients before s waits → IsAdded clients before new o o' waits
      → new.closed ≡ false → NoneWaits new
      → has_place (group_len s.waiting) (frames_in s.waiting) ≡ false
      → IsUnderway clients before new o o' waits
  underway_flushed before s new o o' waits kept g added still none full = record {
    mid = new;
    kept = kept;
    done = waits;
    rest = [];
    parts = append-nil waits;
    runs = added.runs;
    gathered = gathered_none clients new still none;
    counted = λ more.
        let kind = written_in before in
        let some = full_waits (payloads kind before.state.facts waits) s.waiting g.joined full in
        let one : added.runs.groups ≡ 1 =
        added.counted ∙ ap (groups_for kind 0 0) (sym (append-nil waits)) ∙ g.together []
        ∙ adds_first kind (group_len s.waiting) (frames_in s.waiting) [] some full in
        let empty : groups_for kind (group_len new.waiting) (frames_in new.waiting) more
        ≡ groups_for kind 0 0 more =
        ap (λ w. groups_for kind (group_len w) (frames_in w) more) none
        ∙ ap (λ n. groups_for kind 0 n more) frames_none in
        omega (
          arith,
          g.together more,
          adds_first kind (group_len s.waiting) (frames_in s.waiting) more some full,
          one,
          empty,
        );
  }

  -- one piece behind the other, with further batches
  pub underway_on : (before s1 s2 : StoreValue) (o0 o1 o2 : Outside) (all more : List (List Entry))
      (u : IsUnderway clients before s1 o0 o1 all)
      → IsUnderway clients u.mid s2 o1 o2 (u.rest ++ more)
      → IsUnderway clients before s2 o0 o2 (all ++ more)
  underway_on before s1 s2 o0 o1 o2 all more u v =
      let same : written_in u.mid ≡ written_in before = ap format_meant u.runs.format in
      let both = runs_both clients before u.mid v.mid o0 o1 o2 u.done v.done u.gathered.opened u.runs
      v.runs in
      record {
        mid = v.mid;
        kept = v.kept;
        done = u.done ++ v.done;
        rest = v.rest;
        parts = append_assoc u.done v.done v.rest ∙ ap (λ l. u.done ++ l) v.parts
            ∙ sym (append_assoc u.done u.rest more) ∙ ap (λ l. l ++ more) u.parts;
        runs = both.0;
        gathered = v.gathered;
        counted = λ rest.
            let kind = written_in before in
            let later =
            subst (λ (k : Format). groups_for k 0 0 ((u.rest ++ more) ++ rest)
            ≡ v.runs.groups + groups_for k (group_len s2.waiting) (frames_in s2.waiting) rest) same
            (v.counted rest) in
            let here =
            subst (λ (k : Format). groups_for k 0 0 (u.rest ++ (more ++ rest))
            ≡ groups_for k (group_len s1.waiting) (frames_in s1.waiting) (more ++ rest)) same
            (u.gathered.together (more ++ rest)) in
            omega (
              arith,
              u.counted (more ++ rest),
              later,
              here,
              both.1,
              ap (groups_for kind 0 0) (append_assoc all more rest),
              ap (groups_for kind 0 0) (append_assoc u.rest more rest),
            );
      }

  -- and then all were added
  pub underway_ends : (before s1 s2 : StoreValue) (o0 o1 o2 : Outside)
      (all more : List (List Entry)) (u : IsUnderway clients before s1 o0 o1 all)
      → IsAdded clients u.mid s2 o1 o2 (u.rest ++ more)
      → IsAdded clients before s2 o0 o2 (all ++ more)
  underway_ends before s1 s2 o0 o1 o2 all more u a =
      let same : written_in u.mid ≡ written_in before = ap format_meant u.runs.format in
      let kind = written_in before in
      let later : a.runs.groups ≡ groups_for kind 0 0 (u.rest ++ more) =
      a.counted ∙ ap (λ (k : Format). groups_for k 0 0 (u.rest ++ more)) same in
      let here =
      subst (λ (k : Format). groups_for k 0 0 (u.rest ++ more)
      ≡ groups_for k (group_len s1.waiting) (frames_in s1.waiting) more) same
      (u.gathered.together more) in
      let both = runs_both clients before u.mid s2 o0 o1 o2 u.done (u.rest ++ more)
      u.gathered.opened u.runs a.runs in
      let parts : u.done ++ (u.rest ++ more) ≡ all ++ more =
      sym (append_assoc u.done u.rest more) ∙ ap (λ l. l ++ more) u.parts in
      let count : both.0.groups ≡ groups_for kind 0 0 (u.done ++ (u.rest ++ more)) =
      omega (arith, both.1, later, here, u.counted more, ap (groups_for kind 0 0) parts) in
      subst (IsAdded clients before s2 o0 o2) parts (record { runs = both.0; counted = count })

  -- at the end of a run the disk fits the store
  pub runs_fits : (s new : StoreValue) (o o' : Outside) (more : List (List Entry))
      → RunsBy clients s new o o' more → FitsSome clients s o.files → new.closed ≡ false
      → FitsSome clients new o'.files
  runs_fits s new o o' more runs fits still two' told' =
      let there = told_back o o' two' runs.run.same_told told' in
      let begun = fits there.0 there.1 in
      let end = (runs.leads there.0 there.1 begun.0 begun.1).ends still two' told' in
      (end.0, end.2)

  pub gathering_still : (before s : StoreValue) (o o' : Outside) (all : List (List Entry))
      → IsUnderway clients before s o o' all → FitsSome clients before o.files → s.closed ≡ false
      → IsStore s → KnowsJudgements clients s.state → IsGathering clients s o'.files
  gathering_still before s o o' all u fits still store knows = record {
    still_open = still;
    store = store;
    knows = knows;
    before = u.mid;
    kept = u.kept;
    more = u.rest;
    gathered = u.gathered;
    fits = runs_fits before u.mid o o' u.done u.runs fits u.gathered.opened;
  }

-- ---- what a flush comes to, by its answer

pub keeps_flushed : (s new : StoreValue) (result : Result (Unit {0}) StoreFault)
    → OnOk result (new ≡ record s { waiting = 0 ∷ [] })
    → IfErr result (λ e. (e ≡ fault.DiskFault) × (new ≡ record s { closed = true }))
    → KeepsJournal s new
keeps_flushed s new (Ok u) ok err = record {
  state = ap (λ (v : StoreValue). v.state) ok;
  file = ap (λ (v : StoreValue). v.file) ok;
  format = ap (λ (v : StoreValue). v.format) ok;
  generation = ap (λ (v : StoreValue). v.generation) ok;
  end = ap (λ (v : StoreValue). v.end) ok;
  limit = ap (λ (v : StoreValue). v.limit) ok;
}
keeps_flushed s new (Err e) ok err = record {
  state = ap (λ (v : StoreValue). v.state) err.1;
  file = ap (λ (v : StoreValue). v.file) err.1;
  format = ap (λ (v : StoreValue). v.format) err.1;
  generation = ap (λ (v : StoreValue). v.generation) err.1;
  end = ap (λ (v : StoreValue). v.end) err.1;
  limit = ap (λ (v : StoreValue). v.limit) err.1;
}

just_by : (new : StoreValue) (n : ℕ) (result : Result (Unit {0}) StoreFault) (s : StoreValue)
    (o o' : Outside)
    → IfErr result (λ e. (e ≡ fault.DiskFault) × (new ≡ record s { closed = true }))
    → MakesCalls n result o o' → new.closed ≡ false → MakesJust n o o'
just_by new n (Ok u) s o o' err calls still = calls.just
just_by new n (Err e) s o o' err calls still =
    true≢false new.closed (ap (λ (v : StoreValue). v.closed) err.1) still

-- whatever it answered, what waited was added as far as the disk had it
pub flush_added : (clients : Meaning) (before s new : StoreValue) (more : List (List Entry))
    (result : Result (Unit {0}) StoreFault) (o o' : Outside)
    → OnOk result (new ≡ record s { waiting = 0 ∷ [] })
    → IfErr result (λ e. (e ≡ fault.DiskFault) × (new ≡ record s { closed = true }))
    → DiskRun o o' → MakesCalls (flush_calls s.waiting) result o o'
    → HasGathered clients before s more → AppendsFor before new o o'
    → AddsAll clients before new o o' more → IsAdded clients before new o o' more
flush_added clients before s new more result o o' ok err run calls g appends adds =
    group_added clients before s new more o o' g (keeps_flushed s new result ok err) run
    (just_by new (flush_calls s.waiting) result s o o' err calls) calls.most appends adds

-- room was made
pub room_made : (clients : Meaning) (before s new : StoreValue) (waits : List (List Entry))
    (result : Result (Unit {0}) StoreFault) (o o' : Outside) → IsStore new → s.closed ≡ false
    → OnOk result (new ≡ record s { waiting = 0 ∷ [] })
    → IfErr result (λ e. (e ≡ fault.DiskFault) × (new ≡ record s { closed = true }))
    → HasGathered clients before s waits → IsAdded clients before new o o' waits
    → has_place (group_len s.waiting) (frames_in s.waiting) ≡ false
    → MakesRoom clients before new waits result o o'
room_made clients before s new waits (Ok u) o o' store still ok err g added full =
    underway_flushed clients before s new o o' waits store g added
    (ap (λ (v : StoreValue). v.closed) ok ∙ still) (ap (λ (v : StoreValue). v.waiting) ok) full
room_made clients before s new waits (Err fault.DiskFault) o o' store still ok err g added full =
    (ap (λ (v : StoreValue). v.closed) err.1, added)
room_made clients before s new waits (Err fault.Closed) o o' store still ok err g added full =
    let e : fault.Closed ≡ fault.DiskFault = err.0 in cc
room_made clients before s new waits (Err fault.Full) o o' store still ok err g added full =
    let e : fault.Full ≡ fault.DiskFault = err.0 in cc
room_made clients before s new waits (Err fault.Memory) o o' store still ok err g added full =
    let e : fault.Memory ≡ fault.DiskFault = err.0 in cc

-- where none waits one batch may
pub room_of_none : (s : StoreValue) → NoneWaits s → HasGroupRoom s
room_of_none s none =
    ap (λ w. has_place (group_len w) (frames_in w)) none ∙ ap (has_place 0) frames_none

pub has_room_then : (s new : StoreValue) (result : Result (Unit {0}) StoreFault)
    → OnOk result (new ≡ record s { waiting = 0 ∷ [] }) → OnOk result (HasGroupRoom new)
has_room_then s new (Ok u) ok = room_of_none new (ap (λ (v : StoreValue). v.waiting) ok)
has_room_then s new (Err e) ok = tt

pub gathering_then : (clients : Meaning) (s new : StoreValue) (files : Option (Two File))
    (result : Result (Unit {0}) StoreFault) → IsStore new → s.closed ≡ false
    → OnOk result (new ≡ record s { waiting = 0 ∷ [] })
    → (new.closed ≡ false → IsReady clients new files)
    → OnOk result (IsGathering clients new files)
gathering_then clients s new files (Ok u) store still ok ready =
    gathering_none clients new files store
    (ready (ap (λ (v : StoreValue). v.closed) ok ∙ still))
gathering_then clients s new files (Err e) store still ok ready = tt
