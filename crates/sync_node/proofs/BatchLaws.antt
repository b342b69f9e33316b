-- What the calls of a store come to, as acts; and a batch that is added beside the sessions.
use Rattle.std.proofs.Common.{true, ◌++◌, [], ◌∷◌, ◌≡◌, ◌<◌, false, List, ◌∙◌, subst, Result, Ok, Err, Some, ◌≢◌, ℕ, refl, sym, ap, inl, inr, arith, append-nil}
use Rattle.sync_rules.specs.Clients.{Meaning}
use Rattle.sync_rules.specs.Facts.{Facts, Journal, after_all, after_batches, facts, session_at}
use Rattle.sync_rules.specs.Legal.{AllSettling}
use Rattle.outside.specs.Faults.{CountRose}
use Rattle.outside.specs.Files.{Two, File}
use Rattle.outside.specs.Outside.{DiskRun, MakesAtMost, Outside}
use Rattle.sync_rules.specs.declared.entries.Entry.{Entry}
use Rattle.sync_store.specs.Appending.{AppendsFor}
use Rattle.sync_store.specs.Commits.{needed}
use Rattle.sync_store.specs.Fitting.{FitsFiles}
use Rattle.sync_store.specs.Moments.{IsBetween, WithAtMost, JournalMoment, LeadsTo}
use Rattle.sync_store.specs.Ready.{IsReady}
use Rattle.sync_store.specs.Runs.{HasExtended, AddsBatch}
use Rattle.entry_codec.specs.Payloads.{payload_len}
use Rattle.entry_codec.specs.Standing.{room_of}
use Rattle.sync_store.specs.Gathering.{AddsBehind, GathersBehind, JoinsBehind, KeepsBatches, KeepsJournal, SettlesBehind, StepsOn}
use Rattle.sync_store.specs.Groups.{IsGathering}
use Rattle.sync_store.specs.Runs.{RunsBy}
use Rattle.sync_store.proofs.Behind.{adds_format, adds_limit, behind_format, behind_limit}
use Rattle.sync_store.proofs.Runs.{runs_within}
use Rattle.sync_store.specs.Store.{StoreValue, format_meant, written_in}
use Rattle.sync_store.specs.declared.fault.StoreFault.{StoreFault}
use Rattle.sync_course.specs.Acts.{commit_acts}
use Rattle.sync_course.proofs.ActLaws.{batches_in_commits, commits_are_quiet}
use Rattle.sync_node.specs.Batches.{Added, AddingBreaks, AddingFull, CommitsAndSettles, Breaks, Committed, FindsNoRoom, Flushed, Joined, Settled, SettlesBy, SettlingBreaks, NodeStaysIdle, StoreStaysIdle}
use Rattle.sync_node.specs.Did.{Did, Underway, UnderwayBreaks}
use Rattle.sync_node.specs.Going.{LetsNothingFall}
use Rattle.sync_node.proofs.SafeLaws.{goes_led}
use Rattle.sync_node.proofs.CourseLaws.{at_most_between, told_as}
use Rattle.sync_node.proofs.PrimLaws.{did_batches, did_breaks, did_unasked}
use Rattle.outside.specs.Links.{sent_of}
use Rattle.outside.proofs.CallSteps.{moments_map}
use Rattle.sync_rules.specs.Allows.{is_account_kind, is_settling_kind}
use Rattle.sync_rules.proofs.StepKinds.{all_settling_only}
use Rattle.sync_node.specs.declared.link.Link.{Link}
use Rattle.sync_course.specs.Free.{IsPlain}
use Rattle.sync_node.specs.Adding.{AddsAtMost}
use Rattle.sync_node.specs.Node.{AreAttached, MayGoOn}
use Rattle.sync_store.specs.Commits as store_commits
use Rattle.sync_store.specs.Moments as store_moments
use Rattle.sync_store.specs.declared.fault.StoreFault.TheVariants as store_fault
use Rattle.sync_rules.specs.declared.entries.Entry.TheVariants as entry

pub settling_front : (clients : Meaning) (f : Facts) (bs cs : Journal)
    → AllSettling clients f (bs ++ cs) → AllSettling clients f bs
settling_front clients f [] cs settling = tt
settling_front clients f (b ∷ bs) cs settling =
    (settling.0, settling_front clients (after_all f b) bs cs settling.1)

-- ---- one batch

-- what a commit says of each journal that the files stood for
abbrev pub AddsTo : Meaning → List Entry → Result (Unit {0}) StoreFault → StoreValue → StoreValue
    → Outside → Outside → Type 0
AddsTo clients batch result s s' o o' =
    (two : Two File) → o.files ≡ Some two → (j : Journal) → FitsFiles clients s j two
    → store_moments.RunsCommit clients batch result s' o o' j

pub commit_did : (clients : Meaning) (s s' : StoreValue) (batch : List Entry) (u : Unit {0})
    (o o' : Outside) → IsReady clients s o.files → DiskRun o o' → MakesAtMost 4 o o'
    → AppendsFor s s' o o' → store_commits.AnswersCommit s s' batch (Ok u) → (s'.closed ≡ false → IsReady clients s' o'.files)
    → AddsTo clients batch (Ok u) s s' o o' → Committed clients batch s s' o o'
commit_did clients s s' batch u o o' ready run made appends answer ready' adds = record {
  did =
      did_batches clients s s' (batch ∷ []) o o' (λ j whole. WithAtMost j batch whole)
      (λ j whole. whole ≡ j ++ batch ∷ []) ready.fits run made appends answer.2.file answer.2.limit
      answer.2.format (at_most_between batch) adds answer.2.closed (λ j whole is. is);
  facts = answer.2.facts;
  ready = ready' answer.2.closed;
}

pub commit_breaks : (clients : Meaning) (s s' : StoreValue) (batch : List Entry) (o o' : Outside)
    → IsReady clients s o.files → DiskRun o o' → MakesAtMost 4 o o' → AppendsFor s s' o o'
    → store_commits.AnswersCommit s s' batch (Err store_fault.DiskFault)
    → AddsTo clients batch (Err store_fault.DiskFault) s s' o o'
    → CountRose o.disk_faults o'.disk_faults → Breaks clients (batch ∷ []) s s' o o'
commit_breaks clients s s' batch o o' ready run made appends answer adds rose =
    did_breaks clients s s' (batch ∷ []) o o' (λ j whole. WithAtMost j batch whole)
    (λ j whole. whole ≡ j) ready.fits run made appends answer.2.file answer.2.limit
    answer.2.format (at_most_between batch) adds ready.still_open answer.2.closed rose

-- the host was not called, and the store is as it was
pub commit_idle : {H : Type 0} (tells : H → Outside) (clients : Meaning) (s s' : StoreValue)
    (batch : List Entry) (e : StoreFault) (host host' : H) → IsReady clients s (tells host).files
    → DiskRun (tells host) (tells host') → store_commits.KeepsStore s s'
    → (s'.closed ≡ false → IsReady clients s' (tells host').files) → host' ≡ host
    → AddsTo clients batch (Err e) s s' (tells host) (tells host')
    → NodeStaysIdle clients s s' (tells host) (tells host')
commit_idle tells clients s s' batch e host host' ready run stays ready' same adds =
    let still : s'.closed ≡ false = stays.closed ∙ ready.still_open in
    record {
      did =
          did_unasked tells clients s s' host host' same stays.file stays.end stays.limit stays.format
          (λ j fit.
          let two' = told_as (tells host).files (tells host').files fit.0 run.same_told fit.1 in
          let end = (adds fit.0 fit.1 j fit.2).ends still two'.0 two'.1 in
          (two'.0, two'.1, subst (λ (whole : Journal). FitsFiles clients s' whole two'.0) end.1 end.2));
      ready = ready' still;
    }

-- ---- batches that wait

-- what a store that gathers asks of the disk lets nothing fall
goes_runs : (clients : Meaning) (s s' mid : StoreValue) (o o' : Outside) (all : Journal)
    (w : IsGathering clients s o.files) → RunsBy clients w.before mid o o' all → DiskRun o o'
    → LetsNothingFall o o'
goes_runs clients s s' mid o o' all w runs run =
    goes_led clients w.before mid o o' (λ j whole. IsBetween j all whole)
    (λ j whole. whole ≡ j ++ all) w.fits run runs.leads

pub goes_behind : (clients : Meaning) (s s' : StoreValue) (o o' : Outside) (more : Journal)
    → IsGathering clients s o.files → GathersBehind clients s s' o o' more → DiskRun o o'
    → LetsNothingFall o o'
goes_behind clients s s' o o' more w behind run =
    let u = behind.on w.before w.kept w.more w.gathered in
    goes_runs clients s s' u.mid o o' u.done w u.runs run

pub goes_added : (clients : Meaning) (s s' : StoreValue) (o o' : Outside) (more : Journal)
    → IsGathering clients s o.files → AddsBehind clients s s' o o' more → DiskRun o o'
    → LetsNothingFall o o'
goes_added clients s s' o o' more w behind run =
    let a = behind.on w.before w.kept w.more w.gathered in
    goes_runs clients s s' s' o o' (w.more ++ more) w a.runs run

-- a call of the disk failed in adding what waited
pub adds_broke : (clients : Meaning) (s s' : StoreValue) (o o' : Outside) (more : Journal)
    → IsGathering clients s o.files → DiskRun o o' → AddsBehind clients s s' o o' more
    → s'.closed ≡ true → CountRose o.disk_faults o'.disk_faults
    → UnderwayBreaks clients (commit_acts more) s s' o o'
adds_broke clients s s' o o' more w run adds shut rose = record {
  quiet = commits_are_quiet more;
  adds = subst (λ (l : Journal). AddsBehind clients s s' o o' l) (sym (batches_in_commits more)) adds;
  shut = shut;
  run = run;
  goes = goes_added clients s s' o o' more w adds run;
  limit = adds_limit clients s s' o o' more w adds;
  format = adds_format clients s s' o o' more w adds;
  rose = rose;
}

-- batches wait, or were added
under_by : (clients : Meaning) (s s' : StoreValue) (o o' : Outside) (more : Journal)
    → IsGathering clients s o.files → DiskRun o o' → GathersBehind clients s s' o o' more
    → Underway clients (commit_acts more) s s' o o'
under_by clients s s' o o' more w run behind = record {
  quiet = commits_are_quiet more;
  gathers =
      subst (λ (l : Journal). GathersBehind clients s s' o o' l) (sym (batches_in_commits more))
      behind;
  run = run;
  goes = goes_behind clients s s' o o' more w behind run;
  limit = behind_limit clients s s' o o' more w behind;
  format = behind_format clients s s' o o' more w behind;
}

pub join_did : (clients : Meaning) (s s' : StoreValue) (batch : List Entry) (u : Unit {0})
    (o o' : Outside) → IsGathering clients s o.files → DiskRun o o'
    → JoinsBehind clients s s' batch (Ok u) o o'
    → (s'.closed ≡ false → IsGathering clients s' o'.files) → Joined clients batch s s' o o'
join_did clients s s' batch u o o' w run joins waits = record {
  under = under_by clients s s' o o' (batch ∷ []) w run joins.2;
  facts = joins.1.facts;
  waits = waits joins.1.closed;
}

-- nothing was gathered
join_idle : (clients : Meaning) (s s' : StoreValue) (o o' : Outside)
    → IsGathering clients s o.files → DiskRun o o' → KeepsBatches s s' → s'.closed ≡ false
    → GathersBehind clients s s' o o' [] → (s'.closed ≡ false → IsGathering clients s' o'.files)
    → StoreStaysIdle clients s s' o o'
join_idle clients s s' o o' w run keeps still behind waits = record {
  under = under_by clients s s' o o' [] w run behind;
  facts = keeps.facts;
  waits = waits still;
}

over_still : (s s' : StoreValue) (batch : List Entry) → KeepsBatches s s'
    → s.limit < needed s batch → s'.limit < needed s' batch
over_still s s' batch keeps over =
    omega (
      arith,
      over,
      keeps.limit,
      keeps.end,
      ap (λ n. payload_len (format_meant n) batch) keeps.format,
      ap (λ n. room_of (format_meant n) (after_all s'.state.facts batch)) keeps.format,
      ap (λ (f : Facts). room_of (written_in s) (after_all f batch)) keeps.facts,
    )

pub join_starved : (clients : Meaning) (s s' : StoreValue) (batch : List Entry) (o o' : Outside)
    → IsGathering clients s o.files → DiskRun o o'
    → JoinsBehind clients s s' batch (Err store_fault.Memory) o o'
    → (s'.closed ≡ false → IsGathering clients s' o'.files) → StoreStaysIdle clients s s' o o'
join_starved clients s s' batch o o' w run joins waits =
    join_idle clients s s' o o' w run joins.1 joins.2 joins.3 waits

pub join_full : (clients : Meaning) (s s' : StoreValue) (batch : List Entry) (o o' : Outside)
    → IsGathering clients s o.files → DiskRun o o'
    → JoinsBehind clients s s' batch (Err store_fault.Full) o o'
    → (s'.closed ≡ false → IsGathering clients s' o'.files)
    → FindsNoRoom clients batch s s' o o'
join_full clients s s' batch o o' w run joins waits = record {
  idle = join_idle clients s s' o o' w run joins.1 joins.2 joins.3 waits;
  over = over_still s s' batch joins.1 joins.0;
}

pub join_broke : (clients : Meaning) (s s' : StoreValue) (batch : List Entry) (o o' : Outside)
    → IsGathering clients s o.files → DiskRun o o'
    → JoinsBehind clients s s' batch (Err store_fault.DiskFault) o o'
    → CountRose o.disk_faults o'.disk_faults → UnderwayBreaks clients [] s s' o o'
join_broke clients s s' batch o o' w run joins rose =
    adds_broke clients s s' o o' [] w run joins.2 joins.1 rose

-- ---- settling

settle_by : (clients : Meaning) (s s' : StoreValue) (o o' : Outside) (more : Journal)
    → IsGathering clients s o.files → DiskRun o o' → StepsOn clients s s' more
    → GathersBehind clients s s' o o' more → IsGathering clients s' o'.files
    → SettlesBy clients s s' o o'
settle_by clients s s' o o' more w run steps behind waits = record {
  more = more;
  settling = steps.settling;
  under = under_by clients s s' o o' more w run behind;
  facts = steps.facts;
  waits = waits;
}

pub settle_did : (clients : Meaning) (s s' : StoreValue) (u : Unit {0}) (o o' : Outside)
    → IsGathering clients s o.files → DiskRun o o' → SettlesBehind clients s s' (Ok u) o o'
    → (s'.closed ≡ false → IsGathering clients s' o'.files) → Settled clients s s' o o'
settle_did clients s s' u o o' w run has waits = record {
  by =
      settle_by clients s s' o o' has.more w run has.steps has.answer.1 (waits has.answer.0);
  settled = has.answer.2;
}

pub settle_starved : (clients : Meaning) (s s' : StoreValue) (o o' : Outside)
    → IsGathering clients s o.files → DiskRun o o'
    → SettlesBehind clients s s' (Err store_fault.Memory) o o'
    → (s'.closed ≡ false → IsGathering clients s' o'.files) → SettlesBy clients s s' o o'
settle_starved clients s s' o o' w run has waits =
    settle_by clients s s' o o' has.more w run has.steps has.answer.1 (waits has.answer.0)

pub settle_broke : (clients : Meaning) (s s' : StoreValue) (o o' : Outside)
    → IsGathering clients s o.files → DiskRun o o'
    → SettlesBehind clients s s' (Err store_fault.DiskFault) o o'
    → CountRose o.disk_faults o'.disk_faults → SettlingBreaks clients s s' o o'
settle_broke clients s s' o o' w run has rose = record {
  more = has.more;
  settling = has.steps.settling;
  breaks = adds_broke clients s s' o o' has.more w run has.answer.1 has.answer.0 rose;
}

-- ---- a flush

pub flush_did : (clients : Meaning) (s s' : StoreValue) (o o' : Outside)
    → IsGathering clients s o.files → DiskRun o o' → AddsBehind clients s s' o o' []
    → KeepsJournal s s' → s'.closed ≡ false
    → (s'.closed ≡ false → IsReady clients s' o'.files) → Flushed clients s s' o o'
flush_did clients s s' o o' w run adds same still ready = record {
  adds = adds;
  still_open = still;
  keeps = same;
  run = run;
  goes = goes_added clients s s' o o' [] w adds run;
  ready = ready still;
}

-- ---- a batch that is added

module _ (clients : Meaning) (batch : List Entry) (s s' : StoreValue)
    (result : Result (Unit {0}) StoreFault) (o o' : Outside) (ready : IsReady clients s o.files)
    (has : HasExtended clients s s' batch result o o') where
  all_did : s'.closed ≡ false → Did clients (commit_acts has.more) s s' o o'
  all_did still =
      did_batches clients s s' has.more o o' (λ j whole. IsBetween j has.more whole)
      (λ j whole. whole ≡ j ++ has.more) ready.fits has.runs.run
      (runs_within clients s s' o o' has.more has.runs) has.runs.calls.appends
      has.runs.file has.runs.limit has.runs.format (λ j whole between. between) has.runs.leads still (λ j whole is. is)

  pub add_by : s'.closed ≡ false → (s'.closed ≡ false → IsReady clients s' o'.files)
      → CommitsAndSettles clients batch s s' o o'
  add_by still ready' = record {
    more = has.more;
    adds = has.adds;
    did = all_did still;
    facts = has.runs.facts still;
    ready = ready' still;
  }

  pub add_breaks : s'.closed ≡ true → CountRose o.disk_faults o'.disk_faults → AddingBreaks clients batch s s' o o'
  add_breaks shut rose = record {
    more = has.more;
    adds = has.adds;
    breaks =
        did_breaks clients s s' has.more o o' (λ j whole. IsBetween j has.more whole)
        (λ j whole. whole ≡ j ++ has.more) ready.fits has.runs.run
        (runs_within clients s s' o o' has.more has.runs)
        has.runs.calls.appends has.runs.file has.runs.limit
        has.runs.format (λ j whole between. between) has.runs.leads ready.still_open shut rose;
  }

  pub add_full : has.more ≡ [] → s.limit < needed s batch → s'.closed ≡ false
      → (s'.closed ≡ false → IsReady clients s' o'.files) → AddingFull clients batch s s' o o'
  add_full none over still ready' = record {
    idle = record {
      did = subst (λ (bs : Journal). Did clients (commit_acts bs) s s' o o') none (all_did still);
      ready = ready' still;
    };
    before = over;
  }

pub add_did : (clients : Meaning) (batch : List Entry) (s s' : StoreValue) (u : Unit {0})
    (o o' : Outside) → IsReady clients s o.files → HasExtended clients s s' batch (Ok u) o o'
    → (s'.closed ≡ false → IsReady clients s' o'.files) → Added clients batch s s' o o'
add_did clients batch s s' u o o' ready has ready' = record {
  by = record {
    more = has.more;
    adds = has.adds;
    did = all_did clients batch s s' (Ok u) o o' ready has has.answer.0;
    facts = has.runs.facts has.answer.0;
    ready = ready' has.answer.0;
  };
  some = has.answer.2;
  same_links = has.runs.run.same_links;
  settled = has.answer.3;
}

-- ---- a plain batch

-- the sessions, and how many have begun, are left
record LeavesSessions (f later : Facts) : Type 0 where
  sessions : later.sessions ≡ f.sessions
  begun : later.begun ≡ f.begun

pub record PlainBatch (f : Facts) (batch : List Entry) : Type 0 where
  pub kind : is_settling_kind batch ≡ false
  pub own : is_account_kind batch ≡ false
  leaves : LeavesSessions f (after_all f batch)

pub plain_of : (f : Facts) (batch : List Entry) → IsPlain batch → PlainBatch f batch
plain_of f (entry.Contact c ∷ []) plain =
    record { kind = refl; own = refl; leaves = record { sessions = refl; begun = refl } }
plain_of f (entry.Group def ∷ []) plain =
    record { kind = refl; own = refl; leaves = record { sessions = refl; begun = refl } }
plain_of f (entry.Level c g l ∷ []) plain =
    record { kind = refl; own = refl; leaves = record { sessions = refl; begun = refl } }
plain_of f (entry.Author m ∷ []) plain =
    record { kind = refl; own = refl; leaves = record { sessions = refl; begun = refl } }
plain_of f _ plain = absurd plain

-- ---- the batch, and settling behind it

leaves : (clients : Meaning) (batch : List Entry) (s s' : StoreValue) (o o' : Outside)
    → Added clients batch s s' o o' → IsPlain batch
    → LeavesSessions s.state.facts s'.state.facts
leaves clients batch s s' o o' added plain =
    by_more added.by.more added.by.adds added.by.facts added.some
  where
    by_more : (more : Journal) → AddsBatch clients s.state.facts batch more
        → s'.state.facts ≡ after_batches s.state.facts more → more ≢ []
        → LeavesSessions s.state.facts s'.state.facts
    by_more [] adds are some = absurd (some refl)
    by_more (b ∷ rest) adds are some =
        let first : after_all s.state.facts b ≡ after_all s.state.facts batch = ap (λ (x : List Entry). after_all s.state.facts x) adds.0 in
        let behind : s'.state.facts ≡ after_batches (after_all s.state.facts batch) rest = are ∙ ap (λ (f : Facts). after_batches f rest) first in
        let plainly = (plain_of s.state.facts batch plain).leaves in
        let only = all_settling_only clients (after_all s.state.facts batch) rest adds.1 in
        record {
          sessions = ap (λ (f : Facts). f.sessions) behind ∙ (only.sessions ∙ plainly.sessions);
          begun = ap (λ (f : Facts). f.begun) behind ∙ (only.begun ∙ plainly.begun);
        }

pub add_attached : (clients : Meaning) (batch : List Entry) (first : ℕ) (links : List Link)
    (s s' : StoreValue) (o o' : Outside) → Added clients batch s s' o o' → IsPlain batch
    → AreAttached first links s.state.facts → AreAttached first links s'.state.facts
add_attached clients batch first links s s' o o' added plain attached =
    let left = leaves clients batch s s' o o' added plain in
    record {
      begun = left.begun ∙ attached.begun;
      each = λ k l there.
          let was = attached.each k l there in
          record { numbered = was.numbered; known = ap (λ t. session_at t l.session.number) left.sessions ∙ was.known; waits = was.waits };
    }

pub add_may : (clients : Meaning) (batch : List Entry) (links : List Link) (s s' : StoreValue)
    (o o' : Outside) → Added clients batch s s' o o' → MayGoOn clients links s o
    → MayGoOn clients links s' o'
add_may clients batch links s s' o o' added may = record {
  ready = added.by.ready;
  settled = λ _. added.settled;
  dialled = omega (arith, may.dialled, added.by.did.goes.links.dialled);
}

pub leads_ok : (clients : Meaning) (batch : List Entry) (s : StoreValue) (o o' : Outside)
    (j : Journal) (P Q R : Journal → Type 0) → ((k : Journal) → P k → R k)
    → ((k : Journal) → Q k → R k)
    → LeadsTo clients P Q s o o' → LeadsTo clients R R s o o'
leads_ok clients batch s o o' j P Q R up upq leads = record {
  moments = moments_map o o' (JournalMoment clients P (sent_of o.links.told)) (JournalMoment clients R (sent_of o.links.told))
      (λ m jm. record { whole = jm.whole; has = up jm.whole jm.has; stands_for = jm.stands_for; nothing_sent = jm.nothing_sent }) leads.moments;
  ends = λ opened two files. let end = leads.ends opened two files in (end.0, upq end.0 end.1, end.2);
}

-- a front of the batches of an extension
at_most : (clients : Meaning) (batch : List Entry) (f : Facts) (more : Journal)
    → AddsBatch clients f batch more → (j whole front rest : Journal) → facts j ≡ f
    → more ≡ front ++ rest → whole ≡ j ++ front → AddsAtMost clients j batch whole
at_most clients batch f more adds j whole [] rest same parts is = inl (is ∙ append-nil j)
at_most clients batch f [] adds j whole (x ∷ front) rest same parts is =
    let none : [] ≡ x ∷ (front ++ rest) = parts in
    cc
at_most clients batch f (b ∷ more) adds j whole (x ∷ front) rest same parts is =
    let whole_is : b ∷ more ≡ x ∷ (front ++ rest) = parts in
    let first : b ≡ x = cc in
    let behind : more ≡ front ++ rest = cc in
    inr (record {
      more = front;
      settling =
          settling_front clients (after_all (facts j) batch) front rest
          (subst (λ (l : Journal). AllSettling clients (after_all (facts j) batch) l) behind
          (subst (λ (g : Facts). AllSettling clients (after_all g batch) more) (sym same) adds.1));
      is = is ∙ ap (λ (y : List Entry). j ++ (y ∷ front)) (sym first ∙ adds.0);
    })

pub extended_leads : (clients : Meaning) (batch : List Entry) (s s' : StoreValue)
    (result : Result (Unit {0}) StoreFault) (o o' : Outside)
    → HasExtended clients s s' batch result o o'
    → (two : Two File) → o.files ≡ Some two → (j : Journal) → FitsFiles clients s j two
    → LeadsTo clients (AddsAtMost clients j batch) (AddsAtMost clients j batch) s' o o'
extended_leads clients batch s s' result o o' has two files j fits =
    leads_ok clients batch s' o o' j (IsBetween j has.more) (λ whole. whole ≡ j ++ has.more) (AddsAtMost clients j batch)
    (λ k between. at_most clients batch s.state.facts has.more has.adds j k between.front between.rest fits.facts_are between.parts between.is)
    (λ k end. at_most clients batch s.state.facts has.more has.adds j k has.more [] fits.facts_are (sym (append-nil has.more)) end)
    (has.runs.leads two files j fits)
