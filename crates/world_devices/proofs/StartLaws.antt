-- What comes of the files of a host: what they stand for, with settling behind it. And a device
-- that starts, over its files or over what a crash left of them.
use Rattle.std.proofs.Common.{◌≡◌, ◌+◌, ◌*◌, ◌≤◌, ℕ, true, is_some, Option, Some, None, List}
use Rattle.std.proofs.Common.{length, arith, [], ◌∷◌, ◌++◌, refl, sym, ap, ◌∙◌, subst, inl, inr}
use Rattle.std.proofs.Common.{Result, Ok, Err, OnOk, OnErr}
use Rattle.std.specs.Prelude.{◌⊎◌, IsErrAnd, MatchResult}
use Rattle.std.specs.declared.alloc.AllocError.{AllocError}
use Rattle.outside.specs.Files.{Two, File, IsImage, read_files}
use Rattle.outside.specs.HostTold.{host_told}
use Rattle.outside.specs.MemDisk.{calls_of, disk_files, files_of}
use Rattle.outside.proofs.CallCounts.{most_more, most_then}
use Rattle.outside.proofs.CallSteps.{go_on_none, go_on_then}
use Rattle.outside.specs.MemHost.{CrashesHost, MemHostValue}
use Rattle.outside.specs.Outside.{AnyImage, MakesAtMost}
use Rattle.outside.specs.declared.pick.Pick.{Pick}
use Rattle.client_basic.specs.Bodies.{bundle_meaning}
use Rattle.entry_codec.specs.Standing.{journal}
use Rattle.file_standing.specs.Standing.{stands}
use Rattle.sync_rules.proofs.WorkLaws.{settles_itself, settles_then}
use Rattle.sync_rules.specs.Facts.{Facts, Journal, after_all, facts}
use Rattle.sync_rules.specs.Hearing.{SettlesJournal}
use Rattle.sync_rules.specs.Legal.{AllSettling}
use Rattle.sync_rules.specs.Steps.{IsSettled}
use Rattle.sync_ids.specs.declared.records.Record.{Record}
use Rattle.sync_store.specs.Fitting.{FitsFiles}
use Rattle.sync_store.specs.Loading.{LoadsIn}
use Rattle.sync_store.specs.Moments.{IsBetween}
use Rattle.sync_store.specs.Ready.{IsReady}
use Rattle.sync_store.specs.Settling.{HasSettled}
use Rattle.sync_store.proofs.Runs.{settled_within}
use Rattle.sync_store.specs.Store.{StoreValue}
use Rattle.sync_store.specs.declared.fault.LoadFault.{LoadFault}
use Rattle.sync_store.specs.declared.fault.StoreFault.{StoreFault}
use Rattle.sync_node.specs.Node.{NodeValue}
use Rattle.world_devices.specs.Devices.{DeviceValue, HostGoesOn, IsAnew, IsDevice, LeavesDisk}
use Rattle.world_devices.specs.Doing.{StartCut}
use Rattle.world_devices.specs.Doing.{FallsAtStop, CameStarting, ComesOf, ComesOfImage, CrashesTo}
use Rattle.world_devices.specs.Doing.{DeviceRestarts, IsAhead, Settles, SettlesFrom}
use Rattle.world_devices.specs.Doing.{load_calls}
use Rattle.world_devices.specs.Keeping.{KeepsOn, LeavesSome, StandsForSome}
use Rattle.world_devices.specs.Keeping.{WentOn}
use Rattle.world_devices.specs.Linking.{IsUnlinked, count_of_links}
use Rattle.world_devices.specs.Running.{HoldsAfterCrash, WentHearing}
use Rattle.world_devices.specs.declared.stop.StepFault.{StepFault}
use Rattle.world_devices.specs.declared.stop.StepFault.TheVariants as fault
use Rattle.world_devices.proofs.HostLaws.{calls_fresh, crash_only}
use Rattle.world_devices.proofs.KeepLaws.{crash_looks, crash_same, crash_so, holds_fits, holds_some}
use Rattle.world_devices.proofs.KeepLaws.{leads_leave, same_files, still_holds}
use Rattle.world_devices.proofs.LeaveLaws.{all_settling, hears_on, settling_plain, still_fits}
use Rattle.world_devices.proofs.LeaveLaws.{went_then}
use Rattle.world_devices.proofs.RunningLaws.{journal_of}

-- ---- settling

-- a front of settling batches is settling
settling_front : (f : Facts) (front rest : Journal)
    → AllSettling bundle_meaning f (front ++ rest) → AllSettling bundle_meaning f front
settling_front f [] rest settling = tt
settling_front f (b ∷ front) rest settling =
    (settling.0, settling_front (after_all f b) front rest settling.1)

between_settles : (j more whole : Journal) → AllSettling bundle_meaning (facts j) more
    → IsBetween j more whole → SettlesJournal bundle_meaning j whole
between_settles j more whole all at = record {
  more = at.front;
  settling =
      settling_front (facts j) at.front at.rest
      (subst (λ (bs : Journal). AllSettling bundle_meaning (facts j) bs) at.parts all);
  extends = at.is;
}

-- ---- what comes of files

none_comes : (j : Journal) (files : Two (List ℕ)) → stands bundle_meaning files ≡ journal j
    → StandsForSome (SettlesJournal bundle_meaning j) files
none_comes j files is = record { whole = j; has = settles_itself bundle_meaning j; stands_for = is }

pub comes_files : (h h' : MemHostValue) → (host_told h').files ≡ (host_told h).files → ComesOf h h'
comes_files h h' same = record {
  each = λ two told left image. record {
    before = left;
    image =
        subst (λ (t : Two File). IsImage t left) (sym (same_files h two (sym same ∙ told))) image;
    settles = λ j is. none_comes j left is;
  };
}

pub comes_same : (h : MemHostValue) → ComesOf h h
comes_same h = comes_files h h refl

pub comes_then : (a b c : MemHostValue) → ComesOf a b → ComesOf b c → ComesOf a c
comes_then a b c first second =
    crash_so (ComesOfImage b) (ComesOfImage a) (host_told c) (λ left later.
    let was = first.each (files_of (disk_files b.disk)) refl later.before later.image in
    record {
      before = was.before;
      image = was.image;
      settles = λ j is.
          let one = was.settles j is in
          let two = later.settles one.whole one.stands_for in
          record {
            whole = two.whole;
            has = settles_then bundle_meaning j one.whole two.whole one.has two.has;
            stands_for = two.stands_for;
          };
    }) second

-- what settling keeps is kept
comes_on : (P : Journal → Type 0)
    → ((a b : Journal) → P a → SettlesJournal bundle_meaning a b → P b) → (a b : MemHostValue)
    → ComesOf a b → LeavesSome P (host_told a) → LeavesSome P (host_told b)
comes_on P keeps a b comes k =
    crash_so (ComesOfImage a) (StandsForSome P) (host_told b) (λ left later.
    let was = k.each (files_of (disk_files a.disk)) refl later.before later.image in
    let now = later.settles was.whole was.stands_for in
    record {
      whole = now.whole;
      has = keeps was.whole now.whole was.has now.has;
      stands_for = now.stands_for;
    }) comes

pub comes_keeps : (a b : MemHostValue) → ComesOf a b → KeepsOn (host_told a) (host_told b)
comes_keeps a b comes j =
    comes_on (WentOn j) (λ x y went on.
    went_then j x y went
    (record {
      more = on.more;
      plain = settling_plain (facts x) on.more on.settling;
      is = on.extends;
    })) a b comes

-- a device that does not run, over what came of its files
pub device_idle : (node : Option NodeValue) (h h' : MemHostValue) (links : ℕ) → ComesOf h h'
    → IsDevice node h links → IsDevice None h' links
device_idle maybe h h' links comes device = (tt, comes_keeps h h' comes [] device.1, device.2)

pub comes_hears : (heard : ℕ → List Record) (j : Journal) (a b : MemHostValue) → ComesOf a b
    → LeavesSome (WentHearing heard j) (host_told a)
    → LeavesSome (WentHearing heard j) (host_told b)
comes_hears heard j a b comes =
    comes_on (WentHearing heard j) (λ x y went on.
    subst (λ (k : Journal). WentHearing heard j k) (sym on.extends)
    (hears_on heard j x on.more went (settling_plain (facts x) on.more on.settling)
    (all_settling heard (facts x) on.more on.settling))) a b comes

comes_settling : (j : Journal) (a b : MemHostValue) → ComesOf a b → HoldsAfterCrash j a → LeavesSome
    (SettlesJournal bundle_meaning j) (host_told b)
comes_settling j a b comes holds =
    comes_on (SettlesJournal bundle_meaning j) (λ x y. settles_then bundle_meaning j x y) a b comes
    (holds_some (SettlesJournal bundle_meaning j) j a (settles_itself bundle_meaning j) holds)

-- a host that begins anew over an image, or does nothing
pub comes_crash : (pick : Pick) (h h' : MemHostValue) (result : Result (Unit {0}) AllocError)
    → OnOk result (CrashesHost pick h h') → OnErr result (h' ≡ h) → ComesOf h h'
comes_crash pick h h' (Ok u) ok err =
    crash_so (λ left. ok.disk.start ≡ left) (ComesOfImage h) (host_told h')
    (λ left is. record {
      before = ok.disk.start;
      image = ok.image;
      settles = λ j stood. none_comes j left (ap (stands bundle_meaning) (sym is) ∙ stood);
    })
    (crash_only pick h h' ok)
comes_crash pick h h' (Err e) ok err =
    comes_files h h' (ap (λ (x : MemHostValue). (host_told x).files) err)

-- ---- a store that is settled

-- a disk that fits a store holds its journal
pub fits_hold : (s : StoreValue) (j : Journal) (h : MemHostValue) → FitsFiles bundle_meaning s j
    (files_of (disk_files h.disk)) → HoldsAfterCrash j h
fits_hold s j h fits = still_holds j h fits.stands_for (still_fits s j h fits)

pub settles_from : (j : Journal) (s s' : StoreValue) (u : Unit {0}) (h h' : MemHostValue) → IsReady bundle_meaning s (host_told h).files
    → HasSettled bundle_meaning s s' (Ok u) (host_told h) (host_told h') → HoldsAfterCrash j h → SettlesFrom j h'
settles_from j s s' u h h' ready settled holds =
    let has = journal_of s h ready in
    let same : has.whole ≡ j = holds_fits s j has.whole h holds has.fits in
    let leads = settled.comes.leads (files_of (disk_files h.disk)) refl has.whole has.fits in
    let (whole, is, fits) = leads.ends settled.answer.0 (files_of (disk_files h'.disk)) refl in
    let f : s.state.facts ≡ facts j = sym has.fits.facts_are ∙ ap facts same in
    record {
      whole = whole;
      has = record {
        more = settled.more;
        settling = subst (λ (g : Facts). AllSettling bundle_meaning g settled.more) f settled.comes.settling;
        extends = is ∙ ap (λ (k : Journal). k ++ settled.more) same;
      };
      settled = subst (λ (g : Facts). IsSettled bundle_meaning g) (sym fits.facts_are) settled.answer.1;
      holds = fits_hold s' whole h' fits;
    }

-- whatever it answers
pub settle_settles : (s s' : StoreValue) (result : Result (Unit {0}) StoreFault)
    (h h' : MemHostValue) → IsReady bundle_meaning s (host_told h).files
    → HasSettled bundle_meaning s s' result (host_told h) (host_told h') → HostGoesOn h h'
    → Settles (λ j. 0) h h'
settle_settles s s' result h h' ready settled calls =
    let has = journal_of s h ready in
    let two : Two File = files_of (disk_files h.disk) in
    let all : AllSettling bundle_meaning (facts has.whole) settled.more =
    subst (λ (f : Facts). AllSettling bundle_meaning f settled.more) (sym has.fits.facts_are)
    settled.comes.settling in
    record {
      calls = calls;
      left =
          crash_so (StandsForSome (IsBetween has.whole settled.more)) (ComesOfImage h)
          (host_told h') (λ left at. record {
            before = read_files two;
            image = (host_told h).reads two refl;
            settles = λ j is.
                let both : journal has.whole ≡ journal j = sym has.fits.stands_for ∙ is in
                let same : has.whole ≡ j = cc in
                record {
                  whole = at.whole;
                  has = subst (λ (k : Journal). SettlesJournal bundle_meaning k at.whole) same
                      (between_settles has.whole settled.more at.whole all at.has);
                  stands_for = at.stands_for;
                };
          })
          (leads_leave (IsBetween has.whole settled.more) (λ whole.
          whole ≡ has.whole ++ settled.more) s' (host_told h) (host_told h')
          (settled.comes.leads two refl has.whole has.fits));
      within = λ j holds. record {
        more = settled.more;
        settling = subst (λ (k : Journal). AllSettling bundle_meaning (facts k) settled.more)
            (holds_fits s j has.whole h holds has.fits) all;
        most = most_more (4 * length settled.more) (0 + 4 * length settled.more) (host_told h)
            (host_told h') (omega arith) (settled_within bundle_meaning s s' result
            (host_told h) (host_told h') settled);
      };
    }

-- ---- settling behind other calls

settles_none : (most : Journal → ℕ) (h : MemHostValue) → Settles most h h
settles_none most h = record {
  calls = go_on_none (calls_of h.disk);
  left = comes_same h;
  within = λ j holds. record { more = []; settling = tt; most = record { made = omega arith } };
}

-- behind calls that leave what the files hold
settles_behind : (first then most : Journal → ℕ) → ((j : Journal) → first j + then j ≤ most j)
    → (a b c : MemHostValue) → HostGoesOn a b → ComesOf a b
    → ((j : Journal) → HoldsAfterCrash j a
    → HoldsAfterCrash j b × MakesAtMost (first j) (host_told a) (host_told b))
    → Settles then b c → Settles most a c
settles_behind first then most few a b c calls comes keeps settles = record {
  calls = go_on_then (calls_of a.disk) (calls_of b.disk) (calls_of c.disk) calls settles.calls;
  left = comes_then a b c comes settles.left;
  within = λ j holds.
      let kept = keeps j holds in
      let w = settles.within j kept.0 in
      record {
        more = w.more;
        settling = w.settling;
        most =
            most_more (first j + (then j + 4 * length w.more)) (most j + 4 * length w.more)
            (host_told a) (host_told c) (omega (arith, few j))
            (most_then (first j) (then j + 4 * length w.more) (host_told a) (host_told b)
            (host_told c) kept.1 w.most);
      };
}

-- ---- a store that is loaded

module _ (result : Result StoreValue LoadFault) (h h' : MemHostValue) (calls : HostGoesOn h h')
    (any : AnyImage (host_told h) (host_told h'))
    (loads : LoadsIn bundle_meaning result (host_told h) (host_told h')) where
  pub load_most : (j : Journal) → HoldsAfterCrash j h → MakesAtMost (load_calls j) (host_told h)
      (host_told h')
  load_most j holds =
      let two : Two File = files_of (disk_files h.disk) in
      (loads two refl j (holds.each two refl (read_files two) ((host_told h).reads two refl))).most

  load_comes : ComesOf h h'
  load_comes = crash_looks (ComesOfImage h) h h' any (comes_same h)

  pub load_holds : (j : Journal) → HoldsAfterCrash j h → HoldsAfterCrash j h'
  load_holds j = crash_looks (λ left. stands bundle_meaning left ≡ journal j) h h' any

  -- one behind which the store was settled
  pub load_then : (at : MemHostValue) → Settles (λ j. 0) h' at → Settles load_calls h at
  load_then at =
      settles_behind load_calls (λ j. 0) load_calls (λ j. omega arith) h h' at calls load_comes
      (λ j holds. (load_holds j holds, load_most j holds))

  -- one that failed
  pub load_settles : Settles load_calls h h'
  load_settles = load_then h' (settles_none (λ j. 0) h')

-- ---- a device that starts

-- behind what makes no call of the disk
pub settles_after : (h h' at : MemHostValue) → LeavesDisk h h' → Settles load_calls h' at
    → Settles load_calls h at
settles_after h h' at disk =
    settles_behind (λ j. 0) load_calls load_calls (λ j. omega arith) h h' at disk.calls
    (comes_files h h' disk.files) (λ j holds. (
      crash_same (λ left. stands bundle_meaning left ≡ journal j) (host_told h) (host_told h')
          disk.files holds,
      record { made = omega (arith, disk.made) },
    ))

pub settles_still : (h h' : MemHostValue) → LeavesDisk h h' → Settles load_calls h h'
settles_still h h' disk = settles_after h h' h' disk (settles_none load_calls h')

-- ---- a device that crashed

pub crashes_to : (pick : Pick) (h at h' : MemHostValue) (new : DeviceValue) → h ≡ at
    → CrashesHost pick h h' → ((j : Journal) → HoldsAfterCrash j h' → SettlesFrom j new.host)
    → IsAnew new.clock new.host → IsUnlinked new → new.stop ≡ None → HostGoesOn h' new.host
    → CrashesTo pick at new
crashes_to pick h at h' new seen crashes loads anew unlinked disarmed since =
    subst (λ (x : MemHostValue). CrashesTo pick x new) seen (record {
      image = crashes.disk;
      pictured = crashes.pictured;
      since = go_on_then (calls_of crashes.disk) (calls_of h'.disk) (calls_of new.host.disk)
          (calls_fresh h' crashes.disk crashes.anew) since;
      loads = λ j is.
          loads j (crash_so (λ left. crashes.disk.start ≡ left) (λ left. stands bundle_meaning left
          ≡ journal j) (host_told h')
          (λ left same. ap (stands bundle_meaning) (sym same) ∙ is) (crash_only pick h h' crashes));
      anew = anew;
      unlinked = unlinked;
      disarmed = disarmed;
    })

-- ---- a device that starts again over its files

-- a call that answers this, or finds no memory
pub by_done : {R : Type 0} (P : Result R StepFault → Type 0) (r : Result R StepFault) (a : R)
    (Q : Type 0) → MatchResult r (λ x. (x ≡ a) × Q) (λ e. e ≡ fault.Memory) → (Q → P (Ok a))
    → P (Err fault.Memory) → P r
by_done P (Ok x) a Q is ok starved = subst (λ y. P (Ok y)) (sym is.0) (ok is.1)
by_done P (Err e) a Q is ok starved = subst (λ y. P (Err y)) (sym is) starved

-- one that may also say that its journal is full
pub by_broken : {R : Type 0} (P : Result R StepFault → Type 0) (r : Result R StepFault) (a : R)
    (Q F : Type 0)
    → MatchResult r (λ x. (x ≡ a) × Q) (λ e. (e ≡ fault.Memory) ⊎ ((e ≡ fault.Full) × F))
    → (Q → P (Ok a)) → P (Err fault.Memory) → (F → P (Err fault.Full)) → P r
by_broken P (Ok x) a Q F is ok starved full = subst (λ y. P (Ok y)) (sym is.0) (ok is.1)
by_broken P (Err e) a Q F (inl is) ok starved full = subst (λ y. P (Err y)) (sym is) starved
by_broken P (Err e) a Q F (inr is) ok starved full = subst (λ y. P (Err y)) (sym is.0) (full is.1)

-- a call that does not answer Ok
pub err_only : {A : Type 0} (P : A → Type 0) (Q : StepFault → Type 0) (r : Result A StepFault)
    → IsErrAnd r Q → MatchResult r P Q
err_only P Q (Ok a) is = absurd is
err_only P Q (Err e) is = is

-- a device without links runs
pub node_unlinked : (node : Option NodeValue) → count_of_links node ≡ Some 0
    → (n : NodeValue) × (node ≡ Some n)
node_unlinked None is = cc
node_unlinked (Some n) is = (n, refl)

pub runs_unlinked : (d : DeviceValue) → IsUnlinked d → is_some d.node ≡ true
runs_unlinked d none = ap is_some (node_unlinked d.node none.unlinked).1

-- what holds whatever is answered
pub ok_anyway : {A E P : Type 0} (r : Result A E) → P → OnOk r P
ok_anyway (Ok a) holds = holds
ok_anyway (Err e) holds = tt

came_starting : (d : DeviceValue) (at : MemHostValue) → Settles load_calls d.host at
    → CameStarting d at
came_starting d at settles j holds =
    (comes_settling j d.host at settles.left holds, settles.within j holds)

-- it found no memory, somewhere
pub gave_up : (d new : DeviceValue) (at : MemHostValue) → Settles load_calls d.host at
    → ComesOf at new.host → DeviceRestarts (Err fault.Memory) d new
gave_up d new at settles left =
    record { at = at; since = settles.calls; broken = came_starting d at settles; left = left }

-- it started, and no call was passed at which its disk is to stop; or one was
pub restart_ended : (d : DeviceValue) (r : Result (Unit {0}) StepFault) (new : DeviceValue)
    (h : MemHostValue) → LeavesDisk d.host h
    → ((j : Journal) → HoldsAfterCrash j h → SettlesFrom j new.host)
    → Settles load_calls h new.host → IsAnew new.clock new.host → IsUnlinked new
    → new.clock ≡ d.clock → new.stop ≡ d.stop
    → MatchResult r (λ u. (u ≡ tt) × IsAhead new.stop new.host) (λ e. e ≡ fault.Memory)
    → DeviceRestarts r d new
restart_ended d r new h disk loads settles anew unlinked clock stop answered =
    let after = settles_after d.host h new.host disk settles in
    by_done (λ x. DeviceRestarts x d new) r tt _ answered (λ ahead. inl (record {
      own = record { clock = clock; stop = stop; since = after.calls; ahead = ahead };
      anew = anew;
      unlinked = unlinked;
      loads = λ j holds.
          loads j (crash_same (λ left. stands bundle_meaning left ≡ journal j)
          (host_told d.host) (host_told h) disk.files holds);
    })) (gave_up d new new.host after (comes_same new.host))

-- it found no memory
pub restart_failed : (d : DeviceValue) (r : Result (Unit {0}) StepFault) (new : DeviceValue)
    (at : MemHostValue) → IsErrAnd r (λ e. e ≡ fault.Memory) → Settles load_calls d.host at
    → ComesOf at new.host → DeviceRestarts r d new
restart_failed d (Ok u) new at is settles left = absurd is
restart_failed d (Err e) new at is settles left =
    subst (λ (x : StepFault). DeviceRestarts (Err x) d new) (sym is) (gave_up d new at settles left)

-- its disk failed
pub restart_broken : (d : DeviceValue) (r : Result (Unit {0}) StepFault) (mid new : DeviceValue)
    → Settles load_calls d.host mid.host → mid.stop ≡ d.stop → new.clock ≡ d.clock
    → MatchResult r (λ _. FallsAtStop mid.stop mid.host new) (λ e. e ≡ fault.Memory)
    → ComesOf mid.host new.host → StartCut d.host mid.host → DeviceRestarts r d new
restart_broken d (Ok u) mid new settles stop clock off left cut = inr (record {
  at = mid.host;
  since = settles.calls;
  broken = (came_starting d mid.host settles, cut);
  off = subst (λ (s : _). FallsAtStop s mid.host new) stop off;
  clock = clock;
})
restart_broken d (Err e) mid new settles stop clock is left cut =
    restart_failed d (Err e) new mid.host is settles left
