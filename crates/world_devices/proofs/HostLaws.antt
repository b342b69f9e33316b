-- What a host in memory tells, over its own calls.
use Rattle.std.proofs.Common.{◌≡◌, ℕ, zero, suc, List, [], ◌∷◌, ◌++◌, length, refl, sym, ap, ◌∙◌}
use Rattle.std.proofs.Common.{subst, arith, Option, Some, None, Result, Ok, Err, OnOk, OnErr}
use Rattle.std.proofs.Common.{replicate}
use Rattle.std.proofs.Common.{slice_index, slice_index_or}
use Rattle.std.specs.declared.alloc.AllocError.{AllocError}
use Rattle.outside.specs.declared.failed.Failed.{Failed}
use Rattle.outside.specs.Files.{Two, File, IsImage, settled}
use Rattle.outside.specs.Host.{DialsLink}
use Rattle.outside.specs.Links.{Answered, ToldLink, Links, HeardOn, Planned}
use Rattle.outside.specs.Outside.{Outside}
use Rattle.outside.specs.Runs.{TellsAll, answers_at, heard_bytes, sent_at}
use Rattle.outside.proofs.RunLaws.{others_dial}
use Rattle.outside.specs.Calls.{CallsGoOn}
use Rattle.outside.proofs.CallSteps.{change_none, change_then, go_on_none, go_on_then}
use Rattle.outside.specs.Changes.{Change, hosted}
use Rattle.outside.specs.MemDisk.{MemDiskValue, calls_of, KeptFile, kept_after, changed, both_kept}
use Rattle.outside.specs.MemDisk.{disk_files, files_of, fresh_disk, links_after, answers_after}
use Rattle.outside.specs.MemHost.{MemHostValue, Readings, CrashesHost, fresh_host, plans_of}
use Rattle.outside.specs.MemHost.{upcoming_of}
use Rattle.outside.specs.declared.limits.TheConstants.{LINKS}
use Rattle.outside.specs.HostTold.{host_told}
use Rattle.outside.specs.LinksTold.{links_heard}
use Rattle.outside.specs.declared.pick.Pick.{Pick}
use Rattle.world_devices.specs.Brought.{IsSilent, brought_on, planned_bytes}
use Rattle.world_devices.specs.Devices.{IsAnew, LeavesDisk, links_made}
use Rattle.world_devices.specs.Keeping.{AfterCrash, AreLinksQuiet, TellsSame}
use Rattle.world_devices.proofs.KeepLaws.{still_files}

-- all is told
pub told_host : (h : MemHostValue) → TellsAll (host_told h)
told_host h = record {
  two = files_of (disk_files h.disk);
  files_are = refl;
  links = links_after [] h.disk.calls;
  links_are = refl;
  heard = links_heard (answers_after [] h.disk.calls) (λ i. slice_index h.silences i);
  heard_are = refl;
}

-- by what came of a call that did nothing where it found no memory
pub either : (P : MemHostValue → Type 0) (h h' to : MemHostValue)
    (result : Result (Unit {0}) AllocError) → OnOk result (h' ≡ to) → OnErr result (h' ≡ h) → P to
    → P h → P h'
either P h h' to (Ok u) ok err done same = subst P (sym ok) done
either P h h' to (Err e) ok err done same = subst P (sym err) same

-- ---- calls that change nothing that is told of files and links

abbrev SameAs : MemHostValue → MemHostValue → Type 0
SameAs h h' = TellsSame (host_told h) (host_told h')

tells_own : (h : MemHostValue) (clock : Readings) (scripts : List (List Planned)) (failing : List ℕ)
    (stop : Option ℕ)
    → SameAs h (record h {
      clock = clock;
      scripts = scripts;
      disk = record h.disk { failing = failing; stop = stop };
    })
tells_own h clock scripts failing stop =
    record { files = refl; told = refl; heard = refl; dialled = refl }

tells_same : (h : MemHostValue) → SameAs h h
tells_same h = tells_own h h.clock h.scripts h.disk.failing h.disk.stop

pub script_same : (h h' : MemHostValue) (scripts : List (List Planned)) (result : Result (Unit {0}) AllocError) → OnOk result (h' ≡ record h { scripts = scripts }) → OnErr result (h' ≡ h) → SameAs h h'
script_same h h' scripts result ok err =
    either (SameAs h) h h' (record h { scripts = scripts }) result ok err
    (tells_own h h.clock scripts h.disk.failing h.disk.stop) (tells_same h)

-- nor anything that is planned
pub record LeavesTold (h h' : MemHostValue) : Type 0 where
  pub same : TellsSame (host_told h) (host_told h')
  pub scripts : h'.scripts ≡ h.scripts

told_then : (a b c : MemHostValue) → LeavesTold a b → LeavesTold b c → LeavesTold a c
told_then a b c first second = record {
  same = record {
    files = second.same.files ∙ first.same.files;
    told = second.same.told ∙ first.same.told;
    heard = second.same.heard ∙ first.same.heard;
    dialled = second.same.dialled ∙ first.same.dialled;
  };
  scripts = second.scripts ∙ first.scripts;
}

-- the time, and the calls that are to fail
own_told : (h : MemHostValue) (clock : Readings) (failing : List ℕ) (stop : Option ℕ) → LeavesTold h
    (record h { clock = clock; disk = record h.disk { failing = failing; stop = stop } })
own_told h clock failing stop =
    record { same = tells_own h clock h.scripts failing stop; scripts = refl }

none_told : (h : MemHostValue) → LeavesTold h h
none_told h = own_told h h.clock h.disk.failing h.disk.stop

pub clock_told : (h h' : MemHostValue) (clock : Readings) (result : Result (Unit {0}) AllocError)
    → OnOk result (h' ≡ record h { clock = clock }) → OnErr result (h' ≡ h) → LeavesTold h h'
clock_told h h' clock result ok err =
    either (LeavesTold h) h h' (record h { clock = clock }) result ok err
    (own_told h clock h.disk.failing h.disk.stop) (none_told h)

pub failing_told : (h h' : MemHostValue) (failing : List ℕ) (stop : Option ℕ)
    → h' ≡ record h { disk = record h.disk { failing = failing; stop = stop } } → LeavesTold h h'
failing_told h h' failing stop is =
    subst (λ (x : MemHostValue). LeavesTold h x) (sym is) (own_told h h.clock failing stop)

fails_told : (h h' : MemHostValue) (call : ℕ) (result : Result (Unit {0}) AllocError)
    → OnOk result (h' ≡ record h { disk = record h.disk { failing = h.disk.failing ++ call ∷ [] } })
    → OnErr result (h' ≡ h)
    → LeavesTold h h'
fails_told h h' call result ok err =
    either (LeavesTold h) h h'
    (record h { disk = record h.disk { failing = h.disk.failing ++ call ∷ [] } }) result ok err
    (own_told h h.clock (h.disk.failing ++ call ∷ []) h.disk.stop) (none_told h)

-- no call is to fail, and then this one
pub stop_told : (h between h' : MemHostValue) (call : ℕ) (result : Result (Unit {0}) AllocError)
    → between ≡ record h { disk = record h.disk { failing = []; stop = None } }
    → OnOk result (h' ≡ record between {
      disk = record between.disk { failing = between.disk.failing ++ call ∷ [] };
    })
    → OnErr result (h' ≡ between) → LeavesTold h h'
stop_told h between h' call result none ok err =
    told_then h between h' (failing_told h between [] None none)
    (fails_told between h' call result ok err)

-- ---- calls that make none of the disk

pub disk_none : (h : MemHostValue) → LeavesDisk h h
disk_none h = record {
  files = refl;
  made = refl;
  calls = go_on_none (calls_of h.disk);
  unchanged = change_none (calls_of h.disk);
}

pub disk_then : (a b c : MemHostValue) → LeavesDisk a b → LeavesDisk b c → LeavesDisk a c
disk_then a b c first second = record {
  files = second.files ∙ first.files;
  made = second.made ∙ first.made;
  calls = go_on_then (calls_of a.disk) (calls_of b.disk) (calls_of c.disk) first.calls second.calls;
  unchanged =
      change_then (calls_of a.disk) (calls_of b.disk) (calls_of c.disk) first.unchanged second.unchanged;
}

pub clock_disk : (h h' : MemHostValue) (clock : Readings) (result : Result (Unit {0}) AllocError)
    → OnOk result (h' ≡ record h { clock = clock }) → OnErr result (h' ≡ h) → LeavesDisk h h'
clock_disk h h' clock result ok err =
    either (LeavesDisk h) h h' (record h { clock = clock }) result ok err
    (record {
      files = refl;
      made = refl;
      calls = go_on_none (calls_of h.disk);
      unchanged = change_none (calls_of h.disk);
    }) (disk_none h)

-- ---- a host that begins anew

hosted_same : (two : Two KeptFile) (calls : List Change) → kept_after two (calls ++ hosted ∷ []) ≡ kept_after two calls
hosted_same two [] = refl
hosted_same two (c ∷ calls) = hosted_same (changed two c) calls

-- of a host that is made over a disk
pub calls_fresh : (h : MemHostValue) (disk : MemDiskValue) → h ≡ fresh_host disk → CallsGoOn (calls_of disk) (calls_of h.disk)
calls_fresh h disk is =
    subst (λ (x : MemHostValue). CallsGoOn (calls_of disk) (calls_of x.disk)) (sym is)
    (record { same_start = refl; same_failing = refl; same_stop = refl; more = hosted ∷ []; grown = refl; later = omega arith })

pub anew_disk : (h h' : MemHostValue) (result : Result (Unit {0}) AllocError) → OnOk result
    (h' ≡ fresh_host h.disk) → OnErr result (h' ≡ h) → LeavesDisk h h'
anew_disk h h' result ok err =
    either (LeavesDisk h) h h' (fresh_host h.disk) result ok err (record {
      files =
          ap (λ (k : Two KeptFile). Some (files_of k))
          (hosted_same (both_kept h.disk.start) h.disk.calls);
      made = refl;
      calls = calls_fresh (fresh_host h.disk) h.disk refl;
      unchanged = record { more = hosted ∷ []; grown = refl; none = refl };
    }) (disk_none h)

-- ---- a host over an image

-- it begins anew over that image alone
pub crash_only : (pick : Pick) (h h' : MemHostValue) (crashes : CrashesHost pick h h') → AfterCrash
    (λ left. crashes.disk.start ≡ left) (host_told h')
crash_only pick h h' crashes = record {
  each = λ two is left image.
      let start = crashes.disk.start in
      let anew : h' ≡ fresh_host (fresh_disk start) = crashes.anew
      ∙ ap fresh_host crashes.pictured.fresh in
      let only : Some (record { first = settled start.first; second = settled start.second }) ≡ Some two = sym (ap (λ (x : MemHostValue). (host_told x).files) anew) ∙ is in
      let same : record { first = settled start.first; second = settled start.second } ≡ two = cc in
      sym (still_files (record { first = settled start.first; second = settled start.second }) left
      refl refl (subst (λ (t : Two File). IsImage t left) (sym same) image));
}

-- ---- links on which nothing was sent

none_sent : (link : ℕ) → sent_at (Some []) link ≡ []
none_sent zero = refl
none_sent (suc link) = refl

none_heard : (link : ℕ) → answers_at (Some []) link ≡ []
none_heard zero = refl
none_heard (suc link) = refl

no_items : {A : Type 0} (xs : List A) → length xs ≡ 0 → xs ≡ []
no_items [] none = refl
no_items (x ∷ xs) none = absurd (omega arith)

pub quiet_none : (o : Outside) → TellsAll o → o.links.dialled ≡ 0 → AreLinksQuiet o
quiet_none o told none =
    let links : told.links ≡ [] = no_items told.links (o.all_told told.links told.links_are ∙ none) in
    let heard : told.heard ≡ [] = no_items told.heard (o.all_heard told.heard told.heard_are ∙ none) in
    record {
      sent = λ link. ap (λ (t : Option (List ToldLink)). sent_at t link) (told.links_are ∙ ap (λ (l : List ToldLink). Some l) links) ∙ none_sent link;
      heard = λ link. ap (λ (t : Option (List HeardOn)). answers_at t link) (told.heard_are ∙ ap (λ (l : List HeardOn). Some l) heard) ∙ none_heard link;
    }

pub quiet_dialled : (spec : List ℕ) (result : Result ℕ Failed) (o o' : Outside) → DialsLink spec result o.links o'.links → AreLinksQuiet o → AreLinksQuiet o'
quiet_dialled spec result o o' dials quiet = record {
  sent = λ link. (others_dial (suc link) spec result o.links o'.links dials).sent link (λ same. omega (arith, same)) ∙ quiet.sent link;
  heard = λ link. (others_dial (suc link) spec result o.links o'.links dials).answers link (λ same. omega (arith, same)) ∙ quiet.heard link;
}

pub quiet_told : (o o' : Outside) → o'.links.told ≡ o.links.told → o'.links.heard ≡ o.links.heard
    → AreLinksQuiet o → AreLinksQuiet o'
quiet_told o o' told heard quiet = record {
  sent = λ link. ap (λ (t : Option (List ToldLink)). sent_at t link) told ∙ quiet.sent link;
  heard = λ link. ap (λ (t : Option (List HeardOn)). answers_at t link) heard ∙ quiet.heard link;
}

-- ---- what links bring

heard_of : (h h' : MemHostValue) (link : ℕ) → (host_told h').links.heard ≡ (host_told h).links.heard → heard_bytes (answers_at (host_told h').links.heard link) ≡ heard_bytes (answers_at (host_told h).links.heard link)
heard_of h h' link same = ap (λ (t : Option (List HeardOn)). heard_bytes (answers_at t link)) same

-- of a link whose plan and whose answers are the same
pub brings_same : (h h' : MemHostValue) (link : ℕ) → (host_told h').links.heard ≡ (host_told h).links.heard → plans_of h'.scripts link ≡ plans_of h.scripts link → brought_on h' link ≡ brought_on h link
brings_same h h' link heard plan =
    ap (λ (l : List ℕ). l ++ planned_bytes (plans_of h'.scripts link)) (heard_of h h' link heard)
    ∙ ap (λ (p : List Planned). heard_bytes (answers_at (host_told h).links.heard link) ++ planned_bytes p) plan

pub brings_on : (h h' : MemHostValue) (link : ℕ) → LeavesTold h h'
    → brought_on h' link ≡ brought_on h link
brings_on h h' link leaves =
    brings_same h h' link leaves.same.heard
    (ap (λ (s : List (List Planned)). plans_of s link) leaves.scripts)

-- where nothing is planned and nothing was heard, nothing is brought
pub brings_none : (h : MemHostValue) (link : ℕ) → IsSilent h → AreLinksQuiet (host_told h) → brought_on h link ≡ []
brings_none h link silent quiet =
    ap (λ (a : List Answered). heard_bytes a ++ planned_bytes (plans_of h.scripts link)) (quiet.heard link)
    ∙ ap planned_bytes (silent.plans link)

abbrev unplanned : List Planned
unplanned = []

no_plan : (n link : ℕ) → slice_index_or (replicate n unplanned) link unplanned ≡ unplanned
no_plan zero link = refl
no_plan (suc n) zero = refl
no_plan (suc n) (suc link) = no_plan n link

pub silent_fresh : (h : MemHostValue) (disk : MemDiskValue) → h ≡ fresh_host disk → IsSilent h
silent_fresh h disk is = subst (λ (x : MemHostValue). IsSilent x) (sym is) (record { plans = λ link. no_plan LINKS link })

-- the plans of links that stay so
pub plans_linked : (h h' : MemHostValue) → (host_told h').links ≡ (host_told h).links → (link : ℕ)
    → plans_of h'.scripts link ≡ plans_of h.scripts link
plans_linked h h' same link =
    let both : Some (plans_of h'.scripts) ≡ Some (plans_of h.scripts) = ap (λ (l : Links). l.planned) same in
    let plans : plans_of h'.scripts ≡ plans_of h.scripts = cc in
    ap (λ (p : ℕ → List Planned). p link) plans

pub brings_linked : (h h' : MemHostValue) (link : ℕ) → (host_told h').links ≡ (host_told h).links → brought_on h' link ≡ brought_on h link
brings_linked h h' link same =
    brings_same h h' link (ap (λ (l : Links). l.heard) same) (plans_linked h h' same link)

-- ---- a host that is anew

-- it stays so while its links stay as they are
pub anew_linked : (clock : ℕ) (h h' : MemHostValue) → (host_told h').links ≡ (host_told h).links
    → IsAnew clock h → IsAnew clock h'
anew_linked clock h h' same anew =
    let both : Some (upcoming_of h'.clock) ≡ Some (upcoming_of h.clock) =
    ap (λ (l : Links). l.upcoming) same in
    let kept : upcoming_of h'.clock ≡ upcoming_of h.clock = cc in
    record {
      dialled = ap (λ (l : Links). l.dialled) same ∙ anew.dialled;
      silent = record { plans = λ link. plans_linked h h' same link ∙ anew.silent.plans link };
      quiet = quiet_told (host_told h) (host_told h') (ap (λ (l : Links). l.told) same)
          (ap (λ (l : Links). l.heard) same) anew.quiet;
      upcoming = kept ∙ anew.upcoming;
    }

-- after all links were dialled and the clock was set
pub anew_clocked : (clock : ℕ) (h0 h1 h2 : MemHostValue) → h1.scripts ≡ h0.scripts
    → LeavesTold h1 h2 → IsSilent h0 → links_made h1 ≡ LINKS → AreLinksQuiet (host_told h1)
    → upcoming_of h2.clock ≡ clock ∷ [] → IsAnew clock h2
anew_clocked clock h0 h1 h2 dialled set silent links quiet upcoming = record {
  dialled = set.same.dialled ∙ links;
  silent = record {
    plans = λ link. ap (λ (s : List (List Planned)). plans_of s link) (set.scripts ∙ dialled)
        ∙ silent.plans link;
  };
  quiet = quiet_told (host_told h1) (host_told h2) set.same.told set.same.heard quiet;
  upcoming = upcoming;
}
