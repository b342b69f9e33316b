-- What a crash may leave: files that stand for a journal that has something, over calls that look,
-- settle or change nothing.
use Rattle.std.proofs.Common.{◌≡◌, ℕ, ◌≤◌, List, refl, sym, ap, ◌∙◌, subst, Some}
use Rattle.outside.specs.Files.{Two, File, IsFileImage, IsImage, NothingPending, read_files}
use Rattle.outside.specs.HostTold.{host_told}
use Rattle.outside.specs.Links.{sent_of}
use Rattle.outside.specs.MemDisk.{disk_files, files_of}
use Rattle.outside.specs.MemHost.{MemHostValue}
use Rattle.outside.specs.Outside.{AnyImage, Moment, Outside}
use Rattle.outside.proofs.Calm.{settled_only}
use Rattle.client_basic.specs.Bodies.{bundle_meaning}
use Rattle.entry_codec.specs.Standing.{journal}
use Rattle.file_standing.specs.Standing.{stands}
use Rattle.sync_store.specs.Fitting.{FitsFiles}
use Rattle.sync_store.specs.Moments.{LeadsTo}
use Rattle.sync_store.specs.Store.{StoreValue}
use Rattle.sync_node.specs.Courses.{FitsWith}
use Rattle.world_devices.specs.Keeping.{AfterCrash, LeavesSome, StandsForSome}
use Rattle.world_devices.specs.Running.{HoldsAfterCrash, IsStill}
use Rattle.sync_rules.specs.Facts.{Journal}

-- ---- files

-- a crash leaves of a file in which nothing is pending what it reads as
pub still_files : (two : Two File) (left : Two (List ℕ)) → NothingPending two 0
    → NothingPending two 1 → IsImage two left → left ≡ read_files two
still_files two left first second image =
    let one = settled_only two.first.now left.first (subst (λ (f : File). IsFileImage f left.first) first image.first) in
    let other = settled_only two.second.now left.second (subst (λ (f : File). IsFileImage f left.second) second image.second) in
    (λ i. record { first = one i; second = other i })

-- ---- what a crash leaves

module _ (Has : Two (List ℕ) → Type 0) where
  pub crash_same : (o o' : Outside) → o'.files ≡ o.files → AfterCrash Has o → AfterCrash Has o'
  crash_same o o' same k =
      record { each = λ two is left image. k.each two (sym same ∙ is) left image }

  -- by what moments since are
  pub crash_since : (o o' : Outside) → o.clock ≤ o'.clock
      → ((m : Moment) → o'.moments o.clock m → Has m.files) → AfterCrash Has o'
  crash_since o o' later by = record {
    each = λ two is left image.
        let m : Moment = record { files = left; sent = sent_of o'.links.told } in
        by m (o'.since o.clock m later (o'.is_now two m is (record { image = image; sent = refl })));
  }

  -- what may be left after a look might have been left before
  pub crash_looks : (h h' : MemHostValue) → AnyImage (host_told h) (host_told h') → AfterCrash Has
      (host_told h) → AfterCrash Has (host_told h')
  crash_looks h h' any k =
      let run = any (files_of (disk_files h.disk)) refl in
      crash_since (host_told h) (host_told h') run.later (λ m w.
      k.each (files_of (disk_files h.disk)) refl m.files (run.each m w).image)

pub crash_so : (P Q : Two (List ℕ) → Type 0) (o : Outside)
    → ((left : Two (List ℕ)) → P left → Q left) → AfterCrash P o → AfterCrash Q o
crash_so P Q o so k = record { each = λ two is left image. so left (k.each two is left image) }

-- files that are told are the ones that a host has
pub same_files : (h : MemHostValue) (two : Two File) → (host_told h).files ≡ Some two
    → files_of (disk_files h.disk) ≡ two
same_files h two told = let both : Some (files_of (disk_files h.disk)) ≡ Some two = told in cc

-- files that read as they stood, and that are still, hold the journal
pub still_holds : (j : Journal) (h : MemHostValue) → stands bundle_meaning
    (read_files (files_of (disk_files h.disk))) ≡ journal j → IsStill h → HoldsAfterCrash j h
still_holds j h stood still =
    record {
      each = λ two is left image. ap (stands bundle_meaning) (still.each two is left image) ∙ stood;
    }

-- ---- journals

module _ (P : Journal → Type 0) where
  pub holds_some : (j : Journal) (h : MemHostValue) → P j → HoldsAfterCrash j h → LeavesSome P
      (host_told h)
  holds_some j h has holds =
      record {
        each = λ two is left image.
            record { whole = j; has = has; stands_for = holds.each two is left image };
      }

  -- a journal that the disk fits has it
  pub fits_some : (j : Journal) (o : Outside) (s : StoreValue) (two : Two File) → o.files ≡ Some two
      → LeavesSome P o → FitsFiles bundle_meaning s j two → P j
  fits_some j o s two is k fits =
      let reads = k.each two is (read_files two) (o.reads two is) in
      let both : journal reads.whole ≡ journal j = sym reads.stands_for ∙ fits.stands_for in
      let same : reads.whole ≡ j = cc in
      subst P same reads.has

  -- what calls of a store lead to a crash may leave
  pub leads_leave : (Q : Journal → Type 0) (s : StoreValue) (o o' : Outside)
      → LeadsTo bundle_meaning P Q s o o' → LeavesSome P o'
  leads_leave Q s o o' leads =
      crash_since (StandsForSome P) o o' leads.moments.later (λ m w.
      let at = leads.moments.each m w in
      record { whole = at.whole; has = at.has; stands_for = at.stands_for })

-- the journal that files hold is that which the disk fits
pub holds_fits : (s : StoreValue) (j j0 : Journal) (h : MemHostValue) → HoldsAfterCrash j h
    → FitsFiles bundle_meaning s j0 (files_of (disk_files h.disk)) → j0 ≡ j
holds_fits s j j0 h holds fits =
    fits_some (λ (k : Journal). k ≡ j) j0 (host_told h) s (files_of (disk_files h.disk)) refl
    (holds_some (λ (k : Journal). k ≡ j) j h refl holds) fits

-- where files are told, they are the ones that a host has
pub fits_here : (s : StoreValue) (j : Journal) (h : MemHostValue)
    → FitsWith bundle_meaning s (host_told h).files j
    → FitsFiles bundle_meaning s j (files_of (disk_files h.disk))
fits_here s j h fits =
    subst (λ (t : Two File). FitsFiles bundle_meaning s j t) (sym (same_files h fits.0 fits.1)) fits.2

-- two journals that the disk fits are one
pub fits_whole : (s : StoreValue) (j whole : Journal) (h : MemHostValue)
    → FitsWith bundle_meaning s (host_told h).files j
    → FitsFiles bundle_meaning s whole (files_of (disk_files h.disk)) → j ≡ whole
fits_whole s j whole h first fits =
    let both : journal j ≡ journal whole = sym (fits_here s j h first).stands_for ∙ fits.stands_for in
    cc
