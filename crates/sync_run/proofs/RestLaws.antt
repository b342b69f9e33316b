-- Files at rest: nothing is pending in them, so that a crash leaves what a read gives.
use Rattle.std.proofs.Common.{◌≡◌, ℕ, List, sym, ap, ◌∙◌, subst, Option, None, Some, Result, Err}
use Rattle.outside.specs.Disk.{RelatesTold}
use Rattle.outside.specs.Files.{File, IsFileImage, IsImage, NothingPending, SyncsBoth, Two}
use Rattle.outside.specs.Files.{read_files, settled}
use Rattle.outside.proofs.Calm.{settled_only}
use Rattle.sync_rules.specs.Clients.{Meaning}
use Rattle.sync_store.specs.Store.{StoreValue}
use Rattle.sync_store.specs.Ready.{IsReady}
use Rattle.store_commands.specs.Commit as commits
use Rattle.store_commands.specs.Load.{LoadLeavesSettled}
use Rattle.sync_course.specs.Closing.{Closing}
use Rattle.sync_words.specs.declared.outcome.Outcome.{Outcome}
use Rattle.sync_words.specs.declared.outcome.Outcome.TheVariants as outcome
use Rattle.sync_run.specs.Headline.{AtRest, LeavesFilesAtRest}

-- a crash leaves what a read gives
pub image_read : (two : Two File) (left : Two (List ℕ)) → NothingPending two 0
    → NothingPending two 1 → IsImage two left → left ≡ read_files two
image_read two left first second image =
    let at_first : left.first ≡ two.first.now =
    settled_only two.first.now left.first
    (subst (λ (f : File). IsFileImage f left.first) first image.first) in
    let at_second : left.second ≡ two.second.now =
    settled_only two.second.now left.second
    (subst (λ (f : File). IsFileImage f left.second) second image.second) in
    let of : List ℕ → List ℕ → Two (List ℕ) = λ a b. record { first = a; second = b } in
    ap (λ (b : List ℕ). of b left.second) at_first
    ∙ ap (λ (b : List ℕ). of two.first.now b) at_second

-- ---- by what calls answered

pub rests_ready : (clients : Meaning) (s : StoreValue) (files : Option (Two File)) → IsReady clients s files → AtRest files
rests_ready clients s files ready two told left image =
    let fit = (ready.fits two told).1 in
    image_read two left fit.first_settled fit.second_settled image

pub rests_at : (files : Option (Two File)) (r : Result Closing Outcome) → AtRest files → LeavesFilesAtRest files r
rests_at files (Err outcome.DiskFault) rest = tt
rests_at files _ rest = rest

-- files in which nothing is pending
pub rests_settled : (old new : Option (Two File)) → RelatesTold SyncsBoth old new → AtRest new
rests_settled None None becomes two told left image = cc
rests_settled None (Some new) becomes two told left image = absurd becomes
rests_settled (Some old) None becomes two told left image = absurd becomes
rests_settled (Some old) (Some new) becomes two told left image =
    let same : two ≡ record { first = settled old.first.now; second = settled old.second.now } = let is : two ≡ new = cc in is ∙ becomes in
    image_read two left (ap (λ (t : Two File). t.first) same ∙ ap (λ (t : Two File). settled t.first.now) (sym same))
    (ap (λ (t : Two File). t.second) same ∙ ap (λ (t : Two File). settled t.second.now) (sym same)) image

pub rests_stays : (clients : Meaning) (s : StoreValue) (files : Option (Two File)) (e : Outcome) → commits.StoreStaysReady clients s files (Err e) → LeavesFilesAtRest files (Err e)
rests_stays clients s files outcome.DiskFault stays = tt
rests_stays clients s files _ stays = rests_ready clients s files stays

pub load_rests : (old new : Option (Two File)) (e : Outcome) → LoadLeavesSettled old new (Err e) → LeavesFilesAtRest new (Err e)
load_rests old new outcome.DiskFault leaves = tt
load_rests old new _ leaves = rests_settled old new leaves
