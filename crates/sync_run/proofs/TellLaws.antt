-- What is told on one side of some calls is told on the other.
use Rattle.std.proofs.Common.{◌≡◌, ℕ, List, [], length, refl, sym, ◌∙◌, ap, Option, None}
use Rattle.std.proofs.Common.{Some, is_some, slice_index_or}
use Rattle.std.proofs.lemmas.List.{nil_from_length}
use Rattle.outside.specs.Disk.{RelatesTold}
use Rattle.outside.specs.Files.{File, ReadsSame, Two, read_files}
use Rattle.outside.specs.Links.{ToldLink, sent_of}
use Rattle.outside.specs.Outside.{Moment, Outside}
use Rattle.outside.specs.Runs.{LinksGrow, TellsAll}
use Rattle.outside.proofs.CallSteps.{becomes_told}
use Rattle.sync_node.specs.Output.{sent_on}
use Rattle.sync_node.proofs.CourseLaws.{told_as}
use Rattle.sync_run.specs.Headline.{sent_at_moment}

pub told_back : (o o' : Outside) → is_some o'.files ≡ is_some o.files → LinksGrow o.links o'.links
    → TellsAll o' → TellsAll o
told_back o o' same grow told =
    let files = told_as o'.files o.files told.two (sym same) told.files_are in
    let links = told_as o'.links.told o.links.told told.links (sym grow.same_told) told.links_are in
    let heard = told_as o'.links.heard o.links.heard told.heard (sym grow.same_heard) told.heard_are in
    record {
      two = files.0;
      files_are = files.1;
      links = links.0;
      links_are = links.1;
      heard = heard.0;
      heard_are = heard.1;
    }

-- files that read as before
pub reads_told : (old new : Option (Two File)) (two two' : Two File) → RelatesTold ReadsSame old new
    → old ≡ Some two → new ≡ Some two' → read_files two' ≡ read_files two
reads_told old new two two' becomes told told' =
    let at = becomes_told ReadsSame old new two told becomes in
    let both : Some two' ≡ Some at.0 = sym told' ∙ at.1 in
    let same : two' ≡ at.0 = cc in
    ap (λ (t : Two File). read_files t) same ∙ at.2

-- ---- nothing was sent where no link was made

none_told : (told : Option (List ToldLink))
    → ((links : List ToldLink) → told ≡ Some links → length links ≡ 0) → sent_of told ≡ []
none_told None none = refl
none_told (Some links) none =
    ap (λ (ls : List ToldLink). sent_of (Some ls)) (nil_from_length links (none links refl))

-- on no link of a host on which none was made
none_sent : (o : Outside) → o.links.dialled ≡ 0 → sent_of o.links.told ≡ []
none_sent o none = none_told o.links.told (λ links told. o.all_told links told ∙ none)

pub nothing_sent : (o : Outside) → o.links.dialled ≡ 0 → (link : ℕ) → sent_on o.links link ≡ []
nothing_sent o none link =
    ap (λ (s : List (List ℕ)). slice_index_or s link []) (none_sent o none)

-- a moment before which nothing was sent
pub silent_by : (o : Outside) (m : Moment) (link : ℕ) → o.links.dialled ≡ 0
    → m.sent ≡ sent_of o.links.told → sent_at_moment m link ≡ []
silent_by o m link none sent =
    ap (λ (s : List (List ℕ)). slice_index_or s link []) (sent ∙ none_sent o none)
