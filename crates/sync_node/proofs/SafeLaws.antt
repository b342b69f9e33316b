-- What calls let fall: nothing, whether they are of the disk, of a store or of a link.
use Rattle.std.proofs.Common.{◌≡◌, ℕ, zero, suc, ◌≤◌, List, [], ◌∷◌, map, refl, ap, arith, Option}
use Rattle.std.proofs.Common.{Some, None, is_some}
use Rattle.std.specs.Option.{option_map}
use Rattle.outside.specs.Files.{Two, File}
use Rattle.outside.specs.Links.{ToldLink, Links, with_sent}
use Rattle.outside.specs.Outside.{Outside, Moment, DiskRun, LinkCall}
use Rattle.outside.specs.Runs.{LinksGrow}
use Rattle.outside.proofs.RunLaws.{grow_same}
use Rattle.outside.proofs.CallSteps.{calls_link, calls_none}
use Rattle.sync_rules.specs.Clients.{Meaning}
use Rattle.sync_rules.specs.Facts.{Journal}
use Rattle.sync_store.specs.Store.{StoreValue}
use Rattle.sync_store.specs.Fitting.{FitsFiles, FitsSome}
use Rattle.sync_store.specs.Moments.{LeadsTo}
use Rattle.sync_node.specs.Going.{LetsNothingFall, specs_of}

pub goes_none : (o : Outside) → LetsNothingFall o o
goes_none o = record {
  same_files = refl;
  later = omega arith;
  links = grow_same o.links o.links refl;
  same_dialled = refl;
  same_specs = refl;
  clock = λ two files. omega arith;
  calls = calls_none o;
}

pub goes_disk : (o o' : Outside) → DiskRun o o'
    → ((two : Two File) → o.files ≡ Some two → o.clock ≤ o'.clock) → LetsNothingFall o o'
goes_disk o o' run clock = record {
  same_files = run.same_told;
  later = run.later;
  links = grow_same o.links o'.links run.same_links;
  same_dialled = ap (λ (l : Links). l.dialled) run.same_links;
  same_specs = ap (λ (l : Links). specs_of l.told) run.same_links;
  clock = clock;
  calls = run.calls;
}

-- a run of a store's calls
pub goes_led : (clients : Meaning) (s s' : StoreValue) (o o' : Outside)
    (P Q : Journal → Journal → Type 0) → FitsSome clients s o.files → DiskRun o o'
    → ((two : Two File) → o.files ≡ Some two → (j : Journal) → FitsFiles clients s j two → LeadsTo clients (P j) (Q j) s' o o') → LetsNothingFall o o'
goes_led clients s s' o o' P Q fits run leads =
    goes_disk o o' run (λ two files. let fit = fits two files in (leads two files fit.0 fit.1).moments.later)

pub goes_link : (during : Moment → Type 0) (o o' : Outside) → LinkCall during o o'
    → LinksGrow o.links o'.links → o'.links.dialled ≡ o.links.dialled
    → specs_of o'.links.told ≡ specs_of o.links.told → LetsNothingFall o o'
goes_link during o o' call grows dialled specs = record {
  same_files = ap is_some call.same_files;
  later = omega (arith, call.same_faults);
  links = grows;
  same_dialled = dialled;
  same_specs = specs;
  clock = λ two files. call.time.later;
  calls = calls_link during o o o' (calls_none o) call;
}

-- bytes that are sent leave the specs
specs_sent : (link : ℕ) (bytes : List ℕ) (links : List ToldLink)
    → map (λ (l : ToldLink). l.spec) (with_sent link bytes links) ≡ map (λ (l : ToldLink). l.spec) links
specs_sent link bytes [] = refl
specs_sent zero bytes (l ∷ links) = refl
specs_sent (suc link) bytes (l ∷ links) =
    ap (λ (specs : List (List ℕ)). l.spec ∷ specs) (specs_sent link bytes links)

pub specs_told : (link : ℕ) (bytes : List ℕ) (told : Option (List ToldLink))
    → specs_of (option_map (with_sent link bytes) told) ≡ specs_of told
specs_told link bytes None = refl
specs_told link bytes (Some links) = ap Some (specs_sent link bytes links)
