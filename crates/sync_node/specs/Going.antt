-- What calls on a host and a store leave as it was, and how the journal goes on.
use Rattle.std.specs.Prelude.{◌≡◌, ℕ, ◌≤◌, List, map, Option, Some, is_some}
use Rattle.std.specs.Option.{option_map}
use Rattle.outside.specs.Calls.{CallsGoOn}
use Rattle.outside.specs.Disk.{RelatesTold}
use Rattle.outside.specs.Files.{Two, File}
use Rattle.outside.specs.Links.{ToldLink}
use Rattle.outside.specs.Outside.{Outside}
use Rattle.outside.specs.Runs.{LinksGrow}

-- the specs that links were dialled with, where they are told
abbrev pub specs_of : Option (List ToldLink) → Option (List (List ℕ))
specs_of told = option_map (map (λ (link : ToldLink). link.spec)) told

-- What no call of a node changes or lets fall: no link is dialled, and none gets another spec; no
-- count of failures falls, that of the disk or of a link; where files are told the clock does not go
-- back; and where the calls of the disk are told they go on.
pub record LetsNothingFall (old new : Outside) : Type 0 where
  pub same_files : is_some new.files ≡ is_some old.files
  pub later : old.disk_faults ≤ new.disk_faults
  pub links : LinksGrow old.links new.links
  pub same_dialled : new.links.dialled ≡ old.links.dialled
  pub same_specs : specs_of new.links.told ≡ specs_of old.links.told
  pub clock : (two : Two File) → old.files ≡ Some two → old.clock ≤ new.clock
  pub calls : RelatesTold CallsGoOn old.calls new.calls
