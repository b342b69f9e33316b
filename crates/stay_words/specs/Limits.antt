-- The links that the words of a node that stays may name.
use Rattle.std.specs.Prelude.{◌≤◌, List, length}
use Rattle.std.specs.List.{All}
use Rattle.outside.specs.declared.limits.TheConstants.{LINKS}
use Rattle.sync_words.specs.Links.{IsLink}
use Rattle.sync_words.specs.declared.link_words.LinkWords.{LinkWords}

-- a few, or none
pub record AreStaying (links : List LinkWords) : Type 0 where
  pub few : length links ≤ LINKS
  pub each : All IsLink links
