-- Why a link of a run is closed, by what was heard on it.
use Rattle.std.specs.Prelude.{◌≡◌, ℕ, true, List, ◌∷◌, ◌++◌, Some, slice_get}
use Rattle.outside.specs.Links.{HeardOn}
use Rattle.outside.specs.Outside.{Outside}
use Rattle.record_grammar.specs.Stream.{ending, items}
use Rattle.record_grammar.specs.declared.stream.Ending.TheVariants as ending_kind
use Rattle.record_grammar.specs.declared.stream.Item.{Item}
use Rattle.record_grammar.specs.declared.stream.Item.TheVariants as item
use Rattle.sync_ids.specs.declared.records.Record.{Record}
use Rattle.sync_course.specs.declared.ends.LinkEnd.{LinkEnd}
use Rattle.sync_course.specs.declared.ends.LinkEnd.TheVariants as end
use Rattle.sync_course.specs.Links.{Link, closes}
use Rattle.sync_course.specs.Turns.{Place}
use Rattle.sync_node.specs.Output.{heard_on}

-- at this place of the bytes heard stands a VERSIONS without the version of this node
pub record LacksVersion (place : ℕ) (heard : List ℕ) : Type 0 where
  pub read : Record
  pub before : List Item
  pub behind : List Item
  pub stands : items 0 heard ≡ before ++ item.One place read ∷ behind
  pub closes_it : closes read ≡ true

-- How a link stands by the bytes heard on it: it is clean, inside a record or bad where they end so, and lacks a version where a
-- VERSIONS among them does.
abbrev pub StandsByHeard : LinkEnd → List ℕ → Type 0
StandsByHeard end.Clean heard = ending 0 heard ≡ ending_kind.Clean
StandsByHeard (end.Inside place) heard = ending 0 heard ≡ ending_kind.Inside place
StandsByHeard (end.Bad place why) heard = ending 0 heard ≡ ending_kind.Bad place why
StandsByHeard (end.NoVersion place) heard = LacksVersion place heard
StandsByHeard stands heard = Unit {0}

-- each link of a place stands by what was heard on it
abbrev pub AllStandByHeard : Place → Type 0
AllStandByHeard p = (i : ℕ) (link : Link) → slice_get p.links i ≡ Some link → StandsByHeard link.stands link.heard

-- what was heard on each link of a place is what the host tells that it heard, where it tells it
abbrev pub AllHeardAsTold : Place → Outside → Type 0
AllHeardAsTold p o = (i : ℕ) (link : Link) → slice_get p.links i ≡ Some link → (heard : List HeardOn) → o.links.heard ≡ Some heard → link.heard ≡ heard_on o.links i
