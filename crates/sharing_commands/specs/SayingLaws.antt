-- What is so of the words that are said in a `sharing` group of a legal journal, with the four
-- bundled clients.
use Rattle.std.specs.Prelude.{◌≡◌, ◌≢◌, List, None, Some, true}
use Rattle.sync_rules.specs.declared.states.Refused.TheVariants as refused
use Rattle.sync_rules.specs.Facts.{Facts, Held, Id, facts, group_at, held_at}
use Rattle.sync_rules.specs.Legal.{Legal}
use Rattle.sync_rules.specs.Lists.{is_among}
use Rattle.sync_rules.specs.declared.entries.Entry.{Entry}
use Rattle.entry_codec.specs.Spelling.{IsDef}
use Rattle.client_sharing.specs.Bodies.{saying_of, sharing_meaning, sharing_name}
use Rattle.client_sharing.specs.declared.bodies.Saying.{Saying}
use Rattle.store_commands.specs.Plans.{refuses}
use Rattle.sharing_commands.specs.Sayings.{say_plan, sharing_test}
use Rattle.sharing_commands.specs.declared.saying.Speech.{Speech}

-- A word that is said: it is refused as an invalid post only where it speaks of a group whose client
-- has the name `sharing`, and none of its dependencies is missing.
pub record IsSaidWell (f : Facts) (s : Speech) : Type 0 where
  pub valid : say_plan sharing_meaning s f ≡ refuses refused.InvalidPost → s.def.name ≡ sharing_name
  pub served : say_plan sharing_meaning s f ≢ refuses refused.DependencyNotDelivered

-- A delivered message of the group says something, of a group whose client has another name: none
-- is passed over where the words of both are read.
pub record IsWord (h : Held) : Type 0 where
  pub says : Saying
  pub is : saying_of h.message.body ≡ Some says
  pub other : says.def.name ≢ sharing_name

abbrev pub AreWords : Facts → Id → Type 0
AreWords f group =
    (id : Id) (h : Held) → is_among f.delivered id ≡ true → held_at f.held id ≡ Some h
    → h.message.group ≡ group → IsWord h

-- the law of a `sharing` group in a legal journal: a word within its limits is said well, and all
-- delivered messages of the group are words
pub record SpeaksWell (f : Facts) (group : Id) : Type 0 where
  pub said : (s : Speech) → s.group ≡ group → IsDef s.def → IsSaidWell f s
  pub words : AreWords f group

abbrev pub LegalSpeaksWell : Type 0
LegalSpeaksWell =
    (j : List (List Entry)) → Legal sharing_meaning j → (group : Id)
    → sharing_test (group_at (facts j).groups group) ≡ None → SpeaksWell (facts j) group
