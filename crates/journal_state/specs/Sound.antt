-- What holds of every state.
use Rattle.std.specs.Prelude.{◌≡◌, ◌<◌, ◌≤◌, ◌^◌, false, List, [], ◌∷◌, length, map, None}
use Rattle.std.specs.FinSet as fin_set
use Rattle.std.specs.List.{AllByRecursion}
use Rattle.sync_rules.specs.declared.states.Start.TheVariants as start
use Rattle.sync_rules.specs.Consistency.{ids_of_groups}
use Rattle.sync_rules.specs.Knowing.{KnowsGroups}
use Rattle.sync_rules.specs.Lists.{has_repeat, is_among}
use Rattle.sync_rules.specs.Facts.{Facts, Id, held_at}
use Rattle.journal_state.specs.Holding.{IsOwnId}
use Rattle.journal_state.specs.Whole.{StateValue}

-- no two ids are the same
abbrev pub AreApart : List Id → Type 0
AreApart [] = Unit {0}
AreApart (x ∷ xs) = (is_among xs x ≡ false) × AreApart xs

-- no message is judged that is not held
abbrev pub JudgesHeld : Facts → Type 0
JudgesHeld f = (id : Id) → held_at f.held id ≡ None → fin_set.contains f.judged id ≡ false

-- no message is delivered that is not judged
abbrev pub DeliversJudged : Facts → Type 0
DeliversJudged f = (id : Id) → fin_set.contains f.judged id ≡ false → is_among f.delivered id ≡ false

-- each held message stands under its own id; the ids are distinct, the messages fewer than 2^32 and of known groups, and the groups
-- have distinct ids; only held messages are judged, only judged ones are delivered, and no more are delivered than are held; no
-- session has begun in a journal that has no entry
pub record IsSound (s : StateValue) : Type 0 where
  pub named : AllByRecursion IsOwnId s.facts.held
  pub distinct : AreApart (map (λ h. h.id) s.facts.held)
  pub few : length s.facts.held < 2 ^ 32
  pub known : KnowsGroups s.facts
  pub groups : has_repeat (ids_of_groups s.facts.groups) ≡ false
  pub judged : JudgesHeld s.facts
  pub ended : DeliversJudged s.facts
  pub delivered : length s.facts.delivered ≤ length s.facts.held
  pub fresh : s.facts.start ≡ start.Empty → s.facts.begun ≡ 0
