-- What each held message depends on first.
use Rattle.std.specs.Prelude.{ℕ, List, map, Option, None, Some, slice_get}
use Rattle.sync_rules.specs.declared.answers.Judgement.{Judgement}
use Rattle.sync_rules.specs.declared.answers.Judgement.TheVariants as judgement
use Rattle.sync_rules.specs.Facts.{Held, Id}
use Rattle.sync_rules.specs.Views.{place_of}
use Rattle.journal_state.specs.Whole.{StateValue}

-- the first dependency of a judgement, none where there is no judgement or no dependency
abbrev pub first_dependency : Option Judgement → Option Id
first_dependency None = None
first_dependency (Some judgement.Refuse) = None
first_dependency (Some (judgement.Accept deps share)) = slice_get deps 0

-- the arrival number of the held message of an id, none where there is none
abbrev pub number_held : List Held → Option Id → Option ℕ
number_held held None = None
number_held held (Some id) = place_of held id

-- of each held message, in order of arrival, the arrival number of the first dependency of its judgement
abbrev pub firsts_of : StateValue → List (Option ℕ)
firsts_of s = map (λ answer. number_held s.facts.held (first_dependency answer)) s.answers
