-- How many steps settling may yet make.
use Rattle.std.specs.Prelude.{ℕ, ◌+◌, cond, List, [], ◌∷◌}
use Rattle.std.specs.FinSet as fin_set
use Rattle.sync_rules.specs.Facts.{Facts, Held, Id}
use Rattle.sync_rules.specs.Steps.{is_ended}

-- A message that is not judged may get a Judged entry and then a Deliver or Invalid one; one that is judged and has not
-- ended may get one of the latter.
abbrev pub left_for : Facts → Id → ℕ
left_for f id = cond (fin_set.contains f.judged id) (cond (is_ended f id) 0 1) 2

abbrev pub left_among : Facts → List Held → ℕ
left_among f [] = 0
left_among f (h ∷ hs) = left_for f h.id + left_among f hs

-- the steps that are left for all held messages
abbrev pub left_of : Facts → ℕ
left_of f = left_among f f.held
