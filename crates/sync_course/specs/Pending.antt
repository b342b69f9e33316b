-- The items that links are still to take.
use Rattle.std.specs.Prelude.{List, [], ℕ, cond, nat_eq}
use Rattle.record_grammar.specs.declared.stream.Item.{Item}
use Rattle.sync_course.specs.LinkTurns.{Takes, Doing}
use Rattle.sync_course.specs.Turns.{Stage, Works}

-- the items that a link is to take
abbrev pub pending : Doing → List Item
pending (Takes its) = its
pending _ = []

-- the items that the link of this number is to take
abbrev pub pending_at : Stage → ℕ → List Item
pending_at (Works n doing) i = cond (nat_eq n i) (pending doing) []
pending_at _ i = []
