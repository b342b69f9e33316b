-- How many entries settling may yet add, and how many messages are delivered, by the nodes.
use Rattle.std.specs.Prelude.{ℕ, ◌+◌, Option, None, Some, cond, List, [], ◌∷◌}
use Rattle.message_graph.specs.declared.nodes.Node.{Node}
use Rattle.message_graph.specs.Nodes as nodes

-- the sum over the nodes
abbrev pub sum_of : (Node → ℕ) → List Node → ℕ
sum_of weight [] = 0
sum_of weight (n ∷ ns) = weight n + sum_of weight ns

abbrev pub one_if_none : {A : Type 0} → Option A → ℕ
one_if_none None = 1
one_if_none (Some x) = 0

-- a message may get one Judged entry, and one Deliver or Invalid entry
abbrev pub left_at : Node → ℕ
left_at n = one_if_none n.answer + one_if_none n.ending

abbrev pub left_in : List Node → ℕ
left_in ns = sum_of left_at ns

abbrev pub one_if_delivered : Node → ℕ
one_if_delivered n = cond (nodes.is_delivered n.ending) 1 0

-- how many messages are delivered
abbrev pub delivered_among : List Node → ℕ
delivered_among ns = sum_of one_if_delivered ns
