-- The group of each held message is known.
use Rattle.std.proofs.Common.{◌≡◌, ℕ, zero, suc, true, List, [], ◌∷◌, map, refl, Some, is_some, slice_get}
use Rattle.std.specs.List.{list_all}
use Rattle.std.proofs.lemmas.Bool.{and_from}
use Rattle.sync_rules.specs.Facts.{Held, Known, group_at}
use Rattle.message_graph.specs.declared.nodes.Node.{Node}
use Rattle.visibility_table.specs.Table as levels
use Rattle.journal_state.specs.Parts.{Parts}
use Rattle.journal_state.specs.Whole.{IsState}
use Rattle.journal_state.proofs.Entries.{numbered_known}

-- messages and nodes that go together, each node with the number of its message's group
knows_along : (groups : List Known) (hs : List Held) (ns : List Node) → map (λ (n : Node). n.name) ns ≡ map (λ (h : Held). h.id) hs
    → ((k : ℕ) (h : Held) (node : Node) → slice_get hs k ≡ Some h → slice_get ns k ≡ Some node
    → levels.group_number groups h.message.group ≡ Some node.group)
    → list_all (λ h. is_some (group_at groups h.message.group)) hs ≡ true
knows_along groups [] ns named grouped = refl
knows_along groups (h ∷ hs) [] named grouped = absurd (cc)
knows_along groups (h ∷ hs) (n ∷ ns) named grouped =
    let rest : map (λ (x : Node). x.name) ns ≡ map (λ (x : Held). x.id) hs = cc in
    and_from (is_some (group_at groups h.message.group)) (list_all (λ x. is_some (group_at groups x.message.group)) hs)
    (numbered_known groups h.message.group n.group (grouped zero h n refl refl))
    (knows_along groups hs ns rest (λ k x node at there. grouped (suc k) x node at there))

pub knows_groups : (p : Parts) → IsState p → list_all (λ h. is_some (group_at p.table.groups h.message.group)) p.held ≡ true
knows_groups p s = knows_along p.table.groups p.held p.nodes s.named s.grouped
