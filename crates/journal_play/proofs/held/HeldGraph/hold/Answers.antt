-- One more message stands behind the others, with its node.
use Rattle.std.proofs.Common.{◌≡◌, List, [], ◌∷◌, ◌++◌, length, sym, ap, ◌∙◌}
use Rattle.message_graph.specs.declared.nodes.Node.{Node}
use Rattle.message_graph.specs.Nodes.{Shown, fresh_node}
use Rattle.journal_play.specs.declared.kept.Rest.{Rest}
use Rattle.journal_play.specs.Holding.{HeldHeads, rest_of}
use Rattle.journal_play.proofs.Heads.{heads_length, held_more}
use Rattle.journal_play.proofs.held.HeldGraph.hold.Goals as goal

pub returns-clause-held : goal.returns-clause-held
returns-clause-held c =
    let inside = c.self.inside in
    let pushed : c.push.new.self.items ≡ c.make_room.new.rest.items ++ c.of-rest.result ∷ [] = rw c.unwrap.ensures at c.push.ensures.items in
    let rests : c.push.new.self.items ≡ inside.rest.items ++ rest_of c.args.head ∷ [] =
    pushed
    ∙ ap (λ (rs : List Rest). rs ++ c.of-rest.result ∷ []) c.make_room.ensures.items
    ∙ ap (λ (r : Rest). inside.rest.items ++ r ∷ []) c.of-rest.ensures in
    let held : c.hold-number.new.self.nodes
    ≡ inside.graph.nodes ++ fresh_node c.args.head.id 0 ∷ [] =
    ap (λ (s : Shown). s.nodes) c.hold-number.ensures.nodes
    ∙ (λ i. c.make_room.ensures.nodes i ++ fresh_node (c.head.view_is i).id 0 ∷ []) in
    held_more inside.rest.items c.push.new.self.items inside.graph.nodes c.hold-number.new.self.nodes c.args.self.now c.args.head c.self.view_is c.self.invariant.0 held
    rests

pub returns-clause-number : goal.returns-clause-number
returns-clause-number c =
    c.hold-number.ensures.number
    ∙ ap (λ (ns : List Node). length ns) c.make_room.ensures.nodes
    ∙ sym (heads_length c.self.inside.rest.items c.self.inside.graph.nodes c.self.invariant.0)
    ∙ ap (λ (h : HeldHeads). length h.heads) c.self.view_is
