use Rattle.std.proofs.Common.{◌≡◌, ◌+◌, ◌-◌, ◌≤◌, Bool, false, None, Some, List, [], ◌∷◌, ◌++◌, length, slice_get, slice_index_or, ap, sym, subst, ◌∙◌, arith, length-append}
use Rattle.sync_ids.specs.Ids.{message_id_of}
use Rattle.sync_rules.specs.Facts.{Held, Id, held_at, wanted_by_none}
use Rattle.message_graph.specs.declared.nodes.Node.{Node}
use Rattle.message_graph.specs.Nodes as nodes
use Rattle.retry_table.specs.Table as retry
use Rattle.visibility_table.specs.Table as levels
use Rattle.journal_state.specs.Parts.{Parts, facts_of}
use Rattle.journal_state.specs.Room.{room_in}
use Rattle.journal_state.specs.Taking.{SpendsRoom}
use Rattle.journal_state.specs.Unwanted.{UnwantsBelow}
use Rattle.journal_state.specs.Whole.{IsState, KnowsJudgements, StateValue, value_of}
use Rattle.journal_state.specs.Inside.{parts}
use Rattle.journal_state.proofs.Limited.{limits_same}
use Rattle.journal_state.proofs.MoreHeld.{no_number, honest_more, held_parts, held_state, held_facts, held_knows}
use Rattle.journal_state.proofs.Tables.{room_spent, one_less}
use Rattle.journal_state.proofs.state.State.hold.Goals as goal

abbrev message_held : (c : goal.After-hold) → Held
message_held c = record { id = message_id_of c.args.message; message = c.args.message; origin = c.args.origin }

pub hold-number-requires-clause-new : goal.hold-number-requires-clause-new
hold-number-requires-clause-new c =
    let new : held_at c.self.inside.messages.held (message_id_of c.args.message) ≡ None =
    ap (λ (v : StateValue). held_at v.facts.held (message_id_of c.args.message)) c.self.view_is ∙ c.requires.can.new in
    ap (nodes.node_number c.self.inside.graph.nodes) (c.id.view_is ∙ c.requires.named)
    ∙ no_number c.self.inside.messages.held c.self.inside.graph.nodes c.self.invariant.state.named (message_id_of c.args.message) new

new_id : (c : goal.After-hold) → held_at c.self.inside.messages.held (message_id_of c.args.message) ≡ None
new_id c = ap (λ (v : StateValue). held_at v.facts.held (message_id_of c.args.message)) c.self.view_is ∙ c.requires.can.new

known : (c : goal.After-hold)
    → levels.group_number c.self.inside.table.groups c.args.message.group
    ≡ Some c.unwrap-group.result
known c = ap (levels.group_number c.self.inside.table.groups) (sym c.group.ensures)
    ∙ (sym c.group-2.ensures.number ∙ c.unwrap-group.ensures)

unwanted : (c : goal.After-hold) → UnwantsBelow c.self.inside.table.contacts c.self.inside.retry c.unwant_from_all.new.retry (message_id_of c.args.message)
unwanted c =
    subst (λ n. UnwantsBelow n c.self.inside.retry c.unwant_from_all.new.retry (message_id_of c.args.message)) c.contacts.ensures
    (subst (λ (x : Id). UnwantsBelow c.contacts.result c.self.inside.retry c.unwant_from_all.new.retry x) c.requires.named c.unwant_from_all.ensures)

items : (c : goal.After-hold) → c.push.new.self.items ≡ c.self.inside.shares.items ++ false ∷ []
items c = rw c.unwrap.ensures at c.push.ensures.items

nodes_are : (c : goal.After-hold)
    → c.hold-number.new.self.nodes
    ≡ c.self.inside.graph.nodes ++ nodes.fresh_node
    (message_id_of c.args.message) c.unwrap-group.result ∷ []
nodes_are c =
    ap (λ (g : nodes.Shown). g.nodes) c.hold-number.ensures.nodes
    ∙ ap (λ (x : Id). c.self.inside.graph.nodes ++ nodes.fresh_node x c.unwrap-group.result ∷ [])
    (c.id.view_is ∙ c.requires.named)

abbrev after_it : (c : goal.After-hold) → Parts
after_it c = held_parts (parts c.self.inside) (message_held c) c.unwrap-group.result c.unwant_from_all.new.retry (c.self.inside.space - 1)

made : (c : goal.After-hold) → ◌≡◌ {A = Parts} (record (parts c.self.inside) {
  held = c.hold.new.self.held;
  nodes = c.hold-number.new.self.nodes;
  shares = c.push.new.self.items;
  retry = c.unwant_from_all.new.retry;
  space = c.self.inside.space - 1;
}) (after_it c)
made c = λ k. record (parts c.self.inside) {
  held = c.hold.ensures.held k;
  nodes = nodes_are c k;
  shares = items c k;
  retry = c.unwant_from_all.new.retry;
  space = c.self.inside.space - 1;
}

pub invariant_of-self : goal.invariant_of-self
invariant_of-self c =
    let some : 1 ≤ c.self.inside.space = subst (λ (v : StateValue). 1 ≤ v.room.entries) (sym c.self.view_is) c.requires.room in
    let long : length c.push.new.self.items ≡ length c.self.inside.shares.items + 1 = ap length (items c) ∙ length-append c.self.inside.shares.items (false ∷ []) in
    let spare : c.hold-number.new.self.spare ≡ c.self.inside.graph.spare - 1 = ap (λ (g : nodes.Shown). g.spare) c.hold-number.ensures.nodes in
    record {
      state = subst IsState (sym (made c))
          (held_state (parts c.self.inside) c.self.invariant.state (message_held c) c.unwrap-group.result c.unwant_from_all.new.retry (c.self.inside.space - 1) (new_id c) (known c) (unwanted c));
      roomy = record {
        table = let m = c.self.invariant.roomy.table in omega (arith, m);
        messages = let m = c.self.invariant.roomy.messages in let left = c.hold.ensures.left in omega (arith, m, left);
        sessions = let m = c.self.invariant.roomy.sessions in omega (arith, m);
        graph = let m = c.self.invariant.roomy.graph in omega (arith, m, spare);
        shares = let m = c.self.invariant.roomy.shares in omega (arith, m, long, some, c.push.ensures.capacity);
      };
      limited =
          limits_same c.self.inside.retry c.unwant_from_all.new.retry
          (λ contact n. ap (λ (rows : List (List retry.KeptRow)). (retry.kept_in (slice_index_or rows contact []) n).row) c.unwant_from_all.ensures.rows) c.self.invariant.limited;
      fresh = c.self.invariant.fresh;
      few = c.self.invariant.few;
      met = c.self.invariant.met;
      honest = λ n node at share.
          honest_more c.self.inside.graph.nodes c.self.inside.shares.items
          (nodes.fresh_node (message_id_of c.args.message) c.unwrap-group.result)
          c.self.invariant.state.each_share c.self.invariant.honest n node
          (ap (λ (ns : List Node). slice_get ns n) (sym (nodes_are c)) ∙ at) (ap (λ (bs : List Bool). slice_get bs n) (sym (items c)) ∙ share);
    }

pub returns-clause-facts : goal.returns-clause-facts
returns-clause-facts c =
    ap facts_of (made c)
    ∙ (held_facts (parts c.self.inside) c.self.invariant.state (message_held c) c.unwrap-group.result c.unwant_from_all.new.retry (c.self.inside.space - 1) (new_id c) (known c) (unwanted c)
    ∙ ap (λ (v : StateValue). record v.facts { held = v.facts.held ++ message_held c ∷ []; wanted = wanted_by_none v.facts.wanted (message_id_of c.args.message) }) c.self.view_is)

pub returns-clause-knows : goal.returns-clause-knows
returns-clause-knows c = λ clients k.
    subst (λ (p : Parts). KnowsJudgements clients (value_of p)) (sym (made c))
    (held_knows (parts c.self.inside) c.self.invariant.state (message_held c) c.unwrap-group.result c.unwant_from_all.new.retry (c.self.inside.space - 1) (new_id c) (known c) (unwanted c)
    clients (subst (KnowsJudgements clients) (sym c.self.view_is) k))

pub returns-clause-room : goal.returns-clause-room
returns-clause-room c =
    subst (λ (v : StateValue). SpendsRoom v.room (room_in (c.self.inside.space - 1) c.unwant_from_all.new.retry)) c.self.view_is
    (room_spent c.self.inside.space (c.self.inside.space - 1) c.self.inside.retry c.unwant_from_all.new.retry (one_less c.self.inside.space)
    (λ k. let e = ap (λ (rows : List (List retry.KeptRow)). length (slice_index_or rows k [])) c.unwant_from_all.ensures.rows in omega (arith, e))
    (λ k. let e = c.unwant_from_all.ensures.room k in omega (arith, e)))
