use Rattle.std.proofs.Common.{◌≡◌, ℕ, ◌<◌, ◌≤◌, ◌++◌, refl, List, [], ◌∷◌, Some, length, slice_index_or, ap, subst, sym, ◌∙◌, arith}
use Rattle.std.specs.Option.{IsSome}
use Rattle.sync_rules.specs.declared.entries.Entry.TheVariants as entry
use Rattle.message_graph.specs.declared.nodes.Node.{Node}
use Rattle.message_graph.specs.declared.nodes.Step.TheVariants as step
use Rattle.message_graph.specs.declared.nodes.Ending.TheVariants as ending
use Rattle.message_graph.specs.Nodes as nodes
use Rattle.visibility_table.specs.Table as levels
use Rattle.journal_state.specs.Parts.{facts_of}
use Rattle.journal_state.specs.Whole.{StateValue, IsState, id_at}
use Rattle.journal_state.specs.Taking.{moved}
use Rattle.journal_state.specs.Inside.{IsHonest, parts}
use Rattle.journal_state.proofs.Grown.{grown_facts, grown_state, grown_twice, on_err}
use Rattle.journal_state.proofs.Honest.{honest_ended}
use Rattle.retry_table.specs.Table as retry
use Rattle.journal_state.specs.Delivery.{goes_to, GrowsRoom}
use Rattle.journal_state.proofs.Limited.{limits_same, readied_row}
use Rattle.journal_state.proofs.Made.{deliver_node, delivered_then, delivered_so, delivered_same, free_now, group_told}
use Rattle.journal_state.proofs.state.State.deliver.Goals as goal

pub returns-in_err-reserve_rows-clause-err : goal.returns-in_err-reserve_rows-clause-err
returns-in_err-reserve_rows-clause-err c =
    on_err c.from_residual.result _ (grown_facts (parts c.self.inside) c.reserve_rows.new.retry c.reserve_rows.ensures.same ∙ ap (λ (v : StateValue). v.facts) c.self.view_is)

pub returns-in_err-reserve-clause-err : goal.returns-in_err-reserve-clause-err
returns-in_err-reserve-clause-err c =
    on_err c.from_residual-in_err-reserve.result _
    ((λ i. facts_of (record (parts c.self.inside) { delivered = c.reserve.ensures.items i; retry = c.reserve_release.new.retry }))
    ∙ (grown_facts (parts c.self.inside) c.reserve_release.new.retry
    (grown_twice c.self.inside.retry c.reserve_rows.new.retry c.reserve_release.new.retry c.reserve_rows.ensures.same c.reserve_release.ensures.same)
    ∙ ap (λ (v : StateValue). v.facts) c.self.view_is))

grown : (c : goal.After-make_ready) → GrowsRoom c.self.inside.retry c.reserve_release.new.retry
grown c = grown_twice c.self.inside.retry c.reserve_rows.new.retry c.reserve_release.new.retry c.reserve_rows.ensures.same c.reserve_release.ensures.same

numbered : (c : goal.After-make_ready) → levels.group_number c.self.inside.table.groups c.group-group.result ≡ Some c.group-number.result
numbered c =
    ap (levels.group_number c.self.inside.table.groups) c.group-group.ensures
    ∙ group_told (parts c.self.inside) c.self.invariant.state (step.Deliver c.args.n)
    (deliver_node (parts c.self.inside) c.self.invariant.state c.args.self.now c.self.view_is c.args.n (c.requires.held, c.requires.next))
    c.message.result.now c.message.ensures c.group-number.result c.group-number.ensures

fits : (c : goal.After-make_ready) → c.args.n < length c.reserve_release.new.retry.groups
fits c =
    let below : c.args.n < length c.self.inside.messages.held = subst (λ (v : StateValue). c.args.n < length v.facts.held) (sym c.self.view_is) c.requires.held in
    omega (arith, below, c.len-held.ensures, c.in_ok-reserve_release.ensures.room)

pub apply-requires-clause-next : goal.apply-requires-clause-next
apply-requires-clause-next c = deliver_node (parts c.self.inside) c.self.invariant.state c.args.self.now c.self.view_is c.args.n (c.requires.held, c.requires.next)

node : (c : goal.After-make_ready)
    → nodes.next_step c.self.inside.graph.nodes ≡ Some (step.Deliver c.args.n)
node c = deliver_node (parts c.self.inside) c.self.invariant.state c.args.self.now c.self.view_is c.args.n (c.requires.held, c.requires.next)

ended : (c : goal.After-make_ready) → c.apply.new.self.nodes ≡ nodes.with_ending c.args.n ending.Delivered c.self.inside.graph.nodes
ended c = ap (λ (s : nodes.Shown). s.nodes) c.apply.ensures

pushed : (c : goal.After-make_ready) → c.push.new.self.items ≡ c.self.inside.delivered.items ++ c.args.n ∷ []
pushed c =
    let items : c.push.new.self.items ≡ c.reserve.new.self.items ++ c.args.n ∷ [] = rw c.unwrap.ensures at c.push.ensures.items in
    items ∙ ap (λ (xs : List ℕ). xs ++ c.args.n ∷ []) c.reserve.ensures.items

pub invariant_of-self-2 : goal.invariant_of-self-2
invariant_of-self-2 c =
    let spare : c.apply.new.self.spare ≡ c.self.inside.graph.spare = ap (λ (g : nodes.Shown). g.spare) c.apply.ensures in
    record {
      state =
          delivered_then (parts c.self.inside) c.self.invariant.state c.args.n (node c) c.message.result.now c.message.ensures c.group-group.result c.group-group.ensures c.origin.result c.origin.ensures
          c.index.result.now c.index.ensures c.is_open-outgoing.result c.is_open-outgoing.ensures c.reserve_release.new.retry (grown c) c.make_ready.new.retry c.make_ready.ensures.readies
          c.group-number.result (numbered c) c.make_ready.ensures.groups (fits c) c.apply.new.self.nodes (ended c) c.push.new.self.items (pushed c);
      roomy = record {
        table = c.self.invariant.roomy.table;
        messages = c.self.invariant.roomy.messages;
        sessions = c.self.invariant.roomy.sessions;
        graph = let m = c.self.invariant.roomy.graph in omega (arith, m, spare);
        shares = c.self.invariant.roomy.shares;
      };
      few = c.self.invariant.few;
      met = c.self.invariant.met;
      honest =
          subst (λ (ns : List Node). IsHonest ns c.self.inside.shares.items) (sym (ended c))
          (honest_ended c.self.inside.graph.nodes c.self.inside.shares.items c.args.n ending.Delivered c.self.invariant.honest);
      limited =
          limits_same c.self.inside.retry c.make_ready.new.retry
          (λ contact n. readied_row c.reserve_release.new.retry c.make_ready.new.retry (goes_to c.self.inside.table.levels c.group-group.result c.is_open-outgoing.result) c.self.inside.table.contacts c.args.n
          c.make_ready.ensures.readies contact n ∙ ap (λ (x : retry.KeptRow). x.row) ((grown c).kept contact n)) c.self.invariant.limited;
      fresh = c.self.invariant.fresh;
    }

pub returns-clause-facts : goal.returns-clause-facts
returns-clause-facts c =
    delivered_so (parts c.self.inside) c.self.invariant.state c.args.n (node c) c.message.result.now c.message.ensures c.group-group.result c.group-group.ensures c.origin.result c.origin.ensures
    c.index.result.now c.index.ensures c.is_open-outgoing.result c.is_open-outgoing.ensures c.reserve_release.new.retry (grown c) c.make_ready.new.retry c.make_ready.ensures.readies
    c.group-number.result (numbered c) c.make_ready.ensures.groups (fits c) c.apply.new.self.nodes (ended c) c.push.new.self.items (pushed c)
    ∙ ap (λ (v : StateValue). moved v.facts (entry.Deliver (id_at v.facts.held c.args.n))) c.self.view_is

pub returns-clause-answers : goal.returns-clause-answers
returns-clause-answers c =
    delivered_same (parts c.self.inside) c.self.invariant.state c.args.n (node c) c.message.result.now c.message.ensures c.group-group.result c.group-group.ensures c.origin.result c.origin.ensures
    c.index.result.now c.index.ensures c.is_open-outgoing.result c.is_open-outgoing.ensures c.reserve_release.new.retry (grown c) c.make_ready.new.retry c.make_ready.ensures.readies
    c.group-number.result (numbered c) c.make_ready.ensures.groups (fits c) c.apply.new.self.nodes (ended c) c.push.new.self.items (pushed c)
    ∙ ap (λ (v : StateValue). v.answers) c.self.view_is

pub invariant_of-self : goal.invariant_of-self
invariant_of-self c =
    record {
      state = grown_state (parts c.self.inside) c.self.invariant.state c.reserve_rows.new.retry c.reserve_rows.ensures.same;
      roomy = record {
        table = c.self.invariant.roomy.table;
        messages = c.self.invariant.roomy.messages;
        sessions = c.self.invariant.roomy.sessions;
        graph = c.self.invariant.roomy.graph;
        shares = c.self.invariant.roomy.shares;
      };
      few = c.self.invariant.few;
      met = c.self.invariant.met;
      honest = c.self.invariant.honest;
      limited = limits_same c.self.inside.retry c.reserve_rows.new.retry (λ contact n. ap (λ (x : retry.KeptRow). x.row) (c.reserve_rows.ensures.same.kept contact n)) c.self.invariant.limited;
      fresh = c.self.invariant.fresh;
    }

pub invariant_of-self-in_err-reserve_release : goal.invariant_of-self-in_err-reserve_release
invariant_of-self-in_err-reserve_release c =
    record {
      state = grown_state (parts c.self.inside) c.self.invariant.state c.reserve_release.new.retry
          (grown_twice c.self.inside.retry c.reserve_rows.new.retry c.reserve_release.new.retry c.reserve_rows.ensures.same c.reserve_release.ensures.same);
      roomy = record {
        table = c.self.invariant.roomy.table;
        messages = c.self.invariant.roomy.messages;
        sessions = c.self.invariant.roomy.sessions;
        graph = c.self.invariant.roomy.graph;
        shares = c.self.invariant.roomy.shares;
      };
      few = c.self.invariant.few;
      met = c.self.invariant.met;
      honest = c.self.invariant.honest;
      limited = limits_same c.self.inside.retry c.reserve_release.new.retry
          (λ contact n. ap (λ (x : retry.KeptRow). x.row) (c.reserve_release.ensures.same.kept contact n ∙ c.reserve_rows.ensures.same.kept contact n)) c.self.invariant.limited;
      fresh = c.self.invariant.fresh;
    }

pub returns-in_err-reserve_release-clause-err : goal.returns-in_err-reserve_release-clause-err
returns-in_err-reserve_release-clause-err c =
    on_err c.from_residual-in_err-reserve_release.result _
    (grown_facts (parts c.self.inside) c.reserve_release.new.retry
    (grown_twice c.self.inside.retry c.reserve_rows.new.retry c.reserve_release.new.retry c.reserve_rows.ensures.same c.reserve_release.ensures.same)
    ∙ ap (λ (v : StateValue). v.facts) c.self.view_is)

pub make_ready-requires-clause-rows : goal.make_ready-requires-clause-rows
make_ready-requires-clause-rows c =
    let below : c.args.n < length c.self.inside.messages.held = subst (λ (v : StateValue). c.args.n < length v.facts.held) (sym c.self.view_is) c.requires.held in
    λ contact known goes.
    let room : c.len-held.result ≤ length (retry.rows_of c.reserve_rows.new.retry contact) = c.in_ok-reserve_rows.ensures.room contact known goes in
    let same : length (retry.rows_of c.reserve_release.new.retry contact) ≡ length (retry.rows_of c.reserve_rows.new.retry contact) =
    ap (λ (rows : List (List retry.KeptRow)). length (slice_index_or rows contact [])) c.reserve_release.ensures.rows in
    omega (arith, below, room, same, c.len-held.ensures)

pub make_ready-requires-clause-new : goal.make_ready-requires-clause-new
make_ready-requires-clause-new c =
    c.reserve_release.ensures.same.groups c.args.n
    ∙ (c.reserve_rows.ensures.same.groups c.args.n
    ∙ free_now (parts c.self.inside) c.self.invariant.state c.args.n (deliver_node (parts c.self.inside) c.self.invariant.state c.args.self.now c.self.view_is c.args.n (c.requires.held, c.requires.next)))

pub make_ready-requires-clause-room : goal.make_ready-requires-clause-room
make_ready-requires-clause-room c =
    let below : c.args.n < length c.self.inside.messages.held = subst (λ (v : StateValue). c.args.n < length v.facts.held) (sym c.self.view_is) c.requires.held in
    omega (arith, below, c.len-held.ensures, c.in_ok-reserve_release.ensures.room)

pub invariant_of-self-in_err-reserve : goal.invariant_of-self-in_err-reserve
invariant_of-self-in_err-reserve c =
    record {
      state =
          subst (λ (ks : List ℕ). IsState (record (parts c.self.inside) { delivered = ks; retry = c.reserve_release.new.retry })) (sym c.reserve.ensures.items)
          (grown_state (parts c.self.inside) c.self.invariant.state c.reserve_release.new.retry
          (grown_twice c.self.inside.retry c.reserve_rows.new.retry c.reserve_release.new.retry c.reserve_rows.ensures.same c.reserve_release.ensures.same));
      roomy = record {
        table = c.self.invariant.roomy.table;
        messages = c.self.invariant.roomy.messages;
        sessions = c.self.invariant.roomy.sessions;
        graph = c.self.invariant.roomy.graph;
        shares = c.self.invariant.roomy.shares;
      };
      few = c.self.invariant.few;
      met = c.self.invariant.met;
      honest = c.self.invariant.honest;
      limited = limits_same c.self.inside.retry c.reserve_release.new.retry
          (λ contact n. ap (λ (x : retry.KeptRow). x.row) (c.reserve_release.ensures.same.kept contact n ∙ c.reserve_rows.ensures.same.kept contact n)) c.self.invariant.limited;
      fresh = c.self.invariant.fresh;
    }
