use Rattle.std.proofs.Common.{◌≡◌, List, Some, ap, subst, sym, ◌∙◌, arith}
use Rattle.sync_rules.specs.declared.entries.Entry.TheVariants as entry
use Rattle.message_graph.specs.declared.nodes.Node.{Node}
use Rattle.message_graph.specs.declared.nodes.Step.TheVariants as step
use Rattle.message_graph.specs.declared.nodes.Ending.TheVariants as ending
use Rattle.message_graph.specs.Nodes as nodes
use Rattle.journal_state.specs.Whole.{StateValue, KnowsJudgements, id_at}
use Rattle.journal_state.specs.Taking.{moved}
use Rattle.journal_state.specs.Inside.{IsHonest, parts}
use Rattle.journal_state.proofs.Honest.{honest_ended}
use Rattle.journal_state.proofs.Made.{refuse_node, refused_then, refused_so, refused_known}
use Rattle.journal_state.proofs.state.State.refuse.Goals as goal

pub apply-requires-clause-next : goal.apply-requires-clause-next
apply-requires-clause-next c = refuse_node (parts c.self.inside) c.self.invariant.state c.args.self.now c.self.view_is c.args.n (c.requires.held, c.requires.next)

node : (c : goal.After-apply)
    → nodes.next_step c.self.inside.graph.nodes ≡ Some (step.Invalid c.args.n)
node c = refuse_node (parts c.self.inside) c.self.invariant.state c.args.self.now c.self.view_is c.args.n (c.requires.held, c.requires.next)

made : (c : goal.After-apply) → c.apply.new.self.nodes ≡ nodes.with_ending c.args.n ending.Invalid c.self.inside.graph.nodes
made c = ap (λ (g : nodes.Shown). g.nodes) c.apply.ensures

pub invariant_of-self : goal.invariant_of-self
invariant_of-self c =
    let spare : c.apply.new.self.spare ≡ c.self.inside.graph.spare = ap (λ (g : nodes.Shown). g.spare) c.apply.ensures in
    record {
      state = refused_then (parts c.self.inside) c.self.invariant.state c.args.n (node c) c.apply.new.self.nodes (made c);
      roomy = record {
        table = c.self.invariant.roomy.table;
        messages = c.self.invariant.roomy.messages;
        sessions = c.self.invariant.roomy.sessions;
        graph = let m = c.self.invariant.roomy.graph in omega (arith, m, spare);
        shares = c.self.invariant.roomy.shares;
      };
      limited = c.self.invariant.limited;
      fresh = c.self.invariant.fresh;
      few = c.self.invariant.few;
      met = c.self.invariant.met;
      honest =
          subst (λ (ns : List Node). IsHonest ns c.self.inside.shares.items) (sym (made c))
          (honest_ended c.self.inside.graph.nodes c.self.inside.shares.items c.args.n ending.Invalid c.self.invariant.honest);
    }

pub returns-clause-facts : goal.returns-clause-facts
returns-clause-facts c =
    refused_so (parts c.self.inside) c.self.invariant.state c.args.n (node c) c.apply.new.self.nodes (made c)
    ∙ ap (λ (v : StateValue). moved v.facts (entry.Invalid (id_at v.facts.held c.args.n))) c.self.view_is

pub returns-clause-knows : goal.returns-clause-knows
returns-clause-knows c clients k =
    refused_known (parts c.self.inside) c.self.invariant.state c.args.n (node c) c.apply.new.self.nodes (made c) clients (subst (KnowsJudgements clients) (sym c.self.view_is) k)
