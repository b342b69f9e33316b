use Rattle.std.proofs.Common.{◌≡◌, List, length, set, ap, subst, sym, ◌∙◌, arith}
use Rattle.std.proofs.lemmas.List.{length-set}
use Rattle.sync_rules.specs.declared.entries.Entry.TheVariants as entry
use Rattle.message_graph.specs.declared.nodes.Node.{Node}
use Rattle.message_graph.specs.declared.nodes.Step.TheVariants as step
use Rattle.message_graph.specs.Nodes as nodes
use Rattle.journal_state.specs.Whole.{StateValue, IsState, KnowsJudgements, id_at}
use Rattle.journal_state.specs.Taking.{moved}
use Rattle.journal_state.specs.Inside.{IsHonest, parts}
use Rattle.journal_state.proofs.Honest.{honest_judged}
use Rattle.journal_state.proofs.Made.{def_now, def_within, judge_node, judged_then, judged_so, judged_known}
use Rattle.journal_state.proofs.state.State.judge.Goals as goal

pub judgement_of-requires-clause-known : goal.judgement_of-requires-clause-known
judgement_of-requires-clause-known g c =
    def_within (parts c.self.inside) c.self.invariant.state (step.Judge c.args.n)
    (judge_node (parts c.self.inside) c.self.invariant.state c.args.self.now c.self.view_is c.args.n (c.requires.held, (g.C.Clients.meaning c.args.clients.now, (c.requires.knows, c.requires.next))))
    c.message-message.result.now c.message-message.ensures c.group-number.result c.group-number.ensures

pub judgement_of-requires-clause-named : goal.judgement_of-requires-clause-named
judgement_of-requires-clause-named g c =
    def_now (parts c.self.inside) c.self.invariant.state (step.Judge c.args.n)
    (judge_node (parts c.self.inside) c.self.invariant.state c.args.self.now c.self.view_is c.args.n (c.requires.held, (g.C.Clients.meaning c.args.clients.now, (c.requires.knows, c.requires.next))))
    c.message-message.result.now c.message-message.ensures c.group-number.result c.group-number.ensures

pub judged-requires : goal.judged-requires
judged-requires g c =
    judge_node (parts c.self.inside) c.self.invariant.state c.args.self.now c.self.view_is c.args.n (c.requires.held, (g.C.Clients.meaning c.args.clients.now, (c.requires.knows, c.requires.next)))

pub invariant_of-self-2 : goal.invariant_of-self-2
invariant_of-self-2 g c =
    let spare : c.judged.new.self.spare ≡ c.self.inside.graph.spare = ap (λ (s : nodes.Shown). s.spare) c.in_ok-judged.ensures.ok in
    let long : length (set c.self.inside.shares.items c.args.n c.in_ok-answer.share) ≡ length c.self.inside.shares.items = length-set c.self.inside.shares.items c.args.n c.in_ok-answer.share in
    record {
      state =
          judged_then (parts c.self.inside) c.self.invariant.state c.args.n
          (judge_node (parts c.self.inside) c.self.invariant.state c.args.self.now c.self.view_is c.args.n (c.requires.held, (g.C.Clients.meaning c.args.clients.now, (c.requires.knows, c.requires.next))))
          c.in_ok-answer.answer c.in_ok-answer.share c.in_ok-judgement.judgement c.in_ok-answer.ensures.answer c.judged.new.self.nodes (ap (λ (s : nodes.Shown). s.nodes) c.in_ok-judged.ensures.ok);
      roomy = record {
        table = c.self.invariant.roomy.table;
        messages = c.self.invariant.roomy.messages;
        sessions = c.self.invariant.roomy.sessions;
        graph = let m = c.self.invariant.roomy.graph in omega (arith, m, spare);
        shares = let m = c.self.invariant.roomy.shares in omega (arith, m, long);
      };
      limited = c.self.invariant.limited;
      fresh = c.self.invariant.fresh;
      few = c.self.invariant.few;
      met = c.self.invariant.met;
      honest =
          subst (λ (ns : List Node). IsHonest ns (set c.self.inside.shares.items c.args.n c.in_ok-answer.share)) (sym (ap (λ (s : nodes.Shown). s.nodes) c.in_ok-judged.ensures.ok))
          (honest_judged c.self.inside.graph.nodes c.self.inside.shares.items c.args.n c.in_ok-answer.answer c.in_ok-answer.share c.in_ok-judgement.judgement c.self.invariant.honest
          c.in_ok-answer.ensures.answer c.in_ok-answer.ensures.share);
    }

pub returns-clause-facts : goal.returns-clause-facts
returns-clause-facts g c =
    judged_so (parts c.self.inside) c.self.invariant.state c.args.n
    (judge_node (parts c.self.inside) c.self.invariant.state c.args.self.now c.self.view_is c.args.n (c.requires.held, (g.C.Clients.meaning c.args.clients.now, (c.requires.knows, c.requires.next))))
    c.in_ok-answer.answer c.in_ok-answer.share c.in_ok-judgement.judgement c.in_ok-answer.ensures.answer c.judged.new.self.nodes (ap (λ (s : nodes.Shown). s.nodes) c.in_ok-judged.ensures.ok)
    ∙ ap (λ (v : StateValue). moved v.facts (entry.Judged (id_at v.facts.held c.args.n))) c.self.view_is

pub returns-clause-knows : goal.returns-clause-knows
returns-clause-knows g c =
    judged_known (parts c.self.inside) c.self.invariant.state c.args.n
    (judge_node (parts c.self.inside) c.self.invariant.state c.args.self.now c.self.view_is c.args.n (c.requires.held, (g.C.Clients.meaning c.args.clients.now, (c.requires.knows, c.requires.next))))
    c.in_ok-answer.answer c.in_ok-answer.share c.in_ok-judgement.judgement c.in_ok-answer.ensures.answer c.judged.new.self.nodes (ap (λ (s : nodes.Shown). s.nodes) c.in_ok-judged.ensures.ok)
    (g.C.Clients.meaning c.args.clients.now) (subst (KnowsJudgements (g.C.Clients.meaning c.args.clients.now)) (sym c.self.view_is) c.requires.knows) c.message-message.result.now c.message-message.ensures c.in_ok-judgement.ensures

pub invariant_of-self : goal.invariant_of-self
invariant_of-self g c =
    let same = c.in_err-judged.ensures.err in
    let spare : c.judged.new.self.spare ≡ c.self.inside.graph.spare = ap (λ (s : nodes.Shown). s.spare) same in
    record {
      state = subst (λ (ns : List Node). IsState (record (parts c.self.inside) { nodes = ns })) (sym (ap (λ (s : nodes.Shown). s.nodes) same)) c.self.invariant.state;
      roomy = record {
        table = c.self.invariant.roomy.table;
        messages = c.self.invariant.roomy.messages;
        sessions = c.self.invariant.roomy.sessions;
        graph = let m = c.self.invariant.roomy.graph in omega (arith, m, spare);
        shares = c.self.invariant.roomy.shares;
      };
      limited = c.self.invariant.limited;
      fresh = c.self.invariant.fresh;
      few = c.self.invariant.few;
      met = c.self.invariant.met;
      honest = subst (λ (ns : List Node). IsHonest ns c.self.inside.shares.items) (sym (ap (λ (s : nodes.Shown). s.nodes) same)) c.self.invariant.honest;
    }
