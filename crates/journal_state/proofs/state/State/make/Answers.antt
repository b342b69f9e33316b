use Rattle.std.proofs.Common.{◌≡◌, ◌+◌, ◌≤◌, Some, refl, sym, ap, subst, ◌∙◌}
use Rattle.sync_rules.specs.declared.entries.Entry.TheVariants as entry
use Rattle.sync_rules.specs.Clients.{Meaning}
use Rattle.sync_rules.specs.Facts.{Facts, after}
use Rattle.sync_rules.specs.Left.{left_of}
use Rattle.message_graph.specs.declared.nodes.Step.{Step}
use Rattle.journal_state.specs.Stepping.{entry_of}
use Rattle.journal_state.specs.Taking.{moved}
use Rattle.journal_state.specs.Whole.{StateValue, KnowsJudgements, id_at}
use Rattle.journal_state.proofs.Took.{knows_after, noted_facts, noted_knows}
use Rattle.journal_state.proofs.state.State.make.Goals as goal
use Rattle.journal_state.proofs.state.State.make.Goals.{in-Judge+in_ok-judge-in-Judge, in-Invalid, in-Deliver+in_ok-deliver-in-Deliver}

pub judge-requires-clause-next : goal.judge-requires-clause-next
judge-requires-clause-next g c =
    c.requires.next ∙ ap Some (c.requires.entry ∙ ap (λ (s : Step). entry_of (id_at c.args.self.now.facts.held) s) c.in-Judge.is)

pub refuse-requires-clause-next : goal.refuse-requires-clause-next
refuse-requires-clause-next g c = (
  g.C.Clients.meaning c.args.clients.now,
  (c.requires.knows, c.requires.next ∙ ap Some (c.requires.entry ∙ ap (λ (s : Step). entry_of (id_at c.args.self.now.facts.held) s) c.in-Invalid.is)),
)

pub deliver-requires-clause-next : goal.deliver-requires-clause-next
deliver-requires-clause-next g c = (
  g.C.Clients.meaning c.args.clients.now,
  (c.requires.knows, c.requires.next ∙ ap Some (c.requires.entry ∙ ap (λ (s : Step). entry_of (id_at c.args.self.now.facts.held) s) c.in-Deliver.is)),
)

pub returns-clause-facts : goal.returns-clause-facts
returns-clause-facts g c =
    let f = c.args.self.now.facts in
    let as_entry = λ (s : Step). moved f (entry_of (id_at f.held) s) in
    let facts_are : c.match-step.self.facts ≡ as_entry c.args.step =
    (elim c.match-step.branch [
      | in-Judge+in_ok-judge-in-Judge w ↦ ap (λ (v : StateValue). v.facts) w.self-is ∙ (w.in_ok-judge-in-Judge.ensures.facts ∙ ap as_entry (sym w.in-Judge.is))
      | in-Invalid w ↦ ap (λ (v : StateValue). v.facts) w.self-is ∙ (w.refuse.ensures.facts ∙ ap as_entry (sym w.in-Invalid.is))
      | in-Deliver+in_ok-deliver-in-Deliver w ↦ ap (λ (v : StateValue). v.facts) w.self-is ∙ (w.in_ok-deliver-in-Deliver.ensures.facts ∙ ap as_entry (sym w.in-Deliver.is))
    ]) in
    noted_facts c.args.self.now c.match-step.self c.note.new.self c.args.entry.now (facts_are ∙ ap (moved f) (sym c.requires.entry)) c.note.ensures

pub returns-clause-left : goal.returns-clause-left
returns-clause-left g c =
    let clients : Meaning = g.C.Clients.meaning c.args.clients.now in
    let f = c.args.self.now.facts in
    let facts_are : c.note.new.self.facts ≡ after f c.args.entry.now = returns-clause-facts g c in
    subst (λ (h : Facts). left_of h + 1 ≤ left_of f) (sym facts_are) (c.left.ensures.step clients f c.args.entry.now c.requires.next)

pub returns-clause-knows : goal.returns-clause-knows
returns-clause-knows g c =
    let clients : Meaning = g.C.Clients.meaning c.args.clients.now in
    let k : KnowsJudgements clients c.match-step.self =
    (elim c.match-step.branch [
      | in-Judge+in_ok-judge-in-Judge w ↦ subst (KnowsJudgements clients) (sym w.self-is) w.judge.ensures.knows
      | in-Invalid w ↦ subst (KnowsJudgements clients) (sym w.self-is) (w.refuse.ensures.knows clients c.requires.knows)
      | in-Deliver+in_ok-deliver-in-Deliver w ↦
          subst (KnowsJudgements clients) (sym w.self-is)
          (knows_after clients c.args.self.now w.deliver.new.self (moved c.args.self.now.facts (entry.Deliver (id_at c.args.self.now.facts.held w.in-Deliver.n)))
          w.in_ok-deliver-in-Deliver.ensures.facts w.deliver.ensures.answers refl c.requires.knows)
    ]) in
    noted_knows clients c.match-step.self c.note.new.self c.args.entry.now c.note.ensures k
