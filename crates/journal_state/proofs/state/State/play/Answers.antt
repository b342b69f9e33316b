use Rattle.std.proofs.Common.{sym, subst, take, ◌∙◌, inl}
use Rattle.sync_rules.specs.Clients.{Meaning}
use Rattle.sync_rules.specs.Facts.{Facts}
use Rattle.journal_state.proofs.Fronts.{HasPlayed, leads_next, played_more, played_front, settles_next}
use Rattle.journal_state.proofs.state.State.play.Goals as goal

pub loop-entry-preserved : goal.loop-entry-preserved
loop-entry-preserved g c =
    let clients : Meaning = g.C.Clients.meaning c.args.clients.now in
    record {
      knows = c.play_one.ensures.knows;
      left =
          settles_next clients c.loop-entry.self.facts c.play_one.new.self.facts c.args.entries.now c.loop-entry.entry-index c.entry-item.result c.in_ok-play_one.field-0 c.loop-entry-test.true c.entry-item.is
          c.in_ok-play_one.ensures.answer c.if-not-branch.false (c.in_ok-play_one.ensures.taken c.if-not-branch.false)
          ∙ c.loop-entry.invariant.left;
      leads =
          leads_next c.loop-entry.self.facts c.play_one.new.self.facts c.args.entries.now c.loop-entry.entry-index c.entry-item.result c.loop-entry-test.true c.entry-item.is
          (c.in_ok-play_one.ensures.taken c.if-not-branch.false)
          ∙ c.loop-entry.invariant.leads;
      played =
          played_more clients c.args.self.now.facts c.loop-entry.self.facts c.play_one.new.self.facts c.args.entries.now c.loop-entry.entry-index c.entry-item.result c.loop-entry-test.true c.entry-item.is
          c.loop-entry.invariant.played (inl (c.in_ok-play_one.ensures.step c.if-not-branch.false)) (c.in_ok-play_one.ensures.taken c.if-not-branch.false);
    }

pub returns-in_err-play_one-clause-front : goal.returns-in_err-play_one-clause-front
returns-in_err-play_one-clause-front g c =
    let clients : Meaning = g.C.Clients.meaning c.args.clients.now in
    let old = c.args.self.now.facts in
    played_front clients old c.play_one.new.self.facts c.args.entries.now c.loop-entry.entry-index
    (subst (λ (f : Facts). HasPlayed clients old f (take c.loop-entry.entry-index c.args.entries.now)) (sym c.in_err-play_one.ensures.err) c.loop-entry.invariant.played)

pub returns-then-not-branch-clause-front : goal.returns-then-not-branch-clause-front
returns-then-not-branch-clause-front g c =
    let clients : Meaning = g.C.Clients.meaning c.args.clients.now in
    let old = c.args.self.now.facts in
    played_front clients old c.play_one.new.self.facts c.args.entries.now c.loop-entry.entry-index
    (subst (λ (f : Facts). HasPlayed clients old f (take c.loop-entry.entry-index c.args.entries.now)) (sym (c.in_ok-play_one.ensures.refused c.if-not-branch.true)) c.loop-entry.invariant.played)

pub returns-clause-front : goal.returns-clause-front
returns-clause-front g c =
    played_front (g.C.Clients.meaning c.args.clients.now) c.args.self.now.facts c.loop-entry.self.facts c.args.entries.now c.loop-entry.entry-index c.loop-entry.invariant.played
