use Rattle.std.proofs.Common.{◌≡◌, true, refl, sym, subst, take, ◌∙◌, ap, inr}
use Rattle.sync_rules.specs.Allows.{suits_rows}
use Rattle.sync_rules.specs.Facts.{Facts, after}
use Rattle.journal_state.proofs.Fronts.{HasPlayed, leads_next, played_front, played_more, rows_next, rows_stop}
use Rattle.journal_state.proofs.Restored.{same_answers, still_opening}
use Rattle.journal_state.proofs.Took.{knows_after}
use Rattle.journal_state.proofs.state.State.restore_all.Goals as goal

pub returns-in_err-restore_one-clause-front : goal.returns-in_err-restore_one-clause-front
returns-in_err-restore_one-clause-front c clients =
    let old = c.args.self.now.facts in
    played_front clients old c.restore_one.new.self.facts c.args.entries.now c.loop-entry.entry-index
    (subst (λ (f : Facts). HasPlayed clients old f (take c.loop-entry.entry-index c.args.entries.now)) (sym c.in_err-restore_one.ensures.err) (c.loop-entry.invariant.played clients))

pub returns-in_err-restore_one-clause-knows : goal.returns-in_err-restore_one-clause-knows
returns-in_err-restore_one-clause-knows c clients k =
    knows_after clients c.loop-entry.self c.restore_one.new.self c.loop-entry.self.facts c.in_err-restore_one.ensures.err c.restore_one.ensures.answers refl
    (c.loop-entry.invariant.knows clients k)

pub returns-then-not-branch-clause-answer : goal.returns-then-not-branch-clause-answer
returns-then-not-branch-clause-answer c =
    sym (rows_stop c.loop-entry.self.facts c.args.entries.now c.loop-entry.entry-index c.entry-item.result c.in_ok-restore_one.field-0 c.loop-entry-test.true c.entry-item.is
    c.in_ok-restore_one.ensures.answer c.if-not-branch.true)
    ∙ c.loop-entry.invariant.left

pub returns-then-not-branch-clause-front : goal.returns-then-not-branch-clause-front
returns-then-not-branch-clause-front c clients =
    let old = c.args.self.now.facts in
    played_front clients old c.restore_one.new.self.facts c.args.entries.now c.loop-entry.entry-index
    (subst (λ (f : Facts). HasPlayed clients old f (take c.loop-entry.entry-index c.args.entries.now)) (sym (c.in_ok-restore_one.ensures.refused c.if-not-branch.true))
    (c.loop-entry.invariant.played clients))

pub returns-then-not-branch-clause-knows : goal.returns-then-not-branch-clause-knows
returns-then-not-branch-clause-knows c clients k =
    knows_after clients c.loop-entry.self c.restore_one.new.self c.loop-entry.self.facts (c.in_ok-restore_one.ensures.refused c.if-not-branch.true) c.restore_one.ensures.answers refl
    (c.loop-entry.invariant.knows clients k)

pub loop-entry-preserved : goal.loop-entry-preserved
loop-entry-preserved c =
    let so_far = c.loop-entry.self.facts in
    let e = c.entry-item.result in
    let suits : suits_rows so_far e ≡ true = sym c.in_ok-restore_one.ensures.answer ∙ c.if-not-branch.false in
    let taken : c.restore_one.new.self.facts ≡ after so_far e = c.in_ok-restore_one.ensures.taken c.if-not-branch.false in
    record {
      opening = ap (λ (f : Facts). f.start) taken ∙ still_opening so_far e c.loop-entry.invariant.opening suits;
      left =
          rows_next so_far c.restore_one.new.self.facts c.args.entries.now c.loop-entry.entry-index e c.in_ok-restore_one.field-0 c.loop-entry-test.true c.entry-item.is
          c.in_ok-restore_one.ensures.answer c.if-not-branch.false taken
          ∙ c.loop-entry.invariant.left;
      leads =
          leads_next so_far c.restore_one.new.self.facts c.args.entries.now c.loop-entry.entry-index e c.loop-entry-test.true c.entry-item.is taken
          ∙ c.loop-entry.invariant.leads;
      played = λ clients.
          played_more clients c.args.self.now.facts so_far c.restore_one.new.self.facts c.args.entries.now c.loop-entry.entry-index e c.loop-entry-test.true c.entry-item.is
          (c.loop-entry.invariant.played clients) (inr suits) taken;
      knows = λ clients k.
          knows_after clients c.loop-entry.self c.restore_one.new.self (after so_far e) taken c.restore_one.ensures.answers (same_answers clients so_far e suits)
          (c.loop-entry.invariant.knows clients k);
    }

pub returns-clause-front : goal.returns-clause-front
returns-clause-front c clients =
    played_front clients c.args.self.now.facts c.loop-entry.self.facts c.args.entries.now c.loop-entry.entry-index (c.loop-entry.invariant.played clients)

pub returns-clause-knows : goal.returns-clause-knows
returns-clause-knows c clients k = c.loop-entry.invariant.knows clients k
