use Rattle.std.proofs.Common.{true, false, arith, rules, refl, sym, ◌∙◌}
use Rattle.std.proofs.lemmas.Bool.{le-leb}
use Rattle.sync_node.specs.declared.node.Turned.{Turned}
use Rattle.sync_node.specs.Node.{asked_among}
use Rattle.sync_run.proofs.CourseParts.{if_err_was, no_turn_yet, over_asked, turn_more, turn_stopped}
use Rattle.sync_run.proofs.CourseParts.{turns_end}
use Rattle.sync_run.proofs.StandsLaws.{keeps_none, keeps_then, same_number, stands_stopped}
use Rattle.sync_run.proofs.sessions.make_turns.Goals as goal

pub turns-init : goal.turns-init
turns-init g c = record {
  went = no_turn_yet _ c.args.limits _ _ c.requires.read;
  goes_on = refl;
  keeps = keeps_none _ (g.H.Disk.tells c.args.host.now) c.requires.node;
  number = refl;
  still_open = c.requires.still_open;
  few_still = omega arith;
  may = c.requires.may;
}

pub turn-requires : goal.turn-requires
turn-requires g c = record { may = c.turns.invariant.may }

pub turns-preserved : goal.turns-preserved
turns-preserved g c =
    let l = c.turns.invariant in
    let e = c.in_ok-turn.ensures in
    record {
      went =
          turn_more _ c.args.limits _ _ _ _ _ _ l.went l.goes_on c.turns-test.true
          l.keeps.same_first _ _ _ _ c.count_still-still.ensures.counts (e.went l.still_open);
      goes_on =
          sym (over_asked _ _ c.args.limits.quiet _ _ (asked_among c.turn.new.self.links)
          c.is_over.ensures c.from.ensures c.asked.ensures)
          ∙ c.if-is_over.false;
      keeps = keeps_then _ _ _ _ _ _ l.keeps e.goes;
      number = same_number c.turns.node.links _ e.kept.same_sessions ∙ l.number;
      still_open = e.answers.opened l.still_open;
      few_still = omega (arith, c.count_still-still.ensures.few, l.few_still);
      may = e.may;
    }

pub returns-in_err-turn : goal.returns-in_err-turn
returns-in_err-turn g c =
    let l = c.turns.invariant in
    let e = c.in_err-turn.ensures in
    let x = c.in_err-turn.field-0.0 in
    let r = c.from_residual.result in
    let is = c.from_residual.ensures.1 in
    record {
      stands =
          stands_stopped Turned _ _ _ _ _ _ _ (g.H.Disk.tells c.turn.new.host) l.keeps _ r x is
          e.goes (e.answers.opened l.still_open) e.may (e.stops l.still_open);
      went = search rules;
      stopped =
          if_err_was r x _ is
          (turn_stopped _ c.args.limits _ _ _ _ _ _ l.went l.goes_on c.turns-test.true
          l.keeps.same_first c.turn.new.self _ x (e.stopped l.still_open));
    }

pub returns-then-is_over : goal.returns-then-is_over
returns-then-is_over g c =
    let l = c.turns.invariant in
    let e = c.in_ok-turn.ensures in
    let so = turn_more _ c.args.limits _ _ _ _ _ _ l.went l.goes_on c.turns-test.true
    l.keeps.same_first _ _ _ _ c.count_still-still.ensures.counts (e.went l.still_open) in
    record {
      stands = record {
        goes = keeps_then _ _ _ _ _ _ l.keeps e.goes;
        answer = e.answers.opened l.still_open;
        may = e.may;
        stops = tt;
        number = same_number c.turns.node.links _ e.kept.same_sessions ∙ l.number;
      };
      went =
          turns_end _ c.args.limits _ _ _ _ _ _ so true
          (sym c.if-is_over.true ∙ over_asked _ _ c.args.limits.quiet _ _
          (asked_among c.turn.new.self.links) c.is_over.ensures c.from.ensures c.asked.ensures)
          refl;
      stopped = tt;
    }

pub returns : goal.returns
returns g c =
    let l = c.turns.invariant in
    record {
      stands = record {
        goes = l.keeps;
        answer = l.still_open;
        may = l.may;
        stops = tt;
        number = l.number;
      };
      went =
          turns_end _ c.args.limits _ _ _ _ _ _ l.went false (sym l.goes_on)
          (le-leb c.args.limits.turns c.turns.counter c.turns-test.false);
      stopped = tt;
    }
