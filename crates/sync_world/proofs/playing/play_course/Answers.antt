use Rattle.sync_world.proofs.PlayingLemmas.{began, came_over, comes_on, goes_none, goes_some}
use Rattle.sync_world.proofs.PlayingLemmas.{goes_wrong, stopped, went_on}
use Rattle.sync_world.proofs.playing.play_course.Goals as goal

pub lines-init : goal.lines-init
lines-init c =
    began c.args.devices c.args.script.now c.in_ok-player.player c.in_ok-player.ensures.ok

pub lines-preserved : goal.lines-preserved
lines-preserved c =
    went_on c.args.devices c.args.script.now c.lines.script c.lines.player c.lines.invariant
    c.in-Ok-Some.line c.in-Ok-Some.action c.next_action.new.self c.act.new.player
    (goes_some c.lines.script c.next_action.new.self c.in-Ok-Some.field-0 c.in-Ok-Some.line
    c.in-Ok-Some.action c.in-Ok-Some.field-0-is c.in-Ok-Some.ensures)
    c.in_ok-act-in-Ok-Some.ensures

pub returns-in_err-act-in-Ok-Some : goal.returns-in_err-act-in-Ok-Some
returns-in_err-act-in-Ok-Some c =
    comes_on c.args.devices c.args.script.now c.from_residual-in_err-act-in-Ok-Some.result
    c.in_err-act-in-Ok-Some.field-0.0 c.from_residual-in_err-act-in-Ok-Some.ensures.1
    (stopped c.args.devices c.args.script.now c.lines.script c.lines.player c.lines.invariant
    c.in-Ok-Some.line c.in-Ok-Some.action c.next_action.new.self c.act.new.player
    c.in_err-act-in-Ok-Some.field-0.0
    (goes_some c.lines.script c.next_action.new.self c.in-Ok-Some.field-0 c.in-Ok-Some.line
    c.in-Ok-Some.action c.in-Ok-Some.field-0-is c.in-Ok-Some.ensures)
    c.in_err-act-in-Ok-Some.ensures)

pub returns-in-Ok-None : goal.returns-in-Ok-None
returns-in-Ok-None c =
    came_over c.args.devices c.args.script.now c.lines.script c.lines.player c.lines.invariant
    (goes_none c.lines.script c.next_action.new.self c.in-Ok-None.field-0 c.in-Ok-None.field-0-is
    c.in-Ok-None.ensures)

pub returns-in-Err : goal.returns-in-Err
returns-in-Err c =
    goes_wrong c.args.devices c.args.script.now c.lines.script c.next_action.new.self c.lines.player
    c.in-Err.fault c.unread.result c.lines.invariant c.in-Err.ensures
    c.unread.ensures
