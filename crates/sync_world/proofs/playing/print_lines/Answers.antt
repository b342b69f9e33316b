use Rattle.sync_world.proofs.PrintLemmas.{left_out, played}
use Rattle.world_scripts.specs.Courses.{said}
use Rattle.sync_words.specs.Outcomes.{came_to}
use Rattle.sync_world.proofs.playing.print_lines.Goals as goal

pub returns : goal.returns
returns g c =
    played (said c.args.bytes.now) c.in_ok-player.player (came_to c.print.result) _ _
    c.in_ok-player.ensures c.print.ensures

pub returns-in_err-player : goal.returns-in_err-player
returns-in_err-player g c =
    left_out (said c.args.bytes.now) c.from_residual.result c.in_err-player.field-0.0 _
    c.from_residual.ensures.1 c.in_err-player.ensures
