use Rattle.std.proofs.Common.{List, ℕ, subst, sym}
use Rattle.outside.specs.Input.{ReadsAll}
use Rattle.sync_words.specs.Outcomes.{came_to}
use Rattle.world_scripts.specs.declared.script.TheConstants.{MAX_SCRIPT}
use Rattle.sync_world.proofs.PrintLemmas.{of_script}
use Rattle.sync_world.proofs.playing.play_script.Goals as goal

pub returns-in-Ok : goal.returns-in-Ok
returns-in-Ok g c =
    let input = g.S.Source.tells c.args.input.now in
    let input' = g.S.Source.tells c.read_input.new.input in
    of_script c.as_slice.result.now input input' (g.W.Sink.tells c.args.out.now)
    (g.W.Sink.tells c.print_lines.new.out) (came_to c.print_lines.result)
    (subst (λ (bytes : List ℕ). ReadsAll MAX_SCRIPT input.bytes input'.bytes bytes)
    (sym c.as_slice.ensures.value) c.in-Ok.ensures.reads) c.print_lines.ensures
