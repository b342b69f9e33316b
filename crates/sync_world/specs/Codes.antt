-- The code of a stage, by which proofs tell stages apart.
use Rattle.std.specs.Coded.{Coded}
use Rattle.sync_world.specs.contracts.stage.Stage as stage
use Rattle.sync_world.specs.declared.stage.Stage.{Stage}

abbrev pub stage_code : Coded Stage
stage_code = stage.the_row.coded
