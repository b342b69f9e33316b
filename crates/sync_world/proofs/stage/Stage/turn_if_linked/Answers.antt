use Rattle.sync_world.proofs.RestLaws.{goes_not}
use Rattle.std.proofs.Common.{sym, ◌∙◌}
use Rattle.sync_world.specs.Doing.{ground_of}
use Rattle.sync_world.proofs.RoundLaws.{linked_by, turn_still}
use Rattle.sync_world.proofs.stage.Stage.turn_if_linked.Goals as goal

pub returns-then-not-has_links-clause-goes : goal.returns-then-not-has_links-clause-goes
returns-then-not-has_links-clause-goes c = goes_not c.args.self.now

pub returns-then-not-has_links-clause-turns : goal.returns-then-not-has_links-clause-turns
returns-then-not-has_links-clause-turns c =
    turn_still c.args.d (ground_of c.args.self.now) (sym c.has_links.ensures
    ∙ c.if-not-has_links.true)

pub returns-clause-turns : goal.returns-clause-turns
returns-clause-turns c =
    linked_by c.args.d c.turn.result (ground_of c.args.self.now) (ground_of c.turn.new.self)
    (sym c.has_links.ensures ∙ c.if-not-has_links.false) c.turn.ensures.turns
