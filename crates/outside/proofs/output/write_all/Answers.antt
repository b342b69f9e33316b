use Rattle.std.proofs.Common.{rules, arith}
use Rattle.std.proofs.KnownBytes.{Appends-kept}
use Rattle.outside.proofs.StreamSteps.{appends_next, gets_part}
use Rattle.outside.proofs.output.write_all.Goals as goal

pub pieces-preserved : goal.pieces-preserved
pieces-preserved g c =
    (search rules, appends_next _ _ _ _ _ _ c.pieces.invariant.1 c.in_ok-done.ensures.bytes, search rules)

pub returns-in_err-done-clause-gets : goal.returns-in_err-done-clause-gets
returns-in_err-done-clause-gets g c =
    gets_part _ _ c.args.bytes.now c.pieces.done (Appends-kept _ _ _ _ c.pieces.invariant.1 c.in_err-done.ensures.bytes)
    (omega (arith, c.pieces.invariant.2, c.in_err-done.ensures.cause.failed))
