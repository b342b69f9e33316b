use Rattle.std.proofs.Common.{◌≡◌, ◌==◌, true, false, length, eqb-true}
use Rattle.std.proofs.lemmas.Bool.{eqb-false}
use Rattle.world_scripts.proofs.CourseLemmas.{ended, found, skipped}
use Rattle.world_scripts.proofs.reading.next_line.Goals as goal

pub returns-then-not-is_empty : goal.returns-then-not-is_empty
returns-then-not-is_empty c =
    let some : (length c.in-Some.line.now == 0) ≡ false = cc in
    found c.args.first c.args.bytes.now c.loop-line.number c.loop-line.left.now
    c.loop-line.invariant c.in-Some.line.now
    c.in-Some.rest.now c.in-Some.ensures.cut (eqb-false (length c.in-Some.line.now) 0 some)
    c.in-Some.ensures.shorter

pub loop-line-preserved : goal.loop-line-preserved
loop-line-preserved c =
    let none : (length c.in-Some.line.now == 0) ≡ true = cc in
    skipped c.args.first c.args.bytes.now c.loop-line.number c.loop-line.left.now
    c.loop-line.invariant c.in-Some.line.now
    c.in-Some.rest.now c.in-Some.ensures.cut (eqb-true (length c.in-Some.line.now) 0 none)
    c.in-Some.ensures.shorter

pub returns : goal.returns
returns c =
    ended c.args.first c.args.bytes.now c.loop-line.number c.loop-line.left.now
    c.loop-line.invariant c.in_default.ensures.cut
