-- The first line, by where it ends.
use Rattle.std.proofs.Common.{◌≡◌, ◌<◌, ◌==◌, true, length, arith, eqb-true}
use Rattle.world_scripts.proofs.CutLemmas.{no_lines, ended_at, last_line}
use Rattle.world_scripts.proofs.cut.cut_line.Goals as goal

pub returns-then-is_empty-clause-cut : goal.returns-then-is_empty-clause-cut
returns-then-is_empty-clause-cut c =
    let none : (length c.args.script.now == 0) ≡ true = cc in
    no_lines c.args.script.now (eqb-true (length c.args.script.now) 0 none)

pub returns-in-Some-clause-cut : goal.returns-in-Some-clause-cut
returns-in-Some-clause-cut c = ended_at c.args.script.now c.in-Some.end c.in-Some.ensures

pub returns-in-None-clause-cut : goal.returns-in-None-clause-cut
returns-in-None-clause-cut c =
    let some : 0 < length c.args.script.now = grind arith in
    last_line c.args.script.now some c.in-None.ensures
