-- At the beginning nothing is wanted; one more batch makes of the lines what its entries make of them.
use Rattle.std.proofs.Common.{List, take, sym, subst}
use Rattle.sync_rules.specs.declared.entries.Entry.{Entry}
use Rattle.plain_rules.specs.declared.wants.WantedLine.{WantedLine}
use Rattle.sync_rules.specs.Facts.{facts, after_all, nothing}
use Rattle.plain_rules.specs.Wants.{WantsAre}
use Rattle.plain_rules.proofs.WantScans.{wants_nothing, wants_batch}
use Rattle.plain_rules.proofs.wants.wanted_lines.Goals as goal

pub loop-i-init : goal.loop-i-init
loop-i-init c = subst (λ (ws : List WantedLine). WantsAre nothing ws) (sym c.new-lines.ensures.items) wants_nothing

pub loop-i-preserved : goal.loop-i-preserved
loop-i-preserved c =
    wants_batch c.args.j.now c.loop-i.i c.index-j-i.result c.in_ok-lines.lines.items c.loop-i-test.true c.index-j-i.is
    (subst (λ (b : List Entry). WantsAre (after_all (facts (take c.loop-i.i c.args.j.now)) b) c.in_ok-lines.lines.items) c.entries.ensures.value c.in_ok-lines.ensures)
