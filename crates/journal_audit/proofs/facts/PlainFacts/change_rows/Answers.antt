use Rattle.std.proofs.Common.{drop}
use Rattle.std.proofs.lemmas.List.{drop_all}
use Rattle.journal_audit.specs.Rows.{changed_by}
use Rattle.journal_audit.proofs.Took.{next_held, rows_begun, rows_done, rows_more}
use Rattle.journal_audit.proofs.facts.PlainFacts.change_rows.Goals as goal

pub loop-id-init : goal.loop-id-init
loop-id-init c = rows_begun c.args.self.now c.args.contact c.args.ids.now (changed_by c.args.change.now) c.requires.sound c.requires.held

pub change_row-requires-clause-sound : goal.change_row-requires-clause-sound
change_row-requires-clause-sound c = c.loop-id.invariant.sound

pub change_row-requires-clause-held : goal.change_row-requires-clause-held
change_row-requires-clause-held c =
    next_held c.args.self.now c.loop-id.self c.args.contact c.args.ids.now c.loop-id.id-index c.id-item.result (changed_by c.args.change.now) c.loop-id-test.true
    c.id-item.is c.loop-id.invariant

pub loop-id-preserved : goal.loop-id-preserved
loop-id-preserved c =
    rows_more c.args.self.now c.loop-id.self c.change_row.new.self c.args.contact c.args.ids.now c.loop-id.id-index c.id-item.result (changed_by c.args.change.now)
    c.loop-id-test.true c.id-item.is c.loop-id.invariant c.in_ok-change_row.ensures

pub returns : goal.returns
returns c =
    rows_done c.args.self.now c.loop-id.self c.args.contact c.args.ids.now (drop c.loop-id.id-index c.args.ids.now) (changed_by c.args.change.now)
    (drop_all c.loop-id.id-index c.args.ids.now c.loop-id-test.false) c.loop-id.invariant
