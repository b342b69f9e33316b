use Rattle.std.proofs.Common.{cond, ◌&&◌, nat_eq, ap, ◌∙◌}
use Rattle.sync_rules.specs.Facts.{Row, Rows}
use Rattle.journal_audit.specs.Changes.{with_rows}
use Rattle.journal_audit.specs.Numbers.{has_for}
use Rattle.journal_audit.specs.Plain.{facts_of}
use Rattle.journal_audit.specs.Rows.{changed_by}
use Rattle.journal_audit.proofs.SoundRows.{sound_row}
use Rattle.journal_audit.proofs.facts.PlainFacts.change_row.Goals as goal

pub returns : goal.returns
returns c =
    let p = c.args.self.now in
    let row = c.in_ok-kept.kept in
    record {
      facts = ap (λ (rows : Rows). with_rows (facts_of p) rows) c.in_ok-kept.ensures.rows;
      sound =
          sound_row p.contacts p.groups p.levels p.messages p.rows p.waiting p.sleepers p.owed p.ready p.early c.requires.sound c.change.new.self c.mark.new.self c.replace.new.self
          c.args.contact c.args.id c.in-Some.n (changed_by c.args.change.now) row c.line.result.now c.in-Some.ensures.found c.in_ok-kept.ensures.rows c.in_ok-kept.ensures.row
          (λ x m. c.in_ok-mark.ensures x m
          ∙ ap (λ (r : Row). cond (nat_eq x c.args.contact && nat_eq m c.in-Some.n) r.owed (has_for p.owed x m)) c.kept.view_is)
          c.line.ensures c.may_go-goes.result c.may_go-goes.ensures c.in_ok-replace.ensures c.fall_back.new.self c.fall_back.ensures;
      knows = λ clients knows. knows;
    }
