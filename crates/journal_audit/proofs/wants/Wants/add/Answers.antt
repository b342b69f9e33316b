use Rattle.std.proofs.Common.{List, ap, ◌∙◌}
use Rattle.sync_rules.specs.Facts.{Id, with_want}
use Rattle.journal_audit.proofs.WantedLists.{put_again}
use Rattle.journal_audit.proofs.wants.Wants.add.Goals as goal

pub returns : goal.returns
returns c =
    put_again c.args.self.now c.take-ids.new.self c.put.new.self c.args.contact c.add.new.self _ c.take-ids.ensures.rest c.in_ok-put.ensures
    (c.in_ok-add.ensures ∙ ap (λ (ids : List Id). with_want c.args.held ids c.args.id) c.take-ids.ensures.ids)
