use Rattle.std.proofs.Common.{List, ap, ◌∙◌}
use Rattle.sync_rules.specs.Facts.{Id, without_each}
use Rattle.journal_audit.proofs.WantedLists.{put_again}
use Rattle.journal_audit.proofs.wants.Wants.request.Goals as goal

pub returns : goal.returns
returns c =
    put_again c.args.self.now c.take-ids.new.self c.put.new.self c.args.contact c.remove_all.new.self _ c.take-ids.ensures.rest c.in_ok-put.ensures
    (c.remove_all.ensures ∙ ap (λ (ids : List Id). without_each c.args.requested.now ids) c.take-ids.ensures.ids)
