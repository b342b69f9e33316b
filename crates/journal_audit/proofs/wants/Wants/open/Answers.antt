use Rattle.journal_audit.proofs.WantedLists.{put_again}
use Rattle.journal_audit.proofs.wants.Wants.open.Goals as goal

pub returns : goal.returns
returns c = put_again c.args.self.now c.take-ids.new.self c.put.new.self c.args.contact c.take-ids.result _ c.take-ids.ensures.rest c.in_ok-put.ensures c.take-ids.ensures.ids
