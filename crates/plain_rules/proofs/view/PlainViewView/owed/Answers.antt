-- The ids of the lines are those of the held messages.
use Rattle.std.proofs.Common.{◌≡◌, List, take, ◌∙◌, ap, subst}
use Rattle.sync_rules.specs.declared.entries.Entry.{Entry}
use Rattle.sync_rules.specs.Facts.{Id, facts}
use Rattle.plain_rules.specs.Lines.{line_ids, is_line_owed}
use Rattle.sync_rules.specs.Sessions.{owed_to}
use Rattle.plain_rules.proofs.LineScans.{owed_is}
use Rattle.plain_rules.proofs.view.PlainViewView.owed.Goals as goal

pub returns : goal.returns
returns c =
    subst (λ (v : List (List Entry) × List Id). c.truncate.new.self.items ≡ owed_to (facts v.0) c.args.contact) c.self.view_is
    (c.truncate.ensures.items
    ∙ (ap (take 1536) (c.in_ok-ids.ensures ∙ ap (line_ids (is_line_owed (facts c.self.inside.batches.now) c.args.contact)) c.as_slice.ensures.value)
    ∙ owed_is (facts c.self.inside.batches.now) c.self.inside.held.items c.args.contact c.self.invariant.lines))
