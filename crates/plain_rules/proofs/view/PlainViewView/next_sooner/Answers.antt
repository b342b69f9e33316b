-- The first id of the lines is that of the held messages.
use Rattle.std.proofs.Common.{◌≡◌, List, ◌∙◌, ap, subst}
use Rattle.sync_rules.specs.declared.entries.Entry.{Entry}
use Rattle.sync_rules.specs.Facts.{Id, facts}
use Rattle.plain_rules.specs.Lines.{line_ids, is_line_sooner}
use Rattle.sync_rules.specs.Sessions.{first_id, sooner_of}
use Rattle.plain_rules.proofs.LineScans.{sooner_is}
use Rattle.plain_rules.proofs.view.PlainViewView.next_sooner.Goals as goal

pub returns : goal.returns
returns c =
    let shared = c.as_slice.ensures.value in
    let lines = c.as_slice-2.ensures.value in
    subst (λ (v : List (List Entry) × List Id). c.first_sooner.result ≡ sooner_of (facts v.0) v.1 c.args.contact c.args.latency c.args.now) c.self.view_is
    (c.first_sooner.ensures
    ∙ (ap (λ (s : List Id). first_id (line_ids (is_line_sooner (facts c.self.inside.batches.now) s c.args.contact c.args.latency c.args.now) c.as_slice-2.result.now)) shared
    ∙ (ap (λ l. first_id (line_ids (is_line_sooner (facts c.self.inside.batches.now) c.self.inside.shared.items c.args.contact c.args.latency c.args.now) l)) lines
    ∙ sooner_is (facts c.self.inside.batches.now) c.self.inside.shared.items c.self.inside.held.items c.args.contact c.args.latency c.args.now c.self.invariant.lines)))
