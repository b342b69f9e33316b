use Rattle.std.proofs.Common.{List, ℕ, ap, take, ◌∙◌}
use Rattle.sync_ids.specs.declared.lists.TheConstants.{MAX_IDS}
use Rattle.journal_audit.specs.Lines.{held_in}
use Rattle.journal_audit.specs.Looks.{ids_at, is_offered, seen_of}
use Rattle.journal_audit.proofs.Looks.{enough, none_left}
use Rattle.journal_audit.proofs.due.offered_ids.Goals as goal
use Rattle.journal_audit.proofs.due.offered_ids.Goals.{in-None, in-Some+then-len-ge-MAX_IDS}

pub returns : goal.returns
returns c =
    let at : List ℕ → List (List ℕ) = ids_at (is_offered (seen_of c.args.facts.now) c.args.contact c.args.now) (held_in c.args.facts.now.messages.lines) in
    elim c.match-next.branch [
      | in-None w ↦
          none_left MAX_IDS c.loop-n.ids.items (at c.loop-n.n-iterator) (take MAX_IDS (at c.args.numbers.now.keys)) c.truncate.new.self.items c.truncate.ensures.items
          (ap at w.in-None.ensures.steps.0) c.loop-n.invariant
      | in-Some+then-len-ge-MAX_IDS w ↦
          enough MAX_IDS w.len.result c.loop-n.ids.items (at c.loop-n.n-iterator) (take MAX_IDS (at c.args.numbers.now.keys)) c.truncate.new.self.items c.truncate.ensures.items
          (w.len.ensures ∙ c.loop-n.ids.ok.0) w.if-len-ge-MAX_IDS.true c.loop-n.invariant
    ]
