use Rattle.std.proofs.Common.{List, ap, drop, length, take, ◌∙◌, ◌≤◌, arith}
use Rattle.sync_ids.specs.declared.lists.TheConstants.{MAX_IDS}
use Rattle.sync_rules.specs.Facts.{Id}
use Rattle.sync_rules.specs.Sessions.{ids_where}
use Rattle.std.proofs.lemmas.List.{length-map}
use Rattle.journal_audit.specs.Lines.{held_in, held_of}
use Rattle.journal_audit.specs.Looks.{is_sooner, seen_of}
use Rattle.journal_audit.proofs.Looks.{enough, list_here, list_next, none_from, none_left}
use Rattle.journal_audit.proofs.due.sooner_ids.Goals as goal
use Rattle.journal_audit.proofs.due.sooner_ids.Goals.{else-loop-n-test, in-Some+in_ok-push, in_default, then-loop-n-test+then-len-ge-MAX_IDS}

pub loop-n-preserved : goal.loop-n-preserved
loop-n-preserved c =
    let test = is_sooner (seen_of c.args.facts.now) c.args.contact c.args.latency c.args.now in
    let held = held_in c.args.facts.now.messages.lines in
    let whole : List Id = take MAX_IDS (ids_where test (drop c.args.from held)) in
    elim c.match-sooner_at.branch [
      | in-Some+in_ok-push w ↦
          list_here MAX_IDS test held c.loop-n.n w.in-Some.id c.sooner_at.result c.loop-n.ids.items c.match-sooner_at.ids.items whole w.in-Some.is c.sooner_at.ensures
          (ap (λ v. v.items) w.ids-is ∙ w.in_ok-push.ensures.items) c.loop-n.invariant
      | in_default w ↦
          list_next MAX_IDS test held c.loop-n.n c.sooner_at.result c.loop-n.ids.items c.match-sooner_at.ids.items whole w.in_default.is c.sooner_at.ensures
          (ap (λ v. v.items) w.ids-is) c.loop-n.invariant
    ]

pub returns : goal.returns
returns c =
    let test = is_sooner (seen_of c.args.facts.now) c.args.contact c.args.latency c.args.now in
    let lines = c.args.facts.now.messages.lines in
    let held = held_in lines in
    let whole : List Id = take MAX_IDS (ids_where test (drop c.args.from held)) in
    elim c.loop-n-test.branch [
      | else-loop-n-test w ↦
          let long = length-map lines held_of in
          let end = c.len-n-end.ensures.value in
          let over = w.loop-n-test.false in
          let beyond : length held ≤ c.loop-n.n = omega (arith, long, end, over) in
          none_left MAX_IDS c.loop-n.ids.items (ids_where test (drop c.loop-n.n held)) whole c.truncate.new.self.items c.truncate.ensures.items
          (none_from test held c.loop-n.n beyond) c.loop-n.invariant
      | then-loop-n-test+then-len-ge-MAX_IDS w ↦
          enough MAX_IDS w.len.result c.loop-n.ids.items (ids_where test (drop c.loop-n.n held)) whole c.truncate.new.self.items c.truncate.ensures.items
          (w.len.ensures ∙ c.loop-n.ids.ok.0) w.if-len-ge-MAX_IDS.true c.loop-n.invariant
    ]
