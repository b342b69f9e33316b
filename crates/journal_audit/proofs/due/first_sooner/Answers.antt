use Rattle.std.proofs.Common.{drop}
use Rattle.sync_rules.specs.Sessions.{first_id, ids_where}
use Rattle.journal_audit.specs.Lines.{held_in}
use Rattle.journal_audit.specs.Looks.{is_sooner, seen_of}
use Rattle.journal_audit.proofs.Looks.{first_here, first_next}
use Rattle.journal_audit.proofs.due.first_sooner.Goals as goal

pub returns-in-Some : goal.returns-in-Some
returns-in-Some c =
    let test = is_sooner (seen_of c.args.facts.now) c.args.contact c.args.latency c.args.now in
    let held = held_in c.args.facts.now.messages.lines in
    first_here test held c.loop-n.n c.in-Some.id c.sooner_at.result (first_id (ids_where test (drop c.args.from held))) c.in-Some.is c.sooner_at.ensures c.loop-n.invariant

pub loop-n-preserved : goal.loop-n-preserved
loop-n-preserved c =
    let test = is_sooner (seen_of c.args.facts.now) c.args.contact c.args.latency c.args.now in
    let held = held_in c.args.facts.now.messages.lines in
    first_next test held c.loop-n.n c.sooner_at.result (first_id (ids_where test (drop c.args.from held))) c.in_default.is c.sooner_at.ensures c.loop-n.invariant
