use Rattle.sync_rules.specs.Sessions.{first_id, ids_where}
use Rattle.journal_audit.specs.Lines.{held_in}
use Rattle.journal_audit.specs.Looks.{is_sent, seen_of}
use Rattle.journal_audit.proofs.Looks.{first_here, first_next}
use Rattle.journal_audit.proofs.due.first_sent_of_all.Goals as goal

pub returns-in-Some : goal.returns-in-Some
returns-in-Some c =
    let test = is_sent (seen_of c.args.facts.now) c.args.contact c.args.mode c.args.now in
    let held = held_in c.args.facts.now.messages.lines in
    first_here test held c.loop-n.n c.in-Some.id c.sent_at.result (first_id (ids_where test held)) c.in-Some.is c.sent_at.ensures c.loop-n.invariant

pub loop-n-preserved : goal.loop-n-preserved
loop-n-preserved c =
    let test = is_sent (seen_of c.args.facts.now) c.args.contact c.args.mode c.args.now in
    let held = held_in c.args.facts.now.messages.lines in
    first_next test held c.loop-n.n c.sent_at.result (first_id (ids_where test held)) c.in_default.is c.sent_at.ensures c.loop-n.invariant
