use Rattle.journal_audit.proofs.Marks.{round_counted}
use Rattle.journal_audit.proofs.rounds.round_count.Goals as goal

pub returns : goal.returns
returns c = λ g graph.
    round_counted c.args.of_good g c.args.messages.now.lines c.mark_all.new.marks c.mark_all.result c.requires.distinct c.mark_all.ensures.marked c.mark_all.ensures.stable graph
