use Rattle.sync_node.proofs.CauseLaws.{link_none}
use Rattle.sync_node.proofs.LinkActs.{hear_nothing}
use Rattle.sync_node.proofs.KeepLaws.{work_none}
use Rattle.sync_node.proofs.turning.hear_now.Goals as goal

pub returns-then-not-is_asked-clause-waits : goal.returns-then-not-is_asked-clause-waits
returns-then-not-is_asked-clause-waits g c = c.requires.able.waits

pub returns-clause-waits : goal.returns-clause-waits
returns-clause-waits g c = c.receive_on.ensures.waits

pub returns-then-not-is_asked-clause-work : goal.returns-then-not-is_asked-clause-work
returns-then-not-is_asked-clause-work g c = record {
  went =
      hear_nothing
      (λ going. let yes = c.is_asked.ensures.1 going in let no = c.if-not-is_asked.true in cc);
  stopped = tt;
  keeps = work_none link_none c.requires.able.able;
}

pub returns-clause-work : goal.returns-clause-work
returns-clause-work g c = c.receive_on.ensures.work
