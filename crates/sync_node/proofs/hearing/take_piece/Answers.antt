use Rattle.sync_node.proofs.CauseLaws.{link_none}
use Rattle.sync_node.proofs.KeepLaws.{gather_none, gather_then, gathers_was, may_kept}
use Rattle.sync_node.proofs.LinkActs.{items_closed, items_halt, items_none, items_taken, items_then}
use Rattle.sync_node.proofs.hearing.take_piece.Goals as goal

pub items-init : goal.items-init
items-init g c = record {
  keeps = gather_none link_none c.requires.may;
  went = items_none c.cite_laws.ensures.images c.requires.asked;
}

pub take_next-requires-clause-may : goal.take_next-requires-clause-may
take_next-requires-clause-may g c = may_kept c.requires.may c.items.invariant.keeps

pub items-preserved : goal.items-preserved
items-preserved g c = record {
  keeps = gather_then c.items.invariant.keeps c.in_ok-take_next.ensures.work.keeps;
  went =
      items_then c.items.invariant.keeps.link.same_session
      (c.is_asked.ensures.0 c.items-test.true) c.items.invariant.went
      (rw c.if-not-branch.false at c.in_ok-take_next.ensures.work.went);
}

pub returns-then-not-branch-clause-work : goal.returns-then-not-branch-clause-work
returns-then-not-branch-clause-work g c = record {
  went =
      items_taken c.items.invariant.keeps.link.same_session
      (c.is_asked.ensures.0 c.items-test.true) c.items.invariant.went
      (rw c.if-not-branch.true at c.in_ok-take_next.ensures.work.went);
  halted = tt;
  keeps = gather_then c.items.invariant.keeps c.in_ok-take_next.ensures.work.keeps;
}

pub returns-in_err-take_next-clause-work : goal.returns-in_err-take_next-clause-work
returns-in_err-take_next-clause-work g c =
    gathers_was _ c.in_err-take_next.field-0.0 c.from_residual.ensures.1
    (items_halt c.items.invariant.keeps.link.same_session (c.is_asked.ensures.0 c.items-test.true)
    c.items.invariant.went c.in_err-take_next.ensures.work.halted)
    (gather_then c.items.invariant.keeps c.in_err-take_next.ensures.work.keeps)

pub returns-clause-work : goal.returns-clause-work
returns-clause-work g c = record {
  went =
      items_closed c.cite_laws.ensures.images
      (λ going. let yes = c.is_asked.ensures.1 going in let no = c.items-test.false in cc)
      c.items.invariant.keeps.store.answered.settled c.items.invariant.went;
  halted = tt;
  keeps = c.items.invariant.keeps;
}
