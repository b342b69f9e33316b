use Rattle.std.proofs.Common.{ap, arith, subst, sym, ◌∙◌, ℕ}
use Rattle.sync_node.proofs.SafeLaws.{goes_none}
use Rattle.sync_node.specs.Node.{NodeValue}
use Rattle.sync_store.specs.Store.{format_meant}
use Rattle.sync_words.specs.declared.outcome.Outcome.TheVariants as outcome
use Rattle.sync_run.specs.Needs.{AllMayBegin}
use Rattle.sync_run.specs.Causes.{RunCaused}
use Rattle.sync_run.specs.Parts.{RanSettled}
use Rattle.sync_run.proofs.CauseLaws.{ends_rose}
use Rattle.sync_run.proofs.RestLaws.{rests_at, rests_ready}
use Rattle.sync_run.proofs.RunActs.{passed, ran_broken, ran_full, ran_none, ran_out, ran_unclosed}
use Rattle.sync_run.proofs.RunActs.{ran_whole}
use Rattle.sync_run.proofs.WordLaws.{node_may}
use Rattle.sync_run.proofs.run.run_settled.Goals as goal

pub run_node-requires-clause-may : goal.run_node-requires-clause-may
run_node-requires-clause-may g c = node_may _ _ _ _ c.requires.ready c.in_ok-node.ensures

pub run_node-requires-clause-sessions : goal.run_node-requires-clause-sessions
run_node-requires-clause-sessions g c =
    omega (
      arith,
      ap (λ (n : NodeValue). n.store.state.facts.begun) c.in_ok-node.ensures,
      c.requires.sessions,
    )

pub run_node-requires-clause-each : goal.run_node-requires-clause-each
run_node-requires-clause-each g c =
    subst (λ (k : ℕ). AllMayBegin k c.args.links.now)
    (sym (ap (λ (n : NodeValue). n.store.state.facts.contacts) c.in_ok-node.ensures))
    c.requires.each

-- want of memory for the node
pub returns-in_err-node : goal.returns-in_err-node
returns-in_err-node g c =
    let old = g.H.Disk.tells c.args.host.now in
    let r = c.from_residual.result in
    let is = c.from_residual.ensures.1 in
    record {
      goes = goes_none old;
      rests = rests_at _ r (rests_ready _ _ _ c.requires.ready);
      caused = passed (RunCaused old old) r outcome.Memory is (tt, tt);
      ran =
          passed (RanSettled (g.C.Clients.meaning c.args.clients.now) c.args.limits c.args.links.now
          c.args.store old old) r outcome.Memory is (ran_none _ c.args.limits c.args.links.now _ _);
    }

-- want of memory for the ends of the links
pub returns-in_err-close-in-Ok : goal.returns-in_err-close-in-Ok
returns-in_err-close-in-Ok g c =
    let old = g.H.Disk.tells c.args.host.now in
    let new = g.H.Disk.tells c.run_node.new.host in
    let r = c.from_residual-in_err-close-in-Ok.result in
    let is = c.from_residual-in_err-close-in-Ok.ensures.1 in
    record {
      goes = c.run_node.ensures.stands.goes.goes;
      rests =
          rests_at _ r
          (rests_ready _ _ _ (c.run_node.ensures.stands.may c.in-Ok.ensures.stands.answer).ready);
      caused = passed (RunCaused old new) r outcome.Memory is (tt, tt);
      ran =
          passed (RanSettled (g.C.Clients.meaning c.args.clients.now) c.args.limits c.args.links.now
          c.args.store old new) r outcome.Memory is
          (ran_unclosed _ c.args.limits c.args.links.now _ _ _ _ _ c.in_ok-node.ensures c.in-Ok.over
          (ap format_meant (c.run_node.ensures.stands.goes.same_format
          ∙ ap (λ (n : NodeValue). n.store.format) c.in_ok-node.ensures) ∙ c.requires.short)
          c.in-Ok.ensures.went);
    }

-- the run came to its end
pub returns-in-Ok : goal.returns-in-Ok
returns-in-Ok g c = record {
  goes = c.run_node.ensures.stands.goes.goes;
  rests = rests_ready _ _ _ (c.run_node.ensures.stands.may c.in-Ok.ensures.stands.answer).ready;
  caused = (
    tt,
    ends_rose c.in-Ok.over _ _ _ (g.H.Disk.tells c.args.host.now)
        (g.H.Disk.tells c.run_node.new.host) (ap (λ (n : NodeValue). n.links) c.in_ok-node.ensures)
        c.in_ok-close-in-Ok.ensures c.run_node.ensures.stands.goes.cause,
  );
  ran =
      ran_whole _ c.args.limits c.args.links.now _ _ _ _ _ c.in_ok-node.ensures c.in-Ok.over
      (ap format_meant (c.run_node.ensures.stands.goes.same_format
      ∙ ap (λ (n : NodeValue). n.store.format) c.in_ok-node.ensures) ∙ c.requires.short)
      c.in-Ok.ensures.went c.in_ok-close-in-Ok.field-0 c.in_ok-close-in-Ok.ensures;
}

-- ---- it was broken off

pub returns-in-Err-Memory : goal.returns-in-Err-Memory
returns-in-Err-Memory g c = record {
  goes = c.run_node.ensures.stands.goes.goes;
  rests =
      rests_ready _ _ _ (rw c.in-Err-Memory.field-0-is at c.in-Err-Memory.ensures.stands.stops);
  caused = (tt, tt);
  ran =
      ran_out _ c.args.limits c.args.links.now _ _ _ _ _ c.in_ok-node.ensures
      (ap format_meant (c.run_node.ensures.stands.goes.same_format
      ∙ ap (λ (n : NodeValue). n.store.format) c.in_ok-node.ensures) ∙ c.requires.short)
      (rw c.in-Err-Memory.field-0-is at c.in-Err-Memory.ensures.stopped);
}

pub returns-in-Err-DiskFault : goal.returns-in-Err-DiskFault
returns-in-Err-DiskFault g c = record {
  goes = c.run_node.ensures.stands.goes.goes;
  rests = tt;
  caused = (tt, rw c.in-Err-DiskFault.field-0-is at c.in-Err-DiskFault.ensures.stands.stops);
  ran =
      ran_broken _ c.args.limits c.args.links.now _ _ _ _ _ c.in_ok-node.ensures
      (rw c.in-Err-DiskFault.field-0-is at c.in-Err-DiskFault.ensures.stopped);
}

pub returns-in-Err-Full : goal.returns-in-Err-Full
returns-in-Err-Full g c =
    let goes = c.run_node.ensures.stands.goes in
    let made = ap (λ (n : NodeValue). n.store) c.in_ok-node.ensures in
    record {
      goes = goes.goes;
      rests = rests_ready _ _ _ (rw c.in-Err-Full.field-0-is at c.in-Err-Full.ensures.stands.stops);
      caused = (tt, tt);
      ran =
          ran_full _ c.args.limits c.args.links.now _ _ _ _ _ c.in_ok-node.ensures
          (goes.same_limit ∙ ap (λ (s : _). s.limit) made ∙ c.requires.limited)
          (ap format_meant (goes.same_format ∙ ap (λ (s : _). s.format) made) ∙ c.requires.short)
          (rw c.in-Err-Full.field-0-is at c.in-Err-Full.ensures.stopped);
    }
