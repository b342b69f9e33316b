use Rattle.std.proofs.Common.{rules}
use Rattle.std.proofs.lemmas.Result.{IfErr-weaker, IfOk-weaker}
use Rattle.sync_run.proofs.CourseParts.{if_err_was, is_node_without, run_ends, run_stopped}
use Rattle.sync_run.proofs.StandsLaws.{keeps_none, stands_on, stands_then}
use Rattle.sync_run.proofs.run.run_node.Goals as goal

pub make_turns-requires-clause-read : goal.make_turns-requires-clause-read
make_turns-requires-clause-read g c = c.in_ok-attach_all.ensures.went.has_read

pub returns-in_err-attach_all : goal.returns-in_err-attach_all
returns-in_err-attach_all g c =
    let old = g.H.Disk.tells c.args.host.now in
    let r = c.from_residual.result in
    let x = c.in_err-attach_all.field-0.0 in
    let is = c.from_residual.ensures.1 in
    record {
      stands =
          stands_on _ _ _ c.args.node.now c.args.node.now c.attach_all.new.node old old
          (g.H.Disk.tells c.attach_all.new.host)
          (keeps_none c.args.node.now old (is_node_without _ c.requires.none c.requires.first)) _ _
          r x is c.in_err-attach_all.ensures.stands;
      went = search rules;
      stopped = if_err_was r x _ is (c.in_err-attach_all.ensures.stopped c.args.limits);
    }

pub returns : goal.returns
returns g c =
    let begins = c.in_ok-attach_all.ensures in
    let first = begins.stands.goes.same_first in
    record {
      stands =
          stands_then _ c.args.node.now c.attach_all.new.node c.make_turns.new.node _ _ _
          begins.stands.goes _ _ begins.stands.number c.make_turns.result
          c.make_turns.ensures.stands;
      went =
          IfOk-weaker c.make_turns.result _ _
          (λ over turns. run_ends _ _ _ _ _ _ _ _ _ first begins.went over turns)
          c.make_turns.ensures.went;
      stopped =
          IfErr-weaker c.make_turns.result _ _
          (λ x turns. run_stopped (g.C.Clients.meaning c.args.clients.now) c.args.limits
          c.args.links.now c.args.node.now c.attach_all.new.node c.make_turns.new.node _ _ _ first
          begins.went x turns)
          c.make_turns.ensures.stopped;
    }
