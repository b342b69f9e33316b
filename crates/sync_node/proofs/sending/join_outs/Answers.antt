use Rattle.std.proofs.Common.{◌∙◌, sym, subst}
use Rattle.sync_node.proofs.CauseLaws.{link_none}
use Rattle.sync_node.proofs.OutLaws.{allowed_told, due_told, full, none_due, option_none}
use Rattle.sync_node.proofs.KeepLaws.{gather_none, gather_then, gathers_halt, gathers_was, may_kept}
use Rattle.sync_node.proofs.SendActs.{outs_begin, outs_halt, outs_then}
use Rattle.sync_node.proofs.sending.join_outs.Goals as goal

pub outs-init : goal.outs-init
outs-init g c = record {
  keeps = gather_none link_none c.requires.able;
  under =
      outs_begin _ _ _ _ _ _ c.cite_laws.ensures.images c.requires.able _ _ c.requires.none
      c.requires.no_bytes;
}

pub join_out-requires-clause-able : goal.join_out-requires-clause-able
join_out-requires-clause-able g c = may_kept c.requires.able c.outs.invariant.keeps

pub join_out-requires-clause-allowed : goal.join_out-requires-clause-allowed
join_out-requires-clause-allowed g c =
    let allowed =
    allowed_told c.outs.store.state _ _ _ _ c.state.ensures c.in_ok-out.ensures.allowed
    (g.C.Clients.meaning c.args.clients.now) c.outs.invariant.under.stays.waits.knows
    c.outs.invariant.under.stays.settled in
    rw c.in-Some.is at allowed

pub returns-in_err-out : goal.returns-in_err-out
returns-in_err-out g c =
    gathers_halt _ c.from_residual.ensures.1 c.outs.invariant.under c.outs.invariant.keeps

pub returns-in_err-join_out : goal.returns-in_err-join_out
returns-in_err-join_out g c =
    gathers_was _ c.in_err-join_out.field-0.0 c.from_residual-in_err-join_out.ensures.1
    (outs_halt _ _ _ _ _ _ _ _ _ _ c.outs.invariant.under c.outs-test.true _ _ _ _ _
    c.in_err-join_out.ensures.halted)
    (gather_then c.outs.invariant.keeps c.in_err-join_out.ensures.keeps)

pub returns-in_default : goal.returns-in_default
returns-in_default g c =
    let due =
    due_told c.outs.store.state _ _ _ _ c.state.ensures c.in_ok-out.ensures.due
    (g.C.Clients.meaning c.args.clients.now) c.outs.invariant.under.stays.waits.knows in
    record {
      went = record {
        under = c.outs.invariant.under;
        enough = λ room rest.
            none_due (g.C.Clients.meaning c.args.clients.now) c.outs.store.state.facts
            c.args.link.now.session.number c.args.now
            (sym due ∙ option_none _ c.in_default.not-Some) room;
      };
      halted = tt;
      keeps = c.outs.invariant.keeps;
    }

pub returns : goal.returns
returns g c = record {
  went = record {
    under = c.outs.invariant.under;
    enough = λ room rest.
        full (g.C.Clients.meaning c.args.clients.now) c.outs.store.state.facts
        c.args.link.now.session.number c.args.now c.outs.outs.made c.outs-test.false room rest;
  };
  halted = tt;
  keeps = c.outs.invariant.keeps;
}

pub outs-preserved : goal.outs-preserved
outs-preserved g c = record {
  keeps = gather_then c.outs.invariant.keeps c.in_ok-join_out.ensures.keeps;
  under =
      outs_then _ _ _ _ _ _ _ _ _ _ c.outs.invariant.under c.outs-test.true _ _ _ _
      c.in_ok-join_out.ensures.keeps.store.answered c.in_ok-join_out.ensures.went;
}
