use Rattle.std.proofs.Common.{refl, ap}
use Rattle.std.proofs.lemmas.Result.{IfErr-weaker, on_ok_weaker}
use Rattle.sync_rules.specs.Allows.{is_account_kind, is_settling_kind}
use Rattle.sync_node.specs.declared.fault.Fault.TheVariants as fault
use Rattle.sync_node.specs.OnLinks.{RecordWorks}
use Rattle.sync_node.proofs.KeepLaws.{gathers_left, join_left, settle_goes, settle_keeps}
use Rattle.sync_node.proofs.KeepLaws.{take_keeps, was}
use Rattle.sync_node.proofs.LinkActs.{record_halts_at_join, record_halts_at_settle}
use Rattle.sync_node.proofs.LinkActs.{record_no_memory, record_taken}
use Rattle.sync_node.proofs.SafeLaws.{goes_none}
use Rattle.sync_node.proofs.TakeLaws.{takes_next}
use Rattle.sync_node.proofs.WorkLaws.{goes_then}
use Rattle.sync_node.proofs.hearing.take_one.Goals as goal

pub join-requires-clause-waits : goal.join-requires-clause-waits
join-requires-clause-waits g c = c.requires.able.waits

pub join-requires-clause-allowed : goal.join-requires-clause-allowed
join-requires-clause-allowed g c =
    (takes_next c.requires.able c.records_are_within.ensures c.state.ensures c.takes-taken.ensures
    c.in_ok-known.ensures.batch).allowed

pub join-requires-clause-kind : goal.join-requires-clause-kind
join-requires-clause-kind g c = ap is_settling_kind c.in_ok-known.ensures.batch

pub join-requires-clause-plain : goal.join-requires-clause-plain
join-requires-clause-plain g c = ap is_account_kind c.in_ok-known.ensures.batch

pub settle-requires : goal.settle-requires
settle-requires g c = record { waits = c.in_ok-join.ensures.went.waits }

pub join-requires-clause-named : goal.join-requires-clause-named
join-requires-clause-named g c = c.in_ok-known.ensures.named

pub returns-in_err-known : goal.returns-in_err-known
returns-in_err-known g c =
    was _ fault.Memory (RecordWorks _ _ _ _ _ _ _) c.from_residual.ensures.1 (record {
      went = tt;
      halted =
          record_no_memory
          (takes_next c.requires.able c.records_are_within.ensures refl refl refl)
          c.cite_laws.ensures.images c.requires.able.waits;
      goes = goes_none _;
      keeps =
          record { same_limit = refl; same_format = refl; answered = c.requires.able.waits };
    })

pub returns-in_err-join : goal.returns-in_err-join
returns-in_err-join g c =
    let e = c.in_err-join.field-0.0 in
    let left = join_left _ c.in_ok-known.known.0 _ _ _ _ e c.in_err-join.ensures.halted in
    was _ e (RecordWorks _ _ _ _ _ _ _) c.from_residual-in_err-join.ensures.1 (record {
      went = tt;
      halted =
          record_halts_at_join
          (takes_next c.requires.able c.records_are_within.ensures c.state.ensures
          c.takes-taken.ensures c.in_ok-known.ensures.batch)
          e c.in_err-join.ensures.halted;
      goes = left.goes;
      keeps = gathers_left _ _ _ _ _ _ e left;
    })

pub returns : goal.returns
returns g c =
    let take =
    takes_next c.requires.able c.records_are_within.ensures c.state.ensures c.takes-taken.ensures
    c.in_ok-known.ensures.batch in
    record {
      went =
          on_ok_weaker c.settle.result (record_taken take c.in_ok-join.ensures.went)
          c.settle.ensures.went;
      halted =
          IfErr-weaker c.settle.result _ _
          (record_halts_at_settle take c.in_ok-join.ensures.went) c.settle.ensures.halted;
      goes =
          goes_then _ _ _ c.in_ok-join.ensures.went.under.goes
          (settle_goes _ _ _ _ _ c.settle.result c.settle.ensures.went c.settle.ensures.halted);
      keeps =
          take_keeps take c.in_ok-join.ensures.went
          (settle_keeps _ _ _ _ _ c.settle.result c.settle.ensures.went c.settle.ensures.halted);
    }
