use Rattle.std.proofs.Common.{◌≡◌, ◌↔◌, Bool, IsTrue, sym, ap, ◌∙◌, subst, Result, Err}
use Rattle.outside.proofs.CallSteps.{run_none, run_then}
use Rattle.journal_state.specs.Whole.{KnowsJudgements, StateValue}
use Rattle.sync_rules.specs.Clients.{Meaning}
use Rattle.sync_rules.specs.Steps.{IsSettled}
use Rattle.sync_store.specs.declared.fault.StoreFault.{StoreFault}
use Rattle.sync_store.specs.Gathering.{SettlesBehind}
use Rattle.sync_store.specs.Groups.{IsGathering}
use Rattle.sync_store.proofs.Errors.{err_is}
use Rattle.sync_store.proofs.FitSteps.{true≢false}
use Rattle.sync_store.proofs.Behind.{behind_joined, behind_room, gathering_behind}
use Rattle.sync_store.proofs.SettleLoop.{room_failed, while_begins, while_broken, while_ends}
use Rattle.sync_store.proofs.SettleLoop.{while_more, while_starved}
use Rattle.sync_store.proofs.Steps.{unsettled}
use Rattle.sync_store.proofs.store.Store.gather_settling.Goals as goal

-- what the state tells is so of the store whose state it is
told_of : (s t : StateValue) (answer : Bool) → t ≡ s
    → ((clients : Meaning) → KnowsJudgements clients t
    → (IsTrue answer ↔ IsSettled clients t.facts))
    → (clients : Meaning) → KnowsJudgements clients s → (IsTrue answer ↔ IsSettled clients s.facts)
told_of s t answer same told =
    subst (λ (v : StateValue). (clients : Meaning) → KnowsJudgements clients v
    → (IsTrue answer ↔ IsSettled clients v.facts)) same told

pub batches-init : goal.batches-init
batches-init g c = record {
  gathering = c.requires.gathering;
  numbers = c.requires.gathering.store;
  run = run_none (g.D.Disk.tells c.args.disk.now);
  settles =
      while_begins c.images_stand.ensures (g.C.Clients.meaning c.args.clients.now)
      c.args.self.now (g.D.Disk.tells c.args.disk.now);
}

pub gather_steps-requires-clause-unsettled : goal.gather_steps-requires-clause-unsettled
gather_steps-requires-clause-unsettled g c settled =
    let clients = g.C.Clients.meaning c.args.clients.now in
    unsettled clients c.batches.self.state.facts c.is_settled.result
    (told_of c.batches.self.state _ c.is_settled.result c.state.ensures c.is_settled.ensures
    clients c.batches.invariant.gathering.knows)
    c.batches-test.true
    (subst (λ (v : StateValue). IsSettled clients v.facts) c.make_room.ensures.same.state settled)

pub batches-preserved : goal.batches-preserved
batches-preserved g c =
    let clients = g.C.Clients.meaning c.args.clients.now in
    let s0 = c.args.self.now in
    let s1 = c.batches.self in
    let s2 = c.make_room.new.self in
    let s3 = c.gather_steps.new.self in
    let o0 = g.D.Disk.tells c.args.disk.now in
    let o1 = g.D.Disk.tells c.batches.disk in
    let o2 = g.D.Disk.tells c.make_room.new.disk in
    let inv = c.batches.invariant in
    let still = inv.gathering.still_open in
    let left = unsettled clients s1.state.facts c.is_settled.result
    (told_of s1.state _ c.is_settled.result c.state.ensures c.is_settled.ensures clients
    inv.gathering.knows) c.batches-test.true in
    let steps = c.in_ok-gather_steps.ensures.made in
    let more = while_more c.images_stand.ensures clients s0 s1 s2 s3 o0 o1 o2 _ inv.settles still
    left c.make_room.ensures.same
    (behind_room clients s1 s2 o1 o2 _ c.in_ok-make_room.ensures.makes) steps in
    record {
      gathering = gathering_behind clients s0 s3 o0 o2 more.more c.requires.gathering more.behind
          steps.closed c.gather_steps.ensures.numbers c.gather_steps.ensures.knows;
      numbers = c.gather_steps.ensures.numbers;
      run = run_then o0 o1 o2 inv.run c.make_room.ensures.run;
      settles = more;
    }

pub returns-in_err-make_room-clause-settles : goal.returns-in_err-make_room-clause-settles
returns-in_err-make_room-clause-settles g c =
    let clients = g.C.Clients.meaning c.args.clients.now in
    let s0 = c.args.self.now in
    let s1 = c.batches.self in
    let s2 = c.make_room.new.self in
    let o0 = g.D.Disk.tells c.args.disk.now in
    let o1 = g.D.Disk.tells c.batches.disk in
    let o2 = g.D.Disk.tells c.make_room.new.disk in
    let inv = c.batches.invariant in
    let e = c.in_err-make_room.field-0.0 in
    let failed = room_failed clients s1 s2 e o1 o2 c.in_err-make_room.ensures.makes
    inv.gathering in
    subst (λ (r : Result (Unit {0}) StoreFault). SettlesBehind clients s0 s2 r o0 o2)
    (sym (err_is c.from_residual.result e c.from_residual.ensures.1
    ∙ ap (λ (x : StoreFault). Err x) failed.0))
    (while_broken clients s0 s1 s2 o0 o1 o2 inv.settles inv.gathering.still_open
    c.make_room.ensures.same failed.1 failed.2)

pub returns-in_err-make_room-clause-gathering : goal.returns-in_err-make_room-clause-gathering
returns-in_err-make_room-clause-gathering g c still =
    let clients = g.C.Clients.meaning c.args.clients.now in
    let s1 = c.batches.self in
    let s2 = c.make_room.new.self in
    let o1 = g.D.Disk.tells c.batches.disk in
    let o2 = g.D.Disk.tells c.make_room.new.disk in
    let failed = room_failed clients s1 s2 c.in_err-make_room.field-0.0 o1 o2
    c.in_err-make_room.ensures.makes c.batches.invariant.gathering in
    true≢false {A = IsGathering clients s2 o2.files} s2.closed failed.1 still

pub returns-in_err-make_room-clause-run : goal.returns-in_err-make_room-clause-run
returns-in_err-make_room-clause-run g c =
    run_then (g.D.Disk.tells c.args.disk.now) (g.D.Disk.tells c.batches.disk)
    (g.D.Disk.tells c.make_room.new.disk) c.batches.invariant.run c.make_room.ensures.run

pub returns-in_err-gather_steps-clause-settles : goal.returns-in_err-gather_steps-clause-settles
returns-in_err-gather_steps-clause-settles g c =
    let clients = g.C.Clients.meaning c.args.clients.now in
    let s0 = c.args.self.now in
    let s1 = c.batches.self in
    let s2 = c.make_room.new.self in
    let s3 = c.gather_steps.new.self in
    let o0 = g.D.Disk.tells c.args.disk.now in
    let o1 = g.D.Disk.tells c.batches.disk in
    let o2 = g.D.Disk.tells c.make_room.new.disk in
    let inv = c.batches.invariant in
    let left = unsettled clients s1.state.facts c.is_settled.result
    (told_of s1.state _ c.is_settled.result c.state.ensures c.is_settled.ensures clients
    inv.gathering.knows) c.batches-test.true in
    let e = c.in_err-gather_steps.field-0.0 in
    subst (λ (r : Result (Unit {0}) StoreFault). SettlesBehind clients s0 s3 r o0 o2)
    (sym (err_is c.from_residual-in_err-gather_steps.result e
    c.from_residual-in_err-gather_steps.ensures.1))
    (while_starved c.images_stand.ensures clients s0 s1 s2 s3 o0 o1 o2 e inv.settles
    inv.gathering.still_open left c.make_room.ensures.same
    (behind_room clients s1 s2 o1 o2 _ c.in_ok-make_room.ensures.makes)
    c.in_err-gather_steps.ensures.made)

pub returns-in_err-gather_steps-clause-gathering : goal.returns-in_err-gather_steps-clause-gathering
returns-in_err-gather_steps-clause-gathering g c still =
    let clients = g.C.Clients.meaning c.args.clients.now in
    let s1 = c.batches.self in
    let s2 = c.make_room.new.self in
    let s3 = c.gather_steps.new.self in
    let o1 = g.D.Disk.tells c.batches.disk in
    let o2 = g.D.Disk.tells c.make_room.new.disk in
    let w = c.in_ok-make_room.ensures.gathering in
    let steps = c.in_err-gather_steps.ensures.made in
    gathering_behind clients s2 s3 o2 o2 steps.more w
    (behind_joined clients c.images_stand.ensures s2 s3 o2 steps.more steps.gathers)
    steps.closed c.gather_steps.ensures.numbers c.gather_steps.ensures.knows

pub returns-in_err-gather_steps-clause-run : goal.returns-in_err-gather_steps-clause-run
returns-in_err-gather_steps-clause-run g c =
    run_then (g.D.Disk.tells c.args.disk.now) (g.D.Disk.tells c.batches.disk)
    (g.D.Disk.tells c.make_room.new.disk) c.batches.invariant.run c.make_room.ensures.run

pub returns-clause-settles : goal.returns-clause-settles
returns-clause-settles g c =
    let clients = g.C.Clients.meaning c.args.clients.now in
    let inv = c.batches.invariant in
    while_ends clients c.args.self.now c.batches.self (g.D.Disk.tells c.args.disk.now)
    (g.D.Disk.tells c.batches.disk) _ inv.settles inv.gathering.still_open
    ((told_of c.batches.self.state _ c.is_settled.result c.state.ensures c.is_settled.ensures
    clients inv.gathering.knows).0 c.batches-test.false)
