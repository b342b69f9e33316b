use Rattle.std.proofs.Common.{false, true, sym, subst, ◌∙◌}
use Rattle.outside.proofs.CallCounts.{just_none}
use Rattle.outside.proofs.CallSteps.{looks_none, looks_then}
use Rattle.sync_store.specs.Loading.{IsAtJournalEnd}
use Rattle.sync_store.proofs.Errors.{err_is}
use Rattle.sync_store.proofs.LoadCounts.{calls_as, counts_more, more_as, reads_ended, reads_failed}
use Rattle.sync_store.proofs.LoadSteps.{all_read, turns_false, turns_true}
use Rattle.sync_store.proofs.load.read_all.Goals as goal

pub frames-init : goal.frames-init
frames-init g c = record {
  so_far = c.requires.so_far;
  counts = λ two told. record {
    batches = 0;
    some = c.requires.unread two told;
    made = just_none (g.D.Disk.tells c.args.disk.now);
  };
  looks = looks_none (g.D.Disk.tells c.args.disk.now);
}

pub frames-preserved : goal.frames-preserved
frames-preserved g c =
    let clients = g.C.Clients.meaning c.args.clients.now in
    let o0 = g.D.Disk.tells c.args.disk.now in
    let o = g.D.Disk.tells c.frames.disk in
    let o' = g.D.Disk.tells c.read_next.new.disk in
    record {
      so_far =
          (turns_true clients o'.files c.frames.journal c.read_next.new.journal
          c.read_next.new.state c.in_ok-more.more c.if-not-more.false
          c.in_ok-more.ensures.turn).0;
      counts = λ two told.
          let told' = sym c.read_next.ensures.looks.same_files ∙ told in
          counts_more clients o0 o o' c.frames.journal c.read_next.new.journal c.frames.state
          c.read_next.new.state two (c.frames.invariant.counts two told') told'
          (more_as clients o.files c.frames.journal c.read_next.new.journal c.frames.state
          c.read_next.new.state c.in_ok-more.more true c.if-not-more.false
          c.in_ok-more.ensures.more)
          (calls_as c.in_ok-more.more true o o' c.if-not-more.false c.in_ok-more.ensures.calls);
      looks = looks_then o0 o o' c.frames.invariant.looks c.read_next.ensures.looks;
    }

pub returns-in_err-more-clause-calls : goal.returns-in_err-more-clause-calls
returns-in_err-more-clause-calls g c two told j stood =
    let clients = g.C.Clients.meaning c.args.clients.now in
    let o = g.D.Disk.tells c.frames.disk in
    let e = c.in_err-more.field-0.0 in
    reads_failed e c.from_residual.result clients (g.D.Disk.tells c.args.disk.now) o
    (g.D.Disk.tells c.read_next.new.disk) c.frames.journal c.frames.state two j
    (err_is c.from_residual.result e c.from_residual.ensures.1) stood
    (c.frames.invariant.counts two (c.frames.invariant.looks.same_files ∙ told))
    c.read_next.ensures.calls.most

pub returns-then-not-more-clause-all : goal.returns-then-not-more-clause-all
returns-then-not-more-clause-all g c =
    let clients = g.C.Clients.meaning c.args.clients.now in
    let files = (g.D.Disk.tells c.read_next.new.disk).files in
    let turn = turns_false clients files c.frames.journal c.read_next.new.journal
    c.read_next.new.state c.in_ok-more.more c.if-not-more.true c.in_ok-more.ensures.turn in
    all_read clients files c.read_next.new.journal c.read_next.new.state c.test_room.result turn.0
    turn.1 c.test_room.ensures

pub returns-then-not-more-clause-calls : goal.returns-then-not-more-clause-calls
returns-then-not-more-clause-calls g c two told j stood =
    let clients = g.C.Clients.meaning c.args.clients.now in
    let o = g.D.Disk.tells c.frames.disk in
    let o' = g.D.Disk.tells c.read_next.new.disk in
    let told1 = c.frames.invariant.looks.same_files ∙ told in
    let told2 = c.read_next.ensures.looks.same_files ∙ told1 in
    let turn = turns_false clients o'.files c.frames.journal c.read_next.new.journal
    c.read_next.new.state c.in_ok-more.more c.if-not-more.true c.in_ok-more.ensures.turn in
    reads_ended c.test_room.result clients (g.D.Disk.tells c.args.disk.now) o o' c.frames.journal
    c.read_next.new.journal c.frames.state c.read_next.new.state two j stood
    (c.frames.invariant.counts two told1) told1
    (more_as clients o.files c.frames.journal c.read_next.new.journal c.frames.state
    c.read_next.new.state c.in_ok-more.more false c.if-not-more.true c.in_ok-more.ensures.more)
    (calls_as c.in_ok-more.more false o o' c.if-not-more.true c.in_ok-more.ensures.calls)
    turn.0.started
    (subst (λ f. IsAtJournalEnd f c.read_next.new.journal) told2 turn.1)
