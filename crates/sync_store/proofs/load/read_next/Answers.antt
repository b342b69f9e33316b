use Rattle.std.proofs.Common.{Err, Ok, false, true, sym, subst, Result, Bool}
use Rattle.outside.specs.Files.{file_of}
use Rattle.sync_store.specs.declared.fault.LoadFault.{LoadFault}
use Rattle.sync_store.specs.Faults.{load_of_frame}
use Rattle.sync_store.specs.Loading.{PlaysNextFrame}
use Rattle.sync_store.proofs.Errors.{err_is}
use Rattle.sync_store.proofs.LoadSteps.{moves_true, next_true, played_as, turn_played}
use Rattle.sync_store.proofs.LoadSteps.{turn_unplayed, turn_unread}
use Rattle.sync_store.proofs.LoadCounts.{more_failed, none_more, one_more, turn_calls, turn_failed}
use Rattle.sync_store.proofs.load.read_next.Goals as goal

pub next_frame-requires : goal.next_frame-requires
next_frame-requires g c two told = (c.requires.known two told).long

pub returns-in_err-more-clause-turn : goal.returns-in_err-more-clause-turn
returns-in_err-more-clause-turn g c =
    let clients = g.C.Clients.meaning c.args.clients.now in
    let files = (g.D.Disk.tells c.args.disk.now).files in
    let files' = (g.D.Disk.tells c.next_frame.new.disk).files in
    let e = c.in_err-more.field-0.0 in
    subst (λ (r : Result Bool LoadFault).
    PlaysNextFrame clients files' c.args.journal.now c.next_frame.new.self c.args.state.now r)
    (sym (err_is c.from_residual.result (load_of_frame e) c.from_residual.ensures.1))
    (turn_unread clients files files' c.args.journal.now c.next_frame.new.self c.args.state.now
    c.next_frame.new.to.items e c.requires c.next_frame.ensures.looks.same_files
    (λ two told. c.in_err-more.ensures.next two told))

pub returns-in_err-play-clause-turn : goal.returns-in_err-play-clause-turn
returns-in_err-play-clause-turn g c =
    let clients = g.C.Clients.meaning c.args.clients.now in
    let files = (g.D.Disk.tells c.args.disk.now).files in
    let files' = (g.D.Disk.tells c.next_frame.new.disk).files in
    let j = c.args.journal.now in
    let j' = c.next_frame.new.self in
    let to = c.next_frame.new.to.items in
    let e = c.in_err-play.field-0.0 in
    subst (λ (r : Result Bool LoadFault). PlaysNextFrame clients files' j j' c.play.new.state r)
    (sym (err_is c.from_residual-in_err-play.result e c.from_residual-in_err-play.ensures.1))
    (turn_unplayed clients files files' j j' c.args.state.now c.play.new.state to e c.requires
    c.next_frame.ensures.looks.same_files
    (λ two told. next_true (file_of two j.file).now j j' to c.in_ok-more.more c.if-not-more.false
    (c.in_ok-more.ensures.next two told))
    (moves_true j j' c.in_ok-more.more c.if-not-more.false c.in_ok-more.ensures.moves)
    (played_as clients j' c.args.state.now c.play.new.state c.as_slice.result.now to (Err e)
    c.as_slice.ensures.value c.in_err-play.ensures))

pub returns-clause-turn : goal.returns-clause-turn
returns-clause-turn g c =
    let clients = g.C.Clients.meaning c.args.clients.now in
    let files = (g.D.Disk.tells c.args.disk.now).files in
    let files' = (g.D.Disk.tells c.next_frame.new.disk).files in
    let j = c.args.journal.now in
    let j' = c.next_frame.new.self in
    let to = c.next_frame.new.to.items in
    turn_played c.cite_laws.ensures clients files files' j j' c.args.state.now c.play.new.state to
    tt c.requires c.next_frame.ensures.looks.same_files
    (λ two told. next_true (file_of two j.file).now j j' to c.in_ok-more.more c.if-not-more.false
    (c.in_ok-more.ensures.next two told))
    (moves_true j j' c.in_ok-more.more c.if-not-more.false c.in_ok-more.ensures.moves)
    (played_as clients j' c.args.state.now c.play.new.state c.as_slice.result.now to (Ok tt)
    c.as_slice.ensures.value c.in_ok-play.ensures)

pub returns-in_err-more-clause-more : goal.returns-in_err-more-clause-more
returns-in_err-more-clause-more g c =
    let e = load_of_frame c.in_err-more.field-0.0 in
    more_failed (g.C.Clients.meaning c.args.clients.now) (g.D.Disk.tells c.args.disk.now).files
    c.args.journal.now c.next_frame.new.self c.args.state.now c.args.state.now e
    c.from_residual.result
    (err_is c.from_residual.result e c.from_residual.ensures.1)

pub returns-in_err-more-clause-calls : goal.returns-in_err-more-clause-calls
returns-in_err-more-clause-calls g c =
    let e = load_of_frame c.in_err-more.field-0.0 in
    turn_failed e c.from_residual.result (g.D.Disk.tells c.args.disk.now)
    (g.D.Disk.tells c.next_frame.new.disk)
    (err_is c.from_residual.result e c.from_residual.ensures.1)
    c.next_frame.ensures.calls.most

pub returns-then-not-more-clause-more : goal.returns-then-not-more-clause-more
returns-then-not-more-clause-more g c =
    none_more (g.C.Clients.meaning c.args.clients.now) (g.D.Disk.tells c.args.disk.now).files
    c.args.journal.now c.next_frame.new.self c.args.state.now c.in_ok-more.more
    c.if-not-more.true
    c.in_ok-more.ensures.moves

pub returns-then-not-more-clause-calls : goal.returns-then-not-more-clause-calls
returns-then-not-more-clause-calls g c =
    turn_calls c.in_ok-more.more false (g.D.Disk.tells c.args.disk.now)
    (g.D.Disk.tells c.next_frame.new.disk) c.if-not-more.true c.in_ok-more.ensures.calls.just
    c.in_ok-more.ensures.calls.most

pub returns-in_err-play-clause-more : goal.returns-in_err-play-clause-more
returns-in_err-play-clause-more g c =
    let e = c.in_err-play.field-0.0 in
    more_failed (g.C.Clients.meaning c.args.clients.now) (g.D.Disk.tells c.args.disk.now).files
    c.args.journal.now c.next_frame.new.self c.args.state.now c.play.new.state e
    c.from_residual-in_err-play.result
    (err_is c.from_residual-in_err-play.result e c.from_residual-in_err-play.ensures.1)

pub returns-in_err-play-clause-calls : goal.returns-in_err-play-clause-calls
returns-in_err-play-clause-calls g c =
    let e = c.in_err-play.field-0.0 in
    turn_failed e c.from_residual-in_err-play.result (g.D.Disk.tells c.args.disk.now)
    (g.D.Disk.tells c.next_frame.new.disk)
    (err_is c.from_residual-in_err-play.result e c.from_residual-in_err-play.ensures.1)
    c.in_ok-more.ensures.calls.most

pub returns-clause-more : goal.returns-clause-more
returns-clause-more g c =
    let clients = g.C.Clients.meaning c.args.clients.now in
    let files = (g.D.Disk.tells c.args.disk.now).files in
    let j = c.args.journal.now in
    let j' = c.next_frame.new.self in
    let to = c.next_frame.new.to.items in
    one_more c.cite_laws.ensures clients files j j' c.args.state.now c.play.new.state to tt
    (λ two told. next_true (file_of two j.file).now j j' to c.in_ok-more.more c.if-not-more.false
    (c.in_ok-more.ensures.next two told))
    (played_as clients j' c.args.state.now c.play.new.state c.as_slice.result.now to (Ok tt)
    c.as_slice.ensures.value c.in_ok-play.ensures)

pub returns-clause-calls : goal.returns-clause-calls
returns-clause-calls g c =
    turn_calls c.in_ok-more.more true (g.D.Disk.tells c.args.disk.now)
    (g.D.Disk.tells c.next_frame.new.disk) c.if-not-more.false c.in_ok-more.ensures.calls.just
    c.in_ok-more.ensures.calls.most
