use Rattle.std.proofs.Common.{◌≡◌, ◌+◌, Ok, sym, ap, ◌∙◌, subst, Result, length, lit≤}
use Rattle.outside.proofs.CallCounts.{most_then}
use Rattle.file_standing.specs.Standing.{stands}
use Rattle.sync_store.specs.declared.fault.LoadFault.TheVariants as load
use Rattle.sync_rules.specs.Facts.{nothing}
use Rattle.outside.proofs.CallSteps.{looks_then, run_then}
use Rattle.outside.specs.Files.{read_files}
use Rattle.frame_journal.specs.Group.{group_len}
use Rattle.sync_store.specs.Store.{StoreValue}
use Rattle.sync_store.specs.Faults.{load_of_start}
use Rattle.sync_store.specs.Loading.{IsJournalLoaded, LeavesSettled}
use Rattle.sync_store.specs.Ready.{IsReady}
use Rattle.sync_store.specs.declared.fault.LoadFault.{LoadFault}
use Rattle.sync_store.proofs.Errors.{err_is}
use Rattle.sync_store.proofs.LoadEnds.{answers, answers_fault, barrier_told, images_then}
use Rattle.sync_store.proofs.LoadEnds.{knows_none, loads_at, reads_leaves, ready_loaded, starts_fault}
use Rattle.sync_store.proofs.LoadEnds.{starts_leaves, starts_so_far, starts_some, store_of}
use Rattle.sync_store.proofs.LoadCounts.{load_broke, load_looks, loads_cut, loads_failed, loads_whole}
use Rattle.sync_store.proofs.store.Store.load.Goals as goal

pub returns-in_err-journal-clause-answer : goal.returns-in_err-journal-clause-answer
returns-in_err-journal-clause-answer g c two told =
    let clients = g.C.Clients.meaning c.args.clients.now in
    let e = c.in_err-journal.field-0.0 in
    subst (λ (r : Result StoreValue LoadFault). IsJournalLoaded clients (read_files two) r)
    (sym (err_is c.from_residual-in_err-journal.result (load_of_start e)
    c.from_residual-in_err-journal.ensures.1))
    (starts_fault clients (g.D.Disk.tells c.args.disk.now) (g.D.Disk.tells c.barrier.new.disk) two e
    c.in_ok-barrier.ensures.settled (λ mid there. c.in_err-journal.ensures.start mid there)
    told)

pub returns-in_err-journal-clause-settled : goal.returns-in_err-journal-clause-settled
returns-in_err-journal-clause-settled g c =
    let o0 = g.D.Disk.tells c.args.disk.now in
    let o2 = g.D.Disk.tells c.start.new.disk in
    let e = c.in_err-journal.field-0.0 in
    subst (λ (r : Result StoreValue LoadFault). LeavesSettled o0.files o2.files r)
    (sym (err_is c.from_residual-in_err-journal.result (load_of_start e)
    c.from_residual-in_err-journal.ensures.1))
    (starts_leaves o0 (g.D.Disk.tells c.barrier.new.disk) o2 e c.in_ok-barrier.ensures.settled
    c.start.ensures.looks)

pub returns-in_err-journal-clause-any_moment : goal.returns-in_err-journal-clause-any_moment
returns-in_err-journal-clause-any_moment g c =
    images_then (g.D.Disk.tells c.args.disk.now) (g.D.Disk.tells c.barrier.new.disk)
    (g.D.Disk.tells c.start.new.disk) c.barrier.ensures.any_moment
    c.in_ok-barrier.ensures.settled c.barrier.ensures.run c.start.ensures.looks

pub returns-in_err-state-clause-any_moment : goal.returns-in_err-state-clause-any_moment
returns-in_err-state-clause-any_moment g c =
    images_then (g.D.Disk.tells c.args.disk.now) (g.D.Disk.tells c.barrier.new.disk)
    (g.D.Disk.tells c.start.new.disk) c.barrier.ensures.any_moment
    c.in_ok-barrier.ensures.settled c.barrier.ensures.run c.start.ensures.looks

pub returns-in_err-waiting-clause-any_moment : goal.returns-in_err-waiting-clause-any_moment
returns-in_err-waiting-clause-any_moment g c =
    images_then (g.D.Disk.tells c.args.disk.now) (g.D.Disk.tells c.barrier.new.disk)
    (g.D.Disk.tells c.start.new.disk) c.barrier.ensures.any_moment
    c.in_ok-barrier.ensures.settled c.barrier.ensures.run c.start.ensures.looks

pub returns-in_err-waiting-clause-run : goal.returns-in_err-waiting-clause-run
returns-in_err-waiting-clause-run g c =
    run_then (g.D.Disk.tells c.args.disk.now) (g.D.Disk.tells c.barrier.new.disk)
    (g.D.Disk.tells c.start.new.disk) c.barrier.ensures.run c.start.ensures.looks.run

pub returns-in_err-waiting-clause-calls : goal.returns-in_err-waiting-clause-calls
returns-in_err-waiting-clause-calls g c two told j stood =
    let o1 = g.D.Disk.tells c.barrier.new.disk in
    loads_failed load.Memory c.from_residual-in_err-waiting.result (length j) 5
    (g.D.Disk.tells c.args.disk.now) (g.D.Disk.tells c.start.new.disk)
    (err_is c.from_residual-in_err-waiting.result load.Memory
    c.from_residual-in_err-waiting.ensures.1)
    (lit≤ tt)
    (most_then 2 3 (g.D.Disk.tells c.args.disk.now) o1 (g.D.Disk.tells c.start.new.disk)
    c.barrier.ensures.calls.most c.start.ensures.calls.most)

pub read_all-requires-clause-so_far : goal.read_all-requires-clause-so_far
read_all-requires-clause-so_far g c =
    let clients = g.C.Clients.meaning c.args.clients.now in
    let empty : c.in_ok-state.state.facts ≡ nothing = c.in_ok-state.ensures.facts in
    starts_so_far clients (g.D.Disk.tells c.start.new.disk).files c.in_ok-journal.journal
    c.in_ok-state.state (λ two told.
    c.in_ok-journal.ensures.start two (sym c.start.ensures.looks.same_files ∙ told))
    c.in_ok-journal.ensures.fresh.1 empty
    (knows_none clients c.in_ok-state.state empty c.in_ok-state.ensures.answers)

pub read_all-requires-clause-unread : goal.read_all-requires-clause-unread
read_all-requires-clause-unread g c two told =
    starts_some (g.C.Clients.meaning c.args.clients.now) two c.in_ok-journal.journal
    c.in_ok-state.state (c.in_ok-journal.ensures.start two (sym c.start.ensures.looks.same_files
    ∙ told))
    c.in_ok-journal.ensures.fresh.1 c.in_ok-state.ensures.facts

pub returns-in_err-read_all-clause-answer : goal.returns-in_err-read_all-clause-answer
returns-in_err-read_all-clause-answer g c two told =
    let clients = g.C.Clients.meaning c.args.clients.now in
    let e = c.in_err-read_all.field-0.0 in
    subst (λ (r : Result StoreValue LoadFault). IsJournalLoaded clients (read_files two) r)
    (sym (err_is c.from_residual-in_err-read_all.result e
    c.from_residual-in_err-read_all.ensures.1))
    (answers_fault clients (g.D.Disk.tells c.args.disk.now) (g.D.Disk.tells c.barrier.new.disk)
    (g.D.Disk.tells c.read_all.new.disk) two c.read_all.new.journal c.read_all.new.state e
    c.in_ok-barrier.ensures.settled (c.read_all.ensures.looks.same_files
    ∙ c.start.ensures.looks.same_files) c.in_err-read_all.ensures.all told)

pub returns-in_err-read_all-clause-settled : goal.returns-in_err-read_all-clause-settled
returns-in_err-read_all-clause-settled g c =
    let o0 = g.D.Disk.tells c.args.disk.now in
    let o1 = g.D.Disk.tells c.barrier.new.disk in
    let o2 = g.D.Disk.tells c.start.new.disk in
    let o3 = g.D.Disk.tells c.read_all.new.disk in
    let e = c.in_err-read_all.field-0.0 in
    subst (λ (r : Result StoreValue LoadFault). LeavesSettled o0.files o3.files r)
    (sym (err_is c.from_residual-in_err-read_all.result e
    c.from_residual-in_err-read_all.ensures.1))
    (reads_leaves o0 o1 o3 e c.in_ok-barrier.ensures.settled
    (looks_then o1 o2 o3 c.start.ensures.looks c.read_all.ensures.looks))

pub returns-in_err-read_all-clause-any_moment : goal.returns-in_err-read_all-clause-any_moment
returns-in_err-read_all-clause-any_moment g c =
    let o1 = g.D.Disk.tells c.barrier.new.disk in
    let o2 = g.D.Disk.tells c.start.new.disk in
    let o3 = g.D.Disk.tells c.read_all.new.disk in
    images_then (g.D.Disk.tells c.args.disk.now) o1 o3 c.barrier.ensures.any_moment
    c.in_ok-barrier.ensures.settled c.barrier.ensures.run
    (looks_then o1 o2 o3 c.start.ensures.looks c.read_all.ensures.looks)

pub returns-clause-answer : goal.returns-clause-answer
returns-clause-answer g c two told =
    subst (λ (v : StoreValue). IsJournalLoaded (g.C.Clients.meaning c.args.clients.now)
    (read_files two) (Ok v))
    (sym (loads_at c.read_all.new.journal c.read_all.new.state c.args.limit c.in_ok-waiting.waiting
    c.in_ok-waiting.ensures))
    (answers (g.C.Clients.meaning c.args.clients.now) (g.D.Disk.tells c.args.disk.now)
    (g.D.Disk.tells c.barrier.new.disk) (g.D.Disk.tells c.read_all.new.disk) two
    c.read_all.new.journal
    (store_of c.read_all.new.journal c.read_all.new.state c.args.limit)
    c.in_ok-barrier.ensures.settled (c.read_all.ensures.looks.same_files
    ∙ c.start.ensures.looks.same_files) c.in_ok-read_all.ensures.all told)

pub returns-clause-ready : goal.returns-clause-ready
returns-clause-ready g c =
    subst (λ (v : StoreValue). IsReady (g.C.Clients.meaning c.args.clients.now) v
    (g.D.Disk.tells c.read_all.new.disk).files)
    (sym (loads_at c.read_all.new.journal c.read_all.new.state c.args.limit c.in_ok-waiting.waiting
    c.in_ok-waiting.ensures))
    (ready_loaded (g.C.Clients.meaning c.args.clients.now) (g.D.Disk.tells c.args.disk.now)
    (g.D.Disk.tells c.barrier.new.disk) (g.D.Disk.tells c.read_all.new.disk)
    c.read_all.new.journal c.read_all.new.state c.args.limit
    c.in_ok-barrier.ensures.settled (c.read_all.ensures.looks.same_files
    ∙ c.start.ensures.looks.same_files) c.in_ok-read_all.ensures.all)

pub returns-clause-any_moment : goal.returns-clause-any_moment
returns-clause-any_moment g c =
    let o1 = g.D.Disk.tells c.barrier.new.disk in
    let o2 = g.D.Disk.tells c.start.new.disk in
    let o3 = g.D.Disk.tells c.read_all.new.disk in
    images_then (g.D.Disk.tells c.args.disk.now) o1 o3 c.barrier.ensures.any_moment
    c.in_ok-barrier.ensures.settled c.barrier.ensures.run
    (looks_then o1 o2 o3 c.start.ensures.looks c.read_all.ensures.looks)

pub returns-in_err-read_all-clause-run : goal.returns-in_err-read_all-clause-run
returns-in_err-read_all-clause-run g c =
    let o1 = g.D.Disk.tells c.barrier.new.disk in
    let o2 = g.D.Disk.tells c.start.new.disk in
    let o3 = g.D.Disk.tells c.read_all.new.disk in
    run_then (g.D.Disk.tells c.args.disk.now) o1 o3 c.barrier.ensures.run
    (looks_then o1 o2 o3 c.start.ensures.looks c.read_all.ensures.looks).run

pub returns-clause-run : goal.returns-clause-run
returns-clause-run g c =
    let o1 = g.D.Disk.tells c.barrier.new.disk in
    let o2 = g.D.Disk.tells c.start.new.disk in
    let o3 = g.D.Disk.tells c.read_all.new.disk in
    run_then (g.D.Disk.tells c.args.disk.now) o1 o3 c.barrier.ensures.run
    (looks_then o1 o2 o3 c.start.ensures.looks c.read_all.ensures.looks).run

pub returns-in_err-barrier-clause-calls : goal.returns-in_err-barrier-clause-calls
returns-in_err-barrier-clause-calls g c two told j stood =
    loads_failed load.DiskFault c.from_residual.result (length j) 2 (g.D.Disk.tells c.args.disk.now)
    (g.D.Disk.tells c.barrier.new.disk)
    (err_is c.from_residual.result load.DiskFault c.from_residual.ensures.1) (lit≤ tt)
    c.barrier.ensures.calls.most

pub returns-in_err-journal-clause-calls : goal.returns-in_err-journal-clause-calls
returns-in_err-journal-clause-calls g c two told j stood =
    let o1 = g.D.Disk.tells c.barrier.new.disk in
    let e = load_of_start c.in_err-journal.field-0.0 in
    loads_failed e c.from_residual-in_err-journal.result (length j) 5
    (g.D.Disk.tells c.args.disk.now) (g.D.Disk.tells c.start.new.disk)
    (err_is c.from_residual-in_err-journal.result e c.from_residual-in_err-journal.ensures.1)
    (lit≤ tt)
    (most_then 2 3 (g.D.Disk.tells c.args.disk.now) o1 (g.D.Disk.tells c.start.new.disk)
    c.barrier.ensures.calls.most c.start.ensures.calls.most)

pub returns-in_err-state-clause-calls : goal.returns-in_err-state-clause-calls
returns-in_err-state-clause-calls g c two told j stood =
    let o1 = g.D.Disk.tells c.barrier.new.disk in
    loads_failed load.Memory c.from_residual-in_err-state.result (length j) 5
    (g.D.Disk.tells c.args.disk.now) (g.D.Disk.tells c.start.new.disk)
    (err_is c.from_residual-in_err-state.result load.Memory c.from_residual-in_err-state.ensures.1)
    (lit≤ tt)
    (most_then 2 3 (g.D.Disk.tells c.args.disk.now) o1 (g.D.Disk.tells c.start.new.disk)
    c.barrier.ensures.calls.most c.start.ensures.calls.most)

pub returns-in_err-read_all-clause-calls : goal.returns-in_err-read_all-clause-calls
returns-in_err-read_all-clause-calls g c two told j stood =
    let clients = g.C.Clients.meaning c.args.clients.now in
    let o0 = g.D.Disk.tells c.args.disk.now in
    let o1 = g.D.Disk.tells c.barrier.new.disk in
    let o2 = g.D.Disk.tells c.start.new.disk in
    let mid = barrier_told o0 o1 two c.in_ok-barrier.ensures.settled told in
    let e = c.in_err-read_all.field-0.0 in
    loads_cut e c.from_residual-in_err-read_all.result _ (length j) o0 o1 o2
    (g.D.Disk.tells c.read_all.new.disk)
    (err_is c.from_residual-in_err-read_all.result e
    c.from_residual-in_err-read_all.ensures.1)
    c.in_ok-barrier.ensures.calls.just c.in_ok-journal.ensures.calls.just
    (c.read_all.ensures.calls mid.0 (c.start.ensures.looks.same_files
    ∙ mid.1) j (ap (stands clients) mid.2 ∙ stood))

pub returns-clause-calls : goal.returns-clause-calls
returns-clause-calls g c two told j stood =
    let clients = g.C.Clients.meaning c.args.clients.now in
    let o0 = g.D.Disk.tells c.args.disk.now in
    let o1 = g.D.Disk.tells c.barrier.new.disk in
    let o2 = g.D.Disk.tells c.start.new.disk in
    let mid = barrier_told o0 o1 two c.in_ok-barrier.ensures.settled told in
    loads_whole (record (store_of c.read_all.new.journal c.read_all.new.state c.args.limit) {
      end = c.read_all.new.journal.end + group_len c.in_ok-waiting.waiting;
      waiting = c.in_ok-waiting.waiting;
    }) tt (length j) o0
    o1 o2 (g.D.Disk.tells c.read_all.new.disk) c.in_ok-barrier.ensures.calls.just
    c.in_ok-journal.ensures.calls.just
    (c.in_ok-read_all.ensures.calls mid.0 (c.start.ensures.looks.same_files
    ∙ mid.1) j (ap (stands clients) mid.2 ∙ stood))

pub returns-in_err-journal-clause-does : goal.returns-in_err-journal-clause-does
returns-in_err-journal-clause-does g c =
    load_looks c.from_residual-in_err-journal.result (g.D.Disk.tells c.args.disk.now) (g.D.Disk.tells c.barrier.new.disk)
    (g.D.Disk.tells c.start.new.disk) c.in_ok-barrier.ensures.does c.start.ensures.looks

pub returns-in_err-state-clause-does : goal.returns-in_err-state-clause-does
returns-in_err-state-clause-does g c =
    load_looks c.from_residual-in_err-state.result (g.D.Disk.tells c.args.disk.now) (g.D.Disk.tells c.barrier.new.disk)
    (g.D.Disk.tells c.start.new.disk) c.in_ok-barrier.ensures.does c.start.ensures.looks

pub returns-in_err-read_all-clause-does : goal.returns-in_err-read_all-clause-does
returns-in_err-read_all-clause-does g c =
    let o1 = g.D.Disk.tells c.barrier.new.disk in
    let o2 = g.D.Disk.tells c.start.new.disk in
    let o3 = g.D.Disk.tells c.read_all.new.disk in
    load_looks c.from_residual-in_err-read_all.result (g.D.Disk.tells c.args.disk.now) (g.D.Disk.tells c.barrier.new.disk)
    (g.D.Disk.tells c.read_all.new.disk) c.in_ok-barrier.ensures.does (looks_then o1 o2 o3 c.start.ensures.looks c.read_all.ensures.looks)

pub returns-in_err-barrier-clause-does : goal.returns-in_err-barrier-clause-does
returns-in_err-barrier-clause-does g c =
    load_broke c.from_residual.result (g.D.Disk.tells c.args.disk.now)
    (g.D.Disk.tells c.barrier.new.disk)
    (err_is c.from_residual.result load.DiskFault c.from_residual.ensures.1)
    c.in_err-barrier.ensures.does

pub returns-clause-does : goal.returns-clause-does
returns-clause-does g c =
    let o1 = g.D.Disk.tells c.barrier.new.disk in
    let o2 = g.D.Disk.tells c.start.new.disk in
    let o3 = g.D.Disk.tells c.read_all.new.disk in
    load_looks (Ok (store_of c.read_all.new.journal c.read_all.new.state c.args.limit))
    (g.D.Disk.tells c.args.disk.now) o1 o3 c.in_ok-barrier.ensures.does
    (looks_then o1 o2 o3 c.start.ensures.looks c.read_all.ensures.looks)

pub returns-in_err-waiting-clause-does : goal.returns-in_err-waiting-clause-does
returns-in_err-waiting-clause-does g c =
    load_looks c.from_residual-in_err-waiting.result (g.D.Disk.tells c.args.disk.now)
    (g.D.Disk.tells c.barrier.new.disk) (g.D.Disk.tells c.start.new.disk)
    c.in_ok-barrier.ensures.does c.start.ensures.looks
