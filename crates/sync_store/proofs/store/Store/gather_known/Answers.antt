use Rattle.std.proofs.Common.{◌≡◌, false, Result, Err, sym, ap, ◌∙◌, subst}
use Rattle.journal_state.specs.Whole.{StateValue}
use Rattle.sync_rules.specs.Legal.{Allowed}
use Rattle.sync_store.specs.declared.fault.StoreFault.{StoreFault}
use Rattle.sync_store.specs.Gathering.{JoinsBehind}
use Rattle.sync_store.specs.Groups.{IsGathering}
use Rattle.sync_store.proofs.Behind.{behind_room, gathering_behind, joins_open, joins_so}
use Rattle.sync_store.proofs.Behind.{kept_batches}
use Rattle.sync_store.proofs.Errors.{err_is}
use Rattle.sync_store.proofs.FitSteps.{true≢false}
use Rattle.sync_store.proofs.SettleLoop.{room_failed}
use Rattle.sync_store.proofs.store.Store.gather_known.Goals as goal

pub gather-requires-clause-knows : goal.gather-requires-clause-knows
gather-requires-clause-knows g c still = c.in_ok-make_room.ensures.gathering.knows

pub gather-requires-clause-room : goal.gather-requires-clause-room
gather-requires-clause-room g c still = c.in_ok-make_room.ensures.room

pub gather-requires-clause-allowed : goal.gather-requires-clause-allowed
gather-requires-clause-allowed g c still =
    subst (λ (v : StateValue).
    Allowed (g.C.Clients.meaning c.args.clients.now) v.facts c.args.batch)
    (sym c.make_room.ensures.same.state) c.requires.allowed

pub returns-in_err-make_room-clause-joins : goal.returns-in_err-make_room-clause-joins
returns-in_err-make_room-clause-joins g c =
    let clients = g.C.Clients.meaning c.args.clients.now in
    let s = c.args.self.now in
    let new = c.make_room.new.self in
    let o = g.D.Disk.tells c.args.disk.now in
    let o' = g.D.Disk.tells c.make_room.new.disk in
    let e = c.in_err-make_room.field-0.0 in
    let failed = room_failed clients s new e o o' c.in_err-make_room.ensures.makes
    c.requires.gathering in
    subst (λ (r : Result (Unit {0}) StoreFault). JoinsBehind clients s new c.args.batch r o o')
    (sym (err_is c.from_residual.result e c.from_residual.ensures.1
    ∙ ap (λ (x : StoreFault). Err x) failed.0))
    (kept_batches clients s new c.make_room.ensures.same, failed.1, failed.2)

pub returns-in_err-make_room-clause-gathering : goal.returns-in_err-make_room-clause-gathering
returns-in_err-make_room-clause-gathering g c still =
    let clients = g.C.Clients.meaning c.args.clients.now in
    let new = c.make_room.new.self in
    let o' = g.D.Disk.tells c.make_room.new.disk in
    let failed = room_failed clients c.args.self.now new c.in_err-make_room.field-0.0
    (g.D.Disk.tells c.args.disk.now) o' c.in_err-make_room.ensures.makes c.requires.gathering in
    true≢false {A = IsGathering clients new o'.files} new.closed failed.1 still

pub returns-clause-joins : goal.returns-clause-joins
returns-clause-joins g c =
    let clients = g.C.Clients.meaning c.args.clients.now in
    let s = c.args.self.now in
    let s1 = c.make_room.new.self in
    let o = g.D.Disk.tells c.args.disk.now in
    let o' = g.D.Disk.tells c.make_room.new.disk in
    joins_so clients c.images_stand.ensures s s1 c.gather.new.self c.args.batch c.gather.result
    o o' c.make_room.ensures.same c.in_ok-make_room.ensures.gathering.still_open
    (behind_room clients s s1 o o' _ c.in_ok-make_room.ensures.makes) c.gather.ensures.answer
    c.gather.ensures.faultless c.gather.ensures.gathers

pub returns-clause-gathering : goal.returns-clause-gathering
returns-clause-gathering g c still =
    let clients = g.C.Clients.meaning c.args.clients.now in
    let s = c.args.self.now in
    let s1 = c.make_room.new.self in
    let s2 = c.gather.new.self in
    let o = g.D.Disk.tells c.args.disk.now in
    let o' = g.D.Disk.tells c.make_room.new.disk in
    let joins = joins_so clients c.images_stand.ensures s s1 s2 c.args.batch c.gather.result
    o o' c.make_room.ensures.same c.in_ok-make_room.ensures.gathering.still_open
    (behind_room clients s s1 o o' _ c.in_ok-make_room.ensures.makes) c.gather.ensures.answer
    c.gather.ensures.faultless c.gather.ensures.gathers in
    let behind = joins_open clients s s2 c.args.batch c.gather.result o o' joins still in
    gathering_behind clients s s2 o o' behind.0 c.requires.gathering behind.1 still
    c.gather.ensures.numbers (c.gather.ensures.knows still)
