use Rattle.std.proofs.Common.{refl, sym, ◌∙◌}
use Rattle.sync_store.proofs.Gathered.{flush_added, gathering_then, has_room_then, keeps_flushed}
use Rattle.sync_store.proofs.Gathered.{room_made, underway_begins}
use Rattle.sync_store.proofs.store.Store.make_room.Goals as goal

pub returns-then-has_group_room-clause-makes : goal.returns-then-has_group_room-clause-makes
returns-then-has_group_room-clause-makes g c before kept waits gathered =
    underway_begins (g.C.Clients.meaning c.args.clients.now) c.images_stand.ensures before
    c.args.self.now (g.D.Disk.tells c.args.disk.now) waits kept gathered

pub returns-then-has_group_room-clause-same : goal.returns-then-has_group_room-clause-same
returns-then-has_group_room-clause-same g c = record {
  state = refl;
  file = refl;
  format = refl;
  generation = refl;
  end = refl;
  limit = refl;
}

pub returns-then-has_group_room-clause-room : goal.returns-then-has_group_room-clause-room
returns-then-has_group_room-clause-room g c =
    sym c.has_group_room.ensures ∙ c.if-has_group_room.true

pub returns-clause-makes : goal.returns-clause-makes
returns-clause-makes g c before kept waits gathered =
    let clients = g.C.Clients.meaning c.args.clients.now in
    let s = c.args.self.now in
    let new = c.flush.new.self in
    let o = g.D.Disk.tells c.args.disk.now in
    let o' = g.D.Disk.tells c.flush.new.disk in
    let e = c.flush.ensures in
    room_made clients before s new waits c.flush.result o o' e.numbers
    c.requires.gathering.still_open e.ok e.err gathered
    (flush_added clients before s new waits c.flush.result o o' e.ok e.err e.run e.calls gathered
    (e.appends before waits gathered) (e.adds before kept waits gathered))
    (sym c.has_group_room.ensures ∙ c.if-has_group_room.false)

pub returns-clause-same : goal.returns-clause-same
returns-clause-same g c =
    keeps_flushed c.args.self.now c.flush.new.self c.flush.result c.flush.ensures.ok
    c.flush.ensures.err

pub returns-clause-room : goal.returns-clause-room
returns-clause-room g c =
    has_room_then c.args.self.now c.flush.new.self c.flush.result c.flush.ensures.ok

pub returns-clause-gathering : goal.returns-clause-gathering
returns-clause-gathering g c =
    gathering_then (g.C.Clients.meaning c.args.clients.now) c.args.self.now c.flush.new.self
    (g.D.Disk.tells c.flush.new.disk).files c.flush.result c.flush.ensures.numbers
    c.requires.gathering.still_open c.flush.ensures.ok c.flush.ensures.ready

pub returns-then-has_group_room-clause-numbers : goal.returns-then-has_group_room-clause-numbers
returns-then-has_group_room-clause-numbers g c = c.requires.gathering.store
