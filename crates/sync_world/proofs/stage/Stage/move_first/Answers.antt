use Rattle.std.proofs.Common.{◌<◌, length, arith, refl, slice_get}
use Rattle.sync_world.specs.Moving.{link_moved}
use Rattle.sync_world.proofs.DoingLaws.{link_becomes}
use Rattle.sync_world.proofs.MovingLaws.{becomes_at}
use Rattle.sync_world.proofs.GoLaws.{same_leads}
use Rattle.sync_world.proofs.MoveGo.{move_leads}
use Rattle.sync_world.proofs.stage.Stage.move_first.Goals as goal

pub returns-clause-becomes : goal.returns-clause-becomes
returns-clause-becomes c =
    let within : c.args.link < length c.args.self.now.links.items = omega arith in
    link_becomes (link_moved c.args.how c.args.d
    (slice_get c.args.self.now.links.items c.args.link))
    c.args.link c.args.self.now.devices.items _ c.args.self.now.links.items _ c.move_on.result refl
    (becomes_at (link_moved c.args.how c.args.d) c.args.link c.args.self.now.links.items
    c.index_mut.result.now c.move_on.new.link c.move_on.result within c.index_mut.ensures.value
    c.move_on.ensures)

pub returns-then-link-len-clause-goes : goal.returns-then-link-len-clause-goes
returns-then-link-len-clause-goes c = λ w s. same_leads w _ _ _ s

pub returns-clause-goes : goal.returns-clause-goes
returns-clause-goes c =
    let within : c.args.link < length c.args.self.now.links.items = omega arith in
    let becomes = becomes_at (link_moved c.args.how c.args.d) c.args.link
    c.args.self.now.links.items c.index_mut.result.now c.move_on.new.link c.move_on.result
    within c.index_mut.ensures.value c.move_on.ensures in
    λ w s. move_leads c.cite_laws.ensures.worlds c.args.how c.args.d c.args.link
    c.args.self.now.devices.items c.args.self.now.links.items _ c.move_on.result becomes w s
