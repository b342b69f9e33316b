use Rattle.outside.proofs.Pictured.{derefed, pictured}
use Rattle.outside.proofs.mem_disk.MemDisk.image.Goals as goal

pub returns-clause-picked : goal.returns-clause-picked
returns-clause-picked c =
    let first = derefed c.args.pick 0 _ _ _ _ _ c.deref.ensures.value c.deref-2.ensures.value c.in_ok-first.ensures in
    let second = derefed c.args.pick 1 _ _ _ _ _ c.deref-3.ensures.value c.deref-4.ensures.value c.in_ok-second.ensures in
    (pictured c.args.pick _ c.args.self.now _ _ c.new.result c.self.view_is first second c.new.ensures).0

pub returns-clause-image : goal.returns-clause-image
returns-clause-image c =
    let first = derefed c.args.pick 0 _ _ _ _ _ c.deref.ensures.value c.deref-2.ensures.value c.in_ok-first.ensures in
    let second = derefed c.args.pick 1 _ _ _ _ _ c.deref-3.ensures.value c.deref-4.ensures.value c.in_ok-second.ensures in
    (pictured c.args.pick _ c.args.self.now _ _ c.new.result c.self.view_is first second c.new.ensures).1
