use Rattle.std.proofs.Common.{◌≡◌}
use Rattle.outside.specs.HostTold.{host_told}
use Rattle.client_basic.specs.Bodies.{bundle_meaning}
use Rattle.entry_codec.specs.Standing.{journal}
use Rattle.file_standing.specs.Standing.{stands}
use Rattle.world_devices.proofs.HostLaws.{anew_clocked, anew_linked, clock_disk, clock_told}
use Rattle.world_devices.proofs.HostLaws.{disk_then}
use Rattle.world_devices.proofs.KeepLaws.{crash_same}
use Rattle.world_devices.proofs.StartLaws.{ok_anyway, settles_after, settles_still}
use Rattle.world_devices.proofs.CutLaws.{cut_shift}
use Rattle.world_devices.proofs.starting.open_store.Goals as goal

pub returns-in_err-dial_all-clause-settling : goal.returns-in_err-dial_all-clause-settling
returns-in_err-dial_all-clause-settling c = settles_still c.args.host.now c.dial_all.new.host c.dial_all.ensures.disk

pub returns-in_err-set_clock-clause-settling : goal.returns-in_err-set_clock-clause-settling
returns-in_err-set_clock-clause-settling c =
    settles_still c.args.host.now c.set_clock.new.self (disk_then c.args.host.now c.dial_all.new.host c.set_clock.new.self c.dial_all.ensures.disk
    (clock_disk c.dial_all.new.host c.set_clock.new.self _ c.set_clock.result c.set_clock.ensures.ok c.set_clock.ensures.err))

pub returns-clause-settling : goal.returns-clause-settling
returns-clause-settling c =
    settles_after c.args.host.now c.set_clock.new.self c.load.new.host (disk_then c.args.host.now c.dial_all.new.host c.set_clock.new.self c.dial_all.ensures.disk
    (clock_disk c.dial_all.new.host c.set_clock.new.self _ c.set_clock.result c.set_clock.ensures.ok c.set_clock.ensures.err))
    c.load.ensures.settling

pub returns-clause-anew : goal.returns-clause-anew
returns-clause-anew c =
    ok_anyway c.load.result (anew_linked c.args.clock c.set_clock.new.self c.load.new.host c.load.ensures.links
    (anew_clocked c.args.clock c.args.host.now c.dial_all.new.host c.set_clock.new.self c.dial_all.ensures.scripts
    (clock_told c.dial_all.new.host c.set_clock.new.self _ c.set_clock.result c.set_clock.ensures.ok c.set_clock.ensures.err)
    c.requires.silent c.in_ok-dial_all.ensures.dialled c.in_ok-dial_all.ensures.quiet
    c.in_ok-set_clock.ensures.upcoming))

pub returns-clause-loads : goal.returns-clause-loads
returns-clause-loads c = λ j holds.
    let disk = disk_then c.args.host.now c.dial_all.new.host c.set_clock.new.self c.dial_all.ensures.disk
    (clock_disk c.dial_all.new.host c.set_clock.new.self _ c.set_clock.result c.set_clock.ensures.ok c.set_clock.ensures.err) in
    c.load.ensures.loads j
    (crash_same (λ left. stands bundle_meaning left ≡ journal j) (host_told c.args.host.now) (host_told c.set_clock.new.self) disk.files holds)

pub returns-clause-cut : goal.returns-clause-cut
returns-clause-cut c is =
    cut_shift c.args.host.now c.set_clock.new.self c.load.new.host (disk_then c.args.host.now c.dial_all.new.host c.set_clock.new.self c.dial_all.ensures.disk
    (clock_disk c.dial_all.new.host c.set_clock.new.self _ c.set_clock.result c.set_clock.ensures.ok c.set_clock.ensures.err))
    (c.load.ensures.cut is)
