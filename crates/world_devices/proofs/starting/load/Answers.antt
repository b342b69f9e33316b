use Rattle.world_devices.proofs.StartLaws.{load_holds, load_settles, load_then}
use Rattle.world_devices.proofs.StartLaws.{load_most}
use Rattle.world_devices.proofs.CutLaws.{load_cut, settle_cut}
use Rattle.outside.specs.MemDisk.{disk_files, files_of}
use Rattle.outside.specs.HostTold.{host_told}
use Rattle.outside.specs.Files.{read_files}
use Rattle.std.proofs.Common.{Err, ap, refl}
use Rattle.world_devices.proofs.starting.load.Goals as goal

pub returns-in-Ok-clause-settling : goal.returns-in-Ok-clause-settling
returns-in-Ok-clause-settling c =
    load_then c.load.result c.args.host.now c.load.new.disk c.load.ensures.run.calls
    c.load.ensures.any_moment c.load.ensures.calls c.settle.new.host c.settle.ensures.settling

pub returns-in-Err-DiskFault-clause-settling : goal.returns-in-Err-DiskFault-clause-settling
returns-in-Err-DiskFault-clause-settling c =
    load_settles c.load.result c.args.host.now c.load.new.disk c.load.ensures.run.calls
    c.load.ensures.any_moment c.load.ensures.calls

pub returns-in-Err-clause-settling : goal.returns-in-Err-clause-settling
returns-in-Err-clause-settling c =
    load_settles c.load.result c.args.host.now c.load.new.disk c.load.ensures.run.calls
    c.load.ensures.any_moment c.load.ensures.calls

pub returns-in-Ok-clause-loads : goal.returns-in-Ok-clause-loads
returns-in-Ok-clause-loads c = λ j holds.
    c.settle.ensures.settles j
    (load_holds c.load.result c.args.host.now c.load.new.disk c.load.ensures.run.calls
    c.load.ensures.any_moment c.load.ensures.calls j holds)

pub returns-in-Ok-clause-cut : goal.returns-in-Ok-clause-cut
returns-in-Ok-clause-cut c is =
    let h = c.args.host.now in
    let two = files_of (disk_files h.disk) in
    settle_cut c.in-Ok.store h c.load.new.disk c.settle.new.host c.in-Ok.ensures.does
    (λ j holds. (c.in-Ok.ensures.calls two refl j
    (holds.each two refl (read_files two) ((host_told h).reads two refl))).just)
    (c.settle.ensures.cut is)

pub returns-in-Err-DiskFault-clause-cut : goal.returns-in-Err-DiskFault-clause-cut
returns-in-Err-DiskFault-clause-cut c is =
    load_cut (Err c.in-Err-DiskFault.field-0) c.args.host.now c.load.new.disk
    (ap (λ e. Err e) c.in-Err-DiskFault.field-0-is) c.in-Err-DiskFault.ensures.does
    (λ j holds. load_most c.load.result c.args.host.now c.load.new.disk c.load.ensures.run.calls
    c.load.ensures.any_moment c.load.ensures.calls j holds)
