use Rattle.std.proofs.Common.{None, Err, ap, ◌∙◌}
use Rattle.world_devices.proofs.CutLaws.{cut_shift}
use Rattle.world_devices.specs.Devices.{DeviceValue}
use Rattle.world_devices.specs.declared.stop.StepFault.TheVariants as fault
use Rattle.world_devices.proofs.HostLaws.{anew_disk, disk_none, silent_fresh}
use Rattle.world_devices.proofs.StartLaws.{comes_files, comes_same, comes_then, device_idle, gave_up}
use Rattle.world_devices.proofs.StartLaws.{restart_broken, restart_ended, restart_failed}
use Rattle.world_devices.proofs.StartLaws.{settles_after, settles_still}
use Rattle.world_devices.proofs.TurnLaws.{comes_again}
use Rattle.world_devices.proofs.device.Device.restart.Goals as goal

pub invariant_of-self : goal.invariant_of-self
invariant_of-self c =
    device_idle c.self.inside.node c.self.inside.host c.restart.new.self _
    (comes_files c.self.inside.host c.restart.new.self
    (anew_disk c.self.inside.host c.restart.new.self c.restart.result c.restart.ensures.ok c.restart.ensures.err).files)
    c.self.invariant

pub invariant_of-self-2 : goal.invariant_of-self-2
invariant_of-self-2 c =
    device_idle c.self.inside.node c.self.inside.host c.restart.new.self _
    (comes_files c.self.inside.host c.restart.new.self
    (anew_disk c.self.inside.host c.restart.new.self c.restart.result c.restart.ensures.ok c.restart.ensures.err).files)
    c.self.invariant

pub start-requires-clause-silent : goal.start-requires-clause-silent
start-requires-clause-silent c = silent_fresh c.restart.new.self c.self.inside.host.disk c.in_ok-restart.ensures.ok

-- its host found no memory
pub returns-in_err-restart : goal.returns-in_err-restart
returns-in_err-restart c =
    let h = c.self.inside.host in
    let anew = anew_disk h c.restart.new.self c.restart.result c.restart.ensures.ok c.restart.ensures.err in
    let new : DeviceValue = record {
      host = c.restart.new.self;
      node = None;
      links = c.self.inside.links;
      clock = c.self.inside.clock;
      stop = c.self.inside.stop;
    } in
    let comes = comes_files h c.restart.new.self anew.files in
    let came = comes_again c.cite_laws.ensures c.self.view_is new c.from_residual.result comes (λ up. cc)
    (restart_failed _ _ new h c.from_residual.ensures.1 (settles_still h h (disk_none h)) comes) in
    record {
      runs = came.runs;
      running = came.running;
      links = came.links;
      unrefused = came.unrefused;
      restarts = came.calls;
    }

-- it started
pub returns-in-Ok : goal.returns-in-Ok
returns-in-Ok c =
    let new = c.start.new.self in
    let anew = anew_disk c.self.inside.host c.restart.new.self c.restart.result c.restart.ensures.ok c.restart.ensures.err in
    let settles = settles_after c.self.inside.host c.restart.new.self new.host anew c.start.ensures.starts in
    let came = comes_again c.cite_laws.ensures c.self.view_is new c.finish.result settles.left c.start.ensures.still
    (restart_ended _ c.finish.result new c.restart.new.self anew c.in-Ok.ensures.loads
    c.start.ensures.starts c.in-Ok.ensures.anew c.in-Ok.ensures.links c.start.ensures.clock
    c.start.ensures.stop c.finish.ensures) in
    record {
      runs = came.runs;
      running = came.running;
      links = came.links;
      unrefused = came.unrefused;
      restarts = came.calls;
    }

-- its disk stopped in that
pub returns-in-Err-DiskFault : goal.returns-in-Err-DiskFault
returns-in-Err-DiskFault c =
    let mid = c.start.new.self in
    let new = c.break_off.new.self in
    let anew = anew_disk c.self.inside.host c.restart.new.self c.restart.result c.restart.ensures.ok c.restart.ensures.err in
    let settles = settles_after c.self.inside.host c.restart.new.self mid.host anew c.start.ensures.starts in
    let came = comes_again c.cite_laws.ensures c.self.view_is new c.break_off.result
    (comes_then c.self.inside.host mid.host new.host settles.left c.break_off.ensures.left) c.break_off.ensures.still
    (restart_broken _ c.break_off.result mid new settles c.start.ensures.stop
    (c.break_off.ensures.clock ∙ c.start.ensures.clock) c.break_off.ensures.to
    c.break_off.ensures.left
    (cut_shift c.self.inside.host c.restart.new.self mid.host anew
    (c.in-Err-DiskFault.ensures.cut (ap (λ e. Err e) c.in-Err-DiskFault.field-0-is)))) in
    record {
      runs = came.runs;
      running = came.running;
      links = came.links;
      unrefused = came.unrefused;
      restarts = came.calls;
    }

-- it found no memory to start
pub returns-in-Err-Memory : goal.returns-in-Err-Memory
returns-in-Err-Memory c =
    let new = c.start.new.self in
    let anew = anew_disk c.self.inside.host c.restart.new.self c.restart.result c.restart.ensures.ok c.restart.ensures.err in
    let settles = settles_after c.self.inside.host c.restart.new.self new.host anew c.start.ensures.starts in
    let came = comes_again c.cite_laws.ensures c.self.view_is new (Err fault.Memory) settles.left c.start.ensures.still
    (gave_up _ new new.host settles (comes_same new.host)) in
    record {
      runs = came.runs;
      running = came.running;
      links = came.links;
      unrefused = came.unrefused;
      restarts = came.calls;
    }
