use Rattle.std.proofs.Common.{ap, refl, ◌∙◌, arith}
use Rattle.outside.specs.HostTold.{host_told}
use Rattle.outside.specs.MemHost.{MemHostValue}
use Rattle.world_devices.proofs.HostLaws.{disk_none, disk_then, quiet_dialled, quiet_none}
use Rattle.world_devices.proofs.HostLaws.{told_host}
use Rattle.world_devices.proofs.starting.dial_all.Goals as goal

pub links-init : goal.links-init
links-init c = record {
  made = c.requires;
  quiet = quiet_none (host_told c.args.host.now) (told_host c.args.host.now) c.requires;
  scripts = refl;
  disk = disk_none c.args.host.now;
}

pub links-preserved : goal.links-preserved
links-preserved c = record {
  made = omega (arith, c.in-Ok.ensures.links.made.1, c.links.invariant.made);
  quiet = quiet_dialled _ _ (host_told c.links.host) (host_told c.dial.new.self) c.in-Ok.ensures.links c.links.invariant.quiet;
  scripts = ap (λ (h : MemHostValue). h.scripts) c.dial.ensures.makes.rest ∙ c.links.invariant.scripts;
  disk = disk_then c.args.host.now c.links.host c.dial.new.self c.links.invariant.disk
      (record {
        files = c.dial.ensures.call.same_files;
        made = c.dial.ensures.call.calls.made;
        calls = c.dial.ensures.call.calls.goes_on;
        unchanged = c.dial.ensures.call.calls.unchanged;
      });
}

pub returns-in-Err-clause-disk : goal.returns-in-Err-clause-disk
returns-in-Err-clause-disk c =
    disk_then c.args.host.now c.links.host c.dial.new.self c.links.invariant.disk
    (record {
      files = c.dial.ensures.call.same_files;
      made = c.dial.ensures.call.calls.made;
      calls = c.dial.ensures.call.calls.goes_on;
      unchanged = c.dial.ensures.call.calls.unchanged;
    })
