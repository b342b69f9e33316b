use Rattle.std.proofs.Common.{◌<◌, sym, ap, ◌∙◌, subst, length}
use Rattle.outside.specs.MemHost.{MemHostValue, links_of}
use Rattle.outside.specs.MemDisk.{with_call, dialled}
use Rattle.outside.proofs.HostCalls.{wired_dialled}
use Rattle.outside.proofs.mem_host.MemHost.make_dial.Goals as goal

pub invariant_of-self-in-Ok : goal.invariant_of-self-in-Ok
invariant_of-self-in-Ok c =
    wired_dialled c.self.inside.disk c.keep_dial.new.self c.args.spec.now _ _ _
    (c.in-Ok.ensures.ok ∙ ap (λ s. with_call (dialled s) c.self.inside.disk) c.as_bytes.ensures.value) c.in-Ok.ensures.sent
    (subst (λ (h : MemHostValue). length (links_of h.disk) < 8) (sym c.self.view_is) c.requires) c.self.invariant
