use Rattle.std.proofs.Common.{◌<◌, sym, ◌∙◌, subst, length}
use Rattle.outside.specs.MemHost.{MemHostValue, links_of}
use Rattle.outside.proofs.HostCalls.{on_ok, on_err, wired_sent, wired_unsent}
use Rattle.outside.proofs.mem_host.MemHost.make_send.Goals as goal

pub invariant_of-self : goal.invariant_of-self
invariant_of-self c =
    let failed = sym c.is_err.ensures.value ∙ c.if-is_err.true in
    wired_unsent c.self.inside.disk c.keep_send.new.self c.args.link c.self.inside.sent.items c.index_mut-sent.result.now c.keep_send.new.sent _
    (on_err c.keep_send.result failed c.keep_send.ensures.err) c.index_mut-sent.ensures.value (on_err c.keep_send.result failed c.keep_send.ensures.same)
    (subst (λ (h : MemHostValue). c.args.link < length (links_of h.disk)) (sym c.self.view_is) c.requires) c.self.invariant

pub invariant_of-self-then-fails-2 : goal.invariant_of-self-then-fails-2
invariant_of-self-then-fails-2 c =
    let fine = sym c.is_err.ensures.value ∙ c.if-is_err.false in
    wired_sent c.self.inside.disk c.keep_send.new.self c.args.link _ c.self.inside.sent.items c.index_mut-sent.result.now c.keep_send.new.sent _
    (on_ok c.keep_send.result fine c.keep_send.ensures.ok) c.index_mut-sent.ensures.value (on_ok c.keep_send.result fine c.keep_send.ensures.sent)
    (subst (λ (h : MemHostValue). c.args.link < length (links_of h.disk)) (sym c.self.view_is) c.requires) c.self.invariant

pub invariant_of-self-else-fails-2 : goal.invariant_of-self-else-fails-2
invariant_of-self-else-fails-2 c =
    let fine = sym c.is_err.ensures.value ∙ c.if-is_err.false in
    wired_sent c.self.inside.disk c.keep_send.new.self c.args.link _ c.self.inside.sent.items c.index_mut-sent.result.now c.keep_send.new.sent _
    (on_ok c.keep_send.result fine c.keep_send.ensures.ok) c.index_mut-sent.ensures.value (on_ok c.keep_send.result fine c.keep_send.ensures.sent)
    (subst (λ (h : MemHostValue). c.args.link < length (links_of h.disk)) (sym c.self.view_is) c.requires) c.self.invariant
