use Rattle.std.proofs.Common.{◌≡◌, ◌+◌, ◌<◌, ◌≤◌, length, arith, rules}
use Rattle.std.proofs.lemmas.List.{length-set}
use Rattle.message_graph.specs.Waits.{but_last}
use Rattle.message_graph.proofs.Marks.{neither, clear-set, marked-set, marked_room, length-but_last, but_last-set, but_last-set_last}
use Rattle.message_graph.proofs.states.States.set.Goals as goal

pub put-requires : goal.put-requires
put-requires c =
    let s = c.self.inside in
    let len : c.len.result ≡ length s.waits.items = search rules in
    omega (arith, len, c.if-len-number-gt1.true, length-but_last s.waits.items, marked_room s.ready (but_last s.waits.items) c.self.invariant.0)

pub invariant_of-self : goal.invariant_of-self
invariant_of-self c =
    let s = c.self.inside in
    let len : c.len.result ≡ length s.waits.items = search rules in
    let before : c.args.number + 1 < length s.waits.items = omega (arith, len, c.if-len-number-gt1.true) in
    let marked = marked-set s.ready (but_last s.waits.items) c.args.number c.args.waiting c.has_step-is_ready.result c.self.invariant.0 (omega (arith, before, length-but_last s.waits.items)) c.has_step-is_ready.ensures in
    (rw (c.put.ensures, but_last-set s.waits.items c.args.number c.args.waiting before) marked, rw (c.put.ensures, length-set) c.self.invariant.1, λ unused. let both = neither s.is_used c.has_step-is_ready.result unused in rw c.put.ensures (clear-set s.ready c.args.number c.has_step-is_ready.result (c.self.invariant.2 both.0) both.1))

pub invariant_of-self-else-len-number-gt1 : goal.invariant_of-self-else-len-number-gt1
invariant_of-self-else-len-number-gt1 c =
    let s = c.self.inside in
    let len : c.len.result ≡ length s.waits.items = search rules in
    let last : length s.waits.items ≤ c.args.number + 1 = omega (arith, len, c.if-len-number-gt1.false) in
    (rw (but_last-set_last s.waits.items c.args.number c.args.waiting last) c.self.invariant.0, c.self.invariant.1, c.self.invariant.2)
