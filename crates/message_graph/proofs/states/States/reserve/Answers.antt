use Rattle.std.proofs.Common.{◌≡◌, ap, ◌∙◌, arith, ◌≤◌, ◌+◌, ◌-◌, false, length, ◌++◌, length-append, replicate, vec_capacity, rules}
use Rattle.std.proofs.lemmas.List.{length-replicate}
use Rattle.message_graph.specs.Waits.{Marked, but_last}
use Rattle.message_graph.proofs.Marks.{marked-reserve, marked_room, clear-reserve}
use Rattle.message_graph.proofs.states.States.reserve.Goals as goal

pub invariant_of-self-2 : goal.invariant_of-self-2
invariant_of-self-2 c =
    let s = c.self.inside in
    let more = c.in-Some.places - length s.ready in
    let ready : c.reserve-2.new.self ≡ s.ready ++ replicate more false = c.in_ok-reserve-2.ensures.ok in
    let items : c.reserve.new.self.items ≡ s.waits.items = c.in_ok-reserve.ensures.items in
    let marked : Marked (s.ready ++ replicate more false) (but_last s.waits.items) = marked-reserve s.ready (but_last s.waits.items) more c.self.invariant.0 in
    let len : length (s.ready ++ replicate more false) ≡ length s.ready + more = length-append s.ready (replicate more false) ∙ ap (λ k. length s.ready + k) (length-replicate more false) in
    let places : c.in-Some.places ≡ length s.waits.items + c.args.more = search rules in
    let room : length (s.ready ++ replicate more false) ≤ vec_capacity c.reserve.new.self = omega (arith, c.in_ok-reserve.ensures.ok, c.in_ok-reserve.ensures.len, len, marked_room s.ready (but_last s.waits.items) c.self.invariant.0) in
    (rw (ready, items) marked, rw ready room, λ unused. rw ready (clear-reserve s.ready more (c.self.invariant.2 unused)))
