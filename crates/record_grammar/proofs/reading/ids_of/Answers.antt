use Rattle.std.proofs.Common.{◌≡◌, ◌-◌, ◌+◌, ◌*◌, ◌/◌, length, take, drop, arith, ap, ◌∙◌}
use Rattle.record_grammar.proofs.Lists.{ids_in_done, ids_in_next}
use Rattle.record_grammar.proofs.reading.ids_of.Goals as goal

pub ids-preserved : goal.ids-preserved
ids-preserved c =
    let width : 32 * c.ids.i + 32 - 32 * c.ids.i ≡ 32 = omega arith in
    let next = ids_in_next c.ids.ids.items c.args.payload.now c.id_of.result c.ids.i (length c.args.payload.now / 32) (omega arith)
    (c.id_of.ensures ∙ ap (λ n. take n (drop (32 * c.ids.i) c.args.payload.now)) width) c.ids.invariant in
    rw (c.push.ensures.items, c.in_ok-push.was) next

pub returns : goal.returns
returns c = ids_in_done c.ids.ids.items c.args.payload.now c.ids.i (length c.args.payload.now / 32) (omega arith) c.ids.invariant
