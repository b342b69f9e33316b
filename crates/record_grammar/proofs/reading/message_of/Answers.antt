use Rattle.std.proofs.Common.{arith, refl, sym, ◌∙◌}
use Rattle.std.proofs.lemmas.List.{length-take-le, take_rest}
use Rattle.record_grammar.proofs.reading.message_of.Goals as goal

pub slice_bounds-id_of-end : goal.slice_bounds-id_of-end
slice_bounds-id_of-end c = sym (length-take-le 32 c.args.payload.now (omega arith))

pub id_of-group-requires : goal.id_of-group-requires
id_of-group-requires c = length-take-le 32 c.args.payload.now (omega arith)

pub returns : goal.returns
returns c =
    c.in-Ok.ensures.made ∙ rw (c.id_of-group.ensures, c.timestamp_in.ensures, c.in_ok-body.ensures.items, take_rest c.args.payload.now 40) refl
