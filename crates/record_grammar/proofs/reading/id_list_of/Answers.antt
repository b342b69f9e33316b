use Rattle.std.proofs.Common.{◌≡◌, ◌/◌, length, arith, ap, ◌∙◌}
use Rattle.record_grammar.proofs.Lists.{length-ids_in, not_refused}
use Rattle.record_grammar.proofs.reading.id_list_of.Goals as goal

pub unreachable-requires : goal.unreachable-requires
unreachable-requires c =
    let count : length c.in_ok-ids_of.field-0.items ≡ length c.args.payload.now / 32 =
    ap length c.in_ok-ids_of.ensures ∙ length-ids_in (length c.args.payload.now / 32) c.args.payload.now in
    not_refused c.new.result c.in-Err.field-0 (length c.in_ok-ids_of.field-0.items) 1536 c.in-Err.is c.new.ensures.empty.0 c.new.ensures.too_many.0
    (omega arith) (omega arith)
