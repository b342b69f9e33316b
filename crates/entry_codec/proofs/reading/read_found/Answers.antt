use Rattle.std.proofs.Common.{◌-◌, ◌≤◌, length, arith}
use Rattle.entry_codec.proofs.LawProofs.{bad_is, found_is, found_short}
use Rattle.entry_codec.proofs.Readers.{IsBytes}
use Rattle.entry_codec.proofs.reading.read_found.Goals as goal

pub overflow_sub-result : goal.overflow_sub-result
overflow_sub-result g c =
    let fits : IsBytes c.args.bytes.now = λ i. omega (arith, c.type_inv.bytes i) in
    found_short c.args.format _ c.show_names.ensures c.args.bytes.now c.read_tagged.new.front.rest.now c.in-Ok.entry fits c.in-Ok.ensures

pub returns-in-Ok : goal.returns-in-Ok
returns-in-Ok g c =
    let fits : IsBytes c.args.bytes.now = λ i. omega (arith, c.type_inv.bytes i) in
    let short : length c.read_tagged.new.front.rest.now ≤ length c.args.bytes.now =
    found_short c.args.format _ c.show_names.ensures c.args.bytes.now c.read_tagged.new.front.rest.now c.in-Ok.entry fits c.in-Ok.ensures in
    found_is c.args.format _ c.show_names.ensures c.args.bytes.now c.read_tagged.new.front.rest.now c.in-Ok.entry
    (length c.args.bytes.now - length c.read_tagged.new.front.rest.now) fits c.in-Ok.ensures (omega arith)

pub returns-in-Err-BadEntry : goal.returns-in-Err-BadEntry
returns-in-Err-BadEntry g c =
    bad_is c.args.format _ c.show_names.ensures c.args.bytes.now (rw c.in-Err-BadEntry.field-0-is at c.in-Err-BadEntry.ensures)
