use Rattle.std.proofs.Common.{◌≡◌, ◌<◌, ◌*◌, ◌+◌, length, slice_index, arith, sym}
use Rattle.std.proofs.lemmas.List.{take_rest}
use Rattle.std.proofs.lemmas.Bool.Decides.{nat_tests}
use Rattle.record_grammar.proofs.Fronts.{front_none, front_version, front_short, front_header, header_backs}
use Rattle.record_grammar.proofs.front.front_of.Goals as goal

pub returns-then-is_empty-clause-value : goal.returns-then-is_empty-clause-value
returns-then-is_empty-clause-value c =
    let none : length c.args.bytes.now ≡ 0 = grind (arith, nat_tests) in
    sym (front_none c.args.bytes.now none)

pub returns-then-bytes-ne0-clause-value : goal.returns-then-bytes-ne0-clause-value
returns-then-bytes-ne0-clause-value c =
    let some : 0 < length c.args.bytes.now = grind (arith, nat_tests) in
    sym (front_version c.args.bytes.now some c.if-bytes-ne0.true)

pub returns-then-bytes-lt-HEADER_LEN-clause-value :
    goal.returns-then-bytes-lt-HEADER_LEN-clause-value
returns-then-bytes-lt-HEADER_LEN-clause-value c = sym (front_short c.args.bytes.now c.if-bytes-ne0.false (omega arith))

pub returns-clause-value : goal.returns-clause-value
returns-clause-value c = rw (c.decided_header.ensures, c.kind_of.ensures, take_rest c.args.bytes.now 4) (sym (front_header c.args.bytes.now c.if-bytes-ne0.false (omega arith)))

pub returns-clause-backed : goal.returns-clause-backed
returns-clause-backed c =
    rw (c.decided_header.ensures, c.kind_of.ensures, take_rest c.args.bytes.now 4)
    (header_backs c.args.bytes.now (slice_index c.args.bytes.now 1) (slice_index c.args.bytes.now 2 * 256 + slice_index c.args.bytes.now 3) (omega arith))
