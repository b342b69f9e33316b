use Rattle.std.proofs.Common.{◌≡◌, ◌-◌, ◌<◌, ◌≤◌, length, take, min, ap, arith}
use Rattle.std.proofs.lemmas.List.{length-take, length-take-le}
use Rattle.stream_commands.proofs.InputLemmas.{consumed_none, reading_none, reading_more, reading_fails}
use Rattle.stream_commands.proofs.InputLemmas.{reading_ends, reading_much, take_shorter}
use Rattle.stream_commands.proofs.input.hear_input.Goals as goal

pub pieces-init : goal.pieces-init
pieces-init g c = record {
  room = let whole : length c.in_ok-buf.buf.items ≡ 65536 = c.in_ok-buf.ensures in omega arith;
  reading =
      reading_none c.readings_join.ensures c.readings_are_whole.ensures g.L.Listener.heard _ _ _
      c.in_ok-reader.ensures.fresh c.in_ok-reader.ensures.waits;
}

pub returns-in-Err : goal.returns-in-Err
returns-in-Err g c =
    reading_fails c.readings_join.ensures c.readings_are_whole.ensures g.L.Listener.heard _ _ _ _ _
    _ _ _ _ c.pieces.invariant.reading c.in-Err.ensures.bytes
    c.in-Err.ensures.cause.failed c.stopped.ensures.stop c.stopped.ensures.ending

pub returns-then-n-eq0 : goal.returns-then-n-eq0
returns-then-n-eq0 g c =
    let cut = ap length c.truncate.ensures.items in
    let cut_len = length-take c.min.result c.pieces.buf.items in
    let few : c.pieces.total ≤ 268435456 = c.pieces.invariant.reading.within in
    let room = c.pieces.invariant.room in
    let len : length c.read_piece.new.buf.items ≡ min 65536 (268435457 - c.pieces.total) =
    omega (arith, cut, cut_len, c.min.ensures, c.in-Ok.ensures.len, few, room) in
    let some_room : 0 < length c.read_piece.new.buf.items = omega (arith, len, few) in
    let none : c.in-Ok.n ≡ 0 = c.if-n-eq0.true in
    let consumed = consumed_none (g.S.Source.tells c.pieces.input).bytes
    (g.S.Source.tells c.read_piece.new.input).bytes c.in-Ok.n c.read_piece.new.buf.items none
    c.in-Ok.ensures.bytes.0 in
    reading_ends c.readings_join.ensures c.readings_are_whole.ensures g.L.Listener.heard _ _ _ _ _ _
    _ _ _ c.pieces.invariant.reading consumed
    (c.in-Ok.ensures.bytes.1 none some_room) c.stopped-then-n-eq0.ensures.stop
    c.stopped-then-n-eq0.ensures.ending

pub returns-then-wanted-n : goal.returns-then-wanted-n
returns-then-wanted-n g c =
    let cut = ap length c.truncate.ensures.items in
    let cut_len = length-take c.min.result c.pieces.buf.items in
    let few : c.pieces.total ≤ 268435456 = c.pieces.invariant.reading.within in
    let room = c.pieces.invariant.room in
    let len : length c.read_piece.new.buf.items ≡ min 65536 (268435457 - c.pieces.total) =
    omega (arith, cut, cut_len, c.min.ensures, c.in-Ok.ensures.len, few, room) in
    let buf = c.read_piece.new.buf.items in
    let n = c.in-Ok.n in
    let wanted = c.min-wanted.result in
    let bound : n ≤ length buf = c.in-Ok.ensures.bound in
    let less : wanted < n = c.if-wanted-n.true in
    let is : wanted ≡ min n (268435456 - c.pieces.total) = c.min-wanted.ensures in
    let piece_len : length (take n buf) ≡ n = length-take-le n buf bound in
    let shorter : take wanted (take n buf) ≡ take wanted buf =
    take_shorter wanted n buf (omega (arith, less)) bound in
    let hearing = rw c.as_slice.ensures.value at c.in_ok-hear_piece.ensures.heard in
    reading_much c.readings_join.ensures c.readings_are_whole.ensures g.L.Listener.heard _ _ _
    c.pieces.total wanted (take n buf) _ _ _ _ _ _ _ c.pieces.invariant.reading
    c.in-Ok.ensures.bytes.0 (omega (arith, piece_len, len, bound, less, is, few))
    (omega (arith, len, bound, less, is, few))
    c.stopped-then-wanted-n.ensures.stop (rw (← shorter) at hearing)
    c.in_ok-hear_piece.ensures.waits c.stopped-then-wanted-n.ensures.ending

pub pieces-preserved : goal.pieces-preserved
pieces-preserved g c =
    let cut = ap length c.truncate.ensures.items in
    let cut_len = length-take c.min.result c.pieces.buf.items in
    let few : c.pieces.total ≤ 268435456 = c.pieces.invariant.reading.within in
    let room = c.pieces.invariant.room in
    let len : length c.read_piece.new.buf.items ≡ min 65536 (268435457 - c.pieces.total) =
    omega (arith, cut, cut_len, c.min.ensures, c.in-Ok.ensures.len, few, room) in
    let buf = c.read_piece.new.buf.items in
    let n = c.in-Ok.n in
    let wanted = c.min-wanted.result in
    let bound : n ≤ length buf = c.in-Ok.ensures.bound in
    let all : n ≤ wanted = c.if-wanted-n.false in
    let is : wanted ≡ min n (268435456 - c.pieces.total) = c.min-wanted.ensures in
    let same : wanted ≡ n = omega (arith, all, is) in
    let piece_len : length (take n buf) ≡ n = length-take-le n buf bound in
    let hearing = rw (c.as_slice.ensures.value, same) at c.in_ok-hear_piece.ensures.heard in
    record {
      room = omega (arith, len, bound, few);
      reading = reading_more c.readings_join.ensures c.readings_are_whole.ensures g.L.Listener.heard
          _ _ _ c.pieces.total n (take n buf) _ _ _ _ _ c.pieces.invariant.reading
          c.in-Ok.ensures.bytes.0 piece_len (omega (arith, all, is, few))
          c.in-Ok.ensures.cause.later hearing c.in_ok-hear_piece.ensures.waits;
    }
