use Rattle.std.proofs.Common.{arith}
use Rattle.request_frames.proofs.Stages.{begins}
use Rattle.request_frames.proofs.reader.Reader.new.Goals as goal

pub invariant_of-result : goal.invariant_of-result
invariant_of-result c = record {
  sound = (rw c.in_ok-with_capacity.ensures.items begins, omega (arith, c.in_ok-with_capacity.ensures.len));
  room = omega (arith, c.in_ok-with_capacity.ensures.capacity);
}
