use Rattle.std.proofs.Common.{[], take, sym, arith}
use Rattle.request_frames.proofs.Stages.{begins, begins_anew}
use Rattle.request_frames.proofs.reader.Reader.hear.Goals as goal

pub invariant_of-self : goal.invariant_of-self
invariant_of-self c = record {
  sound = (rw c.clear.ensures.items begins, omega (arith, c.clear.ensures.len));
  room = omega (arith, c.clear.ensures.capacity, c.self.invariant.room);
}

pub returns-in-Whole-clause-reads : goal.returns-in-Whole-clause-reads
returns-in-Whole-clause-reads c = λ held stands.
    begins_anew held (take c.hear_head-in-Whole.result.used c.args.piece.now) c.self.inside.front.items c.self.inside.kept.items c.self.inside.at c.in-Whole.field-0 c.in-Whole.field-1
    c.args.self.now c.hear_head-in-Whole.result.next c.hear_head-in-Whole.new.self c.self.view_is c.in-Whole.is stands
    (c.hear_head-in-Whole.ensures.reads [] (sym c.clear.ensures.items, rw c.clear.ensures.items begins))
