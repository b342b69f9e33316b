use Rattle.std.proofs.Common.{◌≡◌, ◌+◌, ◌-◌, ◌≤◌, ℕ, length, drop, refl, ap, arith}
use Rattle.record_stream.proofs.Steps.{Held, feeds, moved}
use Rattle.record_stream.proofs.reader.Reader.feed.Goals as goal
use Rattle.record_stream.proofs.reader.Reader.feed.Goals.{then-self-gt0, else-self-gt0}

pub returns-clause-taken : goal.returns-clause-taken
returns-clause-taken c =
    let si = c.if-self-gt0.self-inside in
    let held : Held si.buffer.items si.start si.end si.place si.failed c.args.self.now = elim c.if-self-gt0.branch [
      | then-self-gt0 w ↦ rw w.self-inside-is
          (moved c.self.inside.buffer.items w.as_mut_slice.result.now w.copy_within.new.self c.self.inside.buffer.len c.self.inside.start c.self.inside.end c.self.inside.place c.self.inside.failed
          c.args.self.now c.self.view_is w.as_mut_slice.ensures.value w.as_mut_slice.ensures.len w.copy_within.ensures.len w.copy_within.ensures.after c.self.invariant.ordered
          (omega (arith, c.self.invariant.whole, c.self.invariant.within)) c.self.invariant.whole)
      | else-self-gt0 w ↦ rw w.self-inside-is (record { view = c.self.view_is; ordered = c.self.invariant.ordered; within = omega (arith, c.self.invariant.whole, c.self.invariant.within); whole = c.self.invariant.whole })
    ] in
    let at : si.end ≡ c.self.inside.end - c.self.inside.start = elim c.if-self-gt0.branch [
      | then-self-gt0 w ↦ rw w.self-inside-is refl
      | else-self-gt0 w ↦ rw w.self-inside-is (omega (arith, w.if-self-gt0.false))
    ] in
    let room : si.end + c.min-count.result ≤ length si.buffer.items =
    omega (arith, at, held.whole, c.self.invariant.ordered, c.self.invariant.within, c.min-count.ensures) in
    let width : si.end + c.min-count.result - si.end ≡ c.min-count.result = omega arith in
    feeds si.buffer.items c.as_mut_slice-2.result.now c.copy_from_slice.new.self _ c.args.piece.now si.buffer.len si.start si.end si.place c.min-count.result si.failed c.args.self.now
    held c.as_mut_slice-2.ensures.value c.as_mut_slice-2.ensures.len c.copy_from_slice.ensures.after (omega (arith, c.min-count.ensures)) room
    (ap (λ (n : ℕ). drop n (drop si.end c.as_mut_slice-2.result.now)) width)
