use Rattle.std.proofs.Common.{◌≡◌, ℕ, ◌&&◌, ◌∙◌, arith}
use Rattle.std.specs.Prelude.{nat_le}
use Rattle.request_frames.proofs.Numbers.{number_no_parse, number_parsed}
use Rattle.request_frames.proofs.head.spelled_number.Goals as goal
use Rattle.request_frames.proofs.head.spelled_number.Goals.{then-is_spelled, else-is_spelled}

pub returns-in-Err : goal.returns-in-Err
returns-in-Err c = number_no_parse c.args.most c.args.word.now c.in-Err.field-0 (omega arith) c.in-Err.ensures.value.0

pub returns-after-is_spelled : goal.returns-after-is_spelled
returns-after-is_spelled c =
    let both : c.if-is_spelled.then_some ≡ (c.eq-is_spelled.result && nat_le c.in-Ok.number c.args.most) = elim c.if-is_spelled.branch [
      | then-is_spelled w ↦ rw w.if-is_spelled.true w.then_some-is
      | else-is_spelled w ↦ rw w.if-is_spelled.false (w.then_some-is ∙ w.if-is_spelled.false)
    ] in
    c.then_some.ensures ∙ rw both
    (number_parsed ℕ c.args.most c.args.word.now c.format.result.now c.in-Ok.number c.eq-is_spelled.result (omega arith) c.in-Ok.ensures.value.0 c.format.ensures.text c.eq-is_spelled.ensures)
