use Rattle.std.proofs.Common.{◌≡◌, ℕ, List, [], ◌++◌, ap, ◌∙◌}
use Rattle.std.specs.String.{string_bytes}
use Rattle.mailbox_commands.specs.Taking.{outcome_at, taken_text}
use Rattle.mailbox_commands.proofs.Taken.{prints_end, prints_failed}
use Rattle.mailbox_commands.proofs.taking.print_end.Goals as goal

pub returns-in_err-print_line : goal.returns-in_err-print_line
returns-in_err-print_line g c =
    let empty : string_bytes c.new-line.result ≡ [] = c.new-line.ensures.bytes in
    prints_failed c.from_residual-in_err-print_line.result c.in_err-print_line.field-0.0
    c.from_residual-in_err-print_line.ensures.1 (outcome_at c.args.end.ending)
    (taken_text c.args.end.taken)
    c.as_bytes.result.now _ _
    (c.as_bytes.ensures.value ∙ c.in_ok-taken_line.ensures
    ∙ ap (λ (z : List ℕ). z ++ taken_text c.args.end.taken) empty)
    c.in_err-print_line.ensures

pub returns : goal.returns
returns g c =
    let empty : string_bytes c.new-line.result ≡ [] = c.new-line.ensures.bytes in
    prints_end c.args.end.ending (taken_text c.args.end.taken) c.as_bytes.result.now
    (g.W.Sink.tells c.args.out.now) (g.W.Sink.tells c.print_line.new.out) _ c.ended.ensures
    (c.as_bytes.ensures.value ∙ c.in_ok-taken_line.ensures
    ∙ ap (λ (z : List ℕ). z ++ taken_text c.args.end.taken) empty)
    c.in_ok-print_line.ensures
