use Rattle.std.proofs.Common.{◌≡◌, List, ℕ, true, false, arith, sym, ap, ◌∙◌, lt-ltb}
use Rattle.std.specs.Prelude.{Some, nat_lt}
use Rattle.std.specs.Str.{is_utf8}
use Rattle.std.proofs.lemmas.Str.{IsUtf8-from_is_utf8, is_utf8-from_IsUtf8}
use Rattle.std.proofs.lemmas.Bool.{false_from_ne_true}
use Rattle.entry_codec.proofs.ReadSteps.{name_read}
use Rattle.entry_codec.proofs.values.read_name.Goals as goal

pub returns-in-Ok-clause-read : goal.returns-in-Ok-clause-read
returns-in-Ok-clause-read c =
    let some : nat_lt 0 c.in_ok-len.len ≡ true = lt-ltb 0 c.in_ok-len.len (omega (arith, c.if-len-eq0.false)) in
    name_read c.args.front.now.rest.now c.read_byte.new.self.rest.now c.in_ok-read_front.field-0.now c.read_front.new.self.rest.now c.in_ok-len.len true
    c.in_ok-len.ensures some c.in_ok-read_front.ensures.read (is_utf8-from_IsUtf8 c.in_ok-read_front.field-0.now c.in-Ok.ensures.cases.1)
    ∙ ap (λ (b : List ℕ). Some (b, c.read_front.new.self.rest.now)) (sym c.in-Ok.ensures.cases.0)

pub returns-in-Err-clause-read : goal.returns-in-Err-clause-read
returns-in-Err-clause-read c =
    let some : nat_lt 0 c.in_ok-len.len ≡ true = lt-ltb 0 c.in_ok-len.len (omega (arith, c.if-len-eq0.false)) in
    name_read c.args.front.now.rest.now c.read_byte.new.self.rest.now c.in_ok-read_front.field-0.now c.read_front.new.self.rest.now c.in_ok-len.len false
    c.in_ok-len.ensures some c.in_ok-read_front.ensures.read
    (false_from_ne_true (is_utf8 c.in_ok-read_front.field-0.now) (λ t. c.in-Err.ensures.cases.0 (IsUtf8-from_is_utf8 c.in_ok-read_front.field-0.now t)))
