use Rattle.std.proofs.Common.{◌≡◌, ℕ, Bool, true, false, cond, sym, ap, ◌∙◌, w64}
use Rattle.std.proofs.lemmas.Nat.Bits.{bit_at_set_same, bit_at_set_other, bit_at_clear_same, bit_at_clear_other}
use Rattle.due_tree.proofs.bits.with_bit.Goals as goal

pub returns-then-is_set-clause-here : goal.returns-then-is_set-clause-here
returns-then-is_set-clause-here c = bit_at_set_same w64 c.args.word c.args.bit c.requires ∙ ap (λ (b : Bool). cond {A = ℕ} b 1 0) (sym c.if-is_set.true)

pub returns-then-is_set-clause-others : goal.returns-then-is_set-clause-others
returns-then-is_set-clause-others c = λ other small ne. bit_at_set_other w64 c.args.word c.args.bit c.requires other ne

pub returns-else-is_set-clause-here : goal.returns-else-is_set-clause-here
returns-else-is_set-clause-here c = bit_at_clear_same w64 c.args.word c.args.bit c.requires ∙ ap (λ (b : Bool). cond {A = ℕ} b 1 0) (sym c.if-is_set.false)

pub returns-else-is_set-clause-others : goal.returns-else-is_set-clause-others
returns-else-is_set-clause-others c = λ other small ne. bit_at_clear_other w64 c.args.word c.args.bit c.requires other small ne
