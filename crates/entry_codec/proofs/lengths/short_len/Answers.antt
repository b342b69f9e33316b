use Rattle.std.proofs.Common.{[], arith}
use Rattle.entry_codec.proofs.Bounds.{saved, short_some}
use Rattle.entry_codec.proofs.lengths.short_len.Goals as goal

pub overflow_mul-result : goal.overflow_mul-result
overflow_mul-result c =
    omega (arith, saved [] c.args.entry.now c.named_count.ensures.whole, c.named_count.ensures.count, c.whole_len.ensures.value, c.whole_len.ensures.few)

pub overflow_sub-result : goal.overflow_sub-result
overflow_sub-result c = omega (arith, saved [] c.args.entry.now c.named_count.ensures.whole, c.named_count.ensures.count, c.whole_len.ensures.value)

pub returns-clause-value : goal.returns-clause-value
returns-clause-value c names = omega (arith, saved names c.args.entry.now c.named_count.ensures.whole, c.named_count.ensures.count, c.whole_len.ensures.value)

pub returns-clause-some : goal.returns-clause-some
returns-clause-some c =
    omega (arith, saved [] c.args.entry.now c.named_count.ensures.whole, c.named_count.ensures.count, c.whole_len.ensures.value, short_some [] c.args.entry.now)
