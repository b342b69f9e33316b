use Rattle.std.proofs.Common.{rules, ◌≡◌, ◌<◌, ℕ, length, get_or, sym, ◌∙◌, arith}
use Rattle.same_bytes.proofs.Words.{AreBytes, decided}
use Rattle.same_bytes.proofs.same_bytes.Goals as goal

pub returns : goal.returns
returns c =
    let xs = c.args.a.now in
    let ys = c.args.b.now in
    let long : length xs ≡ 32 = c.told-a in
    let long_other : length ys ≡ 32 = c.told-b in
    let bytes : AreBytes xs = λ i. omega (arith, c.fits-a i) in
    let bytes_other : AreBytes ys = λ i. omega (arith, c.fits-b i) in
    decided xs ys c.word_at-7.result c.word_at-8.result long long_other bytes bytes_other
    (sym c.word_at.ensures ∙ c.if-word_at.false ∙ c.word_at-2.ensures)
    (sym c.word_at-3.ensures ∙ c.if-word_at-2.false ∙ c.word_at-4.ensures)
    (sym c.word_at-5.ensures ∙ c.if-word_at-3.false ∙ c.word_at-6.ensures)
    c.word_at-7.ensures c.word_at-8.ensures
