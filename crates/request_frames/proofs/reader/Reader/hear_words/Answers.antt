use Rattle.std.proofs.Common.{◌≡◌, ◌++◌, length, take, vec_len, sym, ap, ◌∙◌, arith, rules, length-take-le}
use Rattle.request_frames.specs.Requests.{are_words}
use Rattle.request_frames.proofs.Stages.{words_refused, words_state, words_whole}
use Rattle.request_frames.proofs.reader.Reader.hear_words.Goals as goal

pub returns-then-not-are_words-clause-reads : goal.returns-then-not-are_words-clause-reads
returns-then-not-are_words-clause-reads c = λ held stands.
    let s = words_state c.self.inside.front.items c.self.inside.kept.items held c.self.inside.at c.args.self.now c.args.head c.self.view_is c.requires stands in
    let many : vec_len c.self.inside.front ≡ length c.self.inside.front.items = search rules in
    let now : c.extend.new.to.items ≡ c.self.inside.front.items ++ take c.min-count.result c.args.piece.now = grind (arith, c.extend.ensures.items) in
    let part : length (take c.min-count.result c.args.piece.now) ≡ c.min-count.result = length-take-le c.min-count.result c.args.piece.now (omega (arith, c.min-count.ensures)) in
    let len : length c.extend.new.to.items ≡ c.args.head.words = omega (arith, s.short, c.as_slice.ensures.len, ap length c.as_slice.ensures.value, c.extend.ensures.len, c.min-count.ensures, c.len.ensures, c.len-2.ensures) in
    words_refused held c.self.inside.front.items c.args.piece.now c.extend.new.to.items c.min-count.result c.args.head s now len
    (ap are_words (sym c.as_slice.ensures.value) ∙ sym c.are_words.ensures ∙ c.if-not-are_words.true)

pub returns-clause-reads : goal.returns-clause-reads
returns-clause-reads c = λ held stands.
    let s = words_state c.self.inside.front.items c.self.inside.kept.items held c.self.inside.at c.args.self.now c.args.head c.self.view_is c.requires stands in
    let many : vec_len c.self.inside.front ≡ length c.self.inside.front.items = search rules in
    let now : c.extend.new.to.items ≡ c.self.inside.front.items ++ take c.min-count.result c.args.piece.now = grind (arith, c.extend.ensures.items) in
    let part : length (take c.min-count.result c.args.piece.now) ≡ c.min-count.result = length-take-le c.min-count.result c.args.piece.now (omega (arith, c.min-count.ensures)) in
    let len : length c.extend.new.to.items ≡ c.args.head.words = omega (arith, s.short, c.as_slice.ensures.len, ap length c.as_slice.ensures.value, c.extend.ensures.len, c.min-count.ensures, c.len.ensures, c.len-2.ensures) in
    words_whole held c.self.inside.front.items c.args.piece.now c.extend.new.to.items c.min-count.result c.args.head s now len
    (ap are_words (sym c.as_slice.ensures.value) ∙ sym c.are_words.ensures ∙ c.if-not-are_words.false)
