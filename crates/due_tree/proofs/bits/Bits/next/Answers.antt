use Rattle.std.proofs.Common.{◌≡◌, ℕ, ◌+◌, ◌*◌, ◌/◌, ◌%◌, ◌^◌, ◌<◌, List, Bool, length, vec_len, sym, ap, subst, ◌∙◌, arith, rules}
use Rattle.std.specs.Int.{bit_at}
use Rattle.due_tree.specs.Sets.{next_set, word_at}
use Rattle.due_tree.proofs.Sets.{word_within, read_word, set_none, set_here, none_behind, some_word, word_there, set_behind}
use Rattle.due_tree.proofs.bits.Bits.next.Goals as goal

pub returns-then-from-self : goal.returns-then-from-self
returns-then-from-self c =
    let q = c.self.inside in
    set_none q.len q.words.items q.filled c.self.invariant c.args.from (λ k low. c.self.invariant.clear k (omega arith))
    ∙ ap (λ (places : List Bool). next_set c.args.from places) c.self.view_is

pub returns-then-rest-ne0 : goal.returns-then-rest-ne0
returns-then-rest-ne0 c =
    let q = c.self.inside in
    let k = c.args.from / 64 in
    let r = c.args.from % 64 in
    let read = read_word q.words.items k c.index.result.now (word_within q.len q.words.items q.filled c.self.invariant c.args.from c.if-from-self.false) c.index.ensures in
    let fits : c.index.result.now < 2 ^ 64 = search rules in
    set_here q.len q.words.items q.filled c.self.invariant c.args.from c.lowest.result (subst (λ w. w < 2 ^ 64) read fits)
    (subst (λ w. bit_at (w / 2 ^ r) c.lowest.result ≡ 1) read c.lowest.ensures.here)
    (subst (λ w. (other : ℕ) → other < c.lowest.result → bit_at (w / 2 ^ r) other ≡ 0) read c.lowest.ensures.before)
    ∙ ap (λ (places : List Bool). next_set c.args.from places) c.self.view_is

pub returns-in_err-word : goal.returns-in_err-word
returns-in_err-word c =
    let q = c.self.inside in
    let k = c.args.from / 64 in
    let read = read_word q.words.items k c.index.result.now (word_within q.len q.words.items q.filled c.self.invariant c.args.from c.if-from-self.false) c.index.ensures in
    let rest : word_at q.words.items k / 2 ^ (c.args.from % 64) ≡ 0 = subst (λ w. w / 2 ^ (c.args.from % 64) ≡ 0) read c.if-rest-ne0.false in
    c.from_residual.ensures ∙ none_behind q.len q.words.items q.filled c.self.invariant c.args.from rest c.in_err-word.ensures
    ∙ ap (λ (places : List Bool). next_set c.args.from places) c.self.view_is

pub overflow_mul-result : goal.overflow_mul-result
overflow_mul-result c =
    let q = c.self.inside in
    let k = c.args.from / 64 in
    let read = read_word q.words.items k c.index.result.now (word_within q.len q.words.items q.filled c.self.invariant c.args.from c.if-from-self.false) c.index.ensures in
    let rest : word_at q.words.items k / 2 ^ (c.args.from % 64) ≡ 0 = subst (λ w. w / 2 ^ (c.args.from % 64) ≡ 0) read c.if-rest-ne0.false in
    omega (arith, c.self.invariant.small, word_there q.len q.words.items q.filled c.self.invariant c.args.from rest c.in_ok-word.word c.in_ok-word.ensures)

pub index-requires-2 : goal.index-requires-2
index-requires-2 c =
    let q = c.self.inside in
    let k = c.args.from / 64 in
    let many : vec_len q.words ≡ length q.words.items = search rules in
    let read = read_word q.words.items k c.index.result.now (word_within q.len q.words.items q.filled c.self.invariant c.args.from c.if-from-self.false) c.index.ensures in
    let rest : word_at q.words.items k / 2 ^ (c.args.from % 64) ≡ 0 = subst (λ w. w / 2 ^ (c.args.from % 64) ≡ 0) read c.if-rest-ne0.false in
    omega (arith, many, word_there q.len q.words.items q.filled c.self.invariant c.args.from rest c.in_ok-word.word c.in_ok-word.ensures)

pub lowest-requires-2 : goal.lowest-requires-2
lowest-requires-2 c =
    let q = c.self.inside in
    let k = c.args.from / 64 in
    let word = c.in_ok-word.word in
    let read = read_word q.words.items k c.index.result.now (word_within q.len q.words.items q.filled c.self.invariant c.args.from c.if-from-self.false) c.index.ensures in
    let rest : word_at q.words.items k / 2 ^ (c.args.from % 64) ≡ 0 = subst (λ w. w / 2 ^ (c.args.from % 64) ≡ 0) read c.if-rest-ne0.false in
    let there = word_there q.len q.words.items q.filled c.self.invariant c.args.from rest word c.in_ok-word.ensures in
    let second = read_word q.words.items word c.index-2.result.now there c.index-2.ensures in
    λ zero. some_word q.len q.words.items q.filled c.self.invariant c.args.from rest word c.in_ok-word.ensures (sym second ∙ zero)

pub overflow_add-result-2 : goal.overflow_add-result-2
overflow_add-result-2 c =
    let q = c.self.inside in
    let k = c.args.from / 64 in
    let read = read_word q.words.items k c.index.result.now (word_within q.len q.words.items q.filled c.self.invariant c.args.from c.if-from-self.false) c.index.ensures in
    let rest : word_at q.words.items k / 2 ^ (c.args.from % 64) ≡ 0 = subst (λ w. w / 2 ^ (c.args.from % 64) ≡ 0) read c.if-rest-ne0.false in
    omega (arith, c.lowest-2.ensures.within, c.self.invariant.small, word_there q.len q.words.items q.filled c.self.invariant c.args.from rest c.in_ok-word.word c.in_ok-word.ensures)

pub returns : goal.returns
returns c =
    let q = c.self.inside in
    let k = c.args.from / 64 in
    let word = c.in_ok-word.word in
    let read = read_word q.words.items k c.index.result.now (word_within q.len q.words.items q.filled c.self.invariant c.args.from c.if-from-self.false) c.index.ensures in
    let rest : word_at q.words.items k / 2 ^ (c.args.from % 64) ≡ 0 = subst (λ w. w / 2 ^ (c.args.from % 64) ≡ 0) read c.if-rest-ne0.false in
    let there = word_there q.len q.words.items q.filled c.self.invariant c.args.from rest word c.in_ok-word.ensures in
    let second = read_word q.words.items word c.index-2.result.now there c.index-2.ensures in
    set_behind q.len q.words.items q.filled c.self.invariant c.args.from rest word c.in_ok-word.ensures c.lowest-2.result c.lowest-2.ensures.within
    (subst (λ w. bit_at w c.lowest-2.result ≡ 1) second c.lowest-2.ensures.here)
    (subst (λ w. (other : ℕ) → other < c.lowest-2.result → bit_at w other ≡ 0) second c.lowest-2.ensures.before)
    ∙ ap (λ (places : List Bool). next_set c.args.from places) c.self.view_is
