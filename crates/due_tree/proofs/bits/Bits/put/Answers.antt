use Rattle.std.proofs.Common.{◌≡◌, ℕ, ◌+◌, ◌*◌, ◌/◌, ◌%◌, ◌<◌, List, Bool, Option, None, length, set, vec_len, sym, ap, subst, ◌∙◌, arith, rules}
use Rattle.due_tree.specs.Sets.{word_at, mark, AreBits}
use Rattle.due_tree.proofs.Sets.{place_within, word_within, read_word, OtherBits, put_places, put_bits}
use Rattle.due_tree.proofs.bits.Bits.put.Goals as goal

pub index-old-requires : goal.index-old-requires
index-old-requires c =
    let q = c.self.inside in
    let many : vec_len q.words ≡ length q.words.items = search rules in
    let h = place_within q.words.items q.len c.args.place c.args.self.now c.self.view_is c.requires in
    omega (arith, many, word_within q.len q.words.items q.filled c.self.invariant c.args.place h)

pub index_mut-requires : goal.index_mut-requires
index_mut-requires c =
    let q = c.self.inside in
    let many : vec_len q.words ≡ length q.words.items = search rules in
    let h = place_within q.words.items q.len c.args.place c.args.self.now c.self.view_is c.requires in
    omega (arith, many, word_within q.len q.words.items q.filled c.self.invariant c.args.place h)

pub remark-requires-clause-within : goal.remark-requires-clause-within
remark-requires-clause-within c =
    let q = c.self.inside in
    let h = place_within q.words.items q.len c.args.place c.args.self.now c.self.view_is c.requires in
    omega (arith, c.self.invariant.room, word_within q.len q.words.items q.filled c.self.invariant c.args.place h)

pub remark-requires-clause-marked : goal.remark-requires-clause-marked
remark-requires-clause-marked c =
    let q = c.self.inside in
    let h = place_within q.words.items q.len c.args.place c.args.self.now c.self.view_is c.requires in
    let within = word_within q.len q.words.items q.filled c.self.invariant c.args.place h in
    c.self.invariant.marked (c.args.place / 64) ∙ ap mark (sym (read_word q.words.items (c.args.place / 64) c.index-old.result.now within c.index-old.ensures))

pub invariant_of-self : goal.invariant_of-self
invariant_of-self c =
    let q = c.self.inside in
    let k = c.args.place / 64 in
    let h = place_within q.words.items q.len c.args.place c.args.self.now c.self.view_is c.requires in
    let within = word_within q.len q.words.items q.filled c.self.invariant c.args.place h in
    let others : OtherBits c.with_bit-new.result (word_at q.words.items k) (c.args.place % 64) =
    subst (λ w. OtherBits c.with_bit-new.result w (c.args.place % 64)) (read_word q.words.items k c.index-old.result.now within c.index-old.ensures) c.with_bit-new.ensures.others in
    subst (λ (f : List (Option ℕ)). AreBits q.len (set q.words.items k c.with_bit-new.result) f) (sym c.remark.ensures)
    (put_bits q.len q.words.items q.filled c.self.invariant c.args.place c.with_bit-new.result c.args.is_set h c.with_bit-new.ensures.here others)

pub returns : goal.returns
returns c =
    let q = c.self.inside in
    let k = c.args.place / 64 in
    let h = place_within q.words.items q.len c.args.place c.args.self.now c.self.view_is c.requires in
    let within = word_within q.len q.words.items q.filled c.self.invariant c.args.place h in
    let others : OtherBits c.with_bit-new.result (word_at q.words.items k) (c.args.place % 64) =
    subst (λ w. OtherBits c.with_bit-new.result w (c.args.place % 64)) (read_word q.words.items k c.index-old.result.now within c.index-old.ensures) c.with_bit-new.ensures.others in
    put_places q.len q.words.items q.filled c.self.invariant c.args.place c.with_bit-new.result c.args.is_set h c.with_bit-new.ensures.here others
    ∙ ap (λ (places : List Bool). set places c.args.place c.args.is_set) c.self.view_is
