use Rattle.std.proofs.Common.{◌≡◌, ℕ, ◌+◌, ◌-◌, ◌*◌, ◌/◌, ◌≤◌, ◌++◌, List, Bool, false, length, replicate, vec_len, refl, sym, ap, subst, ◌∙◌, arith, rules}
use Rattle.std.proofs.lemmas.List.{take_all}
use Rattle.due_tree.specs.Sets.{places_from, AreBits}
use Rattle.due_tree.proofs.Sets.{places-kept, places-reserved, more_places, reserved_bits, reserved_places}
use Rattle.due_tree.proofs.bits.Bits.reserve.Goals as goal

pub returns-then-places-self-clause-ok : goal.returns-then-places-self-clause-ok
returns-then-places-self-clause-ok c =
    let q = c.self.inside in
    subst (λ (places : List Bool). places ≡ places ++ replicate (c.args.places - length places) false) c.self.view_is (places-kept q.words.items q.len c.args.places c.if-places-self.true)

pub invariant_of-self : goal.invariant_of-self
invariant_of-self c =
    let q = c.self.inside in
    let many : vec_len q.words ≡ length q.words.items = search rules in
    more_places q.len q.words.items q.filled c.self.invariant c.args.places (omega arith) (omega arith)

pub returns-then-words-len-clause-ok : goal.returns-then-words-len-clause-ok
returns-then-words-len-clause-ok c =
    let q = c.self.inside in
    subst (λ (places : List Bool). places_from q.words.items 0 c.args.places ≡ places ++ replicate (c.args.places - length places) false) c.self.view_is
    (places-reserved q.words.items q.words.items q.len c.args.places (omega arith) (λ place. refl) c.self.invariant.clear)

pub invariant_of-self-2 : goal.invariant_of-self-2
invariant_of-self-2 c =
    let q = c.self.inside in
    let count = c.args.places / 64 + 1 in
    let many : vec_len q.words ≡ length q.words.items = search rules in
    let few : length q.words.items ≤ count = omega arith in
    let is : c.resize.new.self.items ≡ q.words.items ++ replicate (count - length q.words.items) 0 =
    c.in_ok-resize.ensures.items ∙ (λ i. take_all count q.words.items few i ++ replicate (count - many i) 0) in
    reserved_bits q.len q.words.items q.filled c.self.invariant c.args.places count c.resize.new.self.items (omega arith) few is c.reserve.new.self c.in_ok-reserve.ensures.ok (omega arith) (omega arith)

pub returns-clause-ok : goal.returns-clause-ok
returns-clause-ok c =
    let q = c.self.inside in
    let count = c.args.places / 64 + 1 in
    let many : vec_len q.words ≡ length q.words.items = search rules in
    let few : length q.words.items ≤ count = omega arith in
    let is : c.resize.new.self.items ≡ q.words.items ++ replicate (count - length q.words.items) 0 =
    c.in_ok-resize.ensures.items ∙ (λ i. take_all count q.words.items few i ++ replicate (count - many i) 0) in
    subst (λ (places : List Bool). places_from c.resize.new.self.items 0 c.args.places ≡ places ++ replicate (c.args.places - length places) false) c.self.view_is
    (reserved_places q.len q.words.items q.filled c.self.invariant c.args.places count c.resize.new.self.items (omega arith) few is)
