use Rattle.std.proofs.Common.{◌≡◌, ◌<◌, ◌∷◌, ◌++◌, [], length, sym, ap, subst, rules}
use Rattle.tree_commands.specs.Threads.{ThreadValue}
use Rattle.tree_commands.proofs.Numbers.{added_item}
use Rattle.tree_commands.proofs.thread.Thread.add.Goals as goal

pub invariant_of-self-2 : goal.invariant_of-self-2
invariant_of-self-2 c =
    let old = c.self.inside in
    let held : length old.places.items ≡ c.args.self.now.held =
    ap (λ (t : ThreadValue). t.held) c.self.view_is in
    let within : c.args.n < length old.places.items =
    subst (λ k. c.args.n < k) (sym held) c.requires.within in
    let pushed : c.push.new.self.items ≡ old.numbers.items ++ c.args.n ∷ [] = search rules in
    let added : c.add.new.self ≡ old.replies ++ c.parent-parent.result ∷ [] = search rules in
    added_item old.numbers.items c.push.new.self.items old.replies c.add.new.self old.places.items
    c.args.n c.in_ok-number.number c.parent-parent.result c.index.result.now
    c.or-place.result c.self.invariant within pushed added c.index.ensures c.or-place.ensures
    c.in_ok-number.ensures.number
