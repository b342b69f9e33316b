use Rattle.std.proofs.Common.{◌≡◌, ◌<◌, length, sym, ap, subst}
use Rattle.std.specs.Prelude.{IfSome}
use Rattle.tree_commands.specs.Threads.{ThreadValue}
use Rattle.tree_commands.proofs.Numbers.{found_earlier}
use Rattle.tree_commands.proofs.thread.Thread.parent.Goals as goal

pub returns-in-Some-clause-earlier : goal.returns-in-Some-clause-earlier
returns-in-Some-clause-earlier c =
    let held : length c.self.inside.places.items ≡ c.args.self.now.held =
    ap (λ (t : ThreadValue). t.held) c.self.view_is in
    let within : c.in-Some.m < length c.self.inside.places.items =
    subst (λ k. c.in-Some.m < k) (sym held) (subst (λ o. IfSome o (λ m. m < c.args.self.now.held))
    c.in-Some.is c.requires.replied) in
    subst (λ (ps : ThreadValue). IfSome c.index.result.now (λ p. p < length ps.parents))
    c.self.view_is
    (found_earlier c.self.inside.numbers.items c.self.inside.replies c.self.inside.places.items
    c.in-Some.m c.index.result.now c.self.invariant within c.index.ensures)
