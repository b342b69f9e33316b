use Rattle.std.proofs.Common.{false, cond, eqb, ap, ◌∙◌}
use Rattle.journal_audit.specs.Numbers.{has}
use Rattle.journal_audit.proofs.NumberSets.{has_put}
use Rattle.journal_audit.proofs.numbers.Numbers.remove.Goals as goal

pub returns : goal.returns
returns c n =
    has_put c.self.inside.set.keys c.remove.new.self.keys c.args.number false c.remove.ensures.updates.0 n
    ∙ ap (λ ns. cond (eqb n c.args.number) false (has ns n)) c.self.view_is
