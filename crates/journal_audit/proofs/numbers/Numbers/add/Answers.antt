use Rattle.std.proofs.Common.{true, cond, eqb, ap, ◌∙◌}
use Rattle.journal_audit.specs.Numbers.{has}
use Rattle.journal_audit.proofs.NumberSets.{has_put}
use Rattle.journal_audit.proofs.numbers.Numbers.add.Goals as goal

pub returns : goal.returns
returns c n =
    has_put c.self.inside.set.keys c.insert.new.self.keys c.args.number true c.in_ok-insert.ensures.updates.0 n
    ∙ ap (λ ns. cond (eqb n c.args.number) true (has ns n)) c.self.view_is
