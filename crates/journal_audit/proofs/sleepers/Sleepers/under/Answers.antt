use Rattle.std.proofs.Common.{List, ℕ, Option, Some, ap, ◌∙◌}
use Rattle.journal_audit.specs.Sleeping.{SleeperLists, is_in, is_under}
use Rattle.journal_audit.proofs.sleepers.Sleepers.under.Goals as goal

pub returns-in-Some : goal.returns-in-Some
returns-in-Some c n =
    ap (λ (numbers : List ℕ). is_in (Some numbers) n) (c.as_slice.ensures.value ∙ c.bed.view_is)
    ∙ (ap (λ (o : Option (List ℕ)). is_in o n) c.in-Some.ensures.value
    ∙ ap (λ (sleepers : SleeperLists). is_under sleepers c.args.id.now n) c.self.view_is)

pub returns-in-None : goal.returns-in-None
returns-in-None c n =
    ap (λ (o : Option (List ℕ)). is_in o n) c.in-None.ensures.value
    ∙ ap (λ (sleepers : SleeperLists). is_under sleepers c.args.id.now n) c.self.view_is
