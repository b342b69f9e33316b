use Rattle.std.proofs.Common.{List, ℕ, [], ◌∷◌, ◌++◌, Option, ◌&&◌, ◌||◌, nat_eq, ap, ◌∙◌}
use Rattle.sync_rules.specs.Lists.{same_id}
use Rattle.journal_audit.specs.Sleeping.{SleeperLists, is_in, is_under}
use Rattle.journal_audit.proofs.Sleeps.{under_added}
use Rattle.journal_audit.proofs.sleepers.Sleepers.add.Goals as goal

pub returns : goal.returns
returns c i n =
    under_added c.self.inside.beds.entries c.remove-found.new.self.entries c.insert.new.self.entries c.args.id c.args.number c.bed_or-bed.result c.push.new.self.items
    c.remove-found.ensures.updates.0 c.in_ok-insert.ensures.updates.0
    (λ m. c.bed_or-bed.ensures m ∙ ap (λ (o : Option (List ℕ)). is_in o m) c.remove-found.ensures.value)
    (c.in_ok-push.ensures.items ∙ ap (λ (ns : List ℕ). ns ++ c.args.number ∷ []) c.bed.view_is) i n
    ∙ ap (λ (s : SleeperLists). (same_id c.args.id i && nat_eq c.args.number n) || is_under s i n) c.self.view_is
