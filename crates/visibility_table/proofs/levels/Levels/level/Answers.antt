use Rattle.std.proofs.Common.{sym, ap, ◌∙◌, Option, unwrap_or}
use Rattle.sync_rules.specs.declared.entries.Level.{Level}
use Rattle.sync_rules.specs.declared.entries.Level.TheVariants as level
use Rattle.sync_rules.specs.Facts.{level_at}
use Rattle.visibility_table.specs.Table.{TableOfLevels}
use Rattle.visibility_table.proofs.Pairs.{kept_level}
use Rattle.visibility_table.proofs.levels.Levels.level.Goals as goal

pub returns-in-Some : goal.returns-in-Some
returns-in-Some c =
    ap (λ (o : Option Level). unwrap_or o level.Invisible) c.in-Some.ensures.value
    ∙ sym (kept_level c.self.inside.levels.entries c.args.contact c.args.group.now)
    ∙ ap (λ (t : TableOfLevels). level_at t.levels c.args.contact c.args.group.now) c.self.view_is

pub returns-in-None : goal.returns-in-None
returns-in-None c =
    ap (λ (o : Option Level). unwrap_or o level.Invisible) c.in-None.ensures.value
    ∙ sym (kept_level c.self.inside.levels.entries c.args.contact c.args.group.now)
    ∙ ap (λ (t : TableOfLevels). level_at t.levels c.args.contact c.args.group.now) c.self.view_is
