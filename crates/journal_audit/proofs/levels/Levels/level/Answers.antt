use Rattle.std.proofs.Common.{sym, ap, ◌∙◌, Option, unwrap_or}
use Rattle.sync_rules.specs.declared.entries.Level.{Level}
use Rattle.sync_rules.specs.declared.entries.Level.TheVariants as level
use Rattle.sync_rules.specs.Facts.{LevelMap, level_at}
use Rattle.sync_rules.proofs.ScanLaws.{pair_total}
use Rattle.journal_audit.proofs.Maps.{got}
use Rattle.journal_audit.proofs.levels.Levels.level.Goals as goal

pub returns-in-Some : goal.returns-in-Some
returns-in-Some c =
    ap (λ (o : Option Level). unwrap_or o level.Invisible) (c.in-Some.ensures.value
    ∙ sym (got pair_total c.self.inside.levels.entries (c.args.contact, c.args.group.now)))
    ∙ ap (λ (levels : LevelMap). level_at levels c.args.contact c.args.group.now) c.self.view_is

pub returns-in-None : goal.returns-in-None
returns-in-None c =
    ap (λ (o : Option Level). unwrap_or o level.Invisible) (c.in-None.ensures.value
    ∙ sym (got pair_total c.self.inside.levels.entries (c.args.contact, c.args.group.now)))
    ∙ ap (λ (levels : LevelMap). level_at levels c.args.contact c.args.group.now) c.self.view_is
