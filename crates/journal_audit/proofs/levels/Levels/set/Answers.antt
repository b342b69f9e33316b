use Rattle.std.proofs.Common.{sym, ap, ◌∙◌}
use Rattle.std.specs.FinMap as fin_map
use Rattle.sync_rules.specs.Facts.{LevelMap, put_level}
use Rattle.sync_rules.proofs.ScanLaws.{pair_total}
use Rattle.journal_audit.proofs.Maps.{level_put, map_drop, map_put, pair_same}
use Rattle.journal_audit.proofs.levels.Levels.set.Goals as goal

pub returns-in-Invisible : goal.returns-in-Invisible
returns-in-Invisible c =
    map_drop pair_total pair_same c.self.inside.levels.entries c.remove.new.self.entries (c.args.contact, c.args.group) c.remove.ensures.updates.0
    ∙ ap (λ (levels : LevelMap). fin_map.remove levels (c.args.contact, c.args.group)) c.self.view_is
    ∙ ap (put_level c.args.self.now (c.args.contact, c.args.group)) (sym c.in-Invisible.is)

pub returns-in_ok-insert-in-Visible : goal.returns-in_ok-insert-in-Visible
returns-in_ok-insert-in-Visible c =
    map_put pair_total pair_same c.self.inside.levels.entries c.insert.new.self.entries (c.args.contact, c.args.group) c.args.level
    c.in_ok-insert-in-Visible.ensures.updates.0
    ∙ ap (λ (levels : LevelMap). fin_map.insert levels (c.args.contact, c.args.group) c.args.level) c.self.view_is
    ∙ level_put c.args.self.now (c.args.contact, c.args.group) c.args.level c.in-Visible.is
