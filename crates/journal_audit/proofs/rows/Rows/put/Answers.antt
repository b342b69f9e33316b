use Rattle.std.proofs.Common.{cond, ap, ◌∙◌}
use Rattle.std.specs.FinMap as fin_map
use Rattle.sync_rules.specs.Facts.{Pair, Rows}
use Rattle.sync_rules.proofs.ScanLaws.{pair_total}
use Rattle.journal_audit.proofs.Maps.{map_drop, map_put, pair_same}
use Rattle.journal_audit.proofs.rows.Rows.put.Goals as goal

pub returns-then-is_none : goal.returns-then-is_none
returns-then-is_none c =
    let pair : Pair = (c.args.contact, c.args.id) in
    map_drop pair_total pair_same c.self.inside.rows.entries c.remove.new.self.entries pair c.remove.ensures.updates.0
    ∙ ap (λ (rows : Rows). fin_map.remove rows pair) c.self.view_is
    ∙ ap (λ b. cond b (fin_map.remove c.args.self.now pair) (fin_map.insert c.args.self.now pair c.args.row)) c.if-is_none.ensures

pub returns : goal.returns
returns c =
    let pair : Pair = (c.args.contact, c.args.id) in
    map_put pair_total pair_same c.self.inside.rows.entries c.insert.new.self.entries pair c.args.row c.in_ok-insert.ensures.updates.0
    ∙ ap (λ (rows : Rows). fin_map.insert rows pair c.args.row) c.self.view_is
    ∙ ap (λ b. cond b (fin_map.remove c.args.self.now pair) (fin_map.insert c.args.self.now pair c.args.row)) c.if-is_none.ensures
