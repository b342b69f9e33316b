use Rattle.std.proofs.Common.{ap, ◌∙◌}
use Rattle.std.specs.Cmp.{nat_cmp_total}
use Rattle.std.specs.FinMap as fin_map
use Rattle.sync_rules.specs.Facts.{Wants}
use Rattle.journal_audit.proofs.Maps.{map_put}
use Rattle.journal_audit.proofs.wants.Wants.put.Goals as goal

pub returns : goal.returns
returns c =
    map_put nat_cmp_total fin_map.nat_cmp-IsAntisymmetric c.self.inside.wants.entries c.insert.new.self.entries c.args.contact c.args.ids
    c.in_ok-insert.ensures.updates.0
    ∙ ap (λ (wants : Wants). fin_map.insert wants c.args.contact c.args.ids) c.self.view_is
