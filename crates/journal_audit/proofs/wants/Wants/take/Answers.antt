use Rattle.std.proofs.Common.{sym, ap, ◌∙◌, Option, unwrap_or, List, []}
use Rattle.std.specs.Cmp.{nat_cmp_total}
use Rattle.std.specs.FinMap as fin_map
use Rattle.sync_rules.specs.Facts.{Wants, wanted_from, Id}
use Rattle.journal_audit.proofs.Maps.{got, map_drop}
use Rattle.journal_audit.proofs.wants.Wants.take.Goals as goal

pub returns-clause-ids : goal.returns-clause-ids
returns-clause-ids c =
    c.ids_or.ensures
    ∙ (ap (λ (o : Option (List Id)). unwrap_or o []) (c.remove-found.ensures.value
    ∙ sym (got nat_cmp_total c.self.inside.wants.entries c.args.contact))
    ∙ ap (λ (wants : Wants). wanted_from wants c.args.contact) c.self.view_is)

pub returns-clause-rest : goal.returns-clause-rest
returns-clause-rest c =
    map_drop nat_cmp_total fin_map.nat_cmp-IsAntisymmetric c.self.inside.wants.entries c.remove-found.new.self.entries c.args.contact
    c.remove-found.ensures.updates.0
    ∙ ap (λ (wants : Wants). fin_map.remove wants c.args.contact) c.self.view_is
