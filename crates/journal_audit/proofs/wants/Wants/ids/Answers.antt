use Rattle.std.proofs.Common.{List, sym, ap, ◌∙◌, Option, unwrap_or, []}
use Rattle.std.specs.Cmp.{nat_cmp_total}
use Rattle.sync_rules.specs.Facts.{Wants, wanted_from, Id}
use Rattle.journal_audit.proofs.Maps.{got}
use Rattle.journal_audit.proofs.wants.Wants.ids.Goals as goal

pub returns-in-Some-clause-value : goal.returns-in-Some-clause-value
returns-in-Some-clause-value c =
    c.as_slice.ensures.value ∙ (c.wanted.view_is
    ∙ (ap (λ (o : Option (List Id)). unwrap_or o []) (c.in-Some.ensures.value
    ∙ sym (got nat_cmp_total c.self.inside.wants.entries c.args.contact))
    ∙ ap (λ (wants : Wants). wanted_from wants c.args.contact) c.self.view_is))

pub returns-in-None-clause-value : goal.returns-in-None-clause-value
returns-in-None-clause-value c =
    ap (λ (o : Option (List Id)). unwrap_or o []) (c.in-None.ensures.value
    ∙ sym (got nat_cmp_total c.self.inside.wants.entries c.args.contact))
    ∙ ap (λ (wants : Wants). wanted_from wants c.args.contact) c.self.view_is
