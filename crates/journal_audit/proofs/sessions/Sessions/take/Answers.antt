use Rattle.std.proofs.Common.{◌≡◌, ◌+◌, ◌∙◌, rules}
use Rattle.std.specs.Cmp.{nat_cmp_total}
use Rattle.std.specs.FinMap as fin_map
use Rattle.sync_rules.specs.Facts.{takes_of}
use Rattle.journal_audit.proofs.Maps.{map_put}
use Rattle.journal_audit.proofs.sessions.Sessions.take.Goals as goal

pub returns : goal.returns
returns c =
    let count : c.in_ok-count.count ≡ takes_of c.args.self.now.takes c.args.number + 1 = search rules in
    let put = map_put nat_cmp_total fin_map.nat_cmp-IsAntisymmetric c.self.inside.takes.entries c.insert.new.self.entries c.args.number c.in_ok-count.count
    c.in_ok-insert.ensures.updates.0 in
    let takes = put ∙ (λ i. fin_map.insert (c.self.view_is i).takes c.args.number (count i)) in
    λ i. record { begun = (c.self.view_is i).begun; listed = (c.self.view_is i).listed; takes = takes i }
