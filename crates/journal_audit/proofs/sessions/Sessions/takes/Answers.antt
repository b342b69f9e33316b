use Rattle.std.proofs.Common.{sym, ap, ◌∙◌, Option, unwrap_or, ℕ}
use Rattle.std.specs.Cmp.{nat_cmp_total}
use Rattle.sync_rules.specs.Facts.{takes_of}
use Rattle.journal_audit.specs.Sessions.{SessionsValue}
use Rattle.journal_audit.proofs.Maps.{got}
use Rattle.journal_audit.proofs.sessions.Sessions.takes.Goals as goal

pub returns-in-Some : goal.returns-in-Some
returns-in-Some c =
    ap (λ (o : Option ℕ). unwrap_or o 0) (c.in-Some.ensures.value
    ∙ sym (got nat_cmp_total c.self.inside.takes.entries c.args.number))
    ∙ ap (λ (s : SessionsValue). takes_of s.takes c.args.number) c.self.view_is

pub returns-in-None : goal.returns-in-None
returns-in-None c =
    ap (λ (o : Option ℕ). unwrap_or o 0) (c.in-None.ensures.value
    ∙ sym (got nat_cmp_total c.self.inside.takes.entries c.args.number))
    ∙ ap (λ (s : SessionsValue). takes_of s.takes c.args.number) c.self.view_is
