use Rattle.std.proofs.Common.{sym, ap, ◌∙◌, Option, unwrap_or, ℕ}
use Rattle.sync_rules.specs.Facts.{takes_of}
use Rattle.journal_state.specs.Begun.{Begun}
use Rattle.journal_state.proofs.Numbers.{kept_count}
use Rattle.journal_state.proofs.sessions.Sessions.takes.Goals as goal

pub returns-in-Some : goal.returns-in-Some
returns-in-Some c =
    ap (λ (o : Option ℕ). unwrap_or o 0) c.in-Some.ensures.value
    ∙ (sym (kept_count c.self.inside.counts.entries c.args.number)
    ∙ ap (λ (b : Begun). takes_of b.takes c.args.number) c.self.view_is)

pub returns-in-None : goal.returns-in-None
returns-in-None c =
    ap (λ (o : Option ℕ). unwrap_or o 0) c.in-None.ensures.value
    ∙ (sym (kept_count c.self.inside.counts.entries c.args.number)
    ∙ ap (λ (b : Begun). takes_of b.takes c.args.number) c.self.view_is)
