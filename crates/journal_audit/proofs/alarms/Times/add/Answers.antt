use Rattle.std.proofs.Common.{List, ℕ, true, cond, ◌&&◌, nat_eq, ap, ◌∙◌}
use Rattle.journal_audit.specs.Numbers.{has_time}
use Rattle.journal_audit.proofs.Placing.{time_put}
use Rattle.journal_audit.proofs.alarms.Times.add.Goals as goal

pub returns : goal.returns
returns c t n =
    time_put c.self.inside.set.keys c.insert.new.self.keys c.args.time c.args.number true c.in_ok-insert.ensures.updates.0 t n
    ∙ ap (λ (s : List (ℕ × ℕ)). cond (nat_eq t c.args.time && nat_eq n c.args.number) true (has_time s t n)) c.self.view_is
