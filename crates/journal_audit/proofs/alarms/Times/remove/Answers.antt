use Rattle.std.proofs.Common.{List, ℕ, false, cond, ◌&&◌, nat_eq, ap, ◌∙◌}
use Rattle.journal_audit.specs.Numbers.{has_time}
use Rattle.journal_audit.proofs.Placing.{time_put}
use Rattle.journal_audit.proofs.alarms.Times.remove.Goals as goal

pub returns : goal.returns
returns c t n =
    time_put c.self.inside.set.keys c.remove.new.self.keys c.args.time c.args.number false c.remove.ensures.updates.0 t n
    ∙ ap (λ (s : List (ℕ × ℕ)). cond (nat_eq t c.args.time && nat_eq n c.args.number) false (has_time s t n)) c.self.view_is
