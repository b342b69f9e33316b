use Rattle.std.proofs.Common.{List, ℕ, ◌<◌, subst, ap, ◌∙◌}
use Rattle.std.proofs.lemmas.Bool.{ltb-true}
use Rattle.journal_audit.specs.Numbers.{has_time}
use Rattle.journal_audit.proofs.Placing.{all_ahead}
use Rattle.journal_audit.proofs.alarms.Times.are_ahead.Goals as goal

pub returns-in-Some : goal.returns-in-Some
returns-in-Some c sooner t n among =
    all_ahead _ c.self.inside.set.keys c.args.now c.in-Some.ensures.all_from
    (subst (λ time. c.args.now < time) c.milliseconds.ensures (ltb-true c.args.now c.milliseconds.result sooner)) t n
    (ap (λ (s : List (ℕ × ℕ)). has_time s t n) c.self.view_is ∙ among)
