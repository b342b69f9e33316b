-- The levels decide.
use Rattle.std.proofs.Common.{refl, sym, ◌∙◌}
use Rattle.std.proofs.lemmas.Bool.{false≢true}
use Rattle.plain_rules.proofs.view.PlainView.new.Goals as goal

pub gather-requires : goal.gather-requires
gather-requires g c = c.knows_levels.ensures.0 c.if-knows_levels.true

pub returns-then-knows_levels-clause-unknown : goal.returns-then-knows_levels-clause-unknown
returns-then-knows_levels-clause-unknown g c =
    (λ e. absurd (c.gather.ensures.refused e), λ none. absurd (none (c.knows_levels.ensures.0 c.if-knows_levels.true)))

pub returns-else-knows_levels-clause-unknown : goal.returns-else-knows_levels-clause-unknown
returns-else-knows_levels-clause-unknown g c =
    (λ e knows. false≢true (sym c.if-knows_levels.false ∙ c.knows_levels.ensures.1 knows), λ none. refl)
