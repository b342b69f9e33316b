use Rattle.std.proofs.Common.{ℕ, ◌+◌, refl, ap, ◌∙◌}
use Rattle.sync_world.specs.Showing.{number_in_state}
use Rattle.sync_world.proofs.ShowLemmas.{counted_more}
use Rattle.sync_world.proofs.player.states_of.Goals as goal

pub messages-init : goal.messages-init
unfolding number_in_state
messages-init c =
    (record { delivered = refl; invalid = refl; pending = refl; unknown = refl }, refl)

pub messages-preserved : goal.messages-preserved
messages-preserved c = (
  counted_more c.args.store.now.state.facts c.args.store.now.state.facts.held c.messages.n
      c.fate.result c.messages.states c.count.new.self c.fate.ensures
      c.messages.invariant.0 c.count.ensures.counted,
  c.count.ensures.total ∙ ap (λ (k : ℕ). k + 1) c.messages.invariant.1,
)
