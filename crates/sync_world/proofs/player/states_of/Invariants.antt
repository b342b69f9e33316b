use Rattle.std.proofs.Common.{◌≡◌, take}
use Rattle.sync_world.specs.Showing.{HasCounted, total_of}
use Rattle.sync_world.proofs.player.states_of.Given as goal

-- the messages that were looked at are counted
abbrev pub invariant-messages : goal.invariant-messages
invariant-messages l =
    HasCounted l.store.state.facts (take l.n l.store.state.facts.held) l.states
    × (total_of l.states ≡ l.n)
