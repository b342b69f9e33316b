use Rattle.std.proofs.Common.{◌≡◌, take}
use Rattle.std.specs.Prelude.{replicate}
use Rattle.sharing_commands.specs.Sayings.{last_own}
use Rattle.sharing_commands.proofs.previous.previous_own.Given as goal

abbrev pub invariant-delivered : goal.invariant-delivered
invariant-delivered l =
    l.last
    ≡ last_own l.store.state.facts l.group (replicate 32 0) (take l.k l.store.state.facts.delivered)
