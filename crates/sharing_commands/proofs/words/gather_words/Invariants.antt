use Rattle.std.proofs.Common.{◌≡◌, take}
use Rattle.std.specs.List.{flat_map}
use Rattle.sync_rules.specs.Facts.{held_at}
use Rattle.sharing_commands.specs.Words.{said_of}
use Rattle.sharing_commands.proofs.words.gather_words.Given as goal

abbrev pub invariant-delivered : goal.invariant-delivered
invariant-delivered l =
    l.said.items
    ≡ flat_map (λ id. said_of l.contact l.group (held_at l.store.state.facts.held id))
    (take l.k l.store.state.facts.delivered)
