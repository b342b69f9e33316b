-- What is left adds, with the room that is left, what is missing of what the whole adds.
use Rattle.std.proofs.Common.{◌≡◌, ◌++◌, drop}
use Rattle.sync_rules.specs.Sessions.{taken_offers}
use Rattle.session_core.proofs.taking.add_offers.Given as goal

abbrev pub invariant-loop-id : goal.invariant-loop-id
invariant-loop-id g l =
    l.entries.items ++ taken_offers (g.V.View.seen l.view).facts l.session.number l.session.contact l.room (drop l.id-index l.ids)
    ≡ l.initial.entries.items ++ taken_offers (g.V.View.seen l.view).facts l.session.number l.session.contact l.initial.room l.ids
