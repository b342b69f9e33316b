-- What is left adds what is missing of what the whole adds.
use Rattle.std.proofs.Common.{◌≡◌, ◌++◌, drop}
use Rattle.sync_rules.specs.Sessions.{taken_acks}
use Rattle.session_core.proofs.taking.add_acks.Given as goal

abbrev pub invariant-loop-id : goal.invariant-loop-id
invariant-loop-id g l =
    l.entries.items ++ taken_acks (g.V.View.seen l.view).facts l.session.number l.session.contact (drop l.id-index l.ids)
    ≡ l.initial.entries.items ++ taken_acks (g.V.View.seen l.view).facts l.session.number l.session.contact l.ids
