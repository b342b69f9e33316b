-- What is left gives what the whole gives.
use Rattle.std.proofs.Common.{◌≡◌, drop}
use Rattle.plain_rules.specs.Sessions.{first_session}
use Rattle.plain_rules.proofs.sessions.find_session.Given as goal

abbrev pub invariant-loop-entry : goal.invariant-loop-entry
invariant-loop-entry l = first_session l.number (drop l.entry-index l.entries) ≡ first_session l.number l.entries
