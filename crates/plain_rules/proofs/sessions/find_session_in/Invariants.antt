-- What is left gives what the whole gives.
use Rattle.std.proofs.Common.{◌≡◌, drop}
use Rattle.plain_rules.specs.Sessions.{first_session_in}
use Rattle.plain_rules.proofs.sessions.find_session_in.Given as goal

abbrev pub invariant-loop-batch : goal.invariant-loop-batch
invariant-loop-batch l = first_session_in l.number (drop l.batch-index l.j) ≡ first_session_in l.number l.j
