-- The session of a plan.
use Rattle.std.specs.Prelude.{ℕ, List, Option}
use Rattle.sync_rules.specs.declared.entries.Session.{Session}
use Rattle.sync_node.specs.declared.node.Plan.{Plan}

abbrev pub session_of : ℕ → Plan → Option (List ℕ) → Session
session_of number plan nonce = record {
  number = number;
  contact = plan.contact;
  mode = plan.mode;
  latency = plan.latency;
  nonce = nonce;
}
