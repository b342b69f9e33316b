-- What is due by the ids that may be sent on.
use Rattle.std.proofs.Common.{◌≡◌, ℕ, List, ap}
use Rattle.sync_rules.specs.declared.entries.Session.{Session}
use Rattle.sync_rules.specs.Clients.{Meaning}
use Rattle.sync_rules.specs.Facts.{Facts, Id}
use Rattle.sync_rules.specs.Sessions.{due, due_by, shared_ids}

pub due_along : (clients : Meaning) (f : Facts) (shared : List Id) (s : Session) (now : ℕ) → shared ≡ shared_ids clients f
    → due_by f shared s now ≡ due clients f s now
due_along clients f shared s now e = ap (λ (ids : List Id). due_by f ids s now) e
