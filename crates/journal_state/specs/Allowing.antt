-- What is due on a session, where there is one.
use Rattle.std.specs.Prelude.{ℕ, Option, None, Some}
use Rattle.sync_rules.specs.Clients.{Meaning}
use Rattle.sync_rules.specs.Facts.{Facts}
use Rattle.sync_rules.specs.declared.entries.Out.{Out}
use Rattle.sync_rules.specs.declared.entries.Session.{Session}
use Rattle.sync_rules.specs.Sessions.{due}

-- what is due on a session at a time; nothing where there is no session
abbrev pub due_of : Meaning → Facts → Option Session → ℕ → Option Out
due_of clients f None now = None
due_of clients f (Some s) now = due clients f s now
