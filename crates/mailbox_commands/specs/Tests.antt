-- The tests of a command of mailbox files.
use Rattle.std.specs.Prelude.{ℕ, ◌<◌, if◌then◌else◌, nat_lt, Option, Some, None}
use Rattle.sync_rules.specs.declared.limits.TheConstants.{MAX_SESSIONS}
use Rattle.sync_rules.specs.declared.states.Refused.{Refused}
use Rattle.sync_rules.specs.declared.states.Refused.TheVariants as refused
use Rattle.sync_rules.specs.Facts.{Facts}

-- over the journal as it was loaded: the contact is known, and one more session may begin
abbrev pub mailbox_test : Facts → ℕ → Option Refused
mailbox_test f contact =
    if nat_lt contact f.contacts
    then (if nat_lt f.begun MAX_SESSIONS then None else Some refused.TooManySessions)
    else Some refused.UnknownContact

-- a session with a contact may begin
pub record MayBeginWith (f : Facts) (contact : ℕ) : Type 0 where
  pub known : contact < f.contacts
  pub few : f.begun < MAX_SESSIONS
