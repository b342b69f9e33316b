-- What was delivered is brought to where it belongs for a contact.
use Rattle.std.specs.Prelude.{◌≡◌, ℕ, ◌<◌, true, length, Some, slice_get}
use Rattle.journal_audit.specs.declared.facts.PlainFacts.{PlainFacts}
use Rattle.journal_audit.specs.declared.messages.Line.{Line}
use Rattle.journal_audit.specs.Changes.{BecomesFacts}
use Rattle.journal_audit.specs.Numbers.{from_of, has_alarm}
use Rattle.journal_audit.specs.Plain.{facts_of}
use Rattle.journal_audit.specs.Standing.{StandsAt}

-- the message of a number stands where it belongs for a contact
abbrev pub StandsIn : PlainFacts → ℕ → ℕ → Type 0
StandsIn p contact n = (l : Line) → slice_get p.messages.lines n ≡ Some l → StandsAt p.levels p.rows p.ready contact n l

-- all that was delivered was brought for a contact, and each of its alarms is yet to come
pub record IsBroughtAt (p : PlainFacts) (contact now : ℕ) : Type 0 where
  pub all : from_of p.ready.cursors contact ≡ length p.messages.delivered
  pub ahead : (t n : ℕ) → has_alarm p.ready.alarms contact t n ≡ true → now < t

-- the message of a number was put where it belongs for a contact
pub record Places (old new : PlainFacts) (contact n : ℕ) : Type 0 where
  pub becomes : BecomesFacts old new (facts_of old)
  pub stands : StandsIn new contact n
  pub messages : new.messages ≡ old.messages
  pub cursors : new.ready.cursors ≡ old.ready.cursors
