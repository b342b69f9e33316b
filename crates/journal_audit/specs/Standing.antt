-- Where the messages stand that may go to contacts.
use Rattle.std.specs.Prelude.{◌≡◌, ℕ, ◌<◌, ◌≤◌, Bool, true, false, not, ◌&&◌, ◌||◌, nat_eq, List, length, drop, Some, slice_get}
use Rattle.sync_rules.specs.declared.answers.Judgement.{Judgement}
use Rattle.sync_rules.specs.declared.answers.Judgement.TheVariants as judgement
use Rattle.sync_rules.specs.declared.entries.Mode.{Mode}
use Rattle.sync_rules.specs.declared.entries.Mode.TheVariants as mode
use Rattle.sync_rules.specs.Facts.{LevelMap, Row, Rows, is_level_shared, level_at, row_at}
use Rattle.sync_rules.specs.Sessions.{is_author}
use Rattle.journal_audit.specs.declared.messages.Line.{Line}
use Rattle.journal_audit.specs.declared.ready.Ready.{Ready}
use Rattle.journal_audit.specs.Lines.{Kept}
use Rattle.journal_audit.specs.Numbers.{from_of, has, has_alarm, has_for}

-- a judgement lets its message be sent on
abbrev pub shares : Judgement → Bool
shares judgement.Refuse = false
shares (judgement.Accept deps share) = share

-- a message may go to a contact for which this row is kept, once it is judged
abbrev pub may_go : LevelMap → ℕ → Line → Row → Bool
may_go levels contact l r =
    l.delivered && (is_level_shared (level_at levels contact l.message.group) && (not r.seen && (is_author l.origin || shares l.answer)))

-- the set of messages that may be sent in a mode
abbrev pub set_for : Ready → Mode → List (List ℕ)
set_for ready mode.Interactive = ready.asked
set_for ready mode.Batch = ready.awake

-- ---- one message

-- a message of this row stands where it belongs: among those asked for, if it was; and among those that are awake, or else
-- there is an alarm at its time
abbrev pub stands : Ready → ℕ → ℕ → Row → Bool
stands ready contact n r =
    (not r.asked || has_for ready.asked contact n) && (has_for ready.awake contact n || has_alarm ready.alarms contact r.expiry n)

-- if it may go
abbrev pub StandsAt : LevelMap → Rows → Ready → ℕ → ℕ → Line → Type 0
StandsAt levels rows ready contact n l =
    may_go levels contact l (row_at rows contact l.id) ≡ true → stands ready contact n (row_at rows contact l.id) ≡ true

-- what stands where it belongs still does
pub record StandsOn (old new : Ready) : Type 0 where
  pub stay : (c m : ℕ) (r : Row) → stands old c m r ≡ true → stands new c m r ≡ true
  pub cursors : new.cursors ≡ old.cursors

-- a message of this row was put where it belongs, if it goes, and others still stand
pub record IsPlaced (old new : Ready) (contact n : ℕ) (goes : Bool) (row : Row) : Type 0 where
  pub here : goes ≡ true → stands new contact n row ≡ true
  pub others : (c m : ℕ) (r : Row) → (nat_eq c contact && nat_eq m n) ≡ false → stands old c m r ≡ true → stands new c m r ≡ true
  pub cursors : new.cursors ≡ old.cursors

-- ---- all messages

-- each delivered message that a contact's cursor has passed stands where it belongs; a message that is not delivered may not go
abbrev pub AreStanding : LevelMap → Kept → Rows → Ready → Type 0
AreStanding levels kept rows ready =
    (contact n : ℕ) (l : Line) → contact < 256 → slice_get kept.lines n ≡ Some l
    → has (drop (from_of ready.cursors contact) kept.delivered) n ≡ false → StandsAt levels rows ready contact n l

-- no cursor is beyond the delivered messages
abbrev pub AreWithin : Kept → Ready → Type 0
AreWithin kept ready = (contact : ℕ) → from_of ready.cursors contact ≤ length kept.delivered
