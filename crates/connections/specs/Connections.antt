-- A connection of a node that stays, as who uses it sees it.
use Rattle.std.specs.Prelude.{◌≤◌, ℕ, Bool, true, false, ◌==◌, ◌&&◌, nat_lt, if◌then◌else◌, List, [], length}
use Rattle.std.specs.Prelude.{Option, Some, None, is_some, not}
use Rattle.request_frames.specs.Reading.{IsAsked, IsWhole, ReaderState, fresh_reader}
use Rattle.request_frames.specs.declared.reader.Stage.{Stage}
use Rattle.node_service.specs.Lives.{greeting}
use Rattle.connections.specs.declared.connection.Standing.{Standing}
use Rattle.connections.specs.declared.connection.Standing.TheVariants as standing

-- the reader of its requests, what was brought and not heard yet, what waits to go out, where it stands,
-- whether more may come, the place from which on it watches the inbox, and how much may wait while a
-- request is heard
pub record ConnectionValue : Type 0 where
  pub reader : ReaderState
  pub rest : List ℕ
  pub waits : List ℕ
  pub standing : Standing
  pub has_ended : Bool
  pub watch : Option ℕ
  pub most_out : ℕ

-- nothing came on it, and the greeting waits
abbrev pub fresh_connection : ℕ → ConnectionValue
fresh_connection most_out = record {
  reader = fresh_reader;
  rest = [];
  waits = greeting;
  standing = standing.Hears;
  has_ended = false;
  watch = None;
  most_out = most_out;
}

-- the reader stands where the connection does: behind words whose input may not come yet, or behind a
-- whole request
abbrev pub StandsSo : Standing → Stage → Type 0
StandsSo (standing.Waits since) at = IsAsked at
StandsSo (standing.Asks since) at = IsWhole at
StandsSo _ at = Unit {0}

-- what was heard of a piece is within it
pub record IsConnection (at : ℕ) (piece : List ℕ) (s : Standing) (stage : Stage) : Type 0 where
  pub within : at ≤ length piece
  pub stands : StandsSo s stage

-- ---- what may be done on it

-- not too much waits for a further request to be heard
abbrev pub may_hear : ConnectionValue → Bool
may_hear c = nat_lt (length c.waits) c.most_out

abbrev pub is_hearing : Standing → Bool
is_hearing standing.Hears = true
is_hearing _ = false

-- it goes on: before a request or in it, where not too much waits; before a long input, where that may come
abbrev pub goes_on : Standing → (may_hear may_be_long : Bool) → Bool
goes_on standing.Hears may_hear may_be_long = may_hear
goes_on (standing.Waits since) may_hear may_be_long = may_be_long
goes_on _ may_hear may_be_long = false

abbrev pub can_hear : ConnectionValue → (may_be_long : Bool) → Bool
can_hear c may_be_long = goes_on c.standing (may_hear c) may_be_long

-- bytes may be brought
abbrev pub may_bring : ConnectionValue → Bool
may_bring c = is_hearing c.standing && (length c.rest == 0) && not c.has_ended && may_hear c

-- nothing more is to be done: all has gone out, and nothing comes that could be asked, nor is it told on
abbrev pub is_done : Standing → ConnectionValue → Bool
is_done standing.Hears c = c.has_ended && (length c.rest == 0) && not (is_some c.watch)
is_done standing.Fault c = true
is_done _ c = false

abbrev pub is_over : ConnectionValue → Bool
is_over c = (length c.waits == 0) && is_done c.standing c

-- a request is there whole since some time
abbrev pub asks_since : Standing → Option ℕ
asks_since (standing.Asks since) = Some since
asks_since _ = None

-- the place from which on lines of the inbox, which has so many, are told: where it watches the inbox, there
-- are such, and nothing waits
abbrev pub lines_wanted : Option ℕ → (empty : Bool) → (delivered : ℕ) → Option ℕ
lines_wanted (Some from) empty delivered = if nat_lt from delivered && empty then Some from else None
lines_wanted None empty delivered = None

abbrev pub wants_lines : ConnectionValue → ℕ → Option ℕ
wants_lines c delivered = lines_wanted c.watch (length c.waits == 0) delivered
