-- What an output names, within the limits of a record; and which facts and records are within their limits.
use Rattle.std.specs.Prelude.{◌≡◌, ℕ, ◌≤◌, true, false, List, length, Option, Some, None}
use Rattle.sync_ids.specs.declared.lists.TheConstants.{MAX_IDS}
use Rattle.sync_ids.specs.Values.{MessageValue, IsMessage}
use Rattle.sync_ids.specs.Ids.{message_id_of}
use Rattle.sync_rules.specs.declared.entries.Entry.{Entry}
use Rattle.sync_rules.specs.declared.entries.Entry.TheVariants as entry
use Rattle.sync_rules.specs.declared.entries.Out.{Out}
use Rattle.sync_rules.specs.declared.entries.Out.TheVariants as out
use Rattle.sync_rules.specs.declared.entries.Session.{Session}
use Rattle.sync_rules.specs.Lists.{is_among, has_repeat}
use Rattle.sync_rules.specs.Facts.{Facts, Held, Id, held_at, is_held, session_at, wanted_from}
use Rattle.sync_rules.specs.Output.{AllHeld}

-- ---- what an output names

-- 1 to MAX_IDS distinct ids
pub record AreDistinctIds (ids : List Id) : Type 0 where
  pub some : 1 ≤ length ids
  pub few : length ids ≤ MAX_IDS
  pub distinct : has_repeat ids ≡ false

abbrev pub AreWanted : Facts → ℕ → List Id → Type 0
AreWanted f contact ids = (id : Id) → is_among ids id ≡ true → is_among (wanted_from f.wanted contact) id ≡ true

-- what is acknowledged, offered or sent is held, what is requested is wanted from the contact; and a list of ids is a record's
abbrev pub NamesDistinct : Facts → ℕ → Out → Type 0
NamesDistinct f contact (out.Acks ids) = AreDistinctIds ids × AllHeld f ids
NamesDistinct f contact (out.Requests ids) = AreDistinctIds ids × AreWanted f contact ids
NamesDistinct f contact (out.Offers ids) = AreDistinctIds ids × AllHeld f ids
NamesDistinct f contact (out.Send id) = is_held f.held id ≡ true

-- ---- limits

abbrev pub IsWholeNonce : Option (List ℕ) → Type 0
IsWholeNonce None = Unit {0}
IsWholeNonce (Some nonce) = length nonce ≡ 16

-- what an entry brings is within its limits: a message, an id that comes to be wanted, the nonce of a session
abbrev pub BringsWithin : Entry → Type 0
BringsWithin (entry.Author m) = IsMessage m
BringsWithin (entry.Arrive s m) = IsMessage m
BringsWithin (entry.Offered s id) = length id ≡ 32
BringsWithin (entry.Session s) = IsWholeNonce s.nonce
BringsWithin (entry.Kept from m) = IsMessage m
BringsWithin (entry.Want contact id) = length id ≡ 32
BringsWithin _ = Unit {0}

-- held messages, wanted ids and nonces are within their limits
pub record HasLimits (f : Facts) : Type 0 where
  pub messages : (id : Id) (h : Held) → held_at f.held id ≡ Some h → IsMessage h.message
  pub wanted : (contact : ℕ) (id : Id) → is_among (wanted_from f.wanted contact) id ≡ true → length id ≡ 32
  pub nonces : (n : ℕ) (s : Session) → session_at f.sessions n ≡ Some s → IsWholeNonce s.nonce

-- each message id has 32 bytes
abbrev pub MessageIdsAreWhole : Type 0
MessageIdsAreWhole = (m : MessageValue) → length (message_id_of m) ≡ 32
