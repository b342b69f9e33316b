-- How the entries of a journal are spelled: a tag byte, and behind it what the entry says.
use Rattle.std.specs.Prelude.{◌≡◌, ℕ, ◌+◌, ◌^◌, ◌<◌, ◌≤◌, Bool, false, cond, List, [], ◌∷◌, ◌++◌, length, Option, Some, None}
use Rattle.std.specs.Int.{w16, w32, w64, to_be_bytes}
use Rattle.std.specs.List.{AllByRecursion, flat_map}
use Rattle.std.specs.Str.{IsUtf8}
use Rattle.sync_ids.specs.Values.{GroupValue, IsGroupDef, IsIdList, IsMessage, MessageValue}
use Rattle.sync_ids.specs.declared.lists.TheConstants.{MAX_IDS}
use Rattle.sync_rules.specs.declared.entries.Entry.{Entry}
use Rattle.sync_rules.specs.declared.entries.Entry.TheVariants as entry
use Rattle.sync_rules.specs.declared.entries.Level.{Level}
use Rattle.sync_rules.specs.declared.entries.Level.TheVariants as level
use Rattle.sync_rules.specs.declared.entries.Mode.{Mode}
use Rattle.sync_rules.specs.declared.entries.Mode.TheVariants as mode_kind
use Rattle.sync_rules.specs.declared.entries.Out.{Out}
use Rattle.sync_rules.specs.declared.entries.Out.TheVariants as out
use Rattle.sync_rules.specs.declared.entries.Session.{Session}
use Rattle.sync_rules.specs.declared.entries.Tried.{Tried}
use Rattle.sync_rules.specs.declared.states.Origin.{Origin}
use Rattle.sync_rules.specs.declared.states.Origin.TheVariants as origin
use Rattle.sync_rules.specs.declared.limits.TheConstants.{MAX_TRIES}
use Rattle.sync_rules.specs.Legal.{is_empty_row}
use Rattle.entry_codec.specs.declared.naming.Format.{Format}
use Rattle.entry_codec.specs.declared.naming.Format.TheVariants as format
use Rattle.entry_codec.specs.Naming.{IsNamed, held_bytes}

-- ---- parts

-- bytes behind their number, which has two bytes
abbrev pub counted : List ℕ → List ℕ
counted bytes = to_be_bytes w16 (length bytes) ++ bytes

-- a group's definition
abbrev pub def_bytes : GroupValue → List ℕ
def_bytes d = length d.name ∷ (d.name ++ (to_be_bytes w32 d.major ++ counted d.descriptor))

-- a message
abbrev pub message_bytes : MessageValue → List ℕ
message_bytes m = m.group ++ (to_be_bytes w64 m.timestamp ++ counted m.body)

abbrev pub level_byte : Level → ℕ
level_byte level.Invisible = 0
level_byte level.Visible = 1
level_byte level.Shared = 2

abbrev pub mode_byte : Mode → ℕ
mode_byte mode_kind.Interactive = 0
mode_byte mode_kind.Batch = 1

-- a flag, and the nonce where there is one
abbrev pub nonce_bytes : Option (List ℕ) → List ℕ
nonce_bytes None = 0 ∷ []
nonce_bytes (Some nonce) = 1 ∷ nonce

-- a session
abbrev pub session_bytes : Session → List ℕ
session_bytes s =
    to_be_bytes w32 s.number ++ (s.contact ∷ mode_byte s.mode ∷ (to_be_bytes w32 s.latency ++ nonce_bytes s.nonce))

-- where a message came from: a flag, and the contact, which is 0 for a message that was written here
abbrev pub origin_bytes : Origin → List ℕ
origin_bytes origin.Author = 0 ∷ 0 ∷ []
origin_bytes (origin.From contact) = 1 ∷ contact ∷ []

-- the flags of a row, added: 1 where the contact has the message, 2 where it waits for our acknowledgement, 4 where it asked
abbrev pub flags_byte : Bool → Bool → Bool → ℕ
flags_byte seen owed asked = cond seen 1 0 + (cond owed 2 0 + cond asked 4 0)

-- ---- ids

-- an id, written whole
abbrev pub whole : List ℕ → List ℕ
whole id = id

-- ids behind their number, which has two bytes, each written in this way
abbrev pub ids_bytes : (List ℕ → List ℕ) → List (List ℕ) → List ℕ
ids_bytes written ids = to_be_bytes w16 (length ids) ++ flat_map written ids

-- an output. The ids that are requested are those of messages that are not held
abbrev pub out_bytes : (List ℕ → List ℕ) → Out → List ℕ
out_bytes held (out.Acks ids) = 0 ∷ ids_bytes held ids
out_bytes held (out.Requests ids) = 1 ∷ ids_bytes whole ids
out_bytes held (out.Offers ids) = 2 ∷ ids_bytes held ids
out_bytes held (out.Send id) = 3 ∷ held id

-- what is kept of a message that is held
abbrev pub tried_bytes : (List ℕ → List ℕ) → Tried → List ℕ
tried_bytes held t = t.contact ∷ (held t.id ++ (flags_byte t.seen t.owed t.asked ∷ t.tries ∷ to_be_bytes w64 t.expiry))

-- ---- entries

-- a session's number, and what stands behind it
abbrev pub on_session : ℕ → List ℕ → List ℕ
on_session session bytes = to_be_bytes w32 session ++ bytes

-- an entry, where the id of a message that is held is written in this way
abbrev pub entry_bytes : (List ℕ → List ℕ) → Entry → List ℕ
entry_bytes held (entry.Contact c) = 1 ∷ c ∷ []
entry_bytes held (entry.Group def) = 2 ∷ def_bytes def
entry_bytes held (entry.Level c g l) = 3 ∷ c ∷ (g ++ level_byte l ∷ [])
entry_bytes held (entry.Session s) = 4 ∷ session_bytes s
entry_bytes held (entry.Take s k) = 5 ∷ on_session s (to_be_bytes w64 k)
entry_bytes held (entry.Author m) = 6 ∷ message_bytes m
entry_bytes held (entry.Arrive s m) = 7 ∷ on_session s (message_bytes m)
entry_bytes held (entry.Judged id) = 8 ∷ held id
entry_bytes held (entry.Deliver id) = 9 ∷ held id
entry_bytes held (entry.Invalid id) = 10 ∷ held id
entry_bytes held (entry.Again s id) = 11 ∷ on_session s (held id)
entry_bytes held (entry.Offered s id) = 12 ∷ on_session s (whole id)
entry_bytes held (entry.Seen s id) = 13 ∷ on_session s (held id)
entry_bytes held (entry.Asked s id) = 14 ∷ on_session s (held id)
entry_bytes held (entry.Out s now what) = 15 ∷ on_session s (to_be_bytes w64 now ++ out_bytes held what)
entry_bytes held (entry.Brief n) = 16 ∷ to_be_bytes w32 n
entry_bytes held (entry.Kept from m) = 17 ∷ (origin_bytes from ++ message_bytes m)
entry_bytes held (entry.Tried t) = 18 ∷ tried_bytes held t
entry_bytes held (entry.Want contact id) = 19 ∷ contact ∷ whole id

-- the one spelling of an entry in the first format: every id is written whole. That format spells the older kinds alone
-- (`IsOld`); of the others these bytes give a length, and no reader takes them
unfoldable pub spelling : Entry → List ℕ
spelling e = entry_bytes whole e

-- the one spelling of an entry in a format that has its kind, where these are the ids held
unfoldable pub spelling_in : Format → List (List ℕ) → Entry → List ℕ
spelling_in f names e = entry_bytes (held_bytes f names) e

-- ---- limits. A clause ranges over all values of a type, also those that no program holds

abbrev pub IsId : List ℕ → Type 0
IsId id = length id ≡ 32

abbrev pub IsOut : Out → Type 0
IsOut (out.Acks ids) = IsIdList MAX_IDS ids
IsOut (out.Requests ids) = IsIdList MAX_IDS ids
IsOut (out.Offers ids) = IsIdList MAX_IDS ids
IsOut (out.Send id) = IsId id

-- a definition, whose name is UTF-8
pub record IsDef (d : GroupValue) : Type 0 where
  pub within : IsGroupDef d
  pub utf8_name : IsUtf8 d.name

abbrev pub IsNonce : Option (List ℕ) → Type 0
IsNonce None = Unit {0}
IsNonce (Some nonce) = length nonce ≡ 16

pub record IsSession (s : Session) : Type 0 where
  pub number_fits : s.number < 2 ^ 32
  pub contact_fits : s.contact < 256
  pub some_latency : 1 ≤ s.latency
  pub latency_fits : s.latency < 2 ^ 32
  pub whole_nonce : IsNonce s.nonce

-- a row that may be stated: its tries are within MAX_TRIES, it has no wait without a try, and it is not empty
pub record IsStated (t : Tried) : Type 0 where
  pub few_tries : t.tries ≤ MAX_TRIES
  pub no_wait : t.tries ≡ 0 → t.expiry ≡ 0
  pub not_empty : is_empty_row t ≡ false

pub record IsTried (t : Tried) : Type 0 where
  pub contact_fits : t.contact < 256
  pub whole_id : IsId t.id
  pub stated : IsStated t
  pub expiry_fits : t.expiry < 2 ^ 64

abbrev pub IsOrigin : Origin → Type 0
IsOrigin origin.Author = Unit {0}
IsOrigin (origin.From contact) = contact < 256

abbrev pub IsEntry : Entry → Type 0
IsEntry (entry.Contact c) = c < 256
IsEntry (entry.Group def) = IsDef def
IsEntry (entry.Level c g l) = (c < 256) × IsId g
IsEntry (entry.Session s) = IsSession s
IsEntry (entry.Take s k) = (s < 2 ^ 32) × (k < 2 ^ 64)
IsEntry (entry.Author m) = IsMessage m
IsEntry (entry.Arrive s m) = (s < 2 ^ 32) × IsMessage m
IsEntry (entry.Judged id) = IsId id
IsEntry (entry.Deliver id) = IsId id
IsEntry (entry.Invalid id) = IsId id
IsEntry (entry.Again s id) = (s < 2 ^ 32) × IsId id
IsEntry (entry.Offered s id) = (s < 2 ^ 32) × IsId id
IsEntry (entry.Seen s id) = (s < 2 ^ 32) × IsId id
IsEntry (entry.Asked s id) = (s < 2 ^ 32) × IsId id
IsEntry (entry.Out s now what) = (s < 2 ^ 32) × (now < 2 ^ 64) × IsOut what
IsEntry (entry.Brief n) = n < 2 ^ 32
IsEntry (entry.Kept from m) = IsOrigin from × IsMessage m
IsEntry (entry.Tried t) = IsTried t
IsEntry (entry.Want contact id) = (contact < 256) × IsId id

-- an entry of an older kind, which each format spells: all but those that stand in a brief account alone
abbrev pub IsOld : Entry → Type 0
IsOld (entry.Brief n) = ⊥
IsOld (entry.Kept from m) = ⊥
IsOld (entry.Tried t) = ⊥
IsOld (entry.Want contact id) = ⊥
IsOld e = Unit {0}

-- an entry of a kind that a format spells
abbrev pub IsOfFormat : Format → Entry → Type 0
IsOfFormat format.Whole e = IsOld e
IsOfFormat format.Short e = Unit {0}

-- what holds of the id of each message that an entry names as one that is held
abbrev pub OutNames : (List ℕ → Type 0) → Out → Type 0
OutNames H (out.Acks ids) = AllByRecursion H ids
OutNames H (out.Requests ids) = Unit {0}
OutNames H (out.Offers ids) = AllByRecursion H ids
OutNames H (out.Send id) = H id

abbrev pub EntryNames : (List ℕ → Type 0) → Entry → Type 0
EntryNames H (entry.Judged id) = H id
EntryNames H (entry.Deliver id) = H id
EntryNames H (entry.Invalid id) = H id
EntryNames H (entry.Again s id) = H id
EntryNames H (entry.Seen s id) = H id
EntryNames H (entry.Asked s id) = H id
EntryNames H (entry.Out s now what) = OutNames H what
EntryNames H (entry.Tried t) = H t.id
EntryNames H _ = Unit {0}

-- how many messages an entry names as held
abbrev pub out_count : Out → ℕ
out_count (out.Acks ids) = length ids
out_count (out.Requests ids) = 0
out_count (out.Offers ids) = length ids
out_count (out.Send id) = 1

abbrev pub named_count : Entry → ℕ
named_count (entry.Judged id) = 1
named_count (entry.Deliver id) = 1
named_count (entry.Invalid id) = 1
named_count (entry.Again s id) = 1
named_count (entry.Seen s id) = 1
named_count (entry.Asked s id) = 1
named_count (entry.Out s now what) = out_count what
named_count (entry.Tried t) = 1
named_count _ = 0

-- these bytes spell this entry in a format, where these are the ids held: the format has its kind, it is within its limits, and
-- it names no others
pub record SpellsIn (f : Format) (names : List (List ℕ)) (e : Entry) (bytes : List ℕ) : Type 0 where
  pub kind : IsOfFormat f e
  pub within : IsEntry e
  pub named : EntryNames (IsNamed f names) e
  pub is : bytes ≡ spelling_in f names e

-- the same in the first format, which asks for no names
abbrev pub SpellsEntry : Entry → List ℕ → Type 0
SpellsEntry e bytes = SpellsIn format.Whole [] e bytes

-- what an entry has to keep of itself to be written: a session has a latency of at least 1, and a row may be stated
abbrev pub MayBeWritten : Entry → Type 0
MayBeWritten (entry.Session s) = 1 ≤ s.latency
MayBeWritten (entry.Tried t) = IsStated t
MayBeWritten e = Unit {0}

-- new is old with some bytes at its end
abbrev pub AddsTo : List ℕ → List ℕ → Type 0
AddsTo old new = (more : List ℕ) × (new ≡ old ++ more)
