-- How the parts of an entry are read from the front of some bytes: a part, and the bytes behind it. The id of a message that
-- is held is read in a way that is given, as `Spelling` writes it in one; an id of another message is read whole.
use Rattle.std.specs.Prelude.{ℕ, zero, suc, ◌/◌, ◌%◌, Bool, not, ◌==◌, ◌&&◌, ◌||◌, nat_eq, nat_lt, nat_le, if◌then◌else◌}
use Rattle.std.specs.Prelude.{List, [], ◌∷◌, length, take, drop, Option, Some, None}
use Rattle.std.specs.Int.{Width, w16, w32, w64, byte_len, from_be_bytes}
use Rattle.std.specs.List.{slice_get}
use Rattle.std.specs.Str.{is_utf8}
use Rattle.sync_ids.specs.Values.{GroupValue, MessageValue}
use Rattle.sync_ids.specs.declared.def.TheConstants.{MAX_DESCRIPTOR}
use Rattle.sync_ids.specs.declared.lists.TheConstants.{MAX_IDS}
use Rattle.sync_ids.specs.declared.message.TheConstants.{MAX_BODY, MAX_TIMESTAMP}
use Rattle.sync_rules.specs.declared.entries.Entry.{Entry}
use Rattle.sync_rules.specs.declared.entries.Entry.TheVariants as entry
use Rattle.sync_rules.specs.declared.entries.Level.{Level}
use Rattle.sync_rules.specs.declared.entries.Level.TheVariants as level
use Rattle.sync_rules.specs.declared.entries.Mode.{Mode}
use Rattle.sync_rules.specs.declared.entries.Mode.TheVariants as mode_kind
use Rattle.sync_rules.specs.declared.entries.Out.{Out}
use Rattle.sync_rules.specs.declared.entries.Out.TheVariants as out
use Rattle.sync_rules.specs.declared.entries.Session.{Session}
use Rattle.sync_rules.specs.declared.entries.Tried.{Tried}
use Rattle.sync_rules.specs.declared.states.Origin.{Origin}
use Rattle.sync_rules.specs.declared.states.Origin.TheVariants as origin
use Rattle.sync_rules.specs.declared.limits.TheConstants.{MAX_TRIES}
use Rattle.sync_rules.specs.Legal.{is_empty_row}
use Rattle.entry_codec.specs.declared.naming.Format.{Format}
use Rattle.entry_codec.specs.declared.naming.Format.TheVariants as format

-- ---- how parts are put together

-- what a part is made into
abbrev pub made : {A B : Type 0} → (A → B) → Option (A × List ℕ) → Option (B × List ℕ)
made f None = None
made f (Some x) = Some (f x.0, x.1)

-- a part that passes a test
abbrev pub passed : {A : Type 0} → (A → Bool) → Option (A × List ℕ) → Option (A × List ℕ)
passed test None = None
passed test (Some x) = if test x.0 then Some x else None

-- a part that stands for some value, or for none
abbrev pub beside : {B : Type 0} → Option B → List ℕ → Option (B × List ℕ)
beside None rest = None
beside (Some b) rest = Some (b, rest)

abbrev pub meant : {A B : Type 0} → (A → Option B) → Option (A × List ℕ) → Option (B × List ℕ)
meant f None = None
meant f (Some x) = beside (f x.0) x.1

-- a part, and behind it what it says that follows
abbrev pub chained : {A B : Type 0} → (A → List ℕ → Option (B × List ℕ)) → Option (A × List ℕ) → Option (B × List ℕ)
chained q None = None
chained q (Some x) = q x.0 x.1

-- a part, and behind it another
abbrev pub both : {A B : Type 0} → (List ℕ → Option (A × List ℕ)) → (List ℕ → Option (B × List ℕ)) → List ℕ → Option ((A × B) × List ℕ)
both p q bytes = chained (λ a rest. made (λ b. (a, b)) (q rest)) (p bytes)

-- ---- parts

-- so many bytes
unfoldable pub front_in : ℕ → List ℕ → Option (List ℕ × List ℕ)
front_in n bytes = if nat_lt (length bytes) n then None else Some (take n bytes, drop n bytes)

unfoldable pub byte_in : List ℕ → Option (ℕ × List ℕ)
byte_in [] = None
byte_in (x ∷ rest) = Some (x, rest)

unfoldable pub be_number_in : Width → List ℕ → Option (ℕ × List ℕ)
be_number_in w bytes = made (from_be_bytes w) (front_in (byte_len w) bytes)

abbrev pub id_in : List ℕ → Option (List ℕ × List ℕ)
id_in bytes = front_in 32 bytes

abbrev pub is_between : ℕ → ℕ → ℕ → Bool
is_between least most n = nat_le least n && nat_le n most

-- bytes behind their number, which has two bytes and these limits
unfoldable pub counted_in : ℕ → ℕ → List ℕ → Option (List ℕ × List ℕ)
counted_in least most bytes = chained front_in (passed (is_between least most) (be_number_in w16 bytes))

-- a name behind its length, which has one byte
unfoldable pub name_in : List ℕ → Option (List ℕ × List ℕ)
name_in bytes = passed is_utf8 (chained front_in (passed (nat_lt 0) (byte_in bytes)))

-- a group's definition
abbrev pub def_of : List ℕ × (ℕ × List ℕ) → GroupValue
def_of a = record { name = a.0; major = a.1.0; descriptor = a.1.1 }

unfoldable pub def_in : List ℕ → Option (GroupValue × List ℕ)
def_in bytes = made def_of (both name_in (both (be_number_in w32) (counted_in 0 MAX_DESCRIPTOR)) bytes)

-- a time, whose top bit is clear
unfoldable pub time_in : List ℕ → Option (ℕ × List ℕ)
time_in bytes = passed (λ t. nat_le t MAX_TIMESTAMP) (be_number_in w64 bytes)

-- a message
abbrev pub message_of : List ℕ × (ℕ × List ℕ) → MessageValue
message_of a = record { group = a.0; timestamp = a.1.0; body = a.1.1 }

unfoldable pub message_in : List ℕ → Option (MessageValue × List ℕ)
message_in bytes = made message_of (both id_in (both time_in (counted_in 1 MAX_BODY)) bytes)

abbrev pub level_of : ℕ → Option Level
level_of b = if b == 0 then Some level.Invisible else if b == 1 then Some level.Visible else if b == 2 then Some level.Shared else None

unfoldable pub level_in : List ℕ → Option (Level × List ℕ)
level_in bytes = meant level_of (byte_in bytes)

abbrev pub mode_of : ℕ → Option Mode
mode_of b = if b == 0 then Some mode_kind.Interactive else if b == 1 then Some mode_kind.Batch else None

unfoldable pub mode_in : List ℕ → Option (Mode × List ℕ)
mode_in bytes = meant mode_of (byte_in bytes)

unfoldable pub latency_in : List ℕ → Option (ℕ × List ℕ)
latency_in bytes = passed (nat_lt 0) (be_number_in w32 bytes)

-- what follows the flag of a nonce
abbrev pub flagged : ℕ → List ℕ → Option (Option (List ℕ) × List ℕ)
flagged flag rest = if flag == 0 then Some (None, rest) else if flag == 1 then made Some (front_in 16 rest) else None

unfoldable pub nonce_in : List ℕ → Option (Option (List ℕ) × List ℕ)
nonce_in bytes = chained flagged (byte_in bytes)

-- a session
abbrev pub session_of : ℕ × (ℕ × (Mode × (ℕ × Option (List ℕ)))) → Session
session_of a = record { number = a.0; contact = a.1.0; mode = a.1.1.0; latency = a.1.1.1.0; nonce = a.1.1.1.1 }

unfoldable pub session_in : List ℕ → Option (Session × List ℕ)
session_in bytes = made session_of (both (be_number_in w32) (both byte_in (both mode_in (both latency_in nonce_in))) bytes)

-- where a message came from: a flag and a contact, which is 0 for a message that was written here
abbrev pub origin_of : ℕ × ℕ → Option Origin
origin_of a =
    if a.0 == 0 then (if a.1 == 0 then Some origin.Author else None)
    else if a.0 == 1 then Some (origin.From a.1)
    else None

unfoldable pub origin_in : List ℕ → Option (Origin × List ℕ)
origin_in bytes = meant origin_of (both byte_in byte_in bytes)

-- the three flags of a row, in a number below 8
abbrev pub flags_of : ℕ → Bool × Bool × Bool
flags_of n = ((n % 2) == 1, ((n / 2) % 2) == 1, (n / 4) == 1)

unfoldable pub flags_in : List ℕ → Option ((Bool × Bool × Bool) × List ℕ)
flags_in bytes = made flags_of (passed (λ n. nat_le n 7) (byte_in bytes))

-- so many parts, one behind the other
unfoldable pub list_in : {A : Type 0} → (List ℕ → Option (A × List ℕ)) → ℕ → List ℕ → Option (List A × List ℕ)
list_in p zero bytes = Some ([], bytes)
list_in p (suc n) bytes = made (λ a. a.0 ∷ a.1) (both p (list_in p n) bytes)

-- a way to read an id from the front of some bytes
abbrev pub IdReader : Type 0
IdReader = List ℕ → Option (List ℕ × List ℕ)

-- the id of a message that is held, where these are the ids held: an id, or the number of one of them
abbrev pub held_in : Format → List (List ℕ) → IdReader
held_in format.Whole names bytes = id_in bytes
held_in format.Short names bytes = meant (slice_get names) (be_number_in w32 bytes)

-- at least one id, each read in this way, behind their number, which has two bytes
unfoldable pub ids_in : IdReader → List ℕ → Option (List (List ℕ) × List ℕ)
ids_in read bytes = chained (list_in read) (passed (is_between 1 MAX_IDS) (be_number_in w16 bytes))

-- what follows the kind of an output. The ids that are requested are those of messages that are not held
abbrev pub out_of : IdReader → ℕ → List ℕ → Option (Out × List ℕ)
out_of held kind rest =
    if kind == 0 then made out.Acks (ids_in held rest)
    else if kind == 1 then made out.Requests (ids_in id_in rest)
    else if kind == 2 then made out.Offers (ids_in held rest)
    else if kind == 3 then made out.Send (held rest)
    else None

unfoldable pub out_in : IdReader → List ℕ → Option (Out × List ℕ)
out_in held bytes = chained (out_of held) (byte_in bytes)

-- what is kept of a message that is held
abbrev pub tried_of : ℕ × (List ℕ × ((Bool × Bool × Bool) × (ℕ × ℕ))) → Tried
tried_of a = record {
  contact = a.0;
  id = a.1.0;
  seen = a.1.1.0.0;
  owed = a.1.1.0.1;
  asked = a.1.1.0.2;
  tries = a.1.1.1.0;
  expiry = a.1.1.1.1;
}

-- it may be stated: its tries are within MAX_TRIES, it has no wait without a try, and it is not empty
abbrev pub is_stated : Tried → Bool
is_stated t = nat_le t.tries MAX_TRIES && ((not (nat_eq t.tries 0) || nat_eq t.expiry 0) && not (is_empty_row t))

unfoldable pub tried_in : IdReader → List ℕ → Option (Tried × List ℕ)
tried_in held bytes =
    passed is_stated (made tried_of (both byte_in (both held (both flags_in (both byte_in (be_number_in w64)))) bytes))

-- ---- entries

-- a session's number, and an id
unfoldable pub pair_in : IdReader → List ℕ → Option ((ℕ × List ℕ) × List ℕ)
pair_in read bytes = both (be_number_in w32) read bytes

-- what follows the tags 11, 13 and 14, which name messages that are held
abbrev pub heard_of : ℕ → ℕ × List ℕ → Option Entry
heard_of tag a =
    if tag == 11 then Some (entry.Again a.0 a.1)
    else if tag == 13 then Some (entry.Seen a.0 a.1)
    else if tag == 14 then Some (entry.Asked a.0 a.1)
    else None

-- what follows the tags 8 to 10
abbrev pub step_of : ℕ → List ℕ → Option Entry
step_of tag id =
    if tag == 8 then Some (entry.Judged id)
    else if tag == 9 then Some (entry.Deliver id)
    else if tag == 10 then Some (entry.Invalid id)
    else None

-- what follows the tags 1 to 3
abbrev pub known_of : ℕ → List ℕ → Option (Entry × List ℕ)
known_of tag rest =
    if tag == 1 then made entry.Contact (byte_in rest)
    else if tag == 2 then made entry.Group (def_in rest)
    else if tag == 3 then made (λ a. entry.Level a.0 a.1.0 a.1.1) (both byte_in (both id_in level_in) rest)
    else None

-- what follows the tags 4 to 7, and 15
abbrev pub moved_of : IdReader → ℕ → List ℕ → Option (Entry × List ℕ)
moved_of held tag rest =
    if tag == 4 then made entry.Session (session_in rest)
    else if tag == 5 then made (λ a. entry.Take a.0 a.1) (both (be_number_in w32) (be_number_in w64) rest)
    else if tag == 6 then made entry.Author (message_in rest)
    else if tag == 7 then made (λ a. entry.Arrive a.0 a.1) (both (be_number_in w32) message_in rest)
    else if tag == 15 then made (λ a. entry.Out a.0 a.1.0 a.1.1) (both (be_number_in w32) (both (be_number_in w64) (out_in held)) rest)
    else None

-- what follows the tags 16 to 19, of a brief account. The message of the tag 19 is not held. In the first format they are none
abbrev pub account_of : Format → IdReader → ℕ → List ℕ → Option (Entry × List ℕ)
account_of format.Whole held tag rest = None
account_of format.Short held tag rest =
    if tag == 16 then made entry.Brief (be_number_in w32 rest)
    else if tag == 17 then made (λ a. entry.Kept a.0 a.1) (both origin_in message_in rest)
    else if tag == 18 then made entry.Tried (tried_in held rest)
    else if tag == 19 then made (λ a. entry.Want a.0 a.1) (both byte_in id_in rest)
    else None

-- what follows a tag in a format. The message of the tag 12 is not held
abbrev pub entry_of : Format → IdReader → ℕ → List ℕ → Option (Entry × List ℕ)
entry_of f held tag rest =
    if is_between 1 3 tag then known_of tag rest
    else if is_between 8 10 tag then meant (step_of tag) (held rest)
    else if tag == 12 then made (λ a. entry.Offered a.0 a.1) (pair_in id_in rest)
    else if is_between 11 14 tag then meant (heard_of tag) (pair_in held rest)
    else if is_between 16 19 tag then account_of f held tag rest
    else moved_of held tag rest

-- an entry at the front of some bytes in a format, where the id of a message that is held is read in this way
unfoldable pub entry_by : Format → IdReader → List ℕ → Option (Entry × List ℕ)
entry_by f held bytes = chained (entry_of f held) (byte_in bytes)

-- an entry at the front of some bytes in the first format: every id is read whole
unfoldable pub entry_in : List ℕ → Option (Entry × List ℕ)
entry_in bytes = entry_by format.Whole id_in bytes
