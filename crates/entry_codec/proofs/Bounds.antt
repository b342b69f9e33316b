-- How long spellings are.
use Rattle.std.proofs.Common.{◌≡◌, ℕ, ◌+◌, ◌*◌, ◌≤◌, List, [], ◌∷◌, ◌++◌, length, refl, arith}
use Rattle.std.proofs.Common.{length-append, unwrap_or}
use Rattle.std.specs.Prelude.{Option, Some, None}
use Rattle.std.specs.Int.{w32, w64, to_be_bytes}
use Rattle.std.specs.List.{flat_map}
use Rattle.sync_ids.specs.Values.{AreIds, GroupValue, IsIdList, IsMessage, MessageValue}
use Rattle.sync_ids.specs.declared.lists.TheConstants.{MAX_IDS}
use Rattle.sync_rules.specs.declared.entries.Entry.{Entry}
use Rattle.sync_rules.specs.declared.entries.Entry.TheVariants as entry
use Rattle.sync_rules.specs.declared.entries.Out.{Out}
use Rattle.sync_rules.specs.declared.entries.Out.TheVariants as out
use Rattle.sync_rules.specs.declared.entries.Tried.{Tried}
use Rattle.sync_rules.specs.declared.states.Origin.{Origin}
use Rattle.sync_rules.specs.declared.states.Origin.TheVariants as origin
use Rattle.entry_codec.specs.declared.lengths.TheConstants.{MAX_SPELLING}
use Rattle.entry_codec.specs.declared.naming.Format.{Format}
use Rattle.entry_codec.specs.declared.naming.Format.TheVariants as format
use Rattle.entry_codec.specs.Naming.{held_bytes, place_in}
use Rattle.entry_codec.specs.Spelling.{EntryNames, IsEntry, IsId, IsNonce, IsOut, OutNames, counted, def_bytes, flags_byte, ids_bytes, message_bytes, named_count, nonce_bytes, origin_bytes, out_bytes, out_count, spelling, spelling_in, tried_bytes, whole}

pub length_def : (d : GroupValue) → length (def_bytes d) ≡ 7 + length d.name + length d.descriptor
length_def d = omega (arith, length-append d.name (to_be_bytes w32 d.major ++ counted d.descriptor))

pub length_message : (m : MessageValue) → IsMessage m → length (message_bytes m) ≡ 42 + length m.body
length_message m is = omega (arith, is.whole_group, length-append m.group (to_be_bytes w64 m.timestamp ++ counted m.body))

length_origin : (from : Origin) → length (origin_bytes from) ≡ 2
length_origin origin.Author = refl
length_origin (origin.From contact) = refl

pub length_kept : (from : Origin) (m : MessageValue) → IsMessage m → length (origin_bytes from ++ message_bytes m) ≡ 44 + length m.body
length_kept from m is = omega (arith, length-append (origin_bytes from) (message_bytes m), length_origin from, length_message m is)

-- what stands behind the id of a row
abbrev row_bytes : Tried → List ℕ
row_bytes t = flags_byte t.seen t.owed t.asked ∷ t.tries ∷ to_be_bytes w64 t.expiry

pub length_tried : (t : Tried) → IsId t.id → length (tried_bytes whole t) ≡ 43
length_tried t is = omega (arith, is, length-append t.id (row_bytes t))

length_ids : (ids : List (List ℕ)) → AreIds ids → length (flat_map whole ids) ≡ 32 * length ids
length_ids [] all = refl
length_ids (id ∷ ids) all = omega (arith, length-append id (flat_map whole ids), all.0, length_ids ids all.1)

nonce_short : (o : Option (List ℕ)) → IsNonce o → length (nonce_bytes o) ≤ 17
nonce_short None is = omega arith
nonce_short (Some nonce) is = omega (arith, is)

list_short : (ids : List (List ℕ)) → IsIdList MAX_IDS ids → length (ids_bytes whole ids) ≤ 49154
list_short ids is = omega (arith, is.few, length_ids ids is.whole)

out_short : (o : Out) → IsOut o → length (out_bytes whole o) ≤ 49155
out_short (out.Acks ids) is = omega (arith, list_short ids is)
out_short (out.Requests ids) is = omega (arith, list_short ids is)
out_short (out.Offers ids) is = omega (arith, list_short ids is)
out_short (out.Send id) is = omega (arith, is)

-- the greatest length of each kind
abbrev pub most_of : Entry → ℕ
most_of (entry.Contact c) = 2
most_of (entry.Group def) = 16647
most_of (entry.Level c g l) = 35
most_of (entry.Session s) = 28
most_of (entry.Take s k) = 13
most_of (entry.Author m) = 32811
most_of (entry.Arrive s m) = 32815
most_of (entry.Judged id) = 33
most_of (entry.Deliver id) = 33
most_of (entry.Invalid id) = 33
most_of (entry.Out s now what) = MAX_SPELLING
most_of (entry.Brief n) = 5
most_of (entry.Kept from m) = 32813
most_of (entry.Tried t) = 44
most_of (entry.Want contact id) = 34
most_of _ = 37

pub length_within : (e : Entry) → IsEntry e → (2 ≤ length (spelling e)) × (length (spelling e) ≤ most_of e)
unfolding spelling
length_within (entry.Contact c) is = (omega arith, omega arith)
length_within (entry.Group def) is = (omega (arith, length_def def), omega (arith, length_def def, is.within.short_name, is.within.short_descriptor))
length_within (entry.Level c g l) is = (omega (arith, is.1, length-append g), omega (arith, is.1, length-append g))
length_within (entry.Session s) is = (omega arith, omega (arith, nonce_short s.nonce is.whole_nonce))
length_within (entry.Take s k) is = (omega arith, omega arith)
length_within (entry.Author m) is = (omega (arith, length_message m is), omega (arith, length_message m is, is.short_body))
length_within (entry.Arrive s m) is = (omega (arith, length_message m is.1), omega (arith, length_message m is.1, is.1.short_body))
length_within (entry.Judged id) is = (omega (arith, is), omega (arith, is))
length_within (entry.Deliver id) is = (omega (arith, is), omega (arith, is))
length_within (entry.Invalid id) is = (omega (arith, is), omega (arith, is))
length_within (entry.Out s now what) is = (omega arith, omega (arith, out_short what is.2))
length_within (entry.Brief n) is = (omega arith, omega arith)
length_within (entry.Kept from m) is = let len = length_kept from m is.1 in (omega (arith, len), omega (arith, len, is.1.short_body))
length_within (entry.Tried t) is = let len = length_tried t is.whole_id in (omega (arith, len), omega (arith, len))
length_within _ is = (omega (arith, is.1), omega (arith, is.1))

most_below : (e : Entry) → most_of e ≤ MAX_SPELLING
most_below (entry.Contact c) = omega arith
most_below _ = omega arith

pub short : (e : Entry) → IsEntry e → (2 ≤ length (spelling e)) × (length (spelling e) ≤ MAX_SPELLING)
short e is = let within = length_within e is in (within.0, omega (arith, within.1, most_below e))

-- ---- the second format

-- the ids of messages that are held have 32 bytes
out_whole : (o : Out) → IsOut o → OutNames IsId o
out_whole (out.Acks ids) is = is.whole
out_whole (out.Requests ids) is = tt
out_whole (out.Offers ids) is = is.whole
out_whole (out.Send id) is = is

pub ids_whole : (e : Entry) → IsEntry e → EntryNames IsId e
ids_whole (entry.Judged id) is = is
ids_whole (entry.Deliver id) is = is
ids_whole (entry.Invalid id) is = is
ids_whole (entry.Again s id) is = is.1
ids_whole (entry.Seen s id) is = is.1
ids_whole (entry.Asked s id) is = is.1
ids_whole (entry.Out s now what) is = out_whole what is.2
ids_whole (entry.Tried t) is = is.whole_id
ids_whole _ is = tt

short_ids : (names ids : List (List ℕ)) → length (flat_map (held_bytes format.Short names) ids) ≡ 4 * length ids
short_ids names [] = refl
short_ids names (id ∷ ids) =
    omega (
      arith,
      length-append (to_be_bytes w32 (unwrap_or (place_in names id) 0))
          (flat_map (held_bytes format.Short names) ids),
      short_ids names ids,
    )

saved_out : (names : List (List ℕ)) (o : Out) → OutNames IsId o → length (out_bytes (held_bytes format.Short names) o) + 28 * out_count o ≡ length (out_bytes whole o)
saved_out names (out.Acks ids) is = omega (arith, short_ids names ids, length_ids ids is)
saved_out names (out.Requests ids) is = omega arith
saved_out names (out.Offers ids) is = omega (arith, short_ids names ids, length_ids ids is)
saved_out names (out.Send id) is = omega (arith, is)

-- a number has 28 bytes less than an id
pub saved : (names : List (List ℕ)) (e : Entry) → EntryNames IsId e → length (spelling_in format.Short names e) + 28 * named_count e ≡ length (spelling e)
unfolding spelling spelling_in
saved names (entry.Judged id) is = omega (arith, is)
saved names (entry.Deliver id) is = omega (arith, is)
saved names (entry.Invalid id) is = omega (arith, is)
saved names (entry.Again s id) is = omega (arith, is)
saved names (entry.Seen s id) is = omega (arith, is)
saved names (entry.Asked s id) is = omega (arith, is)
saved names (entry.Out s now what) is = omega (arith, saved_out names what is)
saved names (entry.Tried t) is = omega (arith, is, length-append t.id (row_bytes t))
saved names _ is = omega arith

pub short_some : (names : List (List ℕ)) (e : Entry) → 2 ≤ length (spelling_in format.Short names e)
unfolding spelling_in
short_some names (entry.Author m) = omega (arith, length-append m.group (to_be_bytes w64 m.timestamp ++ counted m.body))
short_some names (entry.Kept from m) = omega (arith, length-append (origin_bytes from) (message_bytes m), length_origin from)
short_some names _ = omega arith

-- how long a spelling is does not depend on the names
same_out : (names : List (List ℕ)) (o : Out) → length (out_bytes (held_bytes format.Short names) o) ≡ length (out_bytes (held_bytes format.Short []) o)
same_out names (out.Acks ids) = omega (arith, short_ids names ids, short_ids [] ids)
same_out names (out.Requests ids) = refl
same_out names (out.Offers ids) = omega (arith, short_ids names ids, short_ids [] ids)
same_out names (out.Send id) = refl

pub same_short : (names : List (List ℕ)) (e : Entry) → length (spelling_in format.Short names e) ≡ length (spelling_in format.Short [] e)
unfolding spelling_in
same_short names (entry.Out s now what) = omega (arith, same_out names what)
same_short names _ = refl

-- a spelling has two bytes or more
pub spelled_some : (f : Format) (names : List (List ℕ)) (e : Entry) → IsEntry e → 2 ≤ length (spelling_in f names e)
unfolding spelling spelling_in
spelled_some format.Whole names e is = (short e is).0
spelled_some format.Short names e is = short_some names e
