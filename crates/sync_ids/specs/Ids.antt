-- The identifiers of groups and messages (BSP, "Group identifiers" and "Message identifiers"): digests of several parts,
-- the first of which says what is identified.
use Rattle.std.specs.Prelude.{ℕ, List, [], ◌∷◌, codes}
use Rattle.std.specs.Int.{w32, w64, to_be_bytes}
use Rattle.bramble_hash.specs.Parts.{hash}
use Rattle.sync_ids.specs.Values.{GroupValue, MessageValue}

abbrev pub group_label : List ℕ
group_label = codes "org.briarproject.bramble/GROUP_ID"

abbrev pub block_label : List ℕ
block_label = codes "org.briarproject.bramble/MESSAGE_BLOCK"

abbrev pub message_label : List ℕ
message_label = codes "org.briarproject.bramble/MESSAGE_ID"

-- the version of these formats, one byte
abbrev pub format_version : List ℕ
format_version = 1 ∷ []

-- the id of a group
unfoldable pub group_id_of : GroupValue → List ℕ
group_id_of def = hash (group_label ∷ format_version ∷ def.name ∷ to_be_bytes w32 def.major ∷ def.descriptor ∷ [])

-- the hash of a body, which is one block
unfoldable pub block_hash_of : List ℕ → List ℕ
block_hash_of body = hash (block_label ∷ format_version ∷ body ∷ [])

-- the id of a message
unfoldable pub message_id_of : MessageValue → List ℕ
message_id_of m = hash (message_label ∷ format_version ∷ m.group ∷ to_be_bytes w64 m.timestamp ∷ block_hash_of m.body ∷ [])
