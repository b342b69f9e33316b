-- What contracts see of a group's definition, of a message and of the lists of a record.
use Rattle.std.specs.Prelude.{◌≡◌, ℕ, ◌<◌, ◌≤◌, ◌^◌, List, length}
use Rattle.std.specs.List.{AllByRecursion}
use Rattle.sync_ids.specs.declared.def.TheConstants.{MAX_DESCRIPTOR, MAX_NAME}
use Rattle.sync_ids.specs.declared.lists.TheConstants.{MAX_VERSIONS}
use Rattle.sync_ids.specs.declared.message.TheConstants.{MAX_BODY, MAX_TIMESTAMP}

-- a group's definition: the client's name in UTF-8, its major version and the descriptor (BSP, "Group identifiers")
pub record GroupValue : Type 0 where
  pub name : List ℕ
  pub major : ℕ
  pub descriptor : List ℕ

-- a message: the id of its group, its time in milliseconds since 1970 and its body (BSP, "Message identifiers")
pub record MessageValue : Type 0 where
  pub group : List ℕ
  pub timestamp : ℕ
  pub body : List ℕ

-- the limits that every `GroupDef` keeps
pub record IsGroupDef (d : GroupValue) : Type 0 where
  pub some_name : 1 ≤ length d.name
  pub short_name : length d.name ≤ MAX_NAME
  pub major_fits : d.major < 2 ^ 32
  pub short_descriptor : length d.descriptor ≤ MAX_DESCRIPTOR

-- the limits that every `Message` keeps
pub record IsMessage (m : MessageValue) : Type 0 where
  pub whole_group : length m.group ≡ 32
  pub sound_timestamp : m.timestamp ≤ MAX_TIMESTAMP
  pub some_body : 1 ≤ length m.body
  pub short_body : length m.body ≤ MAX_BODY

-- each of these ids has 32 bytes
abbrev pub AreIds : List (List ℕ) → Type 0
AreIds ids = AllByRecursion (λ id. length id ≡ 32) ids

-- the limits that every `IdList` keeps: at least one id, at most as many as its type says, and each of 32 bytes
pub record IsIdList (most : ℕ) (ids : List (List ℕ)) : Type 0 where
  pub some : 1 ≤ length ids
  pub few : length ids ≤ most
  pub whole : AreIds ids

-- the limits that every `VersionList` keeps
pub record IsVersionList (versions : List ℕ) : Type 0 where
  pub some : 1 ≤ length versions
  pub few : length versions ≤ MAX_VERSIONS
