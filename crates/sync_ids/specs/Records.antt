-- The limits of a record. A clause that speaks of some record ranges over all values of its type, also those that no
-- program holds, so it says that these limits are kept.
use Rattle.std.specs.Prelude.{◌≡◌, length}
use Rattle.sync_ids.specs.declared.lists.TheConstants.{MAX_IDS}
use Rattle.sync_ids.specs.declared.records.Record.{Record}
use Rattle.sync_ids.specs.declared.records.Record.TheVariants as record_kind
use Rattle.sync_ids.specs.Values.{IsIdList, IsMessage, IsVersionList}

abbrev pub IsRecord : Record → Type 0
IsRecord (record_kind.Ack ids) = IsIdList MAX_IDS ids
IsRecord (record_kind.Message message) = IsMessage message
IsRecord (record_kind.Offer ids) = IsIdList MAX_IDS ids
IsRecord (record_kind.Request ids) = IsIdList MAX_IDS ids
IsRecord (record_kind.Versions versions) = IsVersionList versions
IsRecord (record_kind.Priority nonce) = length nonce ≡ 16
