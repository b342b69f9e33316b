-- The records that list ids.
use Rattle.std.specs.Prelude.{List}
use Rattle.sync_ids.specs.declared.records.Record.{Record}
use Rattle.sync_ids.specs.declared.records.Record.TheVariants as record_kind
use Rattle.sync_rules.specs.Facts.{Id}
use Rattle.batch_tests.specs.declared.given.ListKind.{ListKind}
use Rattle.batch_tests.specs.declared.given.ListKind.TheVariants as list_kind

-- the record of a kind that lists these ids
abbrev pub record_of : ListKind → List Id → Record
record_of list_kind.Acks ids = record_kind.Ack ids
record_of list_kind.Offers ids = record_kind.Offer ids
record_of list_kind.Requests ids = record_kind.Request ids
