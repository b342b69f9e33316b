-- A store as its fields show it.
use Rattle.sync_store.specs.declared.store.Store.TheInside.{Inside}
use Rattle.std.specs.Prelude.{◌+◌}
use Rattle.frame_journal.specs.Group.{group_len}
use Rattle.sync_store.specs.Store.{StoreValue}

abbrev pub value_of : Inside → StoreValue
value_of s = record {
  state = s.state;
  file = s.journal.file;
  format = s.journal.format;
  generation = s.journal.generation;
  end = s.journal.end + group_len s.waiting;
  waiting = s.waiting;
  limit = s.limit;
  closed = s.closed;
}
