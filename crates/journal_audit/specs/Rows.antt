-- What one more entry makes of a row.
use Rattle.sync_rules.specs.Facts.{Row, row_acked, row_asked, row_heard, row_offered, row_seen, row_sent, row_tried}
use Rattle.journal_audit.specs.declared.rows.RowChange.{RowChange}
use Rattle.journal_audit.specs.declared.rows.RowChange.TheVariants as change

abbrev pub changed_by : RowChange → Row → Row
changed_by change.Heard r = row_heard r
changed_by change.Seen r = row_seen r
changed_by change.Acked r = row_acked r
changed_by change.Asked r = row_asked r
changed_by (change.Offered now latency) r = row_offered now latency r
changed_by (change.Sent now latency) r = row_sent now latency r
changed_by (change.Tried t) r = row_tried t r
