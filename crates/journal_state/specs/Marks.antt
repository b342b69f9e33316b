-- What is noted of a held message for a contact.
use Rattle.sync_rules.specs.Facts.{Row, row_heard, row_seen, row_asked, row_acked, row_offered, row_sent}
use Rattle.journal_state.specs.declared.marks.Mark.{Mark}
use Rattle.journal_state.specs.declared.marks.Mark.TheVariants as mark

-- what a mark makes of a row
abbrev pub marked : Mark → Row → Row
marked mark.Heard = row_heard
marked mark.Seen = row_seen
marked mark.Asked = row_asked
marked mark.Acked = row_acked
marked (mark.Offered now latency) = row_offered now latency
marked (mark.Sent now latency) = row_sent now latency
