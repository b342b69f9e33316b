-- The row of a contact and a message after one more entry.
use Rattle.std.specs.Prelude.{ℕ, cond, ◌&&◌, nat_eq}
use Rattle.sync_ids.specs.Ids.{message_id_of}
use Rattle.sync_rules.specs.declared.entries.Entry.{Entry}
use Rattle.sync_rules.specs.declared.entries.Entry.TheVariants as entry
use Rattle.sync_rules.specs.declared.entries.Out.{Out}
use Rattle.sync_rules.specs.declared.entries.Out.TheVariants as out
use Rattle.sync_rules.specs.Lists.{same_id, is_among}
use Rattle.sync_rules.specs.Facts.{Facts, Id, Row, contact_of, latency_of, row_heard, row_seen, row_acked, row_asked, row_offered, row_sent, row_tried}

-- the row after an output to the contact
abbrev pub row_then_out : Id → ℕ → ℕ → Row → Out → Row
row_then_out id now latency r (out.Acks ids) = cond (is_among ids id) (row_acked r) r
row_then_out id now latency r (out.Requests ids) = r
row_then_out id now latency r (out.Offers ids) = cond (is_among ids id) (row_offered now latency r) r
row_then_out id now latency r (out.Send x) = cond (same_id x id) (row_sent now latency r) r

-- the row of a contact and a message after one more entry, the facts before it being given
abbrev pub row_then : ℕ → Id → Facts → Row → Entry → Row
row_then contact id f r (entry.Arrive s m) = cond (nat_eq contact (contact_of f.sessions s) && same_id (message_id_of m) id) (row_heard r) r
row_then contact id f r (entry.Again s x) = cond (nat_eq contact (contact_of f.sessions s) && same_id x id) (row_heard r) r
row_then contact id f r (entry.Seen s x) = cond (nat_eq contact (contact_of f.sessions s) && same_id x id) (row_seen r) r
row_then contact id f r (entry.Asked s x) = cond (nat_eq contact (contact_of f.sessions s) && same_id x id) (row_asked r) r
row_then contact id f r (entry.Out s now what) =
    cond (nat_eq contact (contact_of f.sessions s)) (row_then_out id now (latency_of f.sessions s) r what) r
row_then contact id f r (entry.Tried t) = cond (nat_eq contact t.contact && same_id t.id id) (row_tried t r) r
row_then contact id f r _ = r
