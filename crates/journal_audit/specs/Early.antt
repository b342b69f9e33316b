-- Messages that go before their time, and how far there are none.
use Rattle.std.specs.Prelude.{◌≡◌, ℕ, ◌<◌, min, Bool, false, not, ◌&&◌, List, Some, slice_get, slice_index_or}
use Rattle.sync_rules.specs.Facts.{Row, Rows, row_at}
use Rattle.sync_rules.specs.Sessions.{goes_sooner}
use Rattle.journal_audit.specs.declared.early.Mark.{Mark}
use Rattle.journal_audit.specs.declared.messages.Line.{Line}
use Rattle.journal_audit.specs.Lines.{Kept}

abbrev pub no_mark : Mark
no_mark = record { from = 0; latency = 0; now = 0 }

-- the mark of a contact
abbrev pub mark_of : List Mark → ℕ → Mark
mark_of marks contact = slice_index_or marks contact no_mark

-- a mark that fell back to a number
abbrev pub lowered : ℕ → Mark → Mark
lowered n m = record m { from = min m.from n }

-- a message of this row goes before its time by a session of this latency, if it may be sent
abbrev pub goes_early : ℕ → ℕ → Row → Bool
goes_early latency now r = not r.seen && goes_sooner latency now r

-- no message before a contact's mark goes before its time, by a session of the mark's latency at the mark's time
abbrev pub AreLate : Kept → Rows → List Mark → Type 0
AreLate kept rows marks =
    (contact n : ℕ) (l : Line) → slice_get kept.lines n ≡ Some l → n < (mark_of marks contact).from
    → goes_early (mark_of marks contact).latency (mark_of marks contact).now (row_at rows contact l.id) ≡ false
