-- The tables that are lent stand for the facts.
use Rattle.std.proofs.Common.{sym}
use Rattle.journal_state.specs.Parts.{Parts}
use Rattle.journal_state.specs.Whole.{IsState, value_of}
use Rattle.journal_state.specs.Lent.{StandsForRows}
use Rattle.journal_state.proofs.Wants.{wants_found}
use Rattle.journal_state.proofs.Seen.{row_there}

pub rows_lent : (p : Parts) → IsState p → StandsForRows (value_of p) p.retry
rows_lent p s = record {
  row = λ contact n h at. sym (row_there p s contact n h at);
  ready = λ contact n h known at. s.ready contact n h known at;
  others = λ contact n beyond. s.free_rows contact n beyond;
  wants = λ contact. sym (wants_found p.retry p.table.contacts contact s.free_wants);
}
