use Rattle.std.proofs.Common.{◌<◌, ◌^◌, length, sym, subst}
use Rattle.sync_rules.specs.Facts.{Facts}
use Rattle.journal_state.specs.Room.{rows_room}
use Rattle.journal_state.proofs.Restored.{rows_enough}
use Rattle.journal_state.proofs.state.State.restore_row.Goals as goal

pub put_row-requires-clause-room : goal.put_row-requires-clause-room
put_row-requires-clause-room c =
    let few : length c.reserve_rows.new.self.facts.held < 2 ^ 32 =
    subst (λ (f : Facts). length f.held < 2 ^ 32) (sym c.reserve_rows.ensures.facts) c.show_sound.ensures.few in
    rows_enough (length c.reserve_rows.new.self.facts.held) (rows_room c.reserve_rows.new.self.room c.args.tried.now.contact) few c.in_ok-reserve_rows.ensures.ok.rows
