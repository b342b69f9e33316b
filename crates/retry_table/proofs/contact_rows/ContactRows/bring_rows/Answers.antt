use Rattle.std.proofs.Common.{◌≡◌, ℕ, ◌+◌, ◌-◌, ◌<◌, ◌≤◌, ◌^◌, ◌++◌, Bool, List, [], Option, None, Some, IfOk, OnErr, Result, length, map, get_or, set, replicate, vec_len, take, refl, sym, ap, subst, ◌∙◌, arith, rules, length-append}
use Rattle.std.proofs.lemmas.List.{length-set, length-replicate, take_all}
use Rattle.retry_table.specs.declared.contact_rows.ContactRows.{ContactRows}
use Rattle.retry_table.specs.declared.contact_rows.Released.{Released}
use Rattle.retry_table.specs.declared.contact_rows.Turn.{Turn}
use Rattle.retry_table.specs.Contacts.{AreContacts, IsSaidFor}
use Rattle.retry_table.specs.Due.{message_in, offers_in, owed_in}
use Rattle.retry_table.specs.Queues.{is_sought}
use Rattle.retry_table.specs.Table.{KeptRow, RowsTable, kept_in, no_kept, rows_at, with_numbers, with_ready, with_rows}
use Rattle.retry_table.specs.Turns.{as_said, group_of, said_at, shown, turned, turns_in, with_turn, word_of}
use Rattle.retry_table.specs.Contacts.{HasTurnRoom}
use Rattle.retry_table.proofs.Said.{IsBrought, brought, brought_more, brought_none}
use Rattle.retry_table.proofs.contact_rows.ContactRows.bring_rows.Goals as goal

pub loop-n-init : goal.loop-n-init
loop-n-init c = record {
  turns = refl;
  room = λ h. h;
  rows = brought_none (said_at (turns_in c.args.self.now.turns.entries) c.args.released.now) c.args.self.now.queues;
}

pub loop-n-preserved : goal.loop-n-preserved
loop-n-preserved c =
    let said : ℕ → Option Bool = said_at (turns_in c.args.self.now.turns.entries) c.args.released.now in
    let now : List KeptRow = c.loop-n.self.queues in
    let b : IsBrought said c.args.self.now.queues now c.loop-n.n = c.loop-n.invariant.rows in
    let within : c.loop-n.n < length now = (let m = b.many in omega (arith, m, c.len-n-end.ensures.many, c.loop-n-test.true)) in
    let row : c.bring_row.new.self.queues ≡ set now c.loop-n.n (turned (said c.loop-n.n) (kept_in now c.loop-n.n)) =
    c.bring_row.ensures.queues ∙ ap (λ (ts : List (ℕ × Turn)). set now c.loop-n.n (turned (said_at (turns_in ts) c.args.released.now c.loop-n.n) (kept_in now c.loop-n.n))) c.loop-n.invariant.turns in
    record {
      turns = c.bring_row.ensures.turns ∙ c.loop-n.invariant.turns;
      room = λ h. c.bring_row.ensures.room (c.loop-n.invariant.room h);
      rows = subst (λ (rs : List KeptRow). IsBrought said c.args.self.now.queues rs (c.loop-n.n + 1)) (sym row) (brought_more said c.args.self.now.queues now c.loop-n.n b within);
    }

pub bring_row-requires : goal.bring_row-requires
bring_row-requires c = let m = c.loop-n.invariant.rows.many in omega (arith, m, c.len-n-end.ensures.many, c.loop-n-test.true)

pub returns-clause-queues : goal.returns-clause-queues
returns-clause-queues c =
    let b = c.loop-n.invariant.rows in
    brought (said_at (turns_in c.args.self.now.turns.entries) c.args.released.now) c.args.self.now.queues c.loop-n.self.queues c.loop-n.n
    (omega (arith, c.len-n-end.ensures.many, c.loop-n-test.false)) b.many b.done
