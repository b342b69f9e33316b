use Rattle.std.proofs.Common.{◌≡◌, ℕ, ◌≤◌, ◌<◌, Bool, List, Option, None, Some, length, sym, ap, ◌∙◌, arith}
use Rattle.std.proofs.lemmas.List.{get_or_past}
use Rattle.retry_table.specs.Table.{KeptRow, kept_in, no_kept, with_ready}
use Rattle.retry_table.specs.Turns.{said_at, turned, turns_in}
use Rattle.retry_table.proofs.Said.{said_one, said_past}
use Rattle.retry_table.proofs.contact_rows.ContactRows.row.Goals as goal

pub returns-then-n-len : goal.returns-then-n-len
returns-then-n-len c =
    let rows : List KeptRow = c.args.self.now.queues in
    let past : length rows ≤ c.args.n = omega (arith, c.len.ensures.many, c.if-n-len.true) in
    c.get-row.ensures ∙ (get_or_past rows c.args.n no_kept past ∙ sym (said_past (said_at (turns_in c.args.self.now.turns.entries) c.args.released.now) c.args.n rows past))

pub returns-in-None : goal.returns-in-None
returns-in-None c =
    let rows : List KeptRow = c.args.self.now.queues in
    let said : ℕ → Option Bool = said_at (turns_in c.args.self.now.turns.entries) c.args.released.now in
    let within : c.args.n < length rows = omega (arith, c.len.ensures.many, c.if-n-len.false) in
    c.get-row.ensures ∙ (ap (λ (o : Option Bool). turned o (kept_in rows c.args.n)) (sym c.in-None.is ∙ c.said.ensures) ∙ sym (said_one said c.args.n rows within))

pub returns-in-Some : goal.returns-in-Some
returns-in-Some c =
    let rows : List KeptRow = c.args.self.now.queues in
    let said : ℕ → Option Bool = said_at (turns_in c.args.self.now.turns.entries) c.args.released.now in
    let within : c.args.n < length rows = omega (arith, c.len.ensures.many, c.if-n-len.false) in
    c.make_ready.ensures ∙ (ap (with_ready c.in-Some.ready) c.get-row.ensures
    ∙ (ap (λ (o : Option Bool). turned o (kept_in rows c.args.n)) (sym c.in-Some.is ∙ c.said.ensures) ∙ sym (said_one said c.args.n rows within)))
