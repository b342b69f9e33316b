use Rattle.std.proofs.Common.{◌≡◌, ℕ, ◌+◌, ◌*◌, ◌/◌, false, Option, None, sym, ap, ◌∙◌, arith}
use Rattle.std.proofs.lemmas.Option.{get_or_from_slice_get}
use Rattle.due_tree.specs.Due.{is_due}
use Rattle.retry_table.specs.Queues.{least_from, place_at}
use Rattle.retry_table.proofs.BlockLaws.{untimely}
use Rattle.retry_table.proofs.blocks.next_here.Goals as goal

pub returns-then-not-is_due-clause-none : goal.returns-then-not-is_due-clause-none
returns-then-not-is_due-clause-none c =
    let rows = c.args.rows.now in
    let block = c.args.from / 64 in
    let is_held : c.get.result ≡ place_at c.args.tree.now block = sym (get_or_from_slice_get c.args.tree.now block c.get.result None c.get.ensures) in
    let not : is_due c.args.bound (least_from c.args.times rows (64 * block) 64) ≡ false =
    ap (λ o. is_due c.args.bound o) (sym (is_held ∙ c.requires.least.same block)) ∙ sym c.is_due.ensures ∙ c.if-not-is_due.true in
    λ n low high. untimely c.args.times c.args.bound rows (64 * block) 64 not n (omega (arith, low)) high
