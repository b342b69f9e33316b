use Rattle.std.proofs.Common.{◌≡◌, None, set, get_or, sym, ap, ◌∙◌}
use Rattle.std.proofs.lemmas.List.{set-get_or}
use Rattle.std.proofs.lemmas.Option.{get_or_from_slice_get}
use Rattle.due_tree.proofs.Trees.{same_option}
use Rattle.retry_table.proofs.places.put.Goals as goal

pub returns-then-eq : goal.returns-then-eq
returns-then-eq c =
    let queue = c.args.queue.now in
    let kept : get_or queue c.args.place None ≡ c.args.number = get_or_from_slice_get queue c.args.place c.get.result None c.get.ensures ∙ same_option c.get.result c.args.number (sym c.if-eq.ensures) in
    sym (set-get_or queue c.args.place None) ∙ ap (set queue c.args.place) kept
