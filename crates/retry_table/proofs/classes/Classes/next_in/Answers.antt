use Rattle.std.proofs.Common.{◌≡◌, ℕ, List, [], Option, sym, subst, ◌∙◌}
use Rattle.std.proofs.lemmas.List.{get_or_default}
use Rattle.retry_table.specs.declared.blocks.Times.TheVariants as times
use Rattle.retry_table.specs.Queues.{AreLeast, class_at}
use Rattle.retry_table.proofs.SoonerQueues.{found_in, none_found_in}
use Rattle.retry_table.proofs.classes.Classes.next_in.Goals as goal

pub returns-in_err-bound : goal.returns-in_err-bound
returns-in_err-bound c =
    c.from_residual.ensures
    ∙ none_found_in c.args.rows.now c.args.from c.args.tries c.args.latency c.args.now c.requires.kept.told c.in_err-bound.ensures

pub next_at_most-requires : goal.next_at_most-requires
next_at_most-requires c =
    subst (λ (t : List (Option ℕ)). AreLeast (times.Sooner c.args.tries) c.args.rows.now t)
    (sym (c.index.ensures ∙ get_or_default c.args.self.now.trees.items c.args.tries c.index.result.now [] c.requires.within)) (c.requires.kept.each c.args.tries c.requires.within)

pub returns : goal.returns
returns c =
    c.next_at_most.ensures
    ∙ found_in c.args.rows.now c.args.from c.args.tries c.args.latency c.args.now c.in_ok-bound.bound c.in_ok-bound.ensures
