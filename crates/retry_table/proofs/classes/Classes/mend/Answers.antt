use Rattle.std.proofs.Common.{◌≡◌, ◌≢◌, ◌<◌, ◌≤◌, ◌+◌, ◌^◌, ℕ, List, Option, length, max, sym, ap, subst, ◌∙◌, arith}
use Rattle.std.proofs.lemmas.List.{get_or_default}
use Rattle.retry_table.specs.declared.blocks.Times.TheVariants as times
use Rattle.retry_table.specs.Table.{KeptRow, no_kept, kept_in}
use Rattle.retry_table.specs.Queues.{AreLeast, class_at}
use Rattle.retry_table.proofs.SoonerQueues.{mended_classes}
use Rattle.retry_table.proofs.classes.Classes.mend.Goals as goal

pub returns-then-is-was : goal.returns-then-is-was
returns-then-is-was c =
    let rows = c.args.rows.now in
    let n = c.args.n in
    let row = c.index-rows-n.result in
    let read : row ≡ kept_in rows n = c.index-rows-n.is ∙ get_or_default rows n row no_kept c.requires.within in
    let was = c.tries-was.result in
    let is = c.tries-is.result in
    let apart : was ≢ is = λ e. c.if-is-was.true (sym e) in
    let one = c.mend_class.ensures in
    let two = c.mend_class-then-is-was.ensures in
    let most : c.mend_class-then-is-was.new.self.most ≡ max c.args.self.now.most (is + 1) = two.most ∙ one.most ∙ c.max-self.ensures in
    let after = c.mend_class-then-is-was.new.self in
    mended_classes rows n c.args.old c.requires.within c.args.self.now after was is c.requires.before
    (subst (λ (k : KeptRow). k.row.expiry < 2 ^ 64) read c.tries-is.ensures.told) c.tries-was.ensures.value
    (c.tries-is.ensures.value ∙ ap (λ (k : KeptRow). k.row.tries) read) (two.many ∙ one.many) (omega (arith, most)) (omega (arith, most))
    (λ there. subst (λ (t : List (Option ℕ)). AreLeast (times.Sooner was) rows t) (sym (two.others was apart))
    (one.here (omega (arith, there, two.many)))) two.here
    (λ k x y. two.others k y ∙ one.others k x)

pub returns-else-is-was : goal.returns-else-is-was
returns-else-is-was c =
    let rows = c.args.rows.now in
    let n = c.args.n in
    let row = c.index-rows-n.result in
    let read : row ≡ kept_in rows n = c.index-rows-n.is ∙ get_or_default rows n row no_kept c.requires.within in
    let was = c.tries-was.result in
    let is = c.tries-is.result in
    let one = c.mend_class.ensures in
    let after = c.mend_class.new.self in
    let most : after.most ≡ max c.args.self.now.most (is + 1) = one.most ∙ c.max-self.ensures in
    mended_classes rows n c.args.old c.requires.within c.args.self.now after was is c.requires.before
    (subst (λ (k : KeptRow). k.row.expiry < 2 ^ 64) read c.tries-is.ensures.told) c.tries-was.ensures.value
    (c.tries-is.ensures.value ∙ ap (λ (k : KeptRow). k.row.tries) read) one.many (omega (arith, most)) (omega (arith, most)) one.here
    (subst (λ k. k < length after.trees.items → AreLeast (times.Sooner k) rows (class_at after.trees.items k)) (sym c.if-is-was.false) one.here)
    (λ k x y. one.others k x)
