use Rattle.std.proofs.Common.{◌≡◌, ◌++◌, ℕ, List, [], cond, sym, ap, subst, ◌∙◌}
use Rattle.journal_compaction.specs.Items.{bytes_of}
use Rattle.journal_compaction.specs.Paging.{page_for}
use Rattle.journal_compaction.specs.Writing.{HasSpace}
use Rattle.journal_compaction.proofs.Lengths.{space_after}
use Rattle.journal_compaction.proofs.writing.write_item.Goals as goal

pub returns-clause-space : goal.returns-clause-space
returns-clause-space g c =
    let f = c.args.state.now.facts in
    let i = c.args.item in
    let page = c.args.page.now.payload.items in
    let bytes = bytes_of f i in
    let is : c.append_item.new.to.items ≡ page_for c.args.left page i ++ bytes =
    c.in_ok-append_item.ensures.ok
    ∙ ap (λ (p : List ℕ). p ++ bytes) (c.in_ok-flush.ensures.left
    ∙ ap (λ j. cond j page []) c.joins.ensures) in
    subst (λ (p : List ℕ). HasSpace c.left_after.result p) (sym is)
    (subst (λ (n : ℕ). HasSpace n (page_for c.args.left page i ++ bytes)) (sym c.left_after.ensures)
    (space_after f c.args.most c.args.left page i c.requires.some c.requires.few c.requires.space
    c.in_ok-append_item.ensures.within))
