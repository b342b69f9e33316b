use Rattle.std.proofs.Common.{List, ℕ, ap, slice_index_or, ◌∙◌}
use Rattle.journal_audit.proofs.Brought.{none_yet}
use Rattle.journal_audit.proofs.cursors.Cursors.new.Goals as goal

pub returns : goal.returns
returns c contact =
    ap (λ (xs : List ℕ). slice_index_or xs contact 0) (c.in_ok-vec.ensures.items_if_clones_equal (λ y same. same)) ∙ none_yet 256 contact
