use Rattle.std.proofs.Common.{ℕ, List, Bool, length, sym, ap, ◌∙◌}
use Rattle.due_tree.proofs.Sets.{length-places}
use Rattle.due_tree.proofs.bits.Bits.len.Goals as goal

pub returns : goal.returns
returns c = sym (length-places c.self.inside.words.items 0 c.self.inside.len) ∙ ap (λ (places : List Bool). length places) c.self.view_is
