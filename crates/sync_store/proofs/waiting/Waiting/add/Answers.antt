use Rattle.std.proofs.Common.{sym, ap, ◌∙◌, ◌+◌, ℕ, List, subst}
use Rattle.frame_journal.specs.Group.{IsGroup}
use Rattle.sync_store.proofs.Counting.{frames_more}
use Rattle.sync_store.proofs.waiting.Waiting.add.Goals as goal

pub invariant_of-self : goal.invariant_of-self
invariant_of-self c =
    let waits = subst (λ (w : List ℕ). IsGroup w) (sym c.self.view_is) c.requires.waits in
    ap (λ n. n + 1) c.self.invariant
    ∙ sym (frames_more c.args.framed.now c.self.inside.group c.add.new.self waits
    c.add.ensures.added)
