use Rattle.std.proofs.Common.{◌≡◌, ℕ, ◌+◌, List, [], ◌∷◌, ◌++◌, length, length-append, refl, sym, ap, subst, ◌∙◌, arith}
use Rattle.journal_audit.specs.declared.early.Mark.{Mark}
use Rattle.journal_audit.specs.Early.{mark_of}
use Rattle.journal_audit.proofs.Brought.{none_marked}
use Rattle.journal_audit.proofs.early.Early.new.Goals as goal

pub loop-preserved : goal.loop-preserved
loop-preserved c =
    let i = c.loop.invariant in
    let items = c.in_ok-push.ensures.items in
    record {
      many = ap length items ∙ (length-append c.loop.marks.items _ ∙ ap (λ n. n + 1) i.many);
      none = λ contact. subst (λ (ms : List Mark). (mark_of ms contact).from ≡ 0) (sym items) (none_marked c.loop.marks.items _ refl i.none contact);
      first = i.first;
    }
