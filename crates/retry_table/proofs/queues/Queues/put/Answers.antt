use Rattle.std.proofs.Common.{◌≡◌, ℕ, ◌<◌, List, Bool, length, slice_index_or, set, sym, subst, ap, ◌∙◌}
use Rattle.std.proofs.lemmas.List.{set-set, set-get_or}
use Rattle.retry_table.specs.declared.blocks.Times.TheVariants as times
use Rattle.retry_table.specs.Table.{KeptRow}
use Rattle.retry_table.specs.Queues.{is_awaited, AreClasses, AreLeast, HasPassingRows}
use Rattle.retry_table.proofs.Follows.{follows-set}
use Rattle.retry_table.proofs.queues.Queues.put.Goals as goal

written : (test : KeptRow → Bool) (rows : List KeptRow) (places new : List Bool) (n : ℕ) (kept : KeptRow) (v : Bool) → HasPassingRows test rows places → n < length rows → v ≡ test kept → new ≡ set places n v → HasPassingRows test (set rows n kept) new
written test rows places new n kept v f within is e = subst (λ (p : List Bool). HasPassingRows test (set rows n kept) p) (sym e) (follows-set test rows places f n kept v within is)

-- what was read is put back
put_back : (rows : List KeptRow) (n : ℕ) (row old : KeptRow) → old ≡ slice_index_or rows n old → rows ≡ set (set rows n row) n old
put_back rows n row old read = sym (set-set rows n row old ∙ ap (set rows n) read ∙ set-get_or rows n old)

pub mend-requires-clause-before : goal.mend-requires-clause-before
mend-requires-clause-before c =
    let q = c.self.inside in
    let old = c.index-old.result.now in
    let back : q.rows.items ≡ set c.deref.result.now c.args.n old = put_back q.rows.items c.args.n c.args.row old c.index-old.ensures ∙ ap (λ (rows : List KeptRow). set rows c.args.n old) (sym c.deref.ensures.value) in
    subst (λ (rows : List KeptRow). AreLeast times.ToSend rows q.messages) back c.self.invariant.by_expiry

pub mend-requires-2-clause-before : goal.mend-requires-2-clause-before
mend-requires-2-clause-before c =
    let q = c.self.inside in
    let old = c.index-old.result.now in
    let back : q.rows.items ≡ set c.deref-2.result.now c.args.n old = put_back q.rows.items c.args.n c.args.row old c.index-old.ensures ∙ ap (λ (rows : List KeptRow). set rows c.args.n old) (sym c.deref-2.ensures.value) in
    subst (λ (rows : List KeptRow). AreLeast times.ToOffer rows q.offers) back c.self.invariant.by_offer

pub mend-requires-3-clause-before : goal.mend-requires-3-clause-before
mend-requires-3-clause-before c =
    let q = c.self.inside in
    let old = c.index-old.result.now in
    let back : q.rows.items ≡ set c.deref-3.result.now c.args.n old = put_back q.rows.items c.args.n c.args.row old c.index-old.ensures ∙ ap (λ (rows : List KeptRow). set rows c.args.n old) (sym c.deref-3.ensures.value) in
    subst (λ (rows : List KeptRow). AreClasses rows q.sooner) back c.self.invariant.by_tries

pub invariant_of-self : goal.invariant_of-self
invariant_of-self c =
    let q = c.self.inside in
    let f = c.self.invariant in
    let within : c.args.n < length q.rows.items = subst (λ (rows : List KeptRow). c.args.n < length rows) (sym c.self.view_is) c.requires in
    record {
      by_expiry = subst (λ (rows : List KeptRow). AreLeast times.ToSend rows c.mend.new.tree) c.deref.ensures.value c.mend.ensures;
      by_request = written is_awaited q.rows.items q.asked c.put.new.self c.args.n c.args.row c.is_awaited.result f.by_request within c.is_awaited.ensures c.put.ensures;
      by_offer = subst (λ (rows : List KeptRow). AreLeast times.ToOffer rows c.mend-2.new.tree) c.deref-2.ensures.value c.mend-2.ensures;
      by_debt = written (λ kept. kept.row.owed) q.rows.items q.owed c.put-2.new.self c.args.n c.args.row c.is_owed.result f.by_debt within c.is_owed.ensures c.put-2.ensures;
      by_tries = subst (λ (rows : List KeptRow). AreClasses rows c.mend-3.new.self) c.deref-3.ensures.value c.mend-3.ensures;
    }
