use Rattle.std.proofs.Common.{◌≡◌, ℕ, ◌+◌, ◌-◌, ◌^◌, [], ◌∷◌, ◌++◌, take, min, sym, ap, ◌∙◌}
use Rattle.std.proofs.lemmas.List.{take_more}
use Rattle.sync_rules.specs.declared.entries.Entry.{Entry}
use Rattle.journal_migration.specs.Copying.{brought_by, one_brought}
use Rattle.journal_migration.proofs.Brought.{brought_push, counted_more}
use Rattle.journal_migration.proofs.naming.count_brought.Goals as goal

pub entries-preserved : goal.entries-preserved
entries-preserved c =
    let es = c.args.entries.now in
    let i = c.entries.entry-index in
    let e = c.entry-item.result in
    let more : take (i + 1) es ≡ take i es ++ e ∷ [] =
    take_more es i e c.entries-test.true
    ∙ ap (λ (x : Entry). take i es ++ x ∷ []) (sym c.entry-item.is) in
    counted_more c.entries.count c.saturating_add-count.result (brought_by (take i es))
    (brought_by (take (i + 1) es)) (one_brought e) c.entries.invariant
    (ap brought_by more ∙ brought_push (take i es) e)
    (c.saturating_add-count.ensures
    ∙ ap (λ (n : ℕ). min (c.entries.count + n) (2 ^ 32 - 1)) c.one_brought.ensures)
