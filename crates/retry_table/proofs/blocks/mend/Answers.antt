use Rattle.std.proofs.Common.{◌≡◌, ℕ, ◌*◌, ◌/◌, true, false, List, Option, None, sym, ap, subst, ◌∙◌}
use Rattle.std.proofs.lemmas.List.{get_or_default}
use Rattle.std.proofs.lemmas.Option.{get_or_from_slice_get}
use Rattle.due_tree.specs.Cells.{lesser}
use Rattle.retry_table.specs.Table.{no_kept, kept_in}
use Rattle.retry_table.specs.Queues.{time_place, is_later, least_from, place_at, AreLeast}
use Rattle.retry_table.proofs.BlockLaws.{mended, lowered, stayed, floored}
use Rattle.retry_table.proofs.blocks.mend.Goals as goal
use Rattle.retry_table.proofs.blocks.mend.Goals.{then-not-is_later, else-not-is_later+then-is_later, else-not-is_later+else-is_later}

pub least_in-requires-clause-above : goal.least_in-requires-clause-above
least_in-requires-clause-above c =
    let rows = c.args.rows.now in
    let tree = c.args.tree.now in
    let what = c.args.times in
    let block = c.args.n / 64 in
    let new = time_place what (kept_in rows c.args.n) in
    let old = time_place what c.args.old in
    let read : c.index-rows-n.result ≡ kept_in rows c.args.n = c.index-rows-n.is ∙ get_or_default rows c.args.n c.index-rows-n.result no_kept c.requires.within in
    let is_new : c.place_of-new.result ≡ new = c.place_of-new.ensures ∙ ap (time_place what) read in
    let is_held : c.get-held.result ≡ place_at tree block = sym (get_or_from_slice_get tree block c.get-held.result None c.get-held.ensures) in
    let later : is_later new old ≡ true = sym (c.is_later.ensures ∙ (λ i. is_later (is_new i) (c.place_of-was.ensures i))) ∙ c.if-not-is_later.false in
    let not : is_later old (place_at tree block) ≡ false =
    sym (c.is_later-else-not-is_later.ensures ∙ (λ i. is_later (c.place_of-was.ensures i) (is_held i))) ∙ c.if-is_later.false in
    subst (λ p. lesser p (least_from what rows (64 * block) 64) ≡ p) (sym c.place_of-was.ensures)
    (floored what rows c.args.n c.args.old tree c.requires.within c.requires.before later not)

pub returns : goal.returns
returns c =
    let rows = c.args.rows.now in
    let tree = c.args.tree.now in
    let what = c.args.times in
    let block = c.args.n / 64 in
    let new = time_place what (kept_in rows c.args.n) in
    let old = time_place what c.args.old in
    let read : c.index-rows-n.result ≡ kept_in rows c.args.n = c.index-rows-n.is ∙ get_or_default rows c.args.n c.index-rows-n.result no_kept c.requires.within in
    let is_new : c.place_of-new.result ≡ new = c.place_of-new.ensures ∙ ap (time_place what) read in
    let is_held : c.get-held.result ≡ place_at tree block = sym (get_or_from_slice_get tree block c.get-held.result None c.get-held.ensures) in
    let later : c.is_later.result ≡ is_later new old = c.is_later.ensures ∙ (λ i. is_later (is_new i) (c.place_of-was.ensures i)) in
    let is : c.if-not-is_later.least ≡ least_from what rows (64 * block) 64 = elim c.if-not-is_later.branch [
      | then-not-is_later w ↦
          w.least-is ∙ w.lesser-least.ensures ∙ (λ i. lesser (is_new i) (is_held i))
          ∙ lowered what rows c.args.n c.args.old tree c.requires.within c.requires.before (sym later ∙ w.if-not-is_later.true)
      | else-not-is_later+then-is_later w ↦
          let behind : w.is_later-else-not-is_later.result ≡ is_later old (place_at tree block) = w.is_later-else-not-is_later.ensures ∙ (λ i. is_later (c.place_of-was.ensures i) (is_held i)) in
          w.least-is ∙ is_held
          ∙ stayed what rows c.args.n c.args.old tree c.requires.within c.requires.before (sym later ∙ w.if-not-is_later.false) (sym behind ∙ w.if-is_later.true)
      | else-not-is_later+else-is_later w ↦ w.least-is ∙ w.least_in.ensures
    ] in
    subst (λ (t : List (Option ℕ)). AreLeast what rows t) (sym c.put.ensures) (mended what rows c.args.n c.args.old tree c.requires.within c.requires.before c.if-not-is_later.least is)
