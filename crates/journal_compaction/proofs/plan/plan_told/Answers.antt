use Rattle.std.proofs.Common.{◌≡◌, List, [], ◌∷◌, ◌++◌, get_or, ap, subst, ◌∙◌}
use Rattle.std.proofs.lemmas.List.{take_all}
use Rattle.std.proofs.lemmas.Option.{slice_get-get_or}
use Rattle.journal_state.specs.declared.account.Told.{Told}
use Rattle.journal_state.specs.declared.account.Told.TheVariants as told
use Rattle.journal_state.specs.Telling.{told_entries}
use Rattle.journal_compaction.specs.declared.items.Item.{Item}
use Rattle.journal_compaction.specs.Items.{AddsItems, is_told, item_told}
use Rattle.journal_compaction.proofs.Adding.{adds_all, told_more}
use Rattle.journal_compaction.proofs.plan.plan_told.Goals as goal

pub told-preserved : goal.told-preserved
told-preserved c f within =
    let ts = c.args.told.now in
    let n = c.told.one-index in
    let t : Told = get_or ts n (told.Kept 0) in
    let so_far = c.told.items.items in
    let is : c.push.new.self.items ≡ so_far ++ item_told t ∷ [] =
    c.in_ok-push.ensures.items ∙ ap (λ (i : Item). so_far ++ i ∷ []) c.item_told.ensures in
    told_more f ts [] so_far c.push.new.self.items n t
    (slice_get-get_or ts n (told.Kept 0) c.told-test.true) within
    is (c.told.invariant f within)

pub returns : goal.returns
returns c f within =
    let ts = c.args.told.now in
    let all = take_all c.told.one-index ts c.told-test.false in
    adds_all f is_told c.told.items.items (told_entries f.held ts)
    (subst (λ (l : List Told). AddsItems f is_told [] c.told.items.items (told_entries f.held l))
    all
    (c.told.invariant f within))
