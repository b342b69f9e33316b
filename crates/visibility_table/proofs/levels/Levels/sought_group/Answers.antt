use Rattle.std.proofs.Common.{◌≡◌, Some, None, MatchOption, slice_get, sym, ap, subst, ◌∙◌}
use Rattle.sync_rules.specs.Facts.{group_at}
use Rattle.visibility_table.specs.Table.{TableOfLevels, group_number}
use Rattle.visibility_table.proofs.Groups.{kept_number, numbered}
use Rattle.visibility_table.proofs.levels.Levels.sought_group.Goals as goal

none : (c : goal.After-from_residual)
    → c.from_residual.result ≡ group_number c.args.self.now.groups c.args.id.now
none c =
    c.from_residual.ensures
    ∙ (c.in_err-number.ensures.index
    ∙ (kept_number c.args.id.now c.self.inside.groups.entries
    ∙ ap (λ (t : TableOfLevels). group_number t.groups c.args.id.now) c.self.view_is))

some : (c : goal.In_ok-number)
    → Some c.in_ok-number.number ≡ group_number c.args.self.now.groups c.args.id.now
some c =
    c.in_ok-number.ensures.index
    ∙ (kept_number c.args.id.now c.self.inside.groups.entries
    ∙ ap (λ (t : TableOfLevels). group_number t.groups c.args.id.now) c.self.view_is)

pub returns-in_err-number-clause-number : goal.returns-in_err-number-clause-number
returns-in_err-number-clause-number c = none c

pub returns-in_err-number-clause-found : goal.returns-in_err-number-clause-found
returns-in_err-number-clause-found c =
    let gs = c.args.self.now.groups in
    let id = c.args.id.now in
    subst (λ o. MatchOption o (group_at gs id ≡ None) (λ n. slice_get gs n ≡ group_at gs id)) (sym (none c)) (numbered gs id)

pub returns-clause-number : goal.returns-clause-number
returns-clause-number c = some c

pub returns-clause-found : goal.returns-clause-found
returns-clause-found c =
    let gs = c.args.self.now.groups in
    let id = c.args.id.now in
    subst (λ o. MatchOption o (group_at gs id ≡ None) (λ n. slice_get gs n ≡ group_at gs id)) (sym (some c)) (numbered gs id)
