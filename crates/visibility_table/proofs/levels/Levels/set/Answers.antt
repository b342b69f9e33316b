use Rattle.std.proofs.Common.{◌≡◌, ◌-◌, ap, sym, subst, refl, ◌∙◌, inl, inr}
use Rattle.std.specs.FinMap as fin_map
use Rattle.sync_rules.specs.Facts.{LevelMap, pair_cmp, put_level}
use Rattle.visibility_table.specs.Table.{TableOfLevels}
use Rattle.visibility_table.proofs.Pairs.{kept_put, kept_drop}
use Rattle.visibility_table.proofs.levels.Levels.set.Goals as goal

pub returns-in-Invisible : goal.returns-in-Invisible
returns-in-Invisible c =
    let dropped = kept_drop c.self.inside.levels.entries c.swap_remove.new.self.entries (c.args.contact, c.args.group) (λ q. c.swap_remove.ensures.updates.0 q) in
    let levels : ◌≡◌ {A = LevelMap} (fin_map.from_entries {R = pair_cmp} c.swap_remove.new.self.entries) (put_level c.args.self.now.levels (c.args.contact, c.args.group) c.args.level) =
    dropped ∙ (ap (λ (t : TableOfLevels). fin_map.remove t.levels (c.args.contact, c.args.group)) c.self.view_is
    ∙ ap (put_level c.args.self.now.levels (c.args.contact, c.args.group)) (sym c.in-Invisible.is)) in
    λ k. record { contacts = (c.self.view_is k).contacts; groups = (c.self.view_is k).groups; levels = levels k; spare = (c.self.view_is k).spare - 1 }

pub returns-in-Visible : goal.returns-in-Visible
returns-in-Visible c =
    let updates = rw c.unwrap.ensures at c.insert.ensures.updates in
    let put = kept_put c.self.inside.levels.entries c.insert.new.self.entries (c.args.contact, c.args.group) c.args.level (λ q. updates.0 q) in
    let shown : fin_map.insert c.args.self.now.levels (c.args.contact, c.args.group) c.args.level ≡ put_level c.args.self.now.levels (c.args.contact, c.args.group) c.args.level =
    elim c.in-Visible.is [
      | inl e ↦ subst (λ l. fin_map.insert c.args.self.now.levels (c.args.contact, c.args.group) l ≡ put_level c.args.self.now.levels (c.args.contact, c.args.group) l) (sym e) refl
      | inr e ↦ subst (λ l. fin_map.insert c.args.self.now.levels (c.args.contact, c.args.group) l ≡ put_level c.args.self.now.levels (c.args.contact, c.args.group) l) (sym e) refl
    ] in
    let levels : ◌≡◌ {A = LevelMap} (fin_map.from_entries {R = pair_cmp} c.insert.new.self.entries) (put_level c.args.self.now.levels (c.args.contact, c.args.group) c.args.level) =
    put ∙ (ap (λ (t : TableOfLevels). fin_map.insert t.levels (c.args.contact, c.args.group) c.args.level) c.self.view_is ∙ shown) in
    λ k. record { contacts = (c.self.view_is k).contacts; groups = (c.self.view_is k).groups; levels = levels k; spare = (c.self.view_is k).spare - 1 }
