use Rattle.std.proofs.Common.{◌≡◌, [], ◌∷◌, ◌++◌, None, nat_eq, map, ap, ◌∙◌}
use Rattle.std.specs.Cmp.Lexicographic.{pointwise}
use Rattle.std.proofs.lemmas.List.{map-append}
use Rattle.indexmap.proofs.CallerLemmas.{insert_entry-new}
use Rattle.sync_rules.specs.Facts.{group_at}
use Rattle.visibility_table.specs.Table.{TableOfLevels, known}
use Rattle.visibility_table.proofs.Groups.{not_kept}
use Rattle.visibility_table.proofs.levels.Levels.put_group.Goals as goal

pub returns : goal.returns
returns c =
    let es = c.self.inside.groups.entries in
    let absent : group_at (map known es) c.args.id ≡ None = ap (λ (t : TableOfLevels). group_at t.groups c.args.id) c.self.view_is ∙ c.requires.new in
    let put = insert_entry-new (pointwise nat_eq) c.self.inside.groups c.args.id c.args.def (not_kept c.args.id es absent) in
    let groups : map known c.insert.new.self.entries ≡ map known es ++ record { def = c.args.def; id = c.args.id } ∷ [] =
    ap (map known) (c.in_ok-insert.ensures.entries ∙ put) ∙ map-append known es ((c.args.id, c.args.def) ∷ []) in
    let all = groups ∙ ap (λ (t : TableOfLevels). t.groups ++ record { def = c.args.def; id = c.args.id } ∷ []) c.self.view_is in
    λ k. record { contacts = (c.self.view_is k).contacts; groups = all k; levels = (c.self.view_is k).levels; spare = (c.self.view_is k).spare }
