use Rattle.std.proofs.Common.{◌≡◌, [], ◌∷◌, ◌++◌, ◌-◌, None, nat_eq, map, ap, ◌∙◌}
use Rattle.std.specs.Cmp.Lexicographic.{pointwise}
use Rattle.std.proofs.lemmas.List.{map-append}
use Rattle.indexmap.proofs.CallerLemmas.{insert_entry-new}
use Rattle.sync_rules.specs.Facts.{group_at, known_of}
use Rattle.visibility_table.specs.Table.{TableOfLevels, known}
use Rattle.visibility_table.proofs.Groups.{not_kept}
use Rattle.visibility_table.proofs.levels.Levels.add_group.Goals as goal

pub returns : goal.returns
returns c =
    let es = c.self.inside.groups.entries in
    let id = c.group_id-id.result in
    let absent : group_at (map known es) id ≡ None = ap (group_at (map known es)) c.group_id-id.ensures ∙ (ap (λ (t : TableOfLevels). group_at t.groups (known_of c.args.def).id) c.self.view_is ∙ c.requires.new) in
    let put = insert_entry-new (pointwise nat_eq) c.self.inside.groups id c.args.def (not_kept id es absent) in
    let groups : map known c.insert.new.self.entries ≡ map known es ++ known_of c.args.def ∷ [] =
    ap (map known) (rw c.unwrap.ensures at c.insert.ensures.entries ∙ put) ∙ (map-append known es ((id, c.args.def) ∷ []) ∙ ap (λ i. map known es ++ known (i, c.args.def) ∷ []) c.group_id-id.ensures) in
    let all : map known c.insert.new.self.entries ≡ c.args.self.now.groups ++ known_of c.args.def ∷ [] = groups ∙ ap (λ (t : TableOfLevels). t.groups ++ known_of c.args.def ∷ []) c.self.view_is in
    λ k. record { contacts = (c.self.view_is k).contacts; groups = all k; levels = (c.self.view_is k).levels; spare = (c.self.view_is k).spare - 1 }
