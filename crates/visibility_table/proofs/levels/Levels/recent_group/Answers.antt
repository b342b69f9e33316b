use Rattle.std.proofs.Common.{◌≡◌, Some, slice_get, sym, ap, ◌∙◌}
use Rattle.std.specs.Cmp.Lexicographic.{bytes_decides}
use Rattle.std.proofs.lemmas.Option.{slice_get_within}
use Rattle.sync_rules.specs.Facts.{Known}
use Rattle.visibility_table.specs.Table.{TableOfLevels, group_number}
use Rattle.visibility_table.proofs.Fronts.{got_known, group_there, number_at}
use Rattle.visibility_table.proofs.levels.Levels.recent_group.Goals as goal

same_id_of : (c : goal.Then-same_bytes) → c.in_ok-known.known.now ≡ c.args.id.now
same_id_of c =
    let words : c.as_bytes.result.now ≡ c.as_bytes-2.result.now =
    (bytes_decides c.as_bytes.result.now c.as_bytes-2.result.now).0 (sym c.same_bytes.ensures ∙ c.if-same_bytes.true) in
    sym c.as_bytes.ensures.value ∙ words ∙ c.as_bytes-2.ensures.value

abbrev group : (c : goal.Then-same_bytes) → Known
group c = record { def = c.in_ok-known.field-0-1.now; id = c.in_ok-known.known.now }

there : (c : goal.Then-same_bytes) → slice_get c.args.self.now.groups c.self.inside.recent ≡ Some (group c)
there c =
    ap (λ (t : TableOfLevels). slice_get t.groups c.self.inside.recent) (sym c.self.view_is)
    ∙ got_known c.self.inside.groups.entries c.self.inside.recent c.in_ok-known.known.now c.in_ok-known.field-0-1.now (sym c.in_ok-known.ensures.entry)

number_of : (c : goal.Then-same_bytes) → Some c.self.inside.recent ≡ group_number c.args.self.now.groups c.args.id.now
number_of c = number_at c.args.self.now.groups c.self.inside.recent (group c) c.args.id.now (there c) c.show_distinct.ensures (same_id_of c)

pub returns-then-same_bytes-clause-number : goal.returns-then-same_bytes-clause-number
returns-then-same_bytes-clause-number c = number_of c

pub returns-then-same_bytes-clause-within : goal.returns-then-same_bytes-clause-within
returns-then-same_bytes-clause-within c = slice_get_within c.args.self.now.groups c.self.inside.recent (group c) (there c)

pub returns-then-same_bytes-clause-found : goal.returns-then-same_bytes-clause-found
returns-then-same_bytes-clause-found c = group_there c.args.self.now.groups c.args.id.now c.self.inside.recent (number_of c)
