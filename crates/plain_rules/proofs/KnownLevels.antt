-- Each group that is not Invisible to some contact is known, exactly where each Level entry passes.
use Rattle.std.proofs.Common.{◌≡◌, ◌↔◌, ℕ, Bool, true, false, cond, ◌&&◌, ◌||◌, nat_eq, eqb-true, List, [], ◌∷◌, refl, sym, ◌∙◌, ap, is_some}
use Rattle.std.specs.List.{list_all}
use Rattle.std.proofs.lemmas.Bool.{and_parts, false≢true}
use Rattle.sync_rules.specs.declared.entries.Entry.{Entry}
use Rattle.sync_rules.specs.declared.entries.Entry.TheVariants as entry
use Rattle.sync_rules.specs.declared.entries.Level.{Level}
use Rattle.sync_rules.specs.declared.entries.Level.TheVariants as level
use Rattle.sync_rules.specs.Lists.{same_id}
use Rattle.sync_rules.specs.Facts.{Facts, Id, facts, group_at, level_at, is_invisible}
use Rattle.sync_rules.specs.Scans.{level_then, last_level, last_level_in}
use Rattle.plain_rules.specs.KnownLevels.{knows_level, all_entries}
use Rattle.sync_rules.specs.Views.{KnowsShown}
use Rattle.sync_rules.proofs.Elements.{same_id-is}
use Rattle.sync_rules.proofs.ScanLaws.{level_found}

module _ (f : Facts) (contact : ℕ) (group : Id) (seen : is_invisible (level_at f.levels contact group) ≡ false) where
  abbrev IsKnown : Type 0
  IsKnown = is_some (group_at f.groups group) ≡ true

  -- a level that is not Invisible was set by an entry, or before
  known_by : (before : Level) (e : Entry) → knows_level f e ≡ true → (is_invisible before ≡ false → IsKnown)
      → is_invisible (level_then contact group before e) ≡ false → IsKnown
  known_by before (entry.Level c g l) test was now =
      elim (nat_eq contact c && same_id group g) as (λ b. (nat_eq contact c && same_id group g) ≡ b → is_invisible (cond b l before) ≡ false → IsKnown) [
        | true ↦ λ e _.
            let both = and_parts (nat_eq contact c) (same_id group g) e in
            let same_contact : contact ≡ c = eqb-true contact c both.0 in
            let same_group : group ≡ g = same_id-is group g both.1 in
            let at : (is_invisible (level_at f.levels contact group) || is_some (group_at f.groups group)) ≡ true =
            (λ i. is_invisible (level_at f.levels (same_contact i) (same_group i)) || is_some (group_at f.groups (same_group i))) ∙ test in
            ap (λ b. b || is_some (group_at f.groups group)) (sym seen) ∙ at
        | false ↦ λ e s. was s
      ] refl now
  known_by before _ test was now = was now

  known_in : (before : Level) (es : List Entry) → list_all (knows_level f) es ≡ true → (is_invisible before ≡ false → IsKnown)
      → is_invisible (last_level contact group before es) ≡ false → IsKnown
  known_in before [] test was now = was now
  known_in before (e ∷ es) test was now =
      let both = and_parts (knows_level f e) (list_all (knows_level f) es) test in
      known_in (level_then contact group before e) es both.1 (known_by before e both.0 was) now

  cond_parts : (a b : Bool) → cond a b false ≡ true → (a ≡ true) × (b ≡ true)
  cond_parts true b h = (refl, h)
  cond_parts false b h = absurd (false≢true h)

  pub known_among : (before : Level) (bs : List (List Entry)) → all_entries (knows_level f) bs ≡ true → (is_invisible before ≡ false → IsKnown)
      → is_invisible (last_level_in contact group before bs) ≡ false → IsKnown
  known_among before [] test was now = was now
  known_among before (b ∷ bs) test was now =
      let both = cond_parts (list_all (knows_level f) b) (all_entries (knows_level f) bs) test in
      known_among (last_level contact group before b) bs both.1 (known_in before b both.0 was) now

knows_each : (f : Facts) → KnowsShown f → (e : Entry) → knows_level f e ≡ true
knows_each f shown (entry.Level c g l) =
    elim (is_invisible (level_at f.levels c g)) as (λ b. is_invisible (level_at f.levels c g) ≡ b → (b || is_some (group_at f.groups g)) ≡ true) [
      | true ↦ λ e. refl
      | false ↦ λ e. shown c g e
    ] refl
knows_each f shown _ = refl

all_in : (f : Facts) → KnowsShown f → (es : List Entry) → list_all (knows_level f) es ≡ true
all_in f shown [] = refl
all_in f shown (e ∷ es) = ap (λ b. b && list_all (knows_level f) es) (knows_each f shown e) ∙ all_in f shown es

all_among : (f : Facts) → KnowsShown f → (bs : List (List Entry)) → all_entries (knows_level f) bs ≡ true
all_among f shown [] = refl
all_among f shown (b ∷ bs) = ap (λ t. cond t (all_entries (knows_level f) bs) false) (all_in f shown b) ∙ all_among f shown bs

pub knows_shown : (j : List (List Entry)) → (all_entries (knows_level (facts j)) j ≡ true) ↔ KnowsShown (facts j)
knows_shown j = (
  λ test contact group seen.
      known_among (facts j) contact group seen level.Invisible j test (λ none. absurd (false≢true (sym none)))
      (ap is_invisible (level_found contact group j) ∙ seen),
  λ shown. all_among (facts j) shown j,
)
