-- The levels that follow from what two people said of their groups.
use Rattle.std.specs.Prelude.{Bool, true, false, cond, not, ◌&&◌, nat_eq, List, [], ◌∷◌, ◌++◌, map}
use Rattle.std.specs.List.{list_any}
use Rattle.std.specs.Cmp.Lexicographic.{pointwise}
use Rattle.sync_ids.specs.Values.{GroupValue}
use Rattle.sync_rules.specs.declared.entries.Level.{Level}
use Rattle.sync_rules.specs.declared.entries.Level.TheVariants as level
use Rattle.client_sharing.specs.declared.agreement.Said.{Said}
use Rattle.client_sharing.specs.declared.agreement.Target.{Target}

-- whether two definitions are the same
abbrev pub same_def : GroupValue → GroupValue → Bool
same_def a b = pointwise nat_eq a.name b.name && (nat_eq a.major b.major && pointwise nat_eq a.descriptor b.descriptor)

abbrev pub same_side : Bool → Bool → Bool
same_side true b = b
same_side false b = not b

-- whether something was said of a definition
abbrev pub is_named : List Said → GroupValue → Bool
is_named said def = list_any (λ s. same_def s.def def) said

-- the stance of a side on a definition, behind an earlier one: that of its last word on it
abbrev pub stance_after : Bool → GroupValue → Bool → List Said → Bool
stance_after own def before [] = before
stance_after own def before (s ∷ said) =
    stance_after own def (cond (same_side s.own own && same_def s.def def) s.join before) said

-- a side that said nothing of a definition leaves
abbrev pub stance : Bool → GroupValue → List Said → Bool
stance own def said = stance_after own def false said

-- shared where both join, visible where only the own side joins
abbrev pub level_for : Bool → Bool → Level
level_for true true = level.Shared
level_for true false = level.Visible
level_for false other = level.Invisible

abbrev pub target_of : List Said → GroupValue → Target
target_of said def = record { def = def; level = level_for (stance true def said) (stance false def said) }

-- the definitions that are not among those of before, each once, in the order of their first naming
abbrev pub named_after : List Said → List Said → List GroupValue
named_after before [] = []
named_after before (s ∷ said) =
    cond (is_named before s.def) (named_after (before ++ s ∷ []) said) (s.def ∷ named_after (before ++ s ∷ []) said)

abbrev pub targets_of : List Said → List Target
targets_of said = map (target_of said) (named_after [] said)
