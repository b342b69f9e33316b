-- Whether each group with a level is known, by going over entries.
use Rattle.std.specs.Prelude.{Bool, true, false, cond, ◌||◌, List, [], ◌∷◌, is_some}
use Rattle.std.specs.List.{list_all}
use Rattle.sync_rules.specs.declared.entries.Entry.{Entry}
use Rattle.sync_rules.specs.declared.entries.Entry.TheVariants as entry
use Rattle.sync_rules.specs.Facts.{Facts, group_at, level_at, is_invisible}

-- a Level entry whose group is known, where it is not Invisible to the contact at the end
abbrev pub knows_level : Facts → Entry → Bool
knows_level f (entry.Level c g l) = is_invisible (level_at f.levels c g) || is_some (group_at f.groups g)
knows_level f _ = true

-- whether all entries of all batches pass
abbrev pub all_entries : (Entry → Bool) → List (List Entry) → Bool
all_entries test [] = true
all_entries test (b ∷ bs) = cond (list_all test b) (all_entries test bs) false
