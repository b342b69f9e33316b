-- What contracts see of the contacts, groups and levels of a journal.
use Rattle.std.specs.Prelude.{ℕ, ◌-◌, ◌^◌, ◌<◌, ⊤, List, [], Option, position, refl}
use Rattle.std.specs.Coded.{Coded, code_by, coded×, coded_list, coded_ℕ}
use Rattle.std.specs.FinMap as fin_map
use Rattle.sync_ids.specs.Values.{GroupValue}
use Rattle.sync_rules.specs.declared.entries.Entry.{Entry}
use Rattle.sync_rules.specs.declared.entries.Entry.TheVariants as entry
use Rattle.sync_rules.specs.Codes.{known_code, levels_code}
use Rattle.sync_rules.specs.Facts.{Id, Known, LevelMap, contacts_after, levels_after}
use Rattle.sync_rules.specs.Lists.{same_id}

-- the number of contacts, the groups in the order in which they were added, the levels that are not Invisible, and for how
-- many more groups and levels there is room
pub record TableOfLevels : Type 0 where
  pub contacts : ℕ
  pub groups : List Known
  pub levels : LevelMap
  pub spare : ℕ

abbrev pub table_code : Coded TableOfLevels
table_code =
    code_by (ℕ × (List Known × (LevelMap × ℕ))) (coded× coded_ℕ (coded× (coded_list known_code) (coded× levels_code coded_ℕ)))
    (λ t. (t.contacts, (t.groups, (t.levels, t.spare))))
    (λ p. record { contacts = p.0; groups = p.1.0; levels = p.1.1.0; spare = p.1.1.1 }) (λ _. refl)

abbrev pub empty_table : TableOfLevels
empty_table = record { contacts = 0; groups = []; levels = fin_map.empty; spare = 0 }

-- a group as it is kept: its definition under its id
abbrev pub known : Id × GroupValue → Known
known e = record { def = e.1; id = e.0 }

-- the number of the first group of an id
abbrev pub group_number : List Known → Id → Option ℕ
group_number groups id = position (λ g. same_id g.id id) groups

-- a contact has a number left, and a level has room
abbrev pub CanApply : TableOfLevels → Entry → Type 0
CanApply table (entry.Contact number) = table.contacts < 2 ^ 32 - 1
CanApply table (entry.Level contact group level) = 0 < table.spare
CanApply table _ = ⊤

-- the room that an entry takes
abbrev pub room_for : Entry → ℕ
room_for (entry.Level contact group level) = 1
room_for _ = 0

-- what an entry that is no group makes of a table
abbrev pub after_entry : TableOfLevels → Entry → TableOfLevels
after_entry table e = record table {
  contacts = contacts_after table.contacts e;
  levels = levels_after table.levels e;
  spare = table.spare - room_for e;
}
