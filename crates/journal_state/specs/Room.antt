-- For how much more a state has room.
use Rattle.std.specs.Prelude.{ℕ, ◌≤◌, List, map, length, slice_index_or, refl}
use Rattle.std.specs.Coded.{Coded, code_by, coded×, coded_list, coded_ℕ}
use Rattle.retry_table.specs.Table as retry

-- for how many more entries there is room, and for each contact how many rows and how many more wanted ids there is room for
pub record Room : Type 0 where
  pub entries : ℕ
  pub rows : List ℕ
  pub wants : List ℕ

abbrev pub room_code : Coded Room
room_code =
    code_by (ℕ × (List ℕ × List ℕ)) (coded× coded_ℕ (coded× (coded_list coded_ℕ) (coded_list coded_ℕ))) (λ r. (r.entries, (r.rows, r.wants)))
    (λ p. record { entries = p.0; rows = p.1.0; wants = p.1.1 }) (λ _. refl)

-- how many rows of a contact there is room for
abbrev pub rows_room : Room → ℕ → ℕ
rows_room room contact = slice_index_or room.rows contact 0

-- how many more ids wanted from a contact there is room for
abbrev pub wants_room : Room → ℕ → ℕ
wants_room room contact = slice_index_or room.wants contact 0

-- the room of a table of what is due, beside that for entries
abbrev pub room_in : ℕ → retry.Table → Room
room_in entries table = record { entries = entries; rows = map (λ ks. length ks) table.rows; wants = map (λ w. w.room) table.wants }

-- no room is taken away
pub record KeepsRoom (old new : Room) : Type 0 where
  pub entries : old.entries ≤ new.entries
  pub rows : (contact : ℕ) → rows_room old contact ≤ rows_room new contact
  pub wants : (contact : ℕ) → wants_room old contact ≤ wants_room new contact
