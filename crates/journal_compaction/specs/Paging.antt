-- How items are cut into payloads, and how long these are.
use Rattle.std.specs.Prelude.{ℕ, ◌+◌, ◌-◌, Bool, cond, not, ◌&&◌, nat_lt, List, [], ◌∷◌, ◌++◌}
use Rattle.std.specs.Prelude.{length}
use Rattle.std.specs.List.{flat_map}
use Rattle.sync_rules.specs.Facts.{Facts}
use Rattle.outside.specs.Frames.{frame_of}
use Rattle.journal_compaction.specs.declared.items.Item.{Item}
use Rattle.journal_compaction.specs.Items.{bytes_of, is_alone}

-- an item's entry goes into the payload that is being filled, which takes so many more
abbrev pub joins : ℕ → Item → Bool
joins left i = not (is_alone i) && nat_lt 0 left

-- how many more a payload takes that this item began, where it takes so many at most
abbrev pub left_behind : (most : ℕ) → Item → ℕ
left_behind most i = cond (is_alone i) 0 (most - 1)

-- how many more a payload takes behind an item that was put into it, or began it
abbrev pub left_after : (most left : ℕ) → Item → ℕ
left_after most left i = cond (joins left i) (left - 1) (left_behind most i)

-- a payload that has some bytes
abbrev pub closed_page : List ℕ → List (List ℕ)
closed_page [] = []
closed_page (x ∷ page) = (x ∷ page) ∷ []

-- what is written before an item's entry is put into a payload: the one that was being filled,
-- unless it is put there
abbrev pub written_for : (left : ℕ) → List ℕ → Item → List (List ℕ)
written_for left page i = cond (joins left i) [] (closed_page page)

-- the bytes of the payload that it is put into
abbrev pub page_for : (left : ℕ) → List ℕ → Item → List ℕ
page_for left page i = cond (joins left i) page []

-- The payloads of items, where one with these bytes is being filled and takes so many more: an item
-- that is to stand alone
-- is a payload of its own, the others fill payloads of so many.
abbrev pub pages : Facts → (most left : ℕ) → List ℕ → List Item → List (List ℕ)
pages f most left page [] = closed_page page
pages f most left page (i ∷ items) =
    written_for left page i
    ++ pages f most (left_after most left i) (page_for left page i ++ bytes_of f i) items

-- the length of frames with these payloads
abbrev pub frames_len : List (List ℕ) → ℕ
frames_len payloads = length (flat_map frame_of payloads)

-- what an item adds to that: its bytes, and those of a frame that it begins
abbrev pub added_len : Facts → (left : ℕ) → Item → ℕ
added_len f left i = cond (joins left i) 0 5 + length (bytes_of f i)

-- the length of the frames that items fill, without writing them
abbrev pub items_len : Facts → (most left : ℕ) → List Item → ℕ
items_len f most left [] = 0
items_len f most left (i ∷ items) =
    added_len f left i + items_len f most (left_after most left i) items
