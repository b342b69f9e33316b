-- How many batches a brief account makes of entries, and what batches weigh, without making them.
use Rattle.std.specs.Prelude.{ℕ, ◌+◌, Bool, cond, nat_lt, List, [], ◌∷◌, length}
use Rattle.sync_rules.specs.declared.entries.Entry.{Entry}
use Rattle.sync_rules.specs.declared.limits.TheConstants.{MAX_ROWS, MAX_STEPS}
use Rattle.sync_rules.specs.Facts.{Facts}
use Rattle.brief_account.specs.Brief.{head_entries, is_kept, never_alone, peer_entries}

-- how many batches are being filled, where that one has this many entries
abbrev pub open_batches : ℕ → ℕ
open_batches n = cond (nat_lt 0 n) 1 0

-- how many batches these entries fill, `n` being the number of entries of the batch that is being filled
abbrev pub batches : ℕ → (Entry → Bool) → ℕ → List Entry → ℕ
batches most alone n [] = open_batches n
batches most alone n (e ∷ es) =
    cond (alone e) (open_batches n + (1 + batches most alone 0 es))
    (cond (nat_lt n most) (batches most alone (n + 1) es) (1 + batches most alone 1 es))

-- ---- weights

-- what entries weigh, each weighing so much
abbrev pub entries_weigh : (Entry → ℕ) → List Entry → ℕ
entries_weigh weight [] = 0
entries_weigh weight (e ∷ es) = weight e + entries_weigh weight es

-- what batches weigh, each with a frame of this weight
abbrev pub weighs : (Entry → ℕ) → ℕ → List (List Entry) → ℕ
weighs weight frame [] = 0
weighs weight frame (b ∷ bs) = (frame + entries_weigh weight b) + weighs weight frame bs

-- ---- a brief account with these facts, that tells this of the messages

-- how many batches it has
abbrev pub account_batches : Facts → List Entry → ℕ
account_batches f told =
    length (head_entries f) + batches MAX_STEPS is_kept 0 told
    + batches MAX_ROWS never_alone 0 (peer_entries f f.contacts)

-- what its entries weigh
abbrev pub account_entries_weigh : (Entry → ℕ) → Facts → List Entry → ℕ
account_entries_weigh weight f told =
    entries_weigh weight (head_entries f) + entries_weigh weight told
    + entries_weigh weight (peer_entries f f.contacts)
