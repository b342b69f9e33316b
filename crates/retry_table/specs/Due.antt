-- What is due to a contact, by its rows.
use Rattle.std.specs.Prelude.{ℕ, ◌+◌, Bool, not, cond, ◌&&◌, nat_le, List, [], ◌∷◌, Option, take}
use Rattle.std.specs.List.{position_from}
use Rattle.sync_rules.specs.declared.entries.Mode.{Mode}
use Rattle.sync_rules.specs.Facts.{Id}
use Rattle.sync_rules.specs.Sessions.{goes_sooner, is_ripe}
use Rattle.retry_table.specs.Table.{KeptRow}
use Rattle.sync_ids.specs.declared.lists.TheConstants.{MAX_IDS}

-- the numbers, from the first one on, of those in a list that pass a test, in order
abbrev pub numbers_where : {X : Type 0} → (X → Bool) → ℕ → List X → List ℕ
numbers_where test first [] = []
numbers_where test first (x ∷ xs) = cond (test x) (first ∷ numbers_where test (first + 1) xs) (numbers_where test (first + 1) xs)

-- a message may be sent to the contact: it is ready, and the contact has not seen it
abbrev pub may_be_sent : KeptRow → Bool
may_be_sent kept = kept.ready && not kept.row.seen

-- a message is to be sent: in interactive mode one that was asked for, in batch mode one whose time has come
abbrev pub is_sent_at : Mode → ℕ → KeptRow → Bool
is_sent_at mode now kept = may_be_sent kept && is_ripe mode now kept.row

-- a message is to be offered: it was not asked for, and its time has come
abbrev pub is_offered_at : ℕ → KeptRow → Bool
is_offered_at now kept = may_be_sent kept && (not kept.row.asked && nat_le kept.row.expiry now)

-- a message goes before its time: it was not asked for, and a try now would set an expiry less than the one that stands
abbrev pub is_sooner_at : ℕ → ℕ → KeptRow → Bool
is_sooner_at latency now kept = may_be_sent kept && goes_sooner latency now kept.row

-- the numbers that wait for our acknowledgement
abbrev pub owed_in : List KeptRow → List ℕ
owed_in rows = take MAX_IDS (numbers_where (λ kept. kept.row.owed) 0 rows)

-- the number of the message to be sent
abbrev pub message_in : Mode → ℕ → List KeptRow → Option ℕ
message_in mode now rows = position_from (is_sent_at mode now) 0 rows

-- the numbers to be offered
abbrev pub offers_in : ℕ → List KeptRow → List ℕ
offers_in now rows = take MAX_IDS (numbers_where (is_offered_at now) 0 rows)

-- the number of the message to be sent before its time
abbrev pub sooner_in : ℕ → ℕ → List KeptRow → Option ℕ
sooner_in latency now rows = position_from (is_sooner_at latency now) 0 rows

-- the numbers to be offered before their time
abbrev pub sooner_offers_in : ℕ → ℕ → List KeptRow → List ℕ
sooner_offers_in latency now rows = take MAX_IDS (numbers_where (is_sooner_at latency now) 0 rows)

-- the ids to be requested
abbrev pub requests_in : List Id → List Id
requests_in ids = take MAX_IDS ids
