-- The queues of a contact over the numbers of its messages: what each has of a row, and that each is what the rows say. A queue of
-- times has a number for each block of 64 rows; the others are sets of rows.
use Rattle.std.specs.Prelude.{◌≡◌, ℕ, zero, suc, ◌+◌, ◌-◌, ◌*◌, ◌<◌, ◌≤◌, ◌^◌, Bool, true, false, not, cond, ◌&&◌, nat_eq, nat_lt, List, [], length, drop, Option, None, Some, slice_index_or}
use Rattle.std.specs.List.{position_from}
use Rattle.due_tree.specs.Due.{is_due}
use Rattle.due_tree.specs.Cells.{lesser}
use Rattle.retry_table.specs.Table.{KeptRow, kept_in}
use Rattle.sync_rules.specs.Facts.{expiry_after, one_more_try}
use Rattle.retry_table.specs.Due.{may_be_sent, is_sent_at, is_offered_at, is_sooner_at}
use Rattle.retry_table.specs.declared.classes.Classes.{Classes}
use Rattle.retry_table.specs.declared.rows.Sought.{Sought}
use Rattle.retry_table.specs.declared.rows.Sought.TheVariants as sought
use Rattle.retry_table.specs.declared.blocks.Times.{Times}
use Rattle.retry_table.specs.declared.blocks.Times.TheVariants as times

-- in the queue of messages for batch mode: the expiry
abbrev pub message_place : KeptRow → Option ℕ
message_place kept = cond (may_be_sent kept) (Some kept.row.expiry) None

-- in the queue of offers: the expiry
abbrev pub offer_place : KeptRow → Option ℕ
offer_place kept = cond (may_be_sent kept && not kept.row.asked) (Some kept.row.expiry) None

-- in the queue of those that were tried so often and may go before their time: how far the expiry is from the greatest there is
abbrev pub sooner_place : ℕ → KeptRow → Option ℕ
sooner_place tries kept = cond (may_be_sent kept && (not kept.row.asked && nat_eq kept.row.tries tries)) (Some (2 ^ 64 - 1 - kept.row.expiry)) None

-- the bound for what goes before its time by a session of this latency: none where a try sets the greatest expiry
abbrev pub sooner_bound : ℕ → ℕ → ℕ → Option ℕ
sooner_bound latency now tries =
    cond (nat_lt (expiry_after now latency (one_more_try tries)) (2 ^ 64 - 1)) (Some (2 ^ 64 - 2 - expiry_after now latency (one_more_try tries))) None

abbrev pub time_place : Times → KeptRow → Option ℕ
time_place times.ToSend kept = message_place kept
time_place times.ToOffer kept = offer_place kept
time_place (times.Sooner tries) kept = sooner_place tries kept

-- in the set of asked messages
abbrev pub is_awaited : KeptRow → Bool
is_awaited kept = may_be_sent kept && kept.row.asked

-- whether a number is greater than another, or absent where that is there
abbrev pub is_later : Option ℕ → Option ℕ → Bool
is_later None None = false
is_later (Some m) None = false
is_later None (Some n) = true
is_later (Some m) (Some n) = nat_lt n m

-- the least number of so many rows, the first of them that one
unfoldable pub least_from : Times → List KeptRow → ℕ → ℕ → Option ℕ
least_from what rows first zero = None
least_from what rows first (suc count) = lesser (time_place what (kept_in rows first)) (least_from what rows (first + 1) count)

-- what a queue has at a place
abbrev pub place_at : List (Option ℕ) → ℕ → Option ℕ
place_at queue n = slice_index_or queue n None

-- a queue of times has for each block of 64 rows the least number of one
pub record AreLeast (what : Times) (rows : List KeptRow) (queue : List (Option ℕ)) : Type 0 where
  pub same : (block : ℕ) → place_at queue block ≡ least_from what rows (64 * block) 64
  pub room : length rows ≤ 64 * length queue
  pub small : length queue ≤ 2 ^ 32

-- a row's number is there, and at most the bound
abbrev pub is_timely : Times → ℕ → KeptRow → Bool
is_timely what bound kept = is_due bound (time_place what kept)

-- the first row from `from` on whose number is at most the bound
abbrev pub next_timely : Times → ℕ → ℕ → List KeptRow → Option ℕ
next_timely what from bound rows = position_from (is_timely what bound) from (drop from rows)

-- no row from `low` to `high` has a number of at most the bound
abbrev pub IsUntimely : Times → ℕ → List KeptRow → ℕ → ℕ → Type 0
IsUntimely what bound rows low high = (n : ℕ) → low ≤ n → n < high → is_timely what bound (kept_in rows n) ≡ false

-- a set has each row that passes the test
pub record HasPassingRows (test : KeptRow → Bool) (rows : List KeptRow) (set : List Bool) : Type 0 where
  pub same : (n : ℕ) → slice_index_or set n false ≡ test (kept_in rows n)
  pub room : length rows ≤ length set
  pub small : length set < 2 ^ 32

-- the queue of those that were tried so often
abbrev pub class_at : List (List (Option ℕ)) → ℕ → List (Option ℕ)
class_at trees tries = slice_index_or trees tries []

-- each queue of the first so many numbers of tries is what the rows say, and each row was tried less often than `most` says
pub record AreClasses (rows : List KeptRow) (classes : Classes) : Type 0 where
  pub each : (tries : ℕ) → tries < length classes.trees.items → AreLeast (times.Sooner tries) rows (class_at classes.trees.items tries)
  pub few : length classes.trees.items ≤ 65
  pub tried : (n : ℕ) → (kept_in rows n).row.tries < classes.most
  pub told : (n : ℕ) → (kept_in rows n).row.expiry < 2 ^ 64

-- a row goes before its time and was tried so often, or less often than that
abbrev pub is_sooner_in : ℕ → ℕ → ℕ → KeptRow → Bool
is_sooner_in latency now tries kept = nat_eq kept.row.tries tries && is_sooner_at latency now kept

abbrev pub is_sooner_below : ℕ → ℕ → ℕ → KeptRow → Bool
is_sooner_below latency now tries kept = nat_lt kept.row.tries tries && is_sooner_at latency now kept

-- all queues of a contact
pub record AreQueues (rows : List KeptRow) (messages : List (Option ℕ)) (asked : List Bool) (offers : List (Option ℕ)) (owed : List Bool) (sooner : Classes) : Type 0 where
  pub by_expiry : AreLeast times.ToSend rows messages
  pub by_request : HasPassingRows is_awaited rows asked
  pub by_offer : AreLeast times.ToOffer rows offers
  pub by_debt : HasPassingRows (λ kept. kept.row.owed) rows owed
  pub by_tries : AreClasses rows sooner

-- whether a row is sought
abbrev pub is_sought : Sought → KeptRow → Bool
is_sought (sought.Message mode now) kept = is_sent_at mode now kept
is_sought (sought.Offer now) kept = is_offered_at now kept
is_sought (sought.Sooner latency now) kept = is_sooner_at latency now kept
