-- The places of the lines of `inbox`: whoever keeps the number of the lines that it had finds what
-- is new behind them, for ever.
use Rattle.std.specs.Prelude.{◌≡◌, ℕ, ◌+◌, ◌≤◌, length}
use Rattle.sync_rules.specs.Clients.{Meaning}
use Rattle.sync_rules.specs.Facts.{ExtendsJournal, Journal, facts}
use Rattle.sync_rules.specs.Legal.{Legal}
use Rattle.sync_rules.specs.Steps.{IsSettled}
use Rattle.brief_account.specs.Brief.{brief}
use Rattle.store_commands.specs.Shown.{inbox_from}

-- where a legal journal goes on from another, the lines at the places that were taken are the same
abbrev pub LinesKeepPlaces : Type 0
LinesKeepPlaces = (clients : Meaning) (j before : Journal) (from count : ℕ)
    → ExtendsJournal j before → Legal clients j
    → from + count ≤ length (facts before).delivered
    → inbox_from (facts j) from count ≡ inbox_from (facts before) from count

-- the brief account of a settled journal has all its lines, at the same places
abbrev pub AccountKeepsLines : Type 0
AccountKeepsLines = (clients : Meaning) (j : Journal) (from count : ℕ) → Legal clients j
    → IsSettled clients (facts j)
    → inbox_from (facts (brief j)) from count ≡ inbox_from (facts j) from count
