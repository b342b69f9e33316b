-- What holds of messages that go again before their time, since a way is quicker.
use Rattle.std.specs.Prelude.{◌≡◌, ℕ, ◌+◌, ◌^◌, ◌<◌, ◌≤◌, true, false, List, Some}
use Rattle.sync_rules.specs.declared.entries.Out.{Out}
use Rattle.sync_rules.specs.declared.entries.Session.{Session}
use Rattle.sync_rules.specs.Facts.{Facts, Id, Row, row_offered, row_sent}
use Rattle.sync_rules.specs.Sessions.{due_by, due_on_any_way, is_sooner}

-- what is due whatever the latency is due: sooner tries stand behind it, and never in its place
abbrev pub SoonerComesLast : Type 0
SoonerComesLast = (f : Facts) (shared : List Id) (s : Session) (now : ℕ) (what : Out)
    → due_on_any_way f shared s now ≡ Some what → due_by f shared s now ≡ Some what

-- behind a sooner try the expiry is less than before
abbrev pub SoonerLowersExpiry : Type 0
SoonerLowersExpiry = (latency now : ℕ) (r : Row) → is_sooner latency now r ≡ true
    → ((row_offered now latency r).expiry < r.expiry) × ((row_sent now latency r).expiry < r.expiry)

-- behind any try the message is not sooner at that moment for the same latency or a longer one
abbrev pub TriedIsNotSooner : Type 0
TriedIsNotSooner = (latency longer now : ℕ) (r : Row) → latency ≤ longer
    → (is_sooner longer now (row_offered now latency r) ≡ false) × (is_sooner longer now (row_sent now latency r) ≡ false)

-- what is not sooner does not become so as time goes on, nor for a longer latency
abbrev pub NotSoonerStays : Type 0
NotSoonerStays = (latency longer now later : ℕ) (r : Row) → latency ≤ longer → now ≤ later
    → is_sooner latency now r ≡ false → is_sooner longer later r ≡ false

-- a message that is sooner was tried at most 62 times, and a try is counted: so until it is asked for at most 62 tries are
-- sooner ones, whatever the clock does
abbrev pub SoonerTriesAreFew : Type 0
SoonerTriesAreFew = (latency now : ℕ) (r : Row) → 1 ≤ latency → r.expiry < 2 ^ 64 → is_sooner latency now r ≡ true
    → (r.tries ≤ 62) × ((row_offered now latency r).tries ≡ r.tries + 1) × ((row_sent now latency r).tries ≡ r.tries + 1)
