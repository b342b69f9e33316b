-- What holds of all connections, however bytes are brought.
use Rattle.std.specs.Prelude.{◌≡◌, ℕ, List, [], ◌++◌}
use Rattle.request_frames.specs.Requests.{Request, requests}
use Rattle.connections.specs.declared.connection.Standing.TheVariants as standing
use Rattle.connections.specs.Connections.{ConnectionValue, fresh_connection}
use Rattle.connections.specs.Hearing.{ConnectionStands, HeardAll}

-- before anything was brought
abbrev pub ConnectionsBegin : Type 0
ConnectionsBegin = (most_out : ℕ) → ConnectionStands [] [] (fresh_connection most_out)

-- what is brought comes behind
abbrev pub BringingGoesOn : Type 0
BringingGoesOn = (brought bytes : List ℕ) (told : List Request) (c : ConnectionValue) → ConnectionStands brought told c
    → ConnectionStands (brought ++ bytes) told (record c { rest = c.rest ++ bytes })

-- where it goes on hearing, and all was heard, the requests told are those of the stream
abbrev pub HearingIsWhole : Type 0
HearingIsWhole = (brought : List ℕ) (told : List Request) (c : ConnectionValue) → ConnectionStands brought told c
    → HeardAll c standing.Hears → requests brought ≡ told
