-- Which requests leave the sessions of a store as they were.
use Rattle.std.specs.Prelude.{◌≡◌, ◌||◌, ℕ, Bool, true, nat_eq, List, [], ◌∷◌, ◌++◌, codes}
use Rattle.std.specs.List.{starts_with}
use Rattle.commands.specs.Reading.{Asked, asks}
use Rattle.commands.specs.Reading.Asked.{Do, Usage}
use Rattle.node_service.specs.Words.{AreWords, parts_of}
use Rattle.node_requests.specs.Requests.{leaves_sessions}

-- what is asked for does; what is no command is not done
abbrev pub leaves_asked : Asked → Bool
leaves_asked (Usage place) = true
leaves_asked (Do asked) = leaves_sessions asked

-- what the words of these bytes ask for does
abbrev pub WordsLeave : (bytes : List ℕ) → Type 0
WordsLeave bytes =
    (words : List (List ℕ)) → AreWords (parts_of bytes) words → leaves_asked (asks words) ≡ true

-- this word stands first in these bytes, with a zero byte behind it
abbrev pub has_first : (word bytes : List ℕ) → Bool
has_first word bytes = starts_with nat_eq bytes (word ++ 0 ∷ [])

-- these are the words of a request that may change them
abbrev pub may_change_sessions : (bytes : List ℕ) → Bool
may_change_sessions bytes = has_first (codes "compact") bytes || has_first (codes "mailbox") bytes
