-- The session of a number, by going over entries.
use Rattle.std.specs.Prelude.{ℕ, cond, nat_eq, List, [], ◌∷◌, Option, Some, None}
use Rattle.sync_rules.specs.declared.entries.Entry.{Entry}
use Rattle.sync_rules.specs.declared.entries.Entry.TheVariants as entry
use Rattle.sync_rules.specs.declared.entries.Session.{Session}
use Rattle.sync_rules.specs.Scans.{first_of_two}

-- the session of a number that an entry begins, and the first one among entries and among batches
abbrev pub session_named : ℕ → Entry → Option Session
session_named n (entry.Session s) = cond (nat_eq s.number n) (Some s) None
session_named n _ = None

abbrev pub first_session : ℕ → List Entry → Option Session
first_session n [] = None
first_session n (e ∷ es) = first_of_two (session_named n e) (first_session n es)

abbrev pub first_session_in : ℕ → List (List Entry) → Option Session
first_session_in n [] = None
first_session_in n (b ∷ bs) = first_of_two (first_session n b) (first_session_in n bs)
