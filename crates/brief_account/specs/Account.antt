-- The brief account as a function of the facts of a settled journal alone: what stands between two held messages are the
-- steps that are open once the first of them is there.
use Rattle.std.specs.Prelude.{ℕ, zero, suc, List, [], ◌∷◌, ◌++◌, Option, Some, None}
use Rattle.sync_rules.specs.declared.entries.Entry.{Entry}
use Rattle.sync_rules.specs.declared.entries.Entry.TheVariants as entry
use Rattle.sync_rules.specs.Clients.{Meaning}
use Rattle.sync_rules.specs.Facts.{Facts, Held, Known, after, after_all, nothing}
use Rattle.sync_rules.specs.Left.{left_of}
use Rattle.sync_rules.specs.Steps.{next}
use Rattle.brief_account.specs.Brief.{account_with}

-- the open step, and what further steps there are then
abbrev pub steps_from : (Facts → List Entry) → Facts → Option Entry → List Entry
steps_from further g None = []
steps_from further g (Some e) = e ∷ further (after g e)

-- at most this many next steps, one after the other
abbrev pub cascade : Meaning → ℕ → Facts → List Entry
cascade clients zero g = []
cascade clients (suc n) g = steps_from (cascade clients n) g (next clients g)

-- all steps that are open, one after the other
abbrev pub settling_of : Meaning → Facts → List Entry
settling_of clients g = cascade clients (left_of g) g

-- messages kept one after the other, each with the steps that are then open
abbrev pub account : Meaning → Facts → List Held → List Entry
account clients g [] = []
account clients g (h ∷ hs) =
    entry.Kept h.origin h.message
    ∷ (settling_of clients (after g (entry.Kept h.origin h.message))
    ++ account clients
    (after_all (after g (entry.Kept h.origin h.message)) (settling_of clients (after g (entry.Kept h.origin h.message)))) hs)

-- facts that have groups and nothing else
abbrev pub with_groups : List Known → Facts
with_groups groups = record nothing { groups = groups }

-- what is told of the messages
abbrev pub told_of : Meaning → Facts → List Entry
told_of clients f = account clients (with_groups f.groups) f.held

abbrev pub brief_of : Meaning → Facts → List (List Entry)
brief_of clients f = account_with f (told_of clients f)
