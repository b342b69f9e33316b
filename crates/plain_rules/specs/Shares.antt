-- The ids of the messages whose judgement lets them be sent on, by going over entries.
use Rattle.std.specs.Prelude.{List, [], ◌∷◌, ◌++◌, Option, Some, None}
use Rattle.sync_ids.specs.Values.{MessageValue}
use Rattle.sync_rules.specs.declared.entries.Entry.{Entry}
use Rattle.sync_rules.specs.Clients.{Meaning}
use Rattle.sync_rules.specs.Facts.{Facts, Id, authored}
use Rattle.sync_rules.specs.Sessions.{may_share, ids_where}
use Rattle.sync_rules.specs.Steps.{answer_of}
use Rattle.sync_rules.specs.Scans.{message_of}

-- the id of a message, where its judgement lets it be sent on
abbrev pub shared_by : Meaning → Facts → Option MessageValue → List Id
shared_by clients f None = []
shared_by clients f (Some m) = ids_where (λ h. may_share (answer_of clients f h)) (authored m ∷ [])

abbrev pub shared_of : Meaning → Facts → List Entry → List Id
shared_of clients f [] = []
shared_of clients f (e ∷ es) = shared_by clients f (message_of e) ++ shared_of clients f es

abbrev pub shared_among : Meaning → Facts → List (List Entry) → List Id
shared_among clients f [] = []
shared_among clients f (b ∷ bs) = shared_of clients f b ++ shared_among clients f bs
