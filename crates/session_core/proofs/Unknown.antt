-- Where no id is known, nothing is to be said of it.
use Rattle.std.proofs.Common.{List, [], ◌∷◌, None}
use Rattle.sync_rules.specs.declared.entries.Entry.{Entry}
use Rattle.sync_rules.specs.declared.entries.Entry.TheVariants as entry
use Rattle.session_core.specs.Known.{IsOfEntry, IsOfAll}

unknown_of : (e : Entry) → IsOfEntry None e
unknown_of (entry.Contact c) = tt
unknown_of _ = tt

pub unknown : (es : List Entry) → IsOfAll None es
unknown [] = tt
unknown (e ∷ es) = (unknown_of e, unknown es)
