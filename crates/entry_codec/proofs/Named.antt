-- What a format asks of the names of a batch, where the batch names only what is held.
use Rattle.std.specs.Prelude.{◌≡◌, ℕ, true, List, [], ◌∷◌}
use Rattle.std.specs.List.{AllByRecursion}
use Rattle.sync_rules.specs.declared.entries.Entry.{Entry}
use Rattle.sync_rules.specs.Lists.{is_among}
use Rattle.entry_codec.specs.declared.naming.Format.{Format}
use Rattle.entry_codec.specs.declared.naming.Format.TheVariants as kind
use Rattle.entry_codec.specs.Naming.{IsNamed}
use Rattle.entry_codec.specs.Spelling.{EntryNames}
use Rattle.entry_codec.proofs.Entries.{entry_free}

all_free : (batch : List Entry) → AllByRecursion (EntryNames (λ id. Unit {0})) batch
all_free [] = tt
all_free (e ∷ es) = (entry_free e, all_free es)

-- the first format asks for none
pub named_whole : (names : List (List ℕ)) (batch : List Entry) → AllByRecursion (EntryNames (IsNamed kind.Whole names)) batch
named_whole names batch = all_free batch

pub named_in : (format : Format) (names : List (List ℕ)) (batch : List Entry) → AllByRecursion (EntryNames (λ id. is_among names id ≡ true)) batch
    → AllByRecursion (EntryNames (IsNamed format names)) batch
named_in kind.Whole names batch held = all_free batch
named_in kind.Short names batch held = held
