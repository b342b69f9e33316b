-- A batch that may follow a journal names as held only what is held.
use Rattle.std.proofs.Common.{◌≡◌, ℕ, Bool, true, false, cond, ◌||◌, List, [], ◌∷◌, refl}
use Rattle.std.specs.Prelude.{is_some, Some}
use Rattle.std.specs.List.{AllByRecursion, list_all}
use Rattle.std.proofs.lemmas.Bool.{and_parts, false≢true}
use Rattle.sync_rules.specs.declared.entries.Entry.{Entry}
use Rattle.sync_rules.specs.declared.entries.Entry.TheVariants as entry
use Rattle.sync_rules.specs.declared.entries.Out.{Out}
use Rattle.sync_rules.specs.declared.entries.Out.TheVariants as out
use Rattle.sync_rules.specs.Clients.{Meaning}
use Rattle.sync_rules.specs.Consistency.{ids_of_held}
use Rattle.sync_rules.specs.Facts.{Facts, Held, held_at, is_held}
use Rattle.sync_rules.specs.Knowing.{held_named, held_names}
use Rattle.sync_rules.specs.Legal.{Allowed}
use Rattle.sync_rules.specs.Lists.{is_among, same_id}
use Rattle.sync_rules.proofs.BatchEntries.{all_pass}
use Rattle.sync_rules.proofs.NameLaws.{allowed_names_held}
use Rattle.entry_codec.specs.Spelling.{EntryNames, OutNames}

-- an id of a held message
abbrev IsOfHeld : List Held → List ℕ → Type 0
IsOfHeld hs id = is_among (ids_of_held hs) id ≡ true

held_is_among : (hs : List Held) (id : List ℕ) → is_held hs id ≡ true → IsOfHeld hs id
held_is_among [] id e = absurd (false≢true e)
held_is_among (h ∷ hs) id e =
    elim (same_id h.id id) as (λ b. is_some (cond b (Some h) (held_at hs id)) ≡ true
    → (b || is_among (ids_of_held hs) id) ≡ true) [
      | true ↦ λ e. refl
      | false ↦ λ e. held_is_among hs id e
    ] e

all_among : (hs : List Held) (ids : List (List ℕ)) → list_all (is_held hs) ids ≡ true
    → AllByRecursion (IsOfHeld hs) ids
all_among hs [] all = tt
all_among hs (id ∷ ids) all =
    let both = and_parts (is_held hs id) (list_all (is_held hs) ids) all in
    (held_is_among hs id both.0, all_among hs ids both.1)

out_names : (hs : List Held) (what : Out) → list_all (is_held hs) (held_named what) ≡ true
    → OutNames (IsOfHeld hs) what
out_names hs (out.Acks ids) all = all_among hs ids all
out_names hs (out.Requests ids) all = tt
out_names hs (out.Offers ids) all = all_among hs ids all
out_names hs (out.Send id) all = (all_among hs (id ∷ []) all).0

abbrev names_are_held : List Held → Entry → Bool
names_are_held hs e = list_all (is_held hs) (held_names e)

entry_names : (hs : List Held) (e : Entry) → names_are_held hs e ≡ true → EntryNames (IsOfHeld hs) e
entry_names hs (entry.Judged id) all = (all_among hs (id ∷ []) all).0
entry_names hs (entry.Deliver id) all = (all_among hs (id ∷ []) all).0
entry_names hs (entry.Invalid id) all = (all_among hs (id ∷ []) all).0
entry_names hs (entry.Again s id) all = (all_among hs (id ∷ []) all).0
entry_names hs (entry.Seen s id) all = (all_among hs (id ∷ []) all).0
entry_names hs (entry.Asked s id) all = (all_among hs (id ∷ []) all).0
entry_names hs (entry.Out s now what) all = out_names hs what all
entry_names hs (entry.Tried t) all = (all_among hs (t.id ∷ []) all).0
entry_names hs _ all = tt

pub names_held : (clients : Meaning) (f : Facts) (batch : List Entry) → Allowed clients f batch
    → AllByRecursion (EntryNames (λ id. is_among (ids_of_held f.held) id ≡ true)) batch
names_held clients f batch is =
    all_pass (names_are_held f.held) (EntryNames (IsOfHeld f.held)) (entry_names f.held) batch
    (allowed_names_held clients f batch is)
