-- The ids wanted from contacts as a plain view keeps them.
use Rattle.std.specs.Prelude.{◌≡◌, ℕ, Bool, cond, ◌&&◌, ◌||◌, nat_eq, List, [], ◌∷◌, ◌++◌}
use Rattle.sync_ids.specs.Ids.{message_id_of}
use Rattle.sync_rules.specs.declared.entries.Entry.{Entry}
use Rattle.sync_rules.specs.declared.entries.Entry.TheVariants as entry
use Rattle.sync_rules.specs.declared.entries.Out.{Out}
use Rattle.sync_rules.specs.declared.entries.Out.TheVariants as out
use Rattle.plain_rules.specs.declared.wants.WantedLine.{WantedLine}
use Rattle.sync_rules.specs.Lists.{same_id, is_among}
use Rattle.sync_rules.specs.Facts.{Facts, Id, is_held, contact_of, wanted_from}

-- the ids of one contact among the lines of all
abbrev pub wanted_in : ℕ → List WantedLine → List Id
wanted_in contact [] = []
wanted_in contact (w ∷ ws) = cond (nat_eq contact w.contact) (w.id ∷ wanted_in contact ws) (wanted_in contact ws)

-- the lines stand for the wanted ids of the facts
abbrev pub WantsAre : Facts → List WantedLine → Type 0
WantsAre f ws = (contact : ℕ) → wanted_in contact ws ≡ wanted_from f.wanted contact

-- the lines without those that pass a test
abbrev pub lines_without : (WantedLine → Bool) → List WantedLine → List WantedLine
lines_without test [] = []
lines_without test (w ∷ ws) = cond (test w) (lines_without test ws) (w ∷ lines_without test ws)

-- the lines with this id at the end, unless it is held or wanted from this contact already
abbrev pub with_line : Bool → ℕ → Id → List WantedLine → List WantedLine
with_line held contact id ws =
    cond (held || is_among (wanted_in contact ws) id) ws (ws ++ record { contact = contact; id = id } ∷ [])

-- the lines after an output to this contact, and after one more entry
abbrev pub want_then_out : ℕ → List WantedLine → Out → List WantedLine
want_then_out contact ws (out.Requests ids) = lines_without (λ w. nat_eq w.contact contact && is_among ids w.id) ws
want_then_out contact ws _ = ws

abbrev pub want_then : Facts → List WantedLine → Entry → List WantedLine
want_then f ws (entry.Author m) = lines_without (λ w. same_id w.id (message_id_of m)) ws
want_then f ws (entry.Arrive s m) = lines_without (λ w. same_id w.id (message_id_of m)) ws
want_then f ws (entry.Offered s x) = with_line (is_held f.held x) (contact_of f.sessions s) x ws
want_then f ws (entry.Out s now what) = want_then_out (contact_of f.sessions s) ws what
want_then f ws (entry.Kept from m) = lines_without (λ w. same_id w.id (message_id_of m)) ws
want_then f ws (entry.Want contact x) = with_line (is_held f.held x) contact x ws
want_then f ws _ = ws
