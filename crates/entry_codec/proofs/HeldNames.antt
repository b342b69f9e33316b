-- The messages that are held behind a legal journal can be named by their numbers.
use Rattle.std.proofs.Common.{◌≡◌, ℕ, ◌^◌, ◌≤◌, true, List, [], ◌∷◌, length, refl, sym, ap, ◌∙◌, arith}
use Rattle.std.specs.Prelude.{Option, Some, None, is_some}
use Rattle.std.proofs.lemmas.Bool.{false≢true, or_left, or_right}
use Rattle.sync_ids.specs.Values.{AreIds, MessageValue}
use Rattle.sync_ids.specs.Ids.{message_id_of}
use Rattle.sync_rules.specs.declared.entries.Entry.{Entry}
use Rattle.sync_rules.specs.Clients.{Meaning}
use Rattle.sync_rules.specs.Consistency.{HasHeld}
use Rattle.sync_rules.specs.Facts.{Facts, Held, facts, held_at, nothing}
use Rattle.sync_rules.specs.Legal.{Legal}
use Rattle.sync_rules.specs.Lists.{is_among, same_id}
use Rattle.sync_rules.proofs.ConsistencyLaws.{among_held, legal_consistent}
use Rattle.sync_rules.proofs.Elements.{same_id_itself}
use Rattle.entry_codec.specs.Naming.{AreNames}
use Rattle.entry_codec.specs.Payloads.{names_of}

-- every message's id has 32 bytes
abbrev pub WholeIds : Type 0
WholeIds = (m : MessageValue) → length (message_id_of m) ≡ 32

are_ids : (ids : List (List ℕ)) → ((id : List ℕ) → is_among ids id ≡ true → length id ≡ 32) → AreIds ids
are_ids [] each = tt
are_ids (x ∷ ids) each = (
  each x (or_left (same_id x x) (is_among ids x) (same_id_itself x)),
  are_ids ids (λ id e. each id (or_right (same_id x id) (is_among ids id) e)),
)

held_whole : WholeIds → (f : Facts) → HasHeld f → (id : List ℕ) (o : Option Held) → held_at f.held id ≡ o → is_some o ≡ true → length id ≡ 32
held_whole whole f h id None at e = absurd (false≢true e)
held_whole whole f h id (Some x) at e = ap length (h.each id x at).is_id ∙ whole x.message

names_whole : WholeIds → (f : Facts) → HasHeld f → AreIds (names_of f)
names_whole whole f h =
    are_ids (names_of f) (λ id e. held_whole whole f h id (held_at f.held id) refl (sym (among_held f.held id) ∙ e))

pub legal_names : WholeIds → (clients : Meaning) (j : List (List Entry)) → Legal clients j → length (facts j).held ≤ 2 ^ 32 → AreNames (names_of (facts j))
legal_names whole clients j legal few =
    let held = (legal_consistent clients j legal).held in
    record { distinct = held.distinct; whole = names_whole whole (facts j) held; few = omega (arith, names_len (facts j).held, few) }
  where
    names_len : (hs : List Held) → length (names_of (record nothing { held = hs })) ≡ length hs
    names_len [] = refl
    names_len (h ∷ hs) = omega (arith, names_len hs)
