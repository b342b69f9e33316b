-- Batches that are tested and taken into plain facts.
use Rattle.std.specs.Prelude.{◌≡◌, Bool, true, cond, ◌&&◌, List, [], ◌∷◌}
use Rattle.sync_rules.specs.declared.entries.Entry.{Entry}
use Rattle.sync_rules.specs.Allows.{is_some_of, same_entry, suits_rows}
use Rattle.sync_rules.specs.Clients.{Meaning}
use Rattle.sync_rules.specs.Facts.{Facts, after, after_all, facts}
use Rattle.sync_rules.specs.Legal.{Legal}
use Rattle.sync_rules.specs.Steps.{next}
use Rattle.journal_audit.specs.declared.facts.PlainFacts.{PlainFacts}
use Rattle.journal_audit.specs.Changes.{BecomesKnown, MayTakeEntry}
use Rattle.journal_audit.specs.Plain.{IsPlainSound, KnowsMeanings, facts_of}

-- plain facts are those of a legal journal
pub record IsOfLegal (clients : Meaning) (p : PlainFacts) : Type 0 where
  pub done : List (List Entry)
  pub legal : Legal clients done
  pub facts_are : facts_of p ≡ facts done
  pub sound : IsPlainSound p
  pub knows : KnowsMeanings clients p

-- each entry may be taken behind those before it
abbrev pub AllFit : Facts → List Entry → Type 0
AllFit f [] = Unit {0}
AllFit f (e ∷ es) = MayTakeEntry f e × AllFit (after f e) es

-- an entry is a row or a wanted id that suits, or else the next step
abbrev pub goes : Meaning → Bool → Facts → Entry → Bool
goes clients rows f e = cond rows (suits_rows f e) (is_some_of same_entry (next clients f) e)

-- each entry of a list is so behind those before it
abbrev pub all_go : Meaning → Bool → Facts → List Entry → Bool
all_go clients rows f [] = true
all_go clients rows f (e ∷ es) = goes clients rows f e && all_go clients rows (after f e) es

-- entries were tested, and taken where the test said yes
pub record PlaysEntries (clients : Meaning) (old new : PlainFacts) (test : Bool) (es : List Entry) (told : Bool) : Type 0 where
  pub answer : told ≡ test
  pub taken : told ≡ true → BecomesKnown clients new (after_all (facts_of old) es)
