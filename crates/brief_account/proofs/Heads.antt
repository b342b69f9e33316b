-- How a brief account begins: the number of sessions, the contacts and the groups follow one after the other.
use Rattle.std.proofs.Common.{◌≡◌, ℕ, zero, suc, ◌+◌, ◌≤◌, List, [], ◌∷◌, ◌++◌, refl, sym, ◌∙◌, ap, subst, arith, append_assoc, append-nil}
use Rattle.sync_rules.specs.declared.entries.Entry.{Entry}
use Rattle.sync_rules.specs.declared.entries.Entry.TheVariants as entry
use Rattle.sync_rules.specs.declared.states.Start.TheVariants as start
use Rattle.sync_rules.specs.declared.limits.TheConstants.{MAX_CONTACTS}
use Rattle.sync_rules.specs.Clients.{Meaning}
use Rattle.sync_rules.specs.Facts.{Facts, Known, after, after_all, after_batches, nothing}
use Rattle.sync_rules.specs.Legal.{GoesOn}
use Rattle.sync_rules.proofs.Kept.{after_all-append}
use Rattle.sync_rules.proofs.Settling.{goes_on_both}
use Rattle.brief_account.specs.Brief.{contact_entries, each_alone, group_entries}
use Rattle.brief_account.proofs.Added.{AreAdded}
use Rattle.brief_account.proofs.Emptied.{emptied}
use Rattle.brief_account.proofs.Filled.{alone-append}

-- the facts with so many sessions, so many contacts, and these groups
abbrev pub headed : ℕ → ℕ → List Known → Facts
headed begun n groups =
    record nothing { start = start.Opening; contacts = n; groups = groups; begun = begun; wanted = emptied n }

pub opened : (begun : ℕ) → after nothing (entry.Brief begun) ≡ headed begun 0 []
opened begun = let same : 0 + begun ≡ begun = omega arith in ap (λ (k : ℕ). headed k 0 []) same

pub alone_after : (g : Facts) (es : List Entry) → after_batches g (each_alone es) ≡ after_all g es
alone_after g [] = refl
alone_after g (e ∷ es) = alone_after (after g e) es

-- entries each alone, before others
pub alone_then : (clients : Meaning) (g h : Facts) (es fs : List Entry) → GoesOn clients g (each_alone es)
    → after_all g es ≡ h
    → GoesOn clients h (each_alone fs) → GoesOn clients g (each_alone (es ++ fs))
alone_then clients g h es fs a to b =
    subst (GoesOn clients g) (sym (alone-append es fs))
    (goes_on_both clients g (each_alone es) (each_alone fs) a
    (subst (λ (x : Facts). GoesOn clients x (each_alone fs)) (sym (alone_after g es ∙ to)) b))

-- ---- contacts

pub contacts_give : (begun n : ℕ) → after_all (headed begun 0 []) (contact_entries n) ≡ headed begun n []
contacts_give begun zero = refl
contacts_give begun (suc n) =
    let one : n + 1 ≡ suc n = omega arith in
    after_all-append (headed begun 0 []) (contact_entries n) (entry.Contact n ∷ [])
    ∙ (ap (λ (g : Facts). after g (entry.Contact n)) (contacts_give begun n)
    ∙ ap (λ (k : ℕ). record (headed begun (suc n) []) { contacts = k }) one)

pub contacts_go : (clients : Meaning) (begun n : ℕ) → n ≤ MAX_CONTACTS
    → GoesOn clients (headed begun 0 []) (each_alone (contact_entries n))
contacts_go clients begun zero few = tt
contacts_go clients begun (suc n) few =
    alone_then clients (headed begun 0 []) (headed begun n []) (contact_entries n) (entry.Contact n ∷ [])
    (contacts_go clients begun n (omega (arith, few))) (contacts_give begun n)
    ((refl, refl, (refl, omega (arith, few))), tt)

-- ---- groups

module _ (clients : Meaning) (begun n : ℕ) where
  pub groups_give : (before gs : List Known) → AreAdded clients before gs
      → after_all (headed begun n before) (group_entries gs) ≡ headed begun n (before ++ gs)
  groups_give before [] added = ap (headed begun n) (sym (append-nil before))
  groups_give before (g ∷ gs) added =
      ap (λ (x : Known). after_all (headed begun n (before ++ x ∷ [])) (group_entries gs)) (sym added.0)
      ∙ (groups_give (before ++ g ∷ []) gs added.2 ∙ ap (headed begun n) (append_assoc before (g ∷ []) gs))

  pub groups_go : (before gs : List Known) → AreAdded clients before gs
      → GoesOn clients (headed begun n before) (each_alone (group_entries gs))
  groups_go before [] added = tt
  groups_go before (g ∷ gs) added = (
    (refl, refl, record { known_client = added.1.known_client; new = added.1.new; few = added.1.few }),
    subst (λ (x : Known). GoesOn clients (headed begun n (before ++ x ∷ [])) (each_alone (group_entries gs))) added.0
        (groups_go (before ++ g ∷ []) gs added.2),
  )
