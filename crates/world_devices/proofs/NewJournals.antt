-- What the journal of a new device says: so many contacts, no message, and no brief account.
use Rattle.std.proofs.Common.{◌≡◌, ℕ, zero, suc, ◌+◌, [], ◌∷◌, refl, ap, arith, ◌∙◌}
use Rattle.sync_rules.specs.declared.entries.Entry.TheVariants as entry
use Rattle.sync_rules.proofs.Continuing.{facts-append}
use Rattle.sync_rules.specs.Facts.{Facts, facts}
use Rattle.world_laws.specs.Worlds.{HasNoBrief}
use Rattle.world_laws.proofs.PlainLaws.{plain_append}
use Rattle.world_devices.specs.Linking.{new_journal}

pub new_holds : (contacts : ℕ) → (facts (new_journal contacts)).held ≡ []
new_holds zero = refl
new_holds (suc k) = ap (λ (f : Facts). f.held) (facts-append (new_journal k) ((entry.Contact k ∷ []) ∷ [])) ∙ new_holds k

pub new_plain : (contacts : ℕ) → HasNoBrief (new_journal contacts)
new_plain zero = refl
new_plain (suc k) = plain_append (new_journal k) ((entry.Contact k ∷ []) ∷ []) (new_plain k) refl

pub new_knows : (contacts : ℕ) → (facts (new_journal contacts)).contacts ≡ contacts
new_knows zero = refl
new_knows (suc k) =
    let one_more : k + 1 ≡ suc k = omega arith in
    ap (λ (f : Facts). f.contacts) (facts-append (new_journal k) ((entry.Contact k ∷ []) ∷ [])) ∙ (ap (λ (n : ℕ). n + 1) (new_knows k) ∙ one_more)
