-- Steps of the writers.
use Rattle.std.proofs.Common.{◌≡◌, ℕ, List, ◌++◌, ap, ◌∙◌, append_assoc, refl}
use Rattle.std.specs.Prelude.{Result, Ok, Err, OnOk}
use Rattle.sync_rules.specs.declared.entries.Entry.{Entry}
use Rattle.entry_codec.specs.Spelling.{AddsTo, IsEntry, IsOld, SpellsEntry, spelling, spelling_in}
use Rattle.entry_codec.proofs.Entries.{entry_free}

-- three pieces, one behind the other
pub three : {T E : Type 0} → (r : Result T E) (old first second new a b o : List ℕ) → first ≡ old ++ a → second ≡ first ++ b → OnOk r (new ≡ second ++ o)
    → OnOk r (new ≡ old ++ (a ++ (b ++ o)))
three (Ok t) old first second new a b o e f g =
    g ∙ ap (λ (x : List ℕ). x ++ o) (f ∙ ap (λ (x : List ℕ). x ++ b) e) ∙ append_assoc (old ++ a) b o ∙ append_assoc old a (b ++ o)
three (Err t) old first second new a b o e f g = tt

-- a spelling of the first format
pub spells_whole : {T E : Type 0} (r : Result T E) (e : Entry) → IsOld e → OnOk r (IsEntry e) → OnOk r (SpellsEntry e (spelling e))
unfolding spelling spelling_in
spells_whole (Ok t) e old is = record { kind = old; within = is; named = entry_free e; is = refl }
spells_whole (Err t) e old is = tt

-- bytes that were added, and further ones behind them
pub adds_more : (old front mid new : List ℕ) → mid ≡ old ++ front → AddsTo mid new → AddsTo old new
adds_more old front mid new first adds = (front ++ adds.0, adds.1 ∙ ap (λ (l : List ℕ). l ++ adds.0) first ∙ append_assoc old front adds.0)
