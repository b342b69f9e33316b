-- A look at the output of a session, and what the batches of a run take.
use Rattle.std.proofs.Common.{◌≡◌, ℕ, zero, suc, List, []}
use Rattle.std.proofs.Common.{◌∷◌, refl, inl, inr}
use Rattle.std.proofs.Common.{Some}
use Rattle.std.specs.Prelude.{slice_get}
use Rattle.record_grammar.specs.Spelling.{spelled}
use Rattle.sync_rules.specs.Lists.{In}
use Rattle.sync_rules.specs.Output.{sent}
use Rattle.sync_rules.specs.Facts.{Journal}
use Rattle.sync_node.specs.Output.{output}

-- ---- a look

pub output_is : (j : Journal) (number : ℕ) → output j number ≡ spelled (sent j number)
unfolding output
output_is j number = refl

-- ---- what is heard

there : {A : Type 0} (xs : List A) (i : ℕ) (x : A) → slice_get xs i ≡ Some x → In x xs
there [] i x is = cc
there (y ∷ xs) zero x is = let same : x ≡ y = cc in inl same
there (y ∷ xs) (suc i) x is = inr (there xs i x is)
