-- What a brief account leaves of the facts.
use Rattle.std.proofs.Common.{◌≡◌, ℕ, ◌+◌, List, [], ◌∷◌, refl, ap, ◌∙◌, Option, unwrap_or}
use Rattle.std.specs.FinMap as fin_map
use Rattle.std.specs.Ordering.{nat_cmp}
use Rattle.sync_rules.specs.Clients.{Meaning}
use Rattle.sync_rules.specs.Facts.{Facts, Held, takes_of}
use Rattle.sync_rules.specs.Left.{left_among, left_for, left_of}
use Rattle.sync_rules.specs.Steps.{IsSettled}
use Rattle.sync_rules.proofs.StepKinds.{same_next}
use Rattle.brief_account.specs.Brief.{without_sessions}

-- no record was taken
pub none_taken : (f : Facts) (session : ℕ) → takes_of (without_sessions f).takes session ≡ 0
none_taken f session = ap (λ (o : Option ℕ). unwrap_or o 0) (fin_map.get-empty nat_cmp session)

left_same : (f : Facts) (hs : List Held) → left_among (without_sessions f) hs ≡ left_among f hs
left_same f [] = refl
left_same f (h ∷ hs) = ap (λ n. left_for f h.id + n) (left_same f hs)

-- as many steps are left
pub left_without : (f : Facts) → left_of (without_sessions f) ≡ left_of f
left_without f = left_same f f.held

pub settled_without : (clients : Meaning) (f : Facts) → IsSettled clients f → IsSettled clients
    (without_sessions f)
settled_without clients f settled =
    same_next clients f (without_sessions f) (record {
      groups = refl;
      held = refl;
      judged = refl;
      invalid = refl;
      delivered = refl;
    }) ∙ settled
