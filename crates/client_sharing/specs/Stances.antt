-- The last words of both sides on a definition, as they are looked up by its parts.
use Rattle.std.specs.Prelude.{ℕ, Bool, true, false, cond, List, Option, Some, None}
use Rattle.std.specs.Borrow.{Bor}
use Rattle.std.specs.Map.{lookup}
use Rattle.sync_ids.specs.Values.{GroupValue}
use Rattle.client_sharing.specs.declared.agreement.Said.{Said}
use Rattle.client_sharing.specs.declared.agreement.Stances.{Stances}
use Rattle.client_sharing.specs.Targets.{is_named, same_def, stance}

-- a name, a version and a descriptor
abbrev pub Parts : Type 0
Parts = (Bor (List ℕ) × ℕ) × Bor (List ℕ)

abbrev pub def_of_parts : Parts → GroupValue
def_of_parts p = record { name = p.0.0.now; major = p.0.1; descriptor = p.1.now }

-- what is found for a definition
abbrev pub words_at : List (Parts × Stances) → GroupValue → Option Stances
words_at words def = lookup (λ p. same_def def (def_of_parts p)) words

-- the stances of both, where something was said of a definition
abbrev pub last_words : List Said → GroupValue → Option Stances
last_words said def = cond (is_named said def) (Some (record { own = stance true def said; other = stance false def said })) None

abbrev pub spoken_by : Bool → Bool → Stances → Stances
spoken_by true join before = record before { own = join }
spoken_by false join before = record before { other = join }

-- the stances behind one more word
abbrev pub spoken : Option Stances → Bool → Bool → Stances
spoken None own join = spoken_by own join (record { own = false; other = false })
spoken (Some before) own join = spoken_by own join before
