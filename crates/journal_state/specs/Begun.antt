-- The sessions and the records taken on them.
use Rattle.std.specs.Prelude.{◌≡◌, ℕ, ◌+◌, List, [], ◌∷◌, refl}
use Rattle.std.specs.Coded.{Coded, code_by, coded×, coded_ℕ}
use Rattle.std.specs.FinMap as fin_map
use Rattle.std.specs.Ordering.{nat_cmp}
use Rattle.sync_rules.specs.declared.entries.Session.{Session}
use Rattle.journal_state.specs.Codes.{sessions_code, takes_code}

-- the number of sessions begun, these in the order in which they began, for each session's number the records taken, and
-- for how many more sessions and records there is room
pub record Begun : Type 0 where
  pub begun : ℕ
  pub sessions : List Session
  pub takes : fin_map.FinMap nat_cmp ℕ
  pub room : ℕ

abbrev pub begun_code : Coded Begun
begun_code =
    code_by (ℕ × (List Session × (fin_map.FinMap nat_cmp ℕ × ℕ))) (coded× coded_ℕ (coded× sessions_code (coded× takes_code coded_ℕ)))
    (λ b. (b.begun, (b.sessions, (b.takes, b.room))))
    (λ p. record { begun = p.0; sessions = p.1.0; takes = p.1.1.0; room = p.1.1.1 }) (λ _. refl)

-- the sessions have their places, counted from i on, as their numbers
abbrev pub IsNumbered : ℕ → List Session → Type 0
IsNumbered i [] = Unit {0}
IsNumbered i (s ∷ ss) = (s.number ≡ i) × IsNumbered (i + 1) ss
