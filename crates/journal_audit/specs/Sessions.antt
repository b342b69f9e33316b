-- The sessions, and the records taken on them.
use Rattle.std.specs.Prelude.{◌≡◌, ℕ, List, refl}
use Rattle.std.specs.BTreeMap.{BTreeMap, get}
use Rattle.std.specs.Coded.{Coded, code_by, coded×, coded_list, coded_ℕ}
use Rattle.std.specs.FinMap as fin_map
use Rattle.std.specs.Ordering.{nat_cmp}
use Rattle.sync_rules.specs.contracts.entries.Session as session
use Rattle.sync_rules.specs.declared.entries.Session.{Session}
use Rattle.sync_rules.specs.Facts.{session_at}

-- the number of sessions that began, those of them that were not dropped in the order in which they began, and for each
-- session's number the records taken
pub record SessionsValue : Type 0 where
  pub begun : ℕ
  pub listed : List Session
  pub takes : fin_map.FinMap nat_cmp ℕ

abbrev pub sessions_code : Coded SessionsValue
sessions_code =
    code_by (ℕ × (List Session × fin_map.FinMap nat_cmp ℕ)) (coded× coded_ℕ (coded× (coded_list session.the_row.coded) (fin_map.code coded_ℕ coded_ℕ)))
    (λ s. (s.begun, (s.listed, s.takes))) (λ p. record { begun = p.0; listed = p.1.0; takes = p.1.1 }) (λ _. refl)

-- a map has the first session of each number
abbrev pub AreByNumber : List Session → BTreeMap ℕ Session → Type 0
AreByNumber sessions by_number = (n : ℕ) → get nat_cmp by_number n ≡ session_at sessions n
