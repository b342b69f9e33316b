-- The parts of the facts as data: a code for each, by which what a contract sees can hold them.
use Rattle.std.specs.Prelude.{ℕ, Bool, refl}
use Rattle.std.specs.Coded.{Coded, code_by, coded×, coded_list, coded_bool, coded_ℕ}
use Rattle.std.specs.FinMap as fin_map
use Rattle.sync_ids.specs.Values.{GroupValue, MessageValue}
use Rattle.sync_rules.specs.contracts.entries.Level as level
use Rattle.sync_rules.specs.contracts.states.Origin as origin
use Rattle.sync_rules.specs.declared.states.Origin.{Origin}
use Rattle.sync_rules.specs.Facts.{Held, Id, Known, LevelMap, Row, Rows, Wants}

abbrev pub id_code : Coded Id
id_code = coded_list coded_ℕ

abbrev pub def_code : Coded GroupValue
def_code =
    code_by (Id × (ℕ × Id)) (coded× id_code (coded× coded_ℕ id_code)) (λ d. (d.name, (d.major, d.descriptor)))
    (λ p. record { name = p.0; major = p.1.0; descriptor = p.1.1 }) (λ _. refl)

abbrev pub known_code : Coded Known
known_code = code_by (GroupValue × Id) (coded× def_code id_code) (λ g. (g.def, g.id)) (λ p. record { def = p.0; id = p.1 }) (λ _. refl)

abbrev pub levels_code : Coded LevelMap
levels_code = fin_map.code (coded× coded_ℕ id_code) level.the_row.coded

abbrev pub message_code : Coded MessageValue
message_code =
    code_by (Id × (ℕ × Id)) (coded× id_code (coded× coded_ℕ id_code))
    (λ m. (m.group, (m.timestamp, m.body)))
    (λ p. record { group = p.0; timestamp = p.1.0; body = p.1.1 }) (λ _. refl)

abbrev pub held_code : Coded Held
held_code =
    code_by (Id × (MessageValue × Origin))
    (coded× id_code (coded× message_code origin.the_row.coded))
    (λ h. (h.id, (h.message, h.origin)))
    (λ p. record { id = p.0; message = p.1.0; origin = p.1.1 }) (λ _. refl)

abbrev pub row_code : Coded Row
row_code =
    code_by (Bool × (Bool × (Bool × (ℕ × ℕ))))
    (coded× coded_bool (coded× coded_bool (coded× coded_bool (coded× coded_ℕ coded_ℕ))))
    (λ r. (r.seen, (r.owed, (r.asked, (r.tries, r.expiry)))))
    (λ p. record
    { seen = p.0; owed = p.1.0; asked = p.1.1.0; tries = p.1.1.1.0; expiry = p.1.1.1.1 })
    (λ _. refl)

abbrev pub rows_code : Coded Rows
rows_code = fin_map.code (coded× coded_ℕ id_code) row_code

abbrev pub wants_code : Coded Wants
wants_code = fin_map.code coded_ℕ (coded_list id_code)
