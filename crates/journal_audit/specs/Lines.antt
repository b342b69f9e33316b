-- The held messages as lines, each with what became of the message.
use Rattle.std.specs.Prelude.{◌≡◌, ℕ, zero, suc, ◌<◌, Bool, true, false, cond, ◌||◌, ◌+◌, List, [], ◌∷◌, length, map, Some, slice_get, slice_index_or, refl}
use Rattle.std.specs.BTreeMap.{BTreeMap, get}
use Rattle.std.specs.Coded.{Coded, code_by, coded×, coded_list, coded_ℕ}
use Rattle.std.specs.FinSet as fin_set
use Rattle.std.specs.List.{AllByRecursion}
use Rattle.sync_rules.specs.declared.answers.Judgement.{Judgement}
use Rattle.sync_rules.specs.Facts.{Held, Id, Ids, id_cmp}
use Rattle.sync_rules.specs.Consistency.{ids_of_held}
use Rattle.sync_rules.specs.Lists.{has_repeat, is_among}
use Rattle.sync_rules.specs.Views.{place_of}
use Rattle.journal_audit.specs.declared.messages.Line.{Line}
use Rattle.journal_audit.specs.contracts.messages.Line as line

-- the lines in order of arrival, and the numbers of the delivered messages in the order of their delivery
pub record Kept : Type 0 where
  pub lines : List Line
  pub delivered : List ℕ

abbrev pub kept_code : Coded Kept
kept_code =
    code_by (List Line × List ℕ) (coded× (coded_list line.the_row.coded) (coded_list coded_ℕ)) (λ k. (k.lines, k.delivered))
    (λ p. record { lines = p.0; delivered = p.1 }) (λ _. refl)

-- ---- the parts of the facts that lines give

abbrev pub held_of : Line → Held
held_of l = record { id = l.id; message = l.message; origin = l.origin }

-- the held messages
abbrev pub held_in : List Line → List Held
held_in lines = map held_of lines

-- what the clients say of them
abbrev pub answers_in : List Line → List Judgement
answers_in lines = map (λ l. l.answer) lines

-- the ids of the lines that pass a test
abbrev pub ids_flagged : (Line → Bool) → List Line → List Id
ids_flagged flag [] = []
ids_flagged flag (l ∷ ls) = cond (flag l) (l.id ∷ ids_flagged flag ls) (ids_flagged flag ls)

-- the ids of the judged and of the invalid messages
abbrev pub judged_in : List Line → Ids
judged_in lines = fin_set.from_list (ids_flagged (λ l. l.judged) lines)

abbrev pub invalid_in : List Line → Ids
invalid_in lines = fin_set.from_list (ids_flagged (λ l. l.invalid) lines)

-- the id of a number
abbrev pub id_at : List Line → ℕ → Id
id_at lines n = slice_index_or (map (λ l. l.id) lines) n []

-- the ids of the delivered messages in the order of their delivery
abbrev pub delivered_in : Kept → List Id
delivered_in kept = map (id_at kept.lines) kept.delivered

-- how many steps settling may yet make
abbrev pub left_for_line : Line → ℕ
left_for_line l = cond l.judged (cond (l.delivered || l.invalid) 0 1) 2

abbrev pub left_in : List Line → ℕ
left_in [] = 0
left_in (l ∷ ls) = left_for_line l + left_in ls

-- ---- what becomes of a message

abbrev pub judged_line : Line → Line
judged_line l = record l { judged = true }

abbrev pub invalid_line : Line → Line
invalid_line l = record l { invalid = true }

abbrev pub delivered_line : Line → Line
delivered_line l = record l { delivered = true }

-- the line of a number changed
abbrev pub line_changed : (Line → Line) → ℕ → List Line → List Line
line_changed change n [] = []
line_changed change zero (l ∷ ls) = change l ∷ ls
line_changed change (suc n) (l ∷ ls) = l ∷ line_changed change n ls

-- ---- what holds of lines

-- a map has the arrival number of each id
abbrev pub ArePlaces : List Held → BTreeMap Id ℕ → Type 0
ArePlaces held places = (id : Id) → get id_cmp places id ≡ place_of held id

-- no two lines have one id, and the delivered numbers are those of the lines that say so
pub record AreLines (kept : Kept) : Type 0 where
  pub distinct : has_repeat (ids_of_held (held_in kept.lines)) ≡ false
  pub within : AllByRecursion (λ n. n < length kept.lines) kept.delivered
  pub ended : (n : ℕ) (l : Line) → slice_get kept.lines n ≡ Some l → is_among (delivered_in kept) l.id ≡ l.delivered
