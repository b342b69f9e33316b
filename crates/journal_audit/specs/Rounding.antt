-- Rounds over the held messages, each message marked or not.
use Rattle.std.specs.Prelude.{◌≡◌, ℕ, Bool, true, false, cond, ◌&&◌, ◌||◌, List, length, count_by, Option, None, Some, slice_get, slice_index_or}
use Rattle.std.specs.List.{AllByRecursion, list_all, list_any}
use Rattle.sync_rules.specs.declared.answers.Judgement.{Judgement}
use Rattle.sync_rules.specs.declared.answers.Judgement.TheVariants as judgement
use Rattle.sync_rules.specs.Facts.{Held, Id, held_at}
use Rattle.sync_rules.specs.Rounds.{Graph, bad, good}
use Rattle.sync_rules.specs.Steps.{is_beside, is_elsewhere}
use Rattle.sync_rules.specs.Views.{place_of}
use Rattle.journal_audit.specs.declared.messages.Line.{Line}
use Rattle.journal_audit.specs.Lines.{held_in, held_of}

-- ---- marks

-- the mark of a place
abbrev pub mark_at : List Bool → Option ℕ → Bool
mark_at marks None = false
mark_at marks (Some n) = slice_index_or marks n false

-- whether the message of an id is marked
abbrev pub is_marked : List Held → List Bool → Id → Bool
is_marked held marks id = mark_at marks (place_of held id)

-- a message is good by those that are marked: it is accepted, and its dependencies are all held in the same group and marked
abbrev pub is_good_by : List Held → List Bool → Id → Judgement → Bool
is_good_by held marks group judgement.Refuse = false
is_good_by held marks group (judgement.Accept deps share) = list_all (λ d. is_beside group (held_at held d) && is_marked held marks d) deps

-- it is bad by them: it is refused, or a dependency is held in another group or marked
abbrev pub is_bad_by : List Held → List Bool → Id → Judgement → Bool
is_bad_by held marks group judgement.Refuse = true
is_bad_by held marks group (judgement.Accept deps share) = list_any (λ d. is_elsewhere group (held_at held d) || is_marked held marks d) deps

-- the one or the other
abbrev pub is_next : Bool → List Held → List Bool → Line → Bool
is_next of_good held marks l =
    cond of_good (is_good_by held marks l.message.group l.answer) (is_bad_by held marks l.message.group l.answer)

abbrev pub is_next_at : Bool → List Line → List Bool → Option Line → Bool
is_next_at of_good lines marks None = false
is_next_at of_good lines marks (Some l) = is_next of_good (held_in lines) marks l

-- ---- rounds

-- the good messages of a round, or the bad ones
abbrev pub in_round : Bool → Graph → ℕ → Id → Bool
in_round of_good g k id = cond of_good (good g k id) (bad g k id)

-- these are the messages of the graph, with their verdicts
pub record IsGraphOfLines (g : Graph) (lines : List Line) : Type 0 where
  pub held_is : g.held ≡ held_in lines
  pub verdicts : AllByRecursion (λ l. l.answer ≡ g.verdict (held_of l)) lines

-- so many messages are marked, each of which is good, or bad, in that round
pub record AreMarked (of_good : Bool) (lines : List Line) (marks : List Bool) (count : ℕ) : Type 0 where
  pub long : length marks ≡ length lines
  pub counted : count ≡ count_by (λ b. b) marks
  pub sound : (g : Graph) → IsGraphOfLines g lines → (id : Id) → is_marked (held_in lines) marks id ≡ true → in_round of_good g count id ≡ true

-- no further message is good, or bad, by those that are marked
abbrev pub AreStable : Bool → List Line → List Bool → Type 0
AreStable of_good lines marks =
    (n : ℕ) → is_next_at of_good lines marks (slice_get lines n) ≡ true → slice_index_or marks n false ≡ true

-- the number of good messages, or of bad ones, the rounds being as many as messages are held
abbrev pub round_count : Bool → Graph → List Held → ℕ
round_count of_good g held = count_by (λ h. in_round of_good g (length held) h.id) held
