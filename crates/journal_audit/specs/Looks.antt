-- Looks at some of the messages, by their arrival numbers.
use Rattle.std.specs.Prelude.{ℕ, Bool, not, cond, ◌&&◌, ◌||◌, nat_le, List, [], ◌∷◌, Option, None, Some, slice_get}
use Rattle.std.specs.Option.{option_or}
use Rattle.std.specs.List.{cons_option}
use Rattle.sync_rules.specs.declared.entries.Mode.{Mode}
use Rattle.sync_rules.specs.declared.entries.Entry.{Entry}
use Rattle.sync_rules.specs.declared.entries.Entry.TheVariants as entry
use Rattle.sync_rules.specs.Facts.{Facts, Held, Id, LevelMap, Row, is_level_shared, level_at, row_at}
use Rattle.sync_rules.specs.Sessions.{goes_sooner, is_author, is_ripe, is_sendable}
use Rattle.sync_rules.specs.Steps.{step_open}
use Rattle.sync_rules.specs.Views.{Seen}
use Rattle.journal_audit.specs.declared.facts.PlainFacts.{PlainFacts}
use Rattle.journal_audit.specs.declared.messages.Line.{Line}
use Rattle.journal_audit.specs.Lines.{held_of}
use Rattle.journal_audit.specs.Plain.{facts_of, shared_in}
use Rattle.journal_audit.specs.Standing.{shares}

-- what a session sees
abbrev pub seen_of : PlainFacts → Seen
seen_of p = record { facts = facts_of p; shared = shared_in p.messages.lines }

-- the id of a message that passes a test
abbrev pub picked : (Held → Bool) → Option Held → Option Id
picked test None = None
picked test (Some h) = cond (test h) (Some h.id) None

-- the ids of the messages of these numbers that pass a test
abbrev pub ids_at : (Held → Bool) → List Held → List ℕ → List Id
ids_at test held [] = []
ids_at test held (n ∷ ns) = cons_option (picked test (slice_get held n)) (ids_at test held ns)

-- what is picked of a message that is held
abbrev pub of_held : {X : Type 0} → (Held → Option X) → Option Held → Option X
of_held pick None = None
of_held pick (Some h) = pick h

-- what is picked of the messages of these numbers, and of all
abbrev pub picks_at : {X : Type 0} → (Held → Option X) → List Held → List ℕ → List X
picks_at pick held [] = []
picks_at pick held (n ∷ ns) = cons_option (of_held pick (slice_get held n)) (picks_at pick held ns)

abbrev pub picks_of : {X : Type 0} → (Held → Option X) → List Held → List X
picks_of pick [] = []
picks_of pick (h ∷ hs) = cons_option (pick h) (picks_of pick hs)

-- ---- the tests

abbrev pub is_owed : Seen → ℕ → Held → Bool
is_owed s contact h = (row_at s.facts.rows contact h.id).owed

abbrev pub is_sent : Seen → ℕ → Mode → ℕ → Held → Bool
is_sent s contact mode now h = is_sendable s.facts s.shared contact h && is_ripe mode now (row_at s.facts.rows contact h.id)

abbrev pub is_offered : Seen → ℕ → ℕ → Held → Bool
is_offered s contact now h =
    is_sendable s.facts s.shared contact h
    && (not (row_at s.facts.rows contact h.id).asked && nat_le (row_at s.facts.rows contact h.id).expiry now)

abbrev pub is_sooner : Seen → ℕ → ℕ → ℕ → Held → Bool
is_sooner s contact latency now h = is_sendable s.facts s.shared contact h && goes_sooner latency now (row_at s.facts.rows contact h.id)

-- a line's message may be sent to a contact for which this row is kept
abbrev pub is_line_sendable : LevelMap → ℕ → Line → Row → Bool
is_line_sendable levels contact l r =
    l.delivered
    && (is_level_shared (level_at levels contact l.message.group)
    && (not r.seen && (is_author l.origin || (l.judged && shares l.answer))))

-- ---- steps

-- the step that is open to the message of a line
abbrev pub step_of_line : Facts → Line → Option Entry
step_of_line f l =
    cond l.judged (cond (l.delivered || l.invalid) None (step_open f (held_of l) l.answer)) (Some (entry.Judged l.id))

abbrev pub step_at : Facts → Option Line → Option Entry
step_at f None = None
step_at f (Some l) = step_of_line f l

-- the first step that is open to the messages of these numbers
abbrev pub first_at : Facts → List Line → List ℕ → Option Entry
first_at f lines [] = None
first_at f lines (n ∷ ns) = option_or (step_at f (slice_get lines n)) (first_at f lines ns)
