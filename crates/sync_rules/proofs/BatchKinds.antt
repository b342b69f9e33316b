-- A batch that is allowed is of one of five kinds, so what holds of the batches of each kind holds of it.
use Rattle.std.proofs.Common.{◌≡◌, ℕ, true, List, [], ◌∷◌, refl, sym, subst, is_some}
use Rattle.sync_ids.specs.Records.{IsRecord}
use Rattle.sync_ids.specs.declared.records.Record.{Record}
use Rattle.sync_rules.specs.declared.entries.Entry.{Entry}
use Rattle.sync_rules.specs.declared.entries.Entry.TheVariants as entry
use Rattle.sync_rules.specs.declared.states.Start.TheVariants as start
use Rattle.sync_rules.specs.Clients.{Meaning}
use Rattle.sync_rules.specs.Facts.{Facts, session_at, takes_of}
use Rattle.sync_rules.specs.Steps.{IsSettled}
use Rattle.sync_rules.specs.Sessions.{taken}
use Rattle.sync_rules.specs.Allows.{is_account_kind, is_rows_kind, is_settling_kind}
use Rattle.sync_rules.specs.Legal.{Allowed, IsRowsBatch, IsSettlingBatch, MayStandAlone}
use Rattle.sync_rules.specs.EntryTests.{IsSettlingEntry}

-- a record that may be taken: its session is known, and it has the session's next number
pub record TakesNext (f : Facts) (session k : ℕ) (r : Record) : Type 0 where
  pub known_session : is_some (session_at f.sessions session) ≡ true
  pub numbered : k ≡ takes_of f.takes session
  pub within : IsRecord r

-- an entry of a batch of rows and wanted ids
abbrev pub IsRowEntry : Entry → Type 0
IsRowEntry (entry.Tried t) = Unit {0}
IsRowEntry (entry.Want contact id) = Unit {0}
IsRowEntry _ = ⊥

-- what holds of the batches of each kind: an entry by itself, a record with what it is taken as, steps of settling, the
-- first of a brief account, and its rows
pub record HoldsByKind (clients : Meaning) (f : Facts) (P : List Entry → Type 0) : Type 0 where
  pub alone : (e : Entry) → IsSettled clients f → MayStandAlone clients f e → P (e ∷ [])
  pub of_record : (s k : ℕ) (r : Record) → IsSettled clients f → TakesNext f s k r
      → P (entry.Take s k ∷ taken f s r)
  pub steps : (e : Entry) (es : List Entry) → IsSettlingEntry e → IsSettlingBatch clients f (e ∷ es)
      → P (e ∷ es)
  pub brief : (n : ℕ) → f.start ≡ start.Empty → P (entry.Brief n ∷ [])
  pub rows : (e : Entry) (es : List Entry) → IsRowEntry e → IsRowsBatch clients f (e ∷ es)
      → P (e ∷ es)

pub by_kind : (clients : Meaning) (f : Facts) (P : List Entry → Type 0) → HoldsByKind clients f P
    → (b : List Entry) → Allowed clients f b → P b
by_kind clients f P holds [] a = absurd a
by_kind clients f P holds (entry.Take s k ∷ rest) a =
    subst (λ (es : List Entry). P (entry.Take s k ∷ es)) (sym a.1.taken_so)
    (holds.of_record s k a.1.read a.0
    (record { known_session = a.1.known_session; numbered = a.1.numbered; within = a.1.within }))
by_kind clients f P holds (entry.Judged id ∷ rest) a = holds.steps (entry.Judged id) rest tt a
by_kind clients f P holds (entry.Deliver id ∷ rest) a = holds.steps (entry.Deliver id) rest tt a
by_kind clients f P holds (entry.Invalid id ∷ rest) a = holds.steps (entry.Invalid id) rest tt a
by_kind clients f P holds (entry.Brief n ∷ rest) a =
    subst (λ (es : List Entry). P (entry.Brief n ∷ es)) (sym a.0) (holds.brief n a.1)
by_kind clients f P holds (entry.Tried t ∷ rest) a = holds.rows (entry.Tried t) rest tt a
by_kind clients f P holds (entry.Want contact id ∷ rest) a =
    holds.rows (entry.Want contact id) rest tt a
by_kind clients f P holds (e ∷ rest) a =
    subst (λ (es : List Entry). P (e ∷ es)) (sym a.0) (holds.alone e a.1 a.2)

-- ---- a batch's kind by its first entry

pub steps_settle : (e : Entry) (es : List Entry) → IsSettlingEntry e
    → is_settling_kind (e ∷ es) ≡ true
steps_settle (entry.Judged id) es step = refl
steps_settle (entry.Deliver id) es step = refl
steps_settle (entry.Invalid id) es step = refl
steps_settle _ es step = absurd step

pub rows_are_rows : (e : Entry) (es : List Entry) → IsRowEntry e → is_rows_kind (e ∷ es) ≡ true
rows_are_rows (entry.Tried t) es row = refl
rows_are_rows (entry.Want contact id) es row = refl
rows_are_rows _ es row = absurd row

pub rows_account : (e : Entry) (es : List Entry) → IsRowEntry e → is_account_kind (e ∷ es) ≡ true
rows_account (entry.Tried t) es row = refl
rows_account (entry.Want contact id) es row = refl
rows_account _ es row = absurd row
