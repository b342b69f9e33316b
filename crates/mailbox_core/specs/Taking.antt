-- Records that are taken one after the other: the batches that they make, by the facts of the
-- journal alone.
use Rattle.std.specs.Prelude.{◌≡◌, ◌⊎◌, ℕ, ◌+◌, ◌<◌, List, [], ◌∷◌, ◌++◌}
use Rattle.sync_ids.specs.declared.records.Record.{Record}
use Rattle.sync_rules.specs.declared.entries.Entry.{Entry}
use Rattle.sync_rules.specs.declared.entries.Entry.TheVariants as entry
use Rattle.sync_rules.specs.declared.entries.Session.{Session}
use Rattle.sync_rules.specs.Clients.{Meaning}
use Rattle.sync_rules.specs.Facts.{Facts, after, after_all, after_batches}
use Rattle.sync_rules.specs.Legal.{AllSettling}
use Rattle.sync_rules.specs.Steps.{IsSettled}
use Rattle.sync_rules.specs.Hearing.{take_batch}
use Rattle.sync_store.specs.Commits.{needed}
use Rattle.sync_store.specs.Store.{StoreValue}

-- ---- a session begins

-- the batch with which a session begins
abbrev pub first_batch : Session → List Entry
first_batch s = entry.Session s ∷ []

-- the session begins, and the batches behind it have this, behind a journal of those facts
pub record BeginsThen (f : Facts) (s : Session) (more : List (List Entry))
    (Later : Facts → List (List Entry) → Type 0)
    : Type 0 where
  pub rest : List (List Entry)
  pub is : more ≡ first_batch s ∷ rest
  pub later : Later (after f (entry.Session s)) rest

-- ---- one record

-- the record is taken, and settling follows
pub record TakesRecord (clients : Meaning) (f : Facts) (session k : ℕ) (r : Record)
    (more : List (List Entry))
    : Type 0 where
  pub settling : List (List Entry)
  pub is : more ≡ take_batch f session k r ∷ settling
  pub settles : AllSettling clients (after_all f (take_batch f session k r)) settling

-- the record is taken, the journal is settled, and the batches behind that have this
pub record TakesThen (clients : Meaning) (f : Facts) (session k : ℕ) (r : Record)
    (more : List (List Entry))
    (Later : Facts → List (List Entry) → Type 0) : Type 0 where
  pub first : List (List Entry)
  pub rest : List (List Entry)
  pub is : more ≡ first ++ rest
  pub takes : TakesRecord clients f session k r first
  pub settled : IsSettled clients (after_batches f first)
  pub later : Later (after_batches f first) rest

-- ---- many records

-- Behind a journal of these facts records are taken, the first of them as the session's k-th, up to
-- a place that has P: of the
-- facts there, the number of the next record, the records that are left, and the batches that are
-- left.
abbrev pub TakesTo : Meaning → ℕ → (Facts → ℕ → List Record → List (List Entry) → Type 0) → Facts
    → ℕ → List Record
    → List (List Entry) → Type 0
TakesTo clients session P f k [] more = P f k [] more
TakesTo clients session P f k (r ∷ rs) more =
    P f k (r ∷ rs) more
    ⊎ TakesThen clients f session k r more (λ g rest. TakesTo clients session P g (k + 1) rs rest)

-- no record is left
abbrev pub AllTaken : Facts → ℕ → List Record → List (List Entry) → Type 0
AllTaken f k rs more = (rs ≡ []) × (more ≡ [])

-- nothing more is done, or the next record is taken with some of its settling
abbrev pub SomeTaken : Meaning → ℕ → Facts → ℕ → List Record → List (List Entry) → Type 0
SomeTaken clients session f k [] more = more ≡ []
SomeTaken clients session f k (r ∷ rs) more = (more ≡ []) ⊎ TakesRecord clients f session k r more

-- nothing more is done, and for the next record there is no room in this store
abbrev pub NoRoomFor : ℕ → StoreValue → Facts → ℕ → List Record → List (List Entry) → Type 0
NoRoomFor session s f k [] more = ⊥
NoRoomFor session s f k (r ∷ rs) more =
    (more ≡ []) × (s.limit < needed s (take_batch s.state.facts session k r))
