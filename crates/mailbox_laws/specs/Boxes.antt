-- A journal that grows by files of records from one contact, each read on a session of its own.
use Rattle.std.specs.Prelude.{◌≡◌, ℕ, ◌+◌, List, [], ◌∷◌, ◌++◌}
use Rattle.sync_ids.specs.declared.records.Record.{Record}
use Rattle.sync_rules.specs.declared.entries.Entry.{Entry}
use Rattle.sync_rules.specs.declared.entries.Entry.TheVariants as entry
use Rattle.sync_rules.specs.declared.entries.Session.{Session}
use Rattle.sync_rules.specs.Clients.{Meaning}
use Rattle.sync_rules.specs.Facts.{facts}
use Rattle.sync_rules.specs.Hearing.{HearsRecord, SettlesJournal, batch_session}
use Rattle.sync_rules.specs.Steps.{IsSettled}

-- the session of this number on which a file is read: in batch mode, of latency 1
abbrev pub box_session : ℕ → ℕ → Session
box_session number contact = batch_session number contact 1

-- a journal behind which that session begins
abbrev pub with_box : ℕ → List (List Entry) → List (List Entry)
with_box contact journal = journal ++ (entry.Session (box_session (facts journal).begun contact) ∷ []) ∷ []

-- records are taken one after the other, the first of them as the session's k-th, and the journal is settled behind
-- each
abbrev pub HearsAll : Meaning → ℕ → ℕ → List (List Entry) → List Record → List (List Entry) → Type 0
HearsAll clients session k old [] new = new ≡ old
HearsAll clients session k old (r ∷ rs) new =
    (mid : List (List Entry)) × HearsRecord clients old session k r mid × HearsAll clients session (k + 1) mid rs new

-- one file: the journal is settled, a session begins, and the records of the file are taken on it
pub record ReadsBox (clients : Meaning) (contact : ℕ) (old : List (List Entry)) (records : List Record)
    (new : List (List Entry)) : Type 0 where
  pub before : List (List Entry)
  pub settles : SettlesJournal clients old before
  pub settled : IsSettled clients (facts before)
  pub hears : HearsAll clients (facts before).begun 0 (with_box contact before) records new

-- files one after the other
abbrev pub ReadsBoxes : Meaning → ℕ → List (List Entry) → List (List Record) → List (List Entry) → Type 0
ReadsBoxes clients contact old [] new = new ≡ old
ReadsBoxes clients contact old (records ∷ rest) new =
    (mid : List (List Entry)) × ReadsBox clients contact old records mid × ReadsBoxes clients contact mid rest new
