-- A journal that grows by settling and by records that are taken, without a disk.
use Rattle.std.specs.Prelude.{◌≡◌, ℕ, true, List, [], ◌∷◌, ◌++◌, is_some, None}
use Rattle.sync_ids.specs.Values.{GroupValue}
use Rattle.sync_ids.specs.Ids.{group_id_of}
use Rattle.sync_ids.specs.declared.records.Record.{Record}
use Rattle.sync_rules.specs.declared.entries.Entry.{Entry}
use Rattle.sync_rules.specs.declared.entries.Entry.TheVariants as entry
use Rattle.sync_rules.specs.declared.entries.Level.TheVariants as level
use Rattle.sync_rules.specs.declared.entries.Mode.TheVariants as mode_kind
use Rattle.sync_rules.specs.declared.entries.Session.{Session}
use Rattle.sync_rules.specs.Clients.{Meaning}
use Rattle.sync_rules.specs.Facts.{Facts, facts, session_at, contact_of, takes_of}
use Rattle.sync_rules.specs.Steps.{IsSettled}
use Rattle.sync_rules.specs.Sessions.{taken}
use Rattle.sync_rules.specs.Legal.{Legal, AllSettling}

-- a journal is extended by settling batches alone
pub record SettlesJournal (clients : Meaning) (old new : List (List Entry)) : Type 0 where
  pub more : List (List Entry)
  pub extends : new ≡ old ++ more
  pub settling : AllSettling clients (facts old) more

-- the batch of a record that is the session's k-th, behind a journal of these facts
abbrev pub take_batch : Facts → ℕ → ℕ → Record → List Entry
take_batch f session k r = entry.Take session k ∷ taken f session r

-- a record is taken, and then the journal is settled
pub record HearsRecord (clients : Meaning) (old : List (List Entry)) (session k : ℕ) (r : Record)
    (new : List (List Entry)) : Type 0 where
  pub settles : SettlesJournal clients (old ++ take_batch (facts old) session k r ∷ []) new
  pub settled : IsSettled clients (facts new)

-- a legal and settled journal whose session with this contact is to take its k-th record
pub record IsHearing (clients : Meaning) (journal : List (List Entry)) (session contact k : ℕ) : Type 0 where
  pub legal : Legal clients journal
  pub settled : IsSettled clients (facts journal)
  pub known_session : is_some (session_at (facts journal).sessions session) ≡ true
  pub same_contact : contact_of (facts journal).sessions session ≡ contact
  pub numbered : k ≡ takes_of (facts journal).takes session

-- a session in batch mode, of this number and latency with this contact
abbrev pub batch_session : (number contact latency : ℕ) → Session
batch_session number contact latency =
    record {
      number = number;
      contact = contact;
      mode = mode_kind.Batch;
      latency = latency;
      nonce = None;
    }

-- a journal of contact 0, one group that is Visible to it, and one batch session with it of latency 1
abbrev pub one_session : GroupValue → List (List Entry)
one_session def =
    (entry.Contact 0 ∷ [])
    ∷ (entry.Group def ∷ [])
    ∷ (entry.Level 0 (group_id_of def) level.Visible ∷ [])
    ∷ (entry.Session (batch_session 0 0 1) ∷ [])
    ∷ []
