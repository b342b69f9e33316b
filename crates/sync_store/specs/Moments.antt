-- What a run of a store's calls leaves at each moment, and at its end, in words of the whole
-- journal that the files stand for.
use Rattle.std.specs.Prelude.{◌≡◌, ◌⊎◌, ◌==◌, ℕ, suc, ◌+◌, cond, false, List, [], ◌∷◌}
use Rattle.std.specs.Prelude.{◌++◌, Some, Result, Ok, Err}
use Rattle.outside.specs.Files.{Two, File}
use Rattle.outside.specs.Links.{sent_of}
use Rattle.outside.specs.Outside.{Outside, Moment, MomentsAre}
use Rattle.sync_rules.specs.declared.entries.Entry.{Entry}
use Rattle.sync_rules.specs.Clients.{Meaning}
use Rattle.entry_codec.specs.declared.naming.Format.{Format}
use Rattle.entry_codec.specs.Payloads.{payload_len}
use Rattle.entry_codec.specs.Standing.{journal}
use Rattle.file_standing.specs.Standing.{stands}
use Rattle.sync_store.specs.Store.{StoreValue}
use Rattle.sync_store.specs.Waiting.{has_place}
use Rattle.sync_store.specs.Fitting.{FitsFiles}
use Rattle.sync_store.specs.declared.fault.StoreFault.{StoreFault}

-- a moment whose files stand for a journal that has P, nothing more being sent
pub record JournalMoment (clients : Meaning) (P : List (List Entry) → Type 0) (sent : List (List ℕ))
    (m : Moment) : Type 0 where
  pub whole : List (List Entry)
  pub has : P whole
  pub stands_for : stands clients m.files ≡ journal whole
  pub nothing_sent : m.sent ≡ sent

-- What a run leads to: at each moment the files stand for a journal that has P; and at its end,
-- unless the store is closed, the disk fits the store with a journal that has Q.
pub record LeadsTo (clients : Meaning) (P Q : List (List Entry) → Type 0) (s : StoreValue)
    (old new : Outside) : Type 0 where
  pub moments : MomentsAre old new (JournalMoment clients P (sent_of old.links.told))
  pub ends : s.closed ≡ false → (two : Two File) → new.files ≡ Some two
      → (whole : List (List Entry)) × Q whole × FitsFiles clients s whole two

-- How many groups it takes to add batches in a format behind so many bytes of so many batches that
-- wait: a batch joins those that wait where one more may, and else these are added before it.
abbrev pub groups_for : Format → ℕ → ℕ → List (List Entry) → ℕ
groups_for format waiting batches [] = cond (waiting == 0) 0 1
groups_for format waiting batches (b ∷ bs) =
    cond (has_place waiting batches)
    (groups_for format (waiting + (5 + payload_len format b)) (batches + 1) bs)
    (suc (groups_for format (5 + payload_len format b) 1 bs))

-- ---- one batch

-- this journal, or it with the batch
abbrev pub WithAtMost : List (List Entry) → List Entry → List (List Entry) → Type 0
WithAtMost j batch whole = (whole ≡ j) ⊎ (whole ≡ j ++ batch ∷ [])

-- the journal with the batch where that was committed
abbrev pub journal_with : List (List Entry) → List Entry → Result (Unit {0}) StoreFault
    → List (List Entry)
journal_with j batch (Ok _) = j ++ batch ∷ []
journal_with j batch (Err _) = j

-- the run that commits a batch
abbrev pub RunsCommit : Meaning → List Entry → Result (Unit {0}) StoreFault → StoreValue → Outside
    → Outside → List (List Entry) → Type 0
RunsCommit clients batch result s old new j =
    LeadsTo clients (WithAtMost j batch) (λ whole. whole ≡ journal_with j batch result) s old new

-- ---- a list of batches

-- this journal with a front of some further batches
pub record IsBetween (j more whole : List (List Entry)) : Type 0 where
  pub front : List (List Entry)
  pub rest : List (List Entry)
  pub parts : more ≡ front ++ rest
  pub is : whole ≡ j ++ front
