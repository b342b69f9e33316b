-- A store of which the frames of some batches wait, to be added to its journal together.
use Rattle.std.specs.Prelude.{◌≡◌, ◌⊎◌, ◌+◌, true, false, List, ◌++◌, Option, Some}
use Rattle.std.specs.List.{AllByRecursion}
use Rattle.frame_journal.specs.Group.{IsJoined, group_len}
use Rattle.outside.specs.Files.{Two, File}
use Rattle.outside.specs.Outside.{Outside}
use Rattle.sync_rules.specs.declared.entries.Entry.{Entry}
use Rattle.sync_rules.specs.Clients.{Meaning}
use Rattle.sync_rules.specs.Facts.{after_batches}
use Rattle.sync_rules.specs.Legal.{GoesOn}
use Rattle.entry_codec.specs.Payloads.{payloads}
use Rattle.entry_codec.specs.Spelling.{IsEntry, IsOfFormat}
use Rattle.journal_state.specs.Whole.{KnowsJudgements}
use Rattle.sync_store.specs.Store.{IsStore, StoreValue, written_in}
use Rattle.sync_store.specs.Waiting.{frames_in, has_place}
use Rattle.sync_store.specs.Fitting.{FitsFiles, FitsSome}
use Rattle.sync_store.specs.Moments.{LeadsTo, groups_for}

-- The batches of a store wait since it was `before`: each of them may follow the journal with those
-- before it, the facts are those after them, and their frames are those that wait. All else is as it
-- was.
pub record HasGathered (clients : Meaning) (before s : StoreValue)
    (more : List (List Entry)) : Type 0 where
  pub opened : before.closed ≡ false
  pub goes_on : GoesOn clients before.state.facts more
  pub facts : s.state.facts ≡ after_batches before.state.facts more
  pub file : s.file ≡ before.file
  pub format : s.format ≡ before.format
  pub generation : s.generation ≡ before.generation
  pub end : s.end ≡ before.end + group_len s.waiting
  pub limit : s.limit ≡ before.limit
  pub joined : IsJoined (payloads (written_in before) before.state.facts more) s.waiting
  -- each of them found room behind those before it
  pub together : (rest : List (List Entry)) → groups_for (written_in before) 0 0 (more ++ rest)
      ≡ groups_for (written_in before) (group_len s.waiting) (frames_in s.waiting) rest
  -- the entries are of kinds that the format has, and within their limits
  pub kinds : AllByRecursion (AllByRecursion (IsOfFormat (written_in before))) more
  pub within : AllByRecursion (AllByRecursion IsEntry) more

-- A store that is not closed, with batches that wait or with none: it knows what these clients said
-- of its messages, and its disk fits it as it was before them.
pub record IsGathering (clients : Meaning) (s : StoreValue)
    (files : Option (Two File)) : Type 0 where
  pub still_open : s.closed ≡ false
  pub store : IsStore s
  pub knows : KnowsJudgements clients s.state
  pub before : StoreValue
  pub kept : IsStore before
  pub more : List (List Entry)
  pub gathered : HasGathered clients before s more
  pub fits : FitsSome clients before files

-- one batch more may wait behind those that wait
abbrev pub HasGroupRoom : StoreValue → Type 0
HasGroupRoom s = has_place (group_len s.waiting) (frames_in s.waiting) ≡ true

-- this journal, or it with all of some further batches
abbrev pub NoneOrAll : List (List Entry) → List (List Entry) → List (List Entry) → Type 0
NoneOrAll j more whole = (whole ≡ j) ⊎ (whole ≡ j ++ more)

-- whatever journal the disk fitted: at each moment the files stand for it or for it with all of these
-- batches, and in the end, unless the store is closed, the disk fits the store with all of them
abbrev pub AddsAll : Meaning → StoreValue → StoreValue → Outside → Outside → List (List Entry)
    → Type 0
AddsAll clients before new o o' more =
    (two : Two File) → o.files ≡ Some two → (j : List (List Entry))
    → FitsFiles clients before j two
    → LeadsTo clients (NoneOrAll j more) (λ whole. whole ≡ j ++ more) new o o'
