-- What settling answers, and what stands after each answer: one list of batches tells all of it.
use Rattle.std.specs.Prelude.{◌≡◌, ℕ, ◌+◌, ◌*◌, ◌≤◌, true, false, List, [], ◌∷◌, ◌++◌}
use Rattle.std.specs.Prelude.{length, Some, Result, Ok, Err}
use Rattle.outside.specs.Files.{Two, File}
use Rattle.outside.specs.Outside.{Outside}
use Rattle.sync_rules.specs.declared.entries.Entry.{Entry}
use Rattle.sync_rules.specs.declared.limits.TheConstants.{MAX_STEPS}
use Rattle.sync_rules.specs.Clients.{Meaning}
use Rattle.sync_rules.specs.Facts.{after_batches}
use Rattle.sync_rules.specs.Legal.{AllSettling}
use Rattle.sync_rules.specs.Steps.{IsSettled}
use Rattle.entry_codec.specs.declared.naming.Format.{Format}
use Rattle.entry_codec.specs.Standing.{room_of, step_bytes, step_len}
use Rattle.sync_store.specs.Store.{StoreValue, written_in}
use Rattle.sync_store.specs.Fitting.{FitsFiles}
use Rattle.sync_store.specs.Appending.{CallsFor}
use Rattle.sync_store.specs.Moments.{IsBetween, LeadsTo, groups_for}
use Rattle.sync_store.specs.declared.fault.StoreFault.{StoreFault}
use Rattle.sync_store.specs.declared.fault.StoreFault.TheVariants as fault

-- how many entries batches have
abbrev pub steps_in : List (List Entry) → ℕ
steps_in [] = 0
steps_in (b ∷ bs) = length b + steps_in bs

-- how many bytes the frames of settling batches have in a format: a frame has 5 beside its entries
abbrev pub settling_len : Format → List (List Entry) → ℕ
settling_len format more = step_len format * steps_in more + 5 * length more

-- as many steps as a batch may have
abbrev pub IsFullBatch : List Entry → Type 0
IsFullBatch b = length b ≡ MAX_STEPS

-- each batch but the last is full
abbrev pub AreFilled : List (List Entry) → Type 0
AreFilled [] = Unit {0}
AreFilled (b ∷ []) = Unit {0}
AreFilled (b ∷ c ∷ bs) = IsFullBatch b × AreFilled (c ∷ bs)

-- Full never comes. After Ok the journal is settled; after DiskFault the store is closed, and after
-- Memory it is not.
abbrev pub SettlesSo : Meaning → StoreValue → Result (Unit {0}) StoreFault → Type 0
SettlesSo clients new (Ok _) = (new.closed ≡ false) × IsSettled clients new.state.facts
SettlesSo clients new (Err fault.Closed) = ⊥
SettlesSo clients new (Err fault.Full) = ⊥
SettlesSo clients new (Err fault.Memory) = new.closed ≡ false
SettlesSo clients new (Err fault.DiskFault) = new.closed ≡ true

-- A store came by these settling batches to this one. Its facts are those after them, also where
-- the disk failed at the last of them. At each moment the files stand for the journal with a front
-- of them, and in the end, unless the store is closed, the disk fits it with the journal and all of
-- them. Each group of them takes four calls of the disk.
pub record ComesBy (clients : Meaning) (old new : StoreValue) (o o' : Outside)
    (more : List (List Entry)) : Type 0 where
  pub settling : AllSettling clients old.state.facts more
  pub facts : new.state.facts ≡ after_batches old.state.facts more
  pub file : new.file ≡ old.file
  pub format : new.format ≡ old.format
  pub generation : new.generation ≡ old.generation
  pub limit : new.limit ≡ old.limit
  pub end : new.closed ≡ false → new.end ≡ old.end + settling_len (written_in old) more
  pub leads : (two : Two File) → o.files ≡ Some two → (j : List (List Entry))
      → FitsFiles clients old j two
      → LeadsTo clients (IsBetween j more) (λ whole. whole ≡ j ++ more) new o o'
  pub calls : CallsFor (groups_for (written_in old) 0 0 more) old new o o'

-- A store that is not closed was settled, as far as the answer says.
pub record HasSettled (clients : Meaning) (old new : StoreValue)
    (result : Result (Unit {0}) StoreFault) (o o' : Outside) : Type 0 where
  pub more : List (List Entry)
  pub comes : ComesBy clients old new o o' more
  pub filled : AreFilled more
  -- each step takes its bytes of the room, so there are at most two for each held message
  pub room : room_of (written_in old) new.state.facts + step_bytes
      (written_in old) * steps_in more ≤ room_of (written_in old) old.state.facts
  pub few : steps_in more ≤ 2 * length old.state.facts.held
  pub answer : SettlesSo clients new result
