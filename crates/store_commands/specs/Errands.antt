-- What a command does behind a journal that was settled, where that is several batches one behind
-- the other: the session of a mailbox file and its records, or the levels that two people agreed on.
use Rattle.std.specs.Prelude.{◌⊎◌, ℕ, ◌≤◌, List, ◌++◌}
use Rattle.outside.specs.declared.limits.TheConstants.{MAX_JOURNAL}
use Rattle.outside.specs.Files.{Two, File}
use Rattle.sync_rules.specs.declared.entries.Entry.{Entry}
use Rattle.sync_rules.specs.Clients.{Meaning}
use Rattle.sync_rules.specs.Facts.{Facts, facts}
use Rattle.sync_rules.specs.Hearing.{SettlesJournal}
use Rattle.sync_rules.specs.Steps.{IsSettled}
use Rattle.entry_codec.specs.declared.naming.Format.TheVariants as kind
use Rattle.sync_store.specs.Moments.{IsBetween}
use Rattle.sync_words.specs.declared.outcome.Outcome.{Outcome}
use Rattle.sync_store.specs.Rooms.{AreRoomy}
use Rattle.store_commands.specs.Commit.{HasLastGeneration, HoweverSettled, IsFullForBatch}
use Rattle.store_commands.specs.Commit.{OnceSettled, StandsSynced, needed_by}
use Rattle.store_commands.specs.Works.{Work}

-- ---- an errand

-- What is done behind a settled journal of given facts, as tests of the batches behind it: some of
-- it; all of it; and which batch comes next behind some of it. What all of it comes to, and what is
-- then printed, by the settled journal and the batches.
pub record Errand : Type 1 where
  pub some : Facts → List (List Entry) → Type 0
  pub whole : Facts → List (List Entry) → Type 0
  pub next : Facts → List (List Entry) → List Entry → Type 0
  pub comes : Outcome
  pub text : (settled more : List (List Entry)) → List ℕ

-- ---- journals

-- this whole journal has, behind a settled one, a front of some of the errand
pub record HasErrandBehind (errand : Errand) (whole settled : List (List Entry)) : Type 0 where
  pub rest : List (List Entry)
  pub some : errand.some (facts settled) rest
  pub between : IsBetween settled rest whole

-- the journal goes on by settling alone, or by all of its settling and some of the errand
abbrev pub ErrandOn : Meaning → Errand → (j whole : List (List Entry)) → Type 0
ErrandOn clients errand j whole =
    SettlesJournal clients j whole ⊎ OnceSettled clients j (HasErrandBehind errand whole)

-- The files stand for a settled journal and the whole errand, each batch of which found its room,
-- and that is settled too. P is so of its text.
pub record IsRun (clients : Meaning) (errand : Errand) (two : Two File) (P : List ℕ → Type 0)
    (settled : List (List Entry)) : Type 0 where
  pub rest : List (List Entry)
  pub whole : errand.whole (facts settled) rest
  pub roomy : AreRoomy kind.Short MAX_JOURNAL settled rest
  pub ends_settled : IsSettled clients (facts (settled ++ rest))
  pub stands : StandsSynced clients two (settled ++ rest)
  pub printed : P (errand.text settled rest)

-- the files stand for a settled journal and some of the errand, and there is no room for the batch
-- that comes next
pub record IsErrandCutShort (clients : Meaning) (errand : Errand) (two : Two File)
    (settled : List (List Entry)) : Type 0 where
  pub rest : List (List Entry)
  pub next : List Entry
  pub follows : errand.next (facts settled) rest next
  pub full : IsFullForBatch clients next two (settled ++ rest)

-- the work of an errand
abbrev pub running : Meaning → Errand → Work
running clients errand = record {
  goes_on = ErrandOn clients errand;
  full = λ before. IsErrandCutShort clients errand;
  done = IsRun clients errand;
  spent = HasLastGeneration;
  anew = 0;
}

-- behind a journal, however it is settled and however much of the errand is done, there is room for
-- the batch that comes next
abbrev pub HasErrandRoom : Meaning → Errand → List (List Entry) → Type 0
HasErrandRoom clients errand j =
    HoweverSettled clients j (λ settled. (rest : List (List Entry)) (next : List Entry)
    → errand.next (facts settled) rest next → needed_by (settled ++ rest) next ≤ MAX_JOURNAL)
