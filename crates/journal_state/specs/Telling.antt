-- What a brief account tells of the held messages: that one is kept, or a step, each by the message's arrival number.
use Rattle.std.specs.Prelude.{◌≡◌, ℕ, ◌<◌, List, [], ◌++◌, drop, length, map, slice_index_or, take}
use Rattle.std.specs.List.{AllByRecursion}
use Rattle.sync_rules.specs.declared.entries.Entry.{Entry}
use Rattle.sync_rules.specs.declared.entries.Entry.TheVariants as entry
use Rattle.sync_rules.specs.declared.states.Origin.TheVariants as origin
use Rattle.sync_rules.specs.Clients.{Meaning}
use Rattle.sync_rules.specs.Facts.{Facts, Held, after_all}
use Rattle.brief_account.specs.Account.{account, settling_of, told_of}
use Rattle.message_graph.specs.declared.nodes.Step.{Step}
use Rattle.message_graph.specs.declared.nodes.Step.TheVariants as step
use Rattle.journal_state.specs.declared.account.Told.{Told}
use Rattle.journal_state.specs.declared.account.Told.TheVariants as told
use Rattle.journal_state.specs.Whole.{id_at}

-- what stands for a message that is not there
abbrev pub no_message : Held
no_message = record { id = []; message = record { group = []; timestamp = 0; body = [] }; origin = origin.Author }

abbrev pub kept_entry : Held → Entry
kept_entry h = entry.Kept h.origin h.message

-- the entry that is told, by the held messages
abbrev pub told_entry : List Held → Told → Entry
told_entry held (told.Kept n) = kept_entry (slice_index_or held n no_message)
told_entry held (told.Judged n) = entry.Judged (id_at held n)
told_entry held (told.Deliver n) = entry.Deliver (id_at held n)
told_entry held (told.Invalid n) = entry.Invalid (id_at held n)

abbrev pub told_entries : List Held → List Told → List Entry
told_entries held ts = map (told_entry held) ts

-- the arrival number of the message that is told of
abbrev pub told_number : Told → ℕ
told_number (told.Kept n) = n
told_number (told.Judged n) = n
told_number (told.Deliver n) = n
told_number (told.Invalid n) = n

-- all that is told is of so many messages
abbrev pub TellsWithin : ℕ → List Told → Type 0
TellsWithin most ts = AllByRecursion (λ t. told_number t < most) ts

-- a step as it is told
abbrev pub told_step : Step → Told
told_step (step.Judge n) = told.Judged n
told_step (step.Invalid n) = told.Invalid n
told_step (step.Deliver n) = told.Deliver n

-- all steps that were open are made, one after the other, and told behind what was told before
pub record TellsSteps (clients : Meaning) (old new : Facts) (before now : List Told) : Type 0 where
  pub more : List Told
  pub parts : now ≡ before ++ more
  pub steps : told_entries old.held more ≡ settling_of clients old
  pub facts : new ≡ after_all old (settling_of clients old)
  pub within : TellsWithin (length old.held) more
  pub groups : new.groups ≡ old.groups
  pub held : new.held ≡ old.held

-- so many of the held messages are told, and other facts are those of the groups and these messages
pub record TellsTo (clients : Meaning) (f other : Facts) (count : ℕ) (ts : List Told) : Type 0 where
  pub told : told_entries f.held ts ++ account clients other (drop count f.held) ≡ told_of clients f
  pub within : TellsWithin (length f.held) ts
  pub groups : other.groups ≡ f.groups
  pub held : other.held ≡ take count f.held
