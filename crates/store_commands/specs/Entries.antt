-- What a command that adds to a journal does: it migrates the journal and settles it, adds its one
-- entry, and prints its line.
use Rattle.std.specs.Prelude.{[], ◌∷◌, Option, Some, None}
use Rattle.outside.specs.Outside.{Outside}
use Rattle.outside.specs.Streams.{Stream}
use Rattle.sync_rules.specs.declared.entries.Entry.{Entry}
use Rattle.sync_rules.specs.declared.states.Refused.{Refused}
use Rattle.sync_rules.specs.Clients.{Meaning}
use Rattle.sync_rules.specs.Facts.{Facts}
use Rattle.sync_store.specs.Store.{StoreValue}
use Rattle.sync_words.specs.declared.outcome.Outcome.{Outcome}
use Rattle.sync_words.specs.declared.outcome.Outcome.TheVariants as outcome
use Rattle.store_commands.specs.declared.commit.Settling.{Settling}
use Rattle.store_commands.specs.Commit.{GoesOnByBatch, HasLastGeneration, IsAdded, IsFullForBatch}
use Rattle.store_commands.specs.Plans.{EntryPlan, refuses, adds}
use Rattle.store_commands.specs.Shown.{added_text}
use Rattle.store_commands.specs.Works.{HasWorked, RunsWork, Work}

-- why a plan is refused, if it is
abbrev pub plan_refusal : EntryPlan → Option Refused
plan_refusal (refuses why) = Some why
plan_refusal (adds e) = None

-- the plan is to add an entry, of which this is so
abbrev pub WhenAdds : EntryPlan → (Entry → Type 0) → Type 0
WhenAdds (refuses why) P = ⊥
WhenAdds (adds e) P = P e

-- The work of adding what is planned. A journal of format 1 with the last generation is not added
-- to.
abbrev pub adding : Meaning → Settling → EntryPlan → Work
adding clients settling plan = record {
  goes_on = λ j whole. WhenAdds plan (λ e. GoesOnByBatch clients j (e ∷ []) whole);
  full = λ before two settled. WhenAdds plan (λ e. IsFullForBatch clients (e ∷ []) two settled);
  done = λ two P settled.
      WhenAdds plan (λ e. IsAdded clients settling (e ∷ []) two settled × P (added_text e));
  spent = HasLastGeneration;
  anew = 0;
}

-- a command that adds to a journal what it plans
abbrev pub HasAdded : Meaning → (Facts → EntryPlan) → Settling → (old new : Outside)
    → (out out' : Stream) → Outcome → Type 0
HasAdded clients plan settling =
    HasWorked clients (λ f. plan_refusal (plan f)) (λ f. adding clients settling (plan f))

-- an entry was added to a store
abbrev pub EntryAdded : Meaning → Settling → StoreValue → Entry → (old new : Outside)
    → (out out' : Stream) → Outcome → Type 0
EntryAdded clients settling s e =
    RunsWork clients outcome.Done (adding clients settling (adds e)) s
