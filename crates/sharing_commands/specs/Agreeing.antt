-- What `agree` does: it migrates the journal and settles it, adds what the targets ask for, each
-- entry a batch of its own, and prints a line for each group.
use Rattle.std.specs.Prelude.{◌≡◌, ℕ, [], ◌∷◌, ◌++◌}
use Rattle.outside.specs.Outside.{Outside}
use Rattle.outside.specs.Runs.{IsFront}
use Rattle.outside.specs.Streams.{Stream}
use Rattle.sync_rules.specs.Clients.{Meaning}
use Rattle.sync_rules.specs.Facts.{Id, facts}
use Rattle.sync_words.specs.declared.outcome.Outcome.{Outcome}
use Rattle.sync_words.specs.declared.outcome.Outcome.TheVariants as outcome
use Rattle.store_commands.specs.Errands.{Errand, running}
use Rattle.store_commands.specs.Works.{HasWorked}
use Rattle.sharing_commands.specs.Agreement.{agree_test, agreed_batches, agreed_text}

-- what the targets ask for, over the words of both in the settled journal
abbrev pub agreement : Meaning → ℕ → Id → Errand
agreement clients contact group = record {
  some = λ f more. IsFront more (agreed_batches clients contact group f);
  whole = λ f more. more ≡ agreed_batches clients contact group f;
  next = λ f more next. IsFront (more ++ next ∷ []) (agreed_batches clients contact group f);
  comes = outcome.Done;
  text = λ settled more. agreed_text clients contact group (facts settled);
}

-- the levels that two people agreed on are set; or the command stopped before, and nothing was
abbrev pub HasAgreed : Meaning → ℕ → Id → (old new : Outside) → (out out' : Stream) → Outcome
    → Type 0
HasAgreed clients contact group =
    HasWorked clients (λ f. agree_test f contact group)
    (λ f. running clients (agreement clients contact group))
