-- What is answered by `?`, and where memory is wanting.
use Rattle.std.proofs.Common.{◌≡◌, ℕ, List, refl, sym, subst, inr, Option, None, Some, Result, Ok, Err}
use Rattle.std.specs.Prelude.{IsErrAnd}
use Rattle.outside.specs.Streams.{Stream, IsIdle}
use Rattle.record_grammar.specs.declared.stream.Item.{Item}
use Rattle.sync_rules.specs.Clients.{Meaning}
use Rattle.sync_words.specs.declared.outcome.Outcome.{Outcome}
use Rattle.sync_words.specs.declared.outcome.Outcome.TheVariants as outcome
use Rattle.sync_words.specs.Outcomes.{came_to}
use Rattle.stream_commands.specs.Streams.{Streams, TriesClient}

-- what holds of an outcome holds of an answer that is that
passed : (P : Outcome → Type 0) (r : Result (Unit {0}) Outcome) (x : Outcome)
    → IsErrAnd r (λ e. e ≡ x) → P x → P (came_to r)
passed P (Ok u) x is p = absurd is
passed P (Err came) x is p = subst P (sym is) p

pub tries_memory : (clients : Meaning) (name descriptor : List ℕ) (o : Option ℕ)
    (input input' out out' : Stream) → IsIdle out out'
    → TriesClient clients name descriptor o input input' out out' outcome.Memory
tries_memory clients name descriptor None input input' out out' idle = inr (refl, idle)
tries_memory clients name descriptor (Some kind) input input' out out' idle = idle

-- what goes on by `?`
module _ (r : Result (Unit {0}) Outcome) (x : Outcome) (is : IsErrAnd r (λ e. e ≡ x)) where
  pub came_on : came_to r ≡ x
  came_on = passed (λ (came : Outcome). came ≡ x) r x is refl

  pub streams_on : (told : List Item → List ℕ → Type 0) (input input' out out' : Stream)
      → Streams told input input' out out' x → Streams told input input' out out' (came_to r)
  streams_on told input input' out out' =
      passed (λ (came : Outcome). Streams told input input' out out' came) r x is

  pub tries_on : (clients : Meaning) (name descriptor : List ℕ) (o : Option ℕ)
      (input input' out out' : Stream)
      → TriesClient clients name descriptor o input input' out out' x
      → TriesClient clients name descriptor o input input' out out' (came_to r)
  tries_on clients name descriptor o input input' out out' =
      passed (λ (came : Outcome). TriesClient clients name descriptor o input input' out out' came)
      r x is
