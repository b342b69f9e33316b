use Rattle.std.proofs.Common.{refl, inl, inr}
use Rattle.std.specs.String.{string_bytes}
use Rattle.sync_words.specs.declared.outcome.Outcome.TheVariants as outcome
use Rattle.stream_commands.proofs.AnswerLemmas.{came_on}
use Rattle.stream_commands.proofs.streams.print_play.Goals as goal

pub returns-in_err-text : goal.returns-in_err-text
returns-in_err-text g c =
    inl (
      came_on c.from_residual.result outcome.Memory c.from_residual.ensures.1,
      (record { same = refl; same_faults = refl }),
    )

pub returns : goal.returns
returns g c = inr (record {
  text = string_bytes c.in_ok-text.text;
  is = c.in_ok-text.ensures;
  printed = rw c.as_str.ensures.value at c.print.ensures;
})
