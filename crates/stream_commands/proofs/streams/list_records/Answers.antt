use Rattle.std.proofs.Common.{◌≡◌, ℕ, List, [], ◌++◌, append-nil, ap, refl, sym, take, ◌∙◌}
use Rattle.std.specs.String.{string_bytes}
use Rattle.record_grammar.specs.Stream.{items}
use Rattle.stream_commands.specs.declared.input.TheConstants.{MAX_INPUT}
use Rattle.sync_words.specs.declared.outcome.Outcome.TheVariants as outcome
use Rattle.stream_commands.specs.RecordText.{items_text}
use Rattle.stream_commands.proofs.AnswerLemmas.{streams_on}
use Rattle.stream_commands.proofs.StreamLemmas.{streams_of}
use Rattle.stream_commands.proofs.streams.list_records.Goals as goal

pub returns-in_err-heard : goal.returns-in_err-heard
returns-in_err-heard g c =
    streams_on c.from_residual.result outcome.Memory c.from_residual.ensures.1 (λ some text.
    text ≡ items_text some) _ _ _ _ (record { same = refl; same_faults = refl })

pub returns : goal.returns
returns g c =
    let heard = c.in_ok-heard.ensures in
    let some = items 0 (take MAX_INPUT heard.read) in
    let listed =
    heard.hears (record { text = c.new.result }) []
    (sym (append-nil (string_bytes c.new.result))) in
    let text : c.as_str.result.now ≡ items_text some = c.as_str.ensures.value ∙ listed
    ∙ ap (λ (b : List ℕ). b ++ items_text some) c.new.ensures.bytes in
    streams_of (λ some text. text ≡ items_text some) _ _ _ _ heard.read c.as_str.result.now
    heard.consumed text _ _ _ heard.ends heard.stops c.print.ensures
