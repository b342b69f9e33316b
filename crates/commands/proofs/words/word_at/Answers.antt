use Rattle.std.proofs.Common.{◌+◌, ◌∷◌, drop, refl, sym, ◌∙◌, ap}
use Rattle.std.proofs.lemmas.Option.{slice_get_read}
use Rattle.sync_words.specs.Words.{texts}
use Rattle.commands.proofs.PlaceLemmas.{word_there}
use Rattle.commands.proofs.words.word_at.Goals as goal

pub returns-in-Some : goal.returns-in-Some
returns-in-Some c =
    let item = c.in-Some.ensures.lookup in
    word_there c.args.words.now c.args.place c.in-Some.word.now (slice_get_read c.args.words.now _ c.args.place c.in-Some.word.now refl item.3.0 item.1)
    ∙ ap (λ w. w ∷ drop (c.args.place + 1) (texts c.args.words.now)) (sym c.as_str.ensures.value)
