use Rattle.std.proofs.Common.{◌≡◌, Err, drop, sym, ◌∙◌, subst, rules}
use Rattle.commands.specs.Reading.{Asked, word_then, asks_say, asks_saying, stance_in, IsReadAs}
use Rattle.sync_words.specs.Words.{texts}
use Rattle.sync_words.specs.Words.{number_in}
use Rattle.sync_ids.specs.declared.message.TheConstants.{MAX_TIMESTAMP}
use Rattle.commands.proofs.PlaceLemmas.{stopped}
use Rattle.commands.proofs.grammar.read_say.Goals as goal

pub returns-in_err-join-clause-read : goal.returns-in_err-join-clause-read
returns-in_err-join-clause-read c =
    let group = c.in_ok-group.group in
    let timestamp = c.in_ok-timestamp.timestamp in
    let asked : Asked = asks_say 1 (drop 1 (texts c.args.words.now)) in
    let there : asked ≡ word_then stance_in (λ join. asks_saying group timestamp join) 3
    (drop 3 (texts c.args.words.now)) =
    c.in_ok-group.ensures.ok
    (λ group. word_then (number_in MAX_TIMESTAMP)
    (λ timestamp. word_then stance_in (λ join. asks_saying group timestamp join)))
    ∙ c.in_ok-timestamp.ensures.ok
    (λ timestamp. word_then stance_in (λ join. asks_saying group timestamp join)) in
    let stops : IsReadAs asked (Err c.in_err-join.field-0.0) =
    stopped stance_in (texts c.args.words.now) 3 asked c.in_err-join.field-0.0
    (λ join. asks_saying group timestamp join) there c.in_err-join.ensures.err in
    search rules

pub returns-clause-read : goal.returns-clause-read
returns-clause-read c =
    let group = c.in_ok-group.group in
    let timestamp = c.in_ok-timestamp.timestamp in
    let there =
    c.in_ok-group.ensures.ok
    (λ group. word_then (number_in MAX_TIMESTAMP)
    (λ timestamp. word_then stance_in (λ join. asks_saying group timestamp join)))
    ∙ c.in_ok-timestamp.ensures.ok
    (λ timestamp. word_then stance_in (λ join. asks_saying group timestamp join))
    ∙ c.in_ok-join.ensures.ok (λ join. asks_saying group timestamp join) in
    subst (λ (asked : Asked). IsReadAs asked c.read_saying.result) (sym there)
    c.read_saying.ensures.read
