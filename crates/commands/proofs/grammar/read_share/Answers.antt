use Rattle.std.proofs.Common.{◌≡◌, Err, drop, sym, ◌∙◌, subst, rules}
use Rattle.commands.specs.declared.command.Command.TheVariants as command
use Rattle.commands.specs.Reading.{Asked, word_then, no_more, asks_share, IsReadAs}
use Rattle.sync_words.specs.Words.{texts}
use Rattle.sync_words.specs.Words.{id_in, level_in}
use Rattle.commands.proofs.PlaceLemmas.{stopped}
use Rattle.commands.proofs.grammar.read_share.Goals as goal

pub returns-in_err-level-clause-read : goal.returns-in_err-level-clause-read
returns-in_err-level-clause-read c =
    let contact = c.in_ok-contact.contact in
    let group = c.in_ok-group.group in
    let asked : Asked = asks_share 1 (drop 1 (texts c.args.words.now)) in
    let there : asked ≡ word_then level_in (λ level. no_more (command.Share contact group level)) 3
    (drop 3 (texts c.args.words.now)) =
    c.in_ok-contact.ensures.ok
    (λ contact. word_then id_in
    (λ group. word_then level_in (λ level. no_more (command.Share contact group level))))
    ∙ c.in_ok-group.ensures.ok
    (λ group. word_then level_in (λ level. no_more (command.Share contact group level))) in
    let stops : IsReadAs asked (Err c.in_err-level.field-0.0) =
    stopped level_in (texts c.args.words.now) 3 asked c.in_err-level.field-0.0
    (λ level. no_more (command.Share contact group level)) there c.in_err-level.ensures.err in
    search rules

pub returns-clause-read : goal.returns-clause-read
returns-clause-read c =
    let contact = c.in_ok-contact.contact in
    let group = c.in_ok-group.group in
    let there =
    c.in_ok-contact.ensures.ok
    (λ contact. word_then id_in
    (λ group. word_then level_in (λ level. no_more (command.Share contact group level))))
    ∙ c.in_ok-group.ensures.ok
    (λ group. word_then level_in (λ level. no_more (command.Share contact group level)))
    ∙ c.in_ok-level.ensures.ok (λ level. no_more (command.Share contact group level)) in
    subst (λ (asked : Asked). IsReadAs asked c.read_end.result) (sym there) c.read_end.ensures.read
