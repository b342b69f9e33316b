use Rattle.std.proofs.Common.{◌≡◌, Err, drop, sym, ◌∙◌, subst, rules}
use Rattle.commands.specs.declared.command.Command.TheVariants as command
use Rattle.commands.specs.Reading.{Asked, word_then, no_more, asks_tree, IsReadAs}
use Rattle.sync_words.specs.Words.{texts}
use Rattle.sync_words.specs.Words.{number_in}
use Rattle.commands.proofs.PlaceLemmas.{stopped}
use Rattle.commands.proofs.grammar.read_tree.Goals as goal

pub returns-in_err-count-clause-read : goal.returns-in_err-count-clause-read
returns-in_err-count-clause-read c =
    let group = c.in_ok-group.group in
    let from = c.in_ok-from.from in
    let asked : Asked = asks_tree 1 (drop 1 (texts c.args.words.now)) in
    let there : asked ≡ word_then (number_in 4294967295)
    (λ count. no_more (command.Tree group from count)) 3 (drop 3 (texts c.args.words.now)) =
    c.in_ok-group.ensures.ok
    (λ group. word_then (number_in 4294967295)
    (λ from. word_then (number_in 4294967295) (λ count. no_more (command.Tree group from count))))
    ∙ c.in_ok-from.ensures.ok
    (λ from. word_then (number_in 4294967295) (λ count. no_more (command.Tree group from count)))
    in
    let stops : IsReadAs asked (Err c.in_err-count.field-0.0) =
    stopped (number_in 4294967295) (texts c.args.words.now) 3 asked c.in_err-count.field-0.0
    (λ count. no_more (command.Tree group from count)) there c.in_err-count.ensures.err in
    search rules

pub returns-clause-read : goal.returns-clause-read
returns-clause-read c =
    let group = c.in_ok-group.group in
    let from = c.in_ok-from.from in
    let there =
    c.in_ok-group.ensures.ok
    (λ group. word_then (number_in 4294967295)
    (λ from. word_then (number_in 4294967295) (λ count. no_more (command.Tree group from count))))
    ∙ c.in_ok-from.ensures.ok
    (λ from. word_then (number_in 4294967295) (λ count. no_more (command.Tree group from count)))
    ∙ c.in_ok-count.ensures.ok (λ count. no_more (command.Tree group from count)) in
    subst (λ (asked : Asked). IsReadAs asked c.read_end.result) (sym there) c.read_end.ensures.read
