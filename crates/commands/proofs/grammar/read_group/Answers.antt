use Rattle.std.proofs.Common.{◌≡◌, Err, drop, sym, ◌∙◌, subst, rules}
use Rattle.commands.specs.declared.command.Command.TheVariants as command
use Rattle.commands.specs.Reading.{Asked, word_then, no_more, asks_group, IsReadAs}
use Rattle.sync_words.specs.Words.{texts}
use Rattle.sync_words.specs.Words.{number_in, descriptor_in}
use Rattle.commands.proofs.PlaceLemmas.{stopped}
use Rattle.commands.proofs.grammar.read_group.Goals as goal

pub returns-in_err-descriptor-clause-read : goal.returns-in_err-descriptor-clause-read
returns-in_err-descriptor-clause-read c =
    let name = c.in_ok-name.name in
    let major = c.in_ok-major.major in
    let asked : Asked = asks_group 1 (drop 1 (texts c.args.words.now)) in
    let there : asked ≡ word_then descriptor_in
    (λ descriptor. no_more (command.Group name major descriptor)) 3
    (drop 3 (texts c.args.words.now)) =
    c.in_ok-name.ensures.ok (λ name. word_then (number_in 4294967295)
    (λ major. word_then descriptor_in
    (λ descriptor. no_more (command.Group name major descriptor))))
    ∙ c.in_ok-major.ensures.ok
    (λ major. word_then descriptor_in
    (λ descriptor. no_more (command.Group name major descriptor))) in
    let stops : IsReadAs asked (Err c.in_err-descriptor.field-0.0) =
    stopped descriptor_in (texts c.args.words.now) 3 asked c.in_err-descriptor.field-0.0
    (λ descriptor. no_more (command.Group name major descriptor)) there
    c.in_err-descriptor.ensures.err in
    search rules

pub returns-clause-read : goal.returns-clause-read
returns-clause-read c =
    let name = c.in_ok-name.name in
    let major = c.in_ok-major.major in
    let there =
    c.in_ok-name.ensures.ok (λ name. word_then (number_in 4294967295)
    (λ major. word_then descriptor_in
    (λ descriptor. no_more (command.Group name major descriptor))))
    ∙ c.in_ok-major.ensures.ok
    (λ major. word_then descriptor_in
    (λ descriptor. no_more (command.Group name major descriptor)))
    ∙ c.in_ok-descriptor.ensures.ok (λ descriptor. no_more (command.Group name major descriptor)) in
    subst (λ (asked : Asked). IsReadAs asked c.read_end.result) (sym there) c.read_end.ensures.read
