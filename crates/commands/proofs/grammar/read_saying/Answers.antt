use Rattle.std.proofs.Common.{◌≡◌, Err, drop, refl, sym, ◌∙◌, subst, rules}
use Rattle.commands.specs.declared.command.Command.TheVariants as command
use Rattle.commands.specs.Reading.{Asked, word_then, no_more, asks_saying, IsReadAs}
use Rattle.sync_words.specs.Words.{texts}
use Rattle.sync_words.specs.Words.{name_in, number_in, descriptor_in}
use Rattle.commands.proofs.PlaceLemmas.{stopped}
use Rattle.commands.proofs.grammar.read_saying.Goals as goal

pub returns-in_err-name-clause-read : goal.returns-in_err-name-clause-read
returns-in_err-name-clause-read c =
    let group = c.args.group in
    let timestamp = c.args.timestamp in
    let join = c.args.join in
    let asked : Asked = asks_saying group timestamp join 4 (drop 4 (texts c.args.words.now)) in
    let stops : IsReadAs asked (Err c.in_err-name.field-0.0) =
    stopped name_in (texts c.args.words.now) 4 asked c.in_err-name.field-0.0
    (λ name. word_then (number_in 4294967295) (λ major. word_then descriptor_in
    (λ descriptor. no_more (command.Say group timestamp join name major descriptor)))) refl
    c.in_err-name.ensures.err in
    search rules

pub returns-in_err-major-clause-read : goal.returns-in_err-major-clause-read
returns-in_err-major-clause-read c =
    let group = c.args.group in
    let timestamp = c.args.timestamp in
    let join = c.args.join in
    let name = c.in_ok-name.name in
    let asked : Asked = asks_saying group timestamp join 4 (drop 4 (texts c.args.words.now)) in
    let there : asked ≡ word_then (number_in 4294967295) (λ major. word_then descriptor_in
    (λ descriptor. no_more (command.Say group timestamp join name major descriptor))) 5
    (drop 5 (texts c.args.words.now)) =
    c.in_ok-name.ensures.ok
    (λ name. word_then (number_in 4294967295) (λ major. word_then descriptor_in
    (λ descriptor. no_more (command.Say group timestamp join name major descriptor)))) in
    let stops : IsReadAs asked (Err c.in_err-major.field-0.0) =
    stopped (number_in 4294967295) (texts c.args.words.now) 5 asked c.in_err-major.field-0.0
    (λ major. word_then descriptor_in
    (λ descriptor. no_more (command.Say group timestamp join name major descriptor))) there
    c.in_err-major.ensures.err in
    search rules

pub returns-in_err-descriptor-clause-read : goal.returns-in_err-descriptor-clause-read
returns-in_err-descriptor-clause-read c =
    let group = c.args.group in
    let timestamp = c.args.timestamp in
    let join = c.args.join in
    let name = c.in_ok-name.name in
    let major = c.in_ok-major.major in
    let asked : Asked = asks_saying group timestamp join 4 (drop 4 (texts c.args.words.now)) in
    let there : asked ≡ word_then descriptor_in
    (λ descriptor. no_more (command.Say group timestamp join name major descriptor)) 6
    (drop 6 (texts c.args.words.now)) =
    c.in_ok-name.ensures.ok
    (λ name. word_then (number_in 4294967295) (λ major. word_then descriptor_in
    (λ descriptor. no_more (command.Say group timestamp join name major descriptor))))
    ∙ c.in_ok-major.ensures.ok
    (λ major. word_then descriptor_in
    (λ descriptor. no_more (command.Say group timestamp join name major descriptor))) in
    let stops : IsReadAs asked (Err c.in_err-descriptor.field-0.0) =
    stopped descriptor_in (texts c.args.words.now) 6 asked c.in_err-descriptor.field-0.0
    (λ descriptor. no_more (command.Say group timestamp join name major descriptor)) there
    c.in_err-descriptor.ensures.err in
    search rules

pub returns-clause-read : goal.returns-clause-read
returns-clause-read c =
    let group = c.args.group in
    let timestamp = c.args.timestamp in
    let join = c.args.join in
    let name = c.in_ok-name.name in
    let major = c.in_ok-major.major in
    let there =
    c.in_ok-name.ensures.ok
    (λ name. word_then (number_in 4294967295) (λ major. word_then descriptor_in
    (λ descriptor. no_more (command.Say group timestamp join name major descriptor))))
    ∙ c.in_ok-major.ensures.ok
    (λ major. word_then descriptor_in
    (λ descriptor. no_more (command.Say group timestamp join name major descriptor)))
    ∙ c.in_ok-descriptor.ensures.ok
    (λ descriptor. no_more (command.Say group timestamp join name major descriptor)) in
    subst (λ (asked : Asked). IsReadAs asked c.read_end.result) (sym there) c.read_end.ensures.read
