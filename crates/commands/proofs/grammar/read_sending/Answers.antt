use Rattle.std.proofs.Common.{◌≡◌, Err, drop, sym, ◌∙◌, subst, rules}
use Rattle.commands.specs.declared.command.Command.TheVariants as command
use Rattle.commands.specs.Reading.{Asked, word_then, no_more, asks_sending, IsReadAs}
use Rattle.sync_words.specs.Words.{texts}
use Rattle.sync_words.specs.Words.{positive_in}
use Rattle.commands.proofs.PlaceLemmas.{stopped}
use Rattle.commands.proofs.grammar.read_sending.Goals as goal

pub returns-in_err-latency-clause-read : goal.returns-in_err-latency-clause-read
returns-in_err-latency-clause-read c =
    let contact = c.in_ok-contact.contact in
    let asked : Asked = asks_sending 2 (drop 2 (texts c.args.words.now)) in
    let there : asked ≡ word_then (positive_in 4294967295)
    (λ latency. word_then (positive_in 1000000)
    (λ count. no_more (command.MailboxOut contact latency count))) 3
    (drop 3 (texts c.args.words.now)) =
    c.in_ok-contact.ensures.ok
    (λ contact. word_then (positive_in 4294967295)
    (λ latency. word_then (positive_in 1000000)
    (λ count. no_more (command.MailboxOut contact latency count))))
    in
    let stops : IsReadAs asked (Err c.in_err-latency.field-0.0) =
    stopped (positive_in 4294967295) (texts c.args.words.now) 3 asked c.in_err-latency.field-0.0
    (λ latency. word_then (positive_in 1000000)
    (λ count. no_more (command.MailboxOut contact latency count))) there
    c.in_err-latency.ensures.err in
    search rules

pub returns-in_err-count-clause-read : goal.returns-in_err-count-clause-read
returns-in_err-count-clause-read c =
    let contact = c.in_ok-contact.contact in
    let latency = c.in_ok-latency.latency in
    let asked : Asked = asks_sending 2 (drop 2 (texts c.args.words.now)) in
    let there : asked ≡ word_then (positive_in 1000000)
    (λ count. no_more (command.MailboxOut contact latency count)) 4
    (drop 4 (texts c.args.words.now)) =
    c.in_ok-contact.ensures.ok
    (λ contact. word_then (positive_in 4294967295)
    (λ latency. word_then (positive_in 1000000)
    (λ count. no_more (command.MailboxOut contact latency count))))
    ∙ c.in_ok-latency.ensures.ok
    (λ latency. word_then (positive_in 1000000)
    (λ count. no_more (command.MailboxOut contact latency count)))
    in
    let stops : IsReadAs asked (Err c.in_err-count.field-0.0) =
    stopped (positive_in 1000000) (texts c.args.words.now) 4 asked c.in_err-count.field-0.0
    (λ count. no_more (command.MailboxOut contact latency count)) there c.in_err-count.ensures.err
    in
    search rules

pub returns-clause-read : goal.returns-clause-read
returns-clause-read c =
    let contact = c.in_ok-contact.contact in
    let latency = c.in_ok-latency.latency in
    let there =
    c.in_ok-contact.ensures.ok
    (λ contact. word_then (positive_in 4294967295)
    (λ latency. word_then (positive_in 1000000)
    (λ count. no_more (command.MailboxOut contact latency count))))
    ∙ c.in_ok-latency.ensures.ok
    (λ latency. word_then (positive_in 1000000)
    (λ count. no_more (command.MailboxOut contact latency count)))
    ∙ c.in_ok-count.ensures.ok (λ count. no_more (command.MailboxOut contact latency count)) in
    subst (λ (asked : Asked). IsReadAs asked c.read_end.result) (sym there) c.read_end.ensures.read
