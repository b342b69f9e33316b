use Rattle.std.proofs.Common.{◌≡◌, ◌∙◌, ap, nat_le, Some, None}
use Rattle.std.specs.Option.{option_copied}
use Rattle.sync_words.specs.Words.{number_in}
use Rattle.world_scripts.specs.Forms.{at_least, number_between}
use Rattle.world_scripts.proofs.WordLemmas.{either, reads_missing, reads_value}
use Rattle.world_scripts.proofs.words.Words.number.Goals as goal

pub returns-in_err-word-clause-read : goal.returns-in_err-word-clause-read
returns-in_err-word-clause-read c =
    reads_missing (number_between c.args.least c.args.most) (option_copied c.args.self.now.left)
    (option_copied c.word.new.self.left) c.from_residual.result c.in_err-word.ensures (cc)

pub returns-in_err-n-clause-read : goal.returns-in_err-n-clause-read
returns-in_err-n-clause-read c =
    let none : None ≡ number_in c.args.most c.in_ok-word.field-0.now = c.in_err-n.ensures.read in
    reads_value (number_between c.args.least c.args.most)
    (option_copied c.args.self.now.left) c.in_ok-word.field-0.now
    (option_copied c.word.new.self.left) c.from_residual-in_err-n.result c.in_ok-word.ensures
    (c.from_residual-in_err-n.ensures ∙ ap (at_least c.args.least) none)

pub returns-clause-read : goal.returns-clause-read
returns-clause-read c =
    let some : Some c.in_ok-n.n ≡ number_in c.args.most c.in_ok-word.field-0.now =
    c.in_ok-n.ensures.read in
    reads_value (number_between c.args.least c.args.most)
    (option_copied c.args.self.now.left) c.in_ok-word.field-0.now
    (option_copied c.word.new.self.left) c.then_some.result c.in_ok-word.ensures
    (c.then_some.ensures ∙ either (nat_le c.args.least c.in_ok-n.n) c.in_ok-n.n
    ∙ ap (at_least c.args.least) some)
