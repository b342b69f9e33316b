use Rattle.std.proofs.Common.{◌≡◌, ◌==◌, true, false, length, eqb-true}
use Rattle.std.proofs.lemmas.Bool.{eqb-false}
use Rattle.std.specs.Option.{option_copied}
use Rattle.world_scripts.specs.Forms.{some_bytes}
use Rattle.world_scripts.proofs.WordLemmas.{no_descriptor, no_word, some_descriptor}
use Rattle.world_scripts.proofs.words.Words.descriptor.Goals as goal

pub returns-in_err-word : goal.returns-in_err-word
returns-in_err-word c = rw c.from_residual.ensures
    (no_word some_bytes (option_copied c.args.self.now.left) c.in_err-word.ensures)

pub returns-then-is_empty : goal.returns-then-is_empty
returns-then-is_empty c =
    let empty : (length c.in_ok-word.word.now == 0) ≡ true = cc in
    no_descriptor (option_copied c.args.self.now.left) c.in_ok-word.word.now
    (option_copied c.word.new.self.left) c.in_ok-word.ensures
    (eqb-true (length c.in_ok-word.word.now) 0 empty)

pub returns : goal.returns
returns c =
    let some : (length c.in_ok-word.word.now == 0) ≡ false = cc in
    some_descriptor (option_copied c.args.self.now.left) c.in_ok-word.word.now
    (option_copied c.word.new.self.left) c.in_ok-word.ensures
    (eqb-false (length c.in_ok-word.word.now) 0 some)
