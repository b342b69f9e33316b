use Rattle.std.proofs.Common.{sym}
use Rattle.std.specs.Option.{option_copied}
use Rattle.world_scripts.specs.declared.step.WorldStep.TheVariants as step
use Rattle.world_scripts.proofs.PostLemmas.{all_parts, no_parents, no_place, no_text}
use Rattle.world_scripts.proofs.steps.read_parts.Goals as goal

pub returns-in_err-place : goal.returns-in_err-place
returns-in_err-place c = rw c.from_residual.ensures
    (no_place (option_copied c.args.words.now.left) c.in_err-place.ensures)

pub returns-in_err-parents : goal.returns-in_err-parents
returns-in_err-parents c =
    rw c.from_residual-in_err-parents.ensures
    (no_parents (option_copied c.args.words.now.left)
    (step.Post c.in_ok-place.place.0 c.in_ok-place.place.1 c.in_ok-place.place.2)
    (option_copied c.read_place.new.words.left)
    c.in_ok-place.ensures c.in_err-parents.ensures)

pub returns-in_err-text : goal.returns-in_err-text
returns-in_err-text c =
    rw c.from_residual-in_err-text.ensures
    (no_text (option_copied c.args.words.now.left)
    (step.Post c.in_ok-place.place.0 c.in_ok-place.place.1 c.in_ok-place.place.2)
    (option_copied c.read_place.new.words.left)
    c.in_ok-parents.parents.now (option_copied c.word.new.self.left) c.in_ok-place.ensures
    c.in_ok-parents.ensures
    (sym c.in_err-text.ensures))

pub returns : goal.returns
returns c =
    all_parts (option_copied c.args.words.now.left)
    (step.Post c.in_ok-place.place.0 c.in_ok-place.place.1 c.in_ok-place.place.2)
    (option_copied c.read_place.new.words.left)
    c.in_ok-parents.parents.now (option_copied c.word.new.self.left) c.in_ok-text.text.now
    c.in_ok-place.ensures
    c.in_ok-parents.ensures (sym c.in_ok-text.ensures)
