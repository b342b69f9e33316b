use Rattle.std.proofs.Common.{ℕ, ◌+◌, List, take, ap, ◌∙◌}
use Rattle.std.proofs.lemmas.List.{take_rest}
use Rattle.request_frames.specs.Heads.{both, number_in, size_in}
use Rattle.request_frames.proofs.Heads.{head_none, head_parts}
use Rattle.request_frames.proofs.head.head_on.Goals as goal

pub returns-in-Some : goal.returns-in-Some
returns-in-Some c = head_parts c.args.line.now c.in-Some.at c.head_made.result c.in-Some.ensures.place (c.head_made.ensures ∙ ap (λ (x : List ℕ). both (number_in 32768 (take c.in-Some.at c.args.line.now)) (size_in x)) (take_rest c.args.line.now (c.in-Some.at + 1)))

pub returns-in-None : goal.returns-in-None
returns-in-None c = head_none c.args.line.now c.in-None.ensures.place
