-- What `split_once` says of a character, in the words of the cuts.
use Rattle.std.proofs.Common.{sym, ◌∙◌, ap, Some}
use Rattle.world_scripts.specs.Cuts.{front_of}
use Rattle.world_scripts.proofs.CutLemmas.{front_all, behind_none, behind_some}
use Rattle.world_scripts.proofs.cut.cut.Goals as goal

pub returns-in-Some-clause-front : goal.returns-in-Some-clause-front
unfolding front_of
returns-in-Some-clause-front c = (c.in-Some.ensures.byte c.requires (λ w o h. h)).0

pub returns-in-Some-clause-behind : goal.returns-in-Some-clause-behind
returns-in-Some-clause-behind c =
    ap (λ left. Some left) (c.in-Some.ensures.byte c.requires (λ w o h. h)).1
    ∙ sym (behind_some c.args.at c.args.text.now (c.in-Some.ensures.byte c.requires (λ w o h. h)).2)

pub returns-in-None-clause-front : goal.returns-in-None-clause-front
returns-in-None-clause-front c = sym (front_all c.args.at c.args.text.now
    (c.in-None.ensures.byte c.requires (λ w o h. h)))

pub returns-in-None-clause-behind : goal.returns-in-None-clause-behind
returns-in-None-clause-behind c = sym (behind_none c.args.at c.args.text.now
    (c.in-None.ensures.byte c.requires (λ w o h. h)))
