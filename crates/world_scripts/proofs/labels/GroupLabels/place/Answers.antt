use Rattle.std.proofs.Common.{◌≡◌, ◌∙◌, ap, length, rules}
use Rattle.world_scripts.specs.Labels.{is_pair, place_of}
use Rattle.world_scripts.proofs.LabelLemmas.{placed, unplaced}
use Rattle.world_scripts.proofs.labels.GroupLabels.place.Goals as goal

pub returns-in-Some : goal.returns-in-Some
unfolding place_of
returns-in-Some c = placed (is_pair (c.args.kind, c.args.descriptor.now)) c.args.self.now
    c.in-Some.place c.in-Some.ensures

pub returns-in-None : goal.returns-in-None
unfolding place_of
returns-in-None c =
    let all : c.len.result ≡ length c.self.inside.pairs.items = search rules in
    all ∙ ap length c.self.view_is
    ∙ unplaced (is_pair (c.args.kind, c.args.descriptor.now)) c.args.self.now c.in-None.ensures
