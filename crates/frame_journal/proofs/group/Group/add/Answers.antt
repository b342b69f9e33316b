use Rattle.std.proofs.Common.{◌≡◌, ◌++◌, List, ℕ, length, vec_len, rules, ap, ◌∙◌}
use Rattle.frame_journal.proofs.GroupSteps.{added_joined}
use Rattle.frame_journal.proofs.group.Group.add.Goals as goal

pub returns-clause-added : goal.returns-clause-added
returns-clause-added c waiting joined =
    let group = c.args.self.now in
    let framed = c.args.framed.now in
    let long : vec_len c.self.inside.bytes ≡ length c.self.inside.bytes.items = search rules in
    let items : c.extend_from_slice.new.self.items ≡ c.self.inside.bytes.items ++ framed =
    search rules in
    added_joined waiting group framed c.extend_from_slice.new.self.items c.len-gate.result
    c.requires.framed joined
    (items ∙ ap (λ (l : List ℕ). l ++ framed) c.self.view_is)
    (c.len-gate.ensures ∙ long ∙ ap length c.self.view_is)
