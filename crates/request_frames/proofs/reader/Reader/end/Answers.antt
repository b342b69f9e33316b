use Rattle.std.proofs.Common.{◌≡◌, Bool, length, vec_len, sym, ap, ◌∙◌, rules}
use Rattle.request_frames.specs.Reading.{end_at}
use Rattle.request_frames.proofs.Stages.{ends_so, state_at, waits_at}
use Rattle.request_frames.proofs.reader.Reader.end.Goals as goal

pub returns-clause-ending : goal.returns-clause-ending
returns-clause-ending c = λ held stands.
    let many : vec_len c.self.inside.front ≡ length c.self.inside.front.items = search rules in
    let here = state_at c.self.inside.front.items c.self.inside.kept.items held c.self.inside.at c.args.self.now c.self.view_is stands in
    let waits = waits_at c.self.inside.front.items c.self.inside.kept.items c.self.inside.at c.args.self.now c.self.view_is c.requires in
    let ends = ends_so held c.self.inside.at c.self.inside.front.items c.self.inside.kept.items here waits in
    c.end_at.ensures ∙ ap (λ (b : Bool). end_at c.self.inside.at b) (rw many at c.is_empty.ensures) ∙ sym ends.1

pub returns-clause-nothing : goal.returns-clause-nothing
returns-clause-nothing c = λ held stands.
    let here = state_at c.self.inside.front.items c.self.inside.kept.items held c.self.inside.at c.args.self.now c.self.view_is stands in
    let waits = waits_at c.self.inside.front.items c.self.inside.kept.items c.self.inside.at c.args.self.now c.self.view_is c.requires in
    (ends_so held c.self.inside.at c.self.inside.front.items c.self.inside.kept.items here waits).0
