-- The line at the number is that of the message of the number.
use Rattle.std.proofs.Common.{◌≡◌, ◌<◌, List, length, sym, subst, arith}
use Rattle.std.specs.List.{slice_get}
use Rattle.sync_rules.specs.declared.entries.Entry.{Entry}
use Rattle.sync_rules.specs.Facts.{Id, facts}
use Rattle.sync_rules.specs.Views.{group_in}
use Rattle.plain_rules.proofs.LineScans.{line_group, lines_within}
use Rattle.plain_rules.proofs.view.PlainViewView.group_at.Goals as goal

pub index-requires : goal.index-requires
index-requires c =
    let within : c.args.n < length (facts c.self.inside.batches.now).held =
    subst (λ (v : List (List Entry) × List Id). c.args.n < length (facts v.0).held) (sym c.self.view_is) c.requires in
    let inside = lines_within (facts c.self.inside.batches.now).held c.self.inside.held.items c.args.n c.self.invariant.lines within in
    omega (arith, inside)

pub returns : goal.returns
returns c =
    let within : c.args.n < length (facts c.self.inside.batches.now).held =
    subst (λ (v : List (List Entry) × List Id). c.args.n < length (facts v.0).held) (sym c.self.view_is) c.requires in
    subst (λ (v : List (List Entry) × List Id). c.index.result.now.group ≡ group_in (slice_get (facts v.0).held c.args.n)) c.self.view_is
    (line_group (facts c.self.inside.batches.now).held c.self.inside.held.items c.args.n c.index.result.now c.self.invariant.lines within c.index.ensures)
