-- The line at the number is that of the message of the number.
use Rattle.std.proofs.Common.{◌≡◌, ◌<◌, List, length, sym, ◌∙◌, ap, subst, arith}
use Rattle.std.specs.List.{slice_get}
use Rattle.sync_rules.specs.declared.entries.Entry.{Entry}
use Rattle.sync_rules.specs.Facts.{Id, facts}
use Rattle.sync_rules.specs.Facts.{Row}
use Rattle.sync_rules.specs.Views.{is_seen_in}
use Rattle.plain_rules.proofs.LineScans.{line_seen, lines_within}
use Rattle.plain_rules.proofs.view.PlainViewView.is_seen.Goals as goal

pub index-line-requires : goal.index-line-requires
index-line-requires c =
    let within : c.args.n < length (facts c.self.inside.batches.now).held =
    subst (λ (v : List (List Entry) × List Id). c.args.n < length (facts v.0).held) (sym c.self.view_is) c.requires in
    let inside = lines_within (facts c.self.inside.batches.now).held c.self.inside.held.items c.args.n c.self.invariant.lines within in
    omega (arith, inside)

pub returns : goal.returns
returns c =
    let within : c.args.n < length (facts c.self.inside.batches.now).held =
    subst (λ (v : List (List Entry) × List Id). c.args.n < length (facts v.0).held) (sym c.self.view_is) c.requires in
    subst (λ (v : List (List Entry) × List Id). c.result.inside.seen ≡ is_seen_in (facts v.0) c.args.contact (slice_get (facts v.0).held c.args.n)) c.self.view_is
    (ap (λ (r : Row). r.seen) (c.result.view_is ∙ c.row_of.ensures)
    ∙ line_seen (facts c.self.inside.batches.now) c.args.contact c.self.inside.held.items c.args.n c.index-line.result.now c.self.invariant.lines within c.index-line.ensures)
