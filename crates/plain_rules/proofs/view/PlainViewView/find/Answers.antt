-- The place among the lines is that among the held messages.
use Rattle.std.proofs.Common.{◌≡◌, ℕ, List, Option, sym, ◌∙◌, ap, subst}
use Rattle.sync_rules.specs.declared.entries.Entry.{Entry}
use Rattle.sync_rules.specs.Facts.{Id, facts}
use Rattle.plain_rules.specs.Lines.{line_place}
use Rattle.sync_rules.specs.Views.{place_of, IsFound}
use Rattle.plain_rules.proofs.LineScans.{found_is, place_tells}
use Rattle.plain_rules.proofs.view.PlainViewView.find.Goals as goal

pub returns-clause-place : goal.returns-clause-place
returns-clause-place c =
    subst (λ (v : List (List Entry) × List Id). c.place_in.result ≡ place_of (facts v.0).held c.args.id.now) c.self.view_is
    (c.place_in.ensures
    ∙ (ap (λ l. line_place l c.args.id.now) c.as_slice.ensures.value
    ∙ found_is (facts c.self.inside.batches.now).held c.self.inside.held.items c.args.id.now c.self.invariant.lines))

pub returns-clause-found : goal.returns-clause-found
returns-clause-found c =
    subst (λ (o : Option ℕ). IsFound (facts c.args.self.now.0).held c.args.id.now o) (sym (returns-clause-place c))
    (place_tells (facts c.args.self.now.0).held c.args.id.now)
