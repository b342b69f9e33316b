-- A journal that has an entry has begun.
use Rattle.std.proofs.Common.{◌≡◌, false, refl, sym, ◌∙◌, ap}
use Rattle.std.proofs.lemmas.Bool.{false≢true}
use Rattle.sync_rules.specs.declared.entries.Entry.{Entry}
use Rattle.sync_rules.specs.declared.entries.Entry.TheVariants as entry
use Rattle.sync_rules.specs.declared.states.Start.{Start}
use Rattle.sync_rules.specs.declared.states.Start.TheVariants as start
use Rattle.sync_rules.specs.Allows.{is_empty_start}
use Rattle.sync_rules.specs.Facts.{start_after}

has_begun : (s : Start) (e : Entry) → is_empty_start (start_after s e) ≡ false
has_begun start.Empty (entry.Brief n) = refl
has_begun start.Empty _ = refl
has_begun start.Opening (entry.Contact c) = refl
has_begun start.Opening _ = refl
has_begun start.Going e = refl

pub never_empty : (s : Start) (e : Entry) → start_after s e ≡ start.Empty → ⊥
never_empty s e is = false≢true (sym (has_begun s e) ∙ ap is_empty_start is)
