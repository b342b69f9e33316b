-- Rows and wanted ids that are stated one after the other: they leave how the journal began, and what is judged.
use Rattle.std.proofs.Common.{◌≡◌, ℕ, ◌+◌, ◌-◌, ◌^◌, ◌<◌, ◌≤◌, min, true, map, refl, ap, arith}
use Rattle.std.proofs.lemmas.Bool.{false≢true}
use Rattle.sync_rules.specs.declared.entries.Entry.{Entry}
use Rattle.sync_rules.specs.declared.entries.Entry.TheVariants as entry
use Rattle.sync_rules.specs.declared.states.Start.{Start}
use Rattle.sync_rules.specs.declared.states.Start.TheVariants as start
use Rattle.sync_rules.specs.Allows.{suits_rows}
use Rattle.sync_rules.specs.Clients.{Meaning}
use Rattle.sync_rules.specs.Facts.{Facts, after, start_after}
use Rattle.sync_rules.specs.Steps.{answer_of}

-- the journal is a brief account so far
pub still_opening : (f : Facts) (e : Entry) → f.start ≡ start.Opening → suits_rows f e ≡ true → (after f e).start ≡ start.Opening
still_opening f (entry.Tried t) opening suits = ap (λ (s : Start). start_after s (entry.Tried t)) opening
still_opening f (entry.Want contact id) opening suits = ap (λ (s : Start). start_after s (entry.Want contact id)) opening
still_opening f _ opening suits = absurd (false≢true suits)

-- no judgement is another
pub same_answers : (clients : Meaning) (f : Facts) (e : Entry) → suits_rows f e ≡ true
    → map (answer_of clients f) f.held ≡ map (answer_of clients (after f e)) (after f e).held
same_answers clients f (entry.Tried t) suits = refl
same_answers clients f (entry.Want contact id) suits = refl
same_answers clients f _ suits = absurd (false≢true suits)

-- there is room for the rows of all held messages
pub rows_enough : (held rows : ℕ) → held < 2 ^ 32 → min (2 ^ 32 - 1) (held + 1) ≤ rows → held ≤ rows
rows_enough held rows few le = omega (arith, few, le)
