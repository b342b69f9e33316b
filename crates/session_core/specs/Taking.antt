-- The batch of a record that was heard.
use Rattle.std.specs.Prelude.{◌≡◌, ℕ, true, List, ◌∷◌}
use Rattle.sync_ids.specs.declared.records.Record.{Record}
use Rattle.sync_rules.specs.declared.entries.Entry.{Entry}
use Rattle.sync_rules.specs.declared.entries.Entry.TheVariants as entry
use Rattle.sync_rules.specs.declared.entries.Session.{Session}
use Rattle.sync_rules.specs.Facts.{Facts, Id}
use Rattle.sync_rules.specs.Sessions.{is_shown, taken_from}
use Rattle.sync_rules.specs.Views.{IsPlace}

-- the session's k-th record was taken, and then what the record is taken as
abbrev pub take_of : Facts → Session → ℕ → Record → List Entry
take_of f s k r = entry.Take s.number k ∷ taken_from f s.number s.contact r

-- the arrival number of a held message of this id, whose group is not Invisible to the contact
pub record IsShownPlace (f : Facts) (contact : ℕ) (id : Id) (n : ℕ) : Type 0 where
  pub place : IsPlace f.held id n
  pub shown : is_shown f contact id ≡ true
