-- A batch of none of a brief account's own kinds is none of rows.
use Rattle.std.proofs.Common.{◌≡◌, false, List, ◌∷◌, refl, sym}
use Rattle.std.proofs.lemmas.Bool.{false≢true}
use Rattle.sync_rules.specs.declared.entries.Entry.{Entry}
use Rattle.sync_rules.specs.declared.entries.Entry.TheVariants as entry
use Rattle.sync_rules.specs.Allows.{is_account_kind}
use Rattle.sync_rules.specs.Allows.{is_rows_kind}

pub no_rows : (b : List Entry) → is_account_kind b ≡ false → is_rows_kind b ≡ false
no_rows (entry.Tried t ∷ rest) plain = absurd (false≢true (sym plain))
no_rows (entry.Want contact id ∷ rest) plain = absurd (false≢true (sym plain))
no_rows _ plain = refl
