-- What is needed of the files of a store.
use Rattle.std.specs.Prelude.{◌≡◌, Bool, true, false}
use Rattle.outside_real.specs.declared.need.Need.{Need}
use Rattle.outside_real.specs.declared.need.Need.TheVariants as need

-- whether the files are written
abbrev pub writes : Need → Bool
writes need.Nothing = false
writes need.Read = false
writes need.Write = true
writes need.Make = true
writes need.Stay = true

-- neither file may be written, by what each says of it
abbrev pub IsUnwritten : Bool → Bool → Type 0
IsUnwritten first second = (first ≡ false) × (second ≡ false)
