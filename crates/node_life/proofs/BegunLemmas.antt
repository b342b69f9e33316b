-- Files of which none has an open header.
use Rattle.std.proofs.Common.{◌≡◌, ℕ, Bool, true, false, refl, ap, Option, Some, None}
use Rattle.std.specs.Prelude.{◌&&◌, ◌||◌, if◌then◌else◌, nat_lt}
use Rattle.outside.specs.Files.{File, Two, read_files}
use Rattle.outside.specs.Frames.{generation_in, is_open, journal_file}
use Rattle.sync_rules.specs.Clients.{Meaning}
use Rattle.entry_codec.specs.ReadingFiles.{read_standing, stands_in}
use Rattle.entry_codec.specs.Standing.{no_store}
use Rattle.file_standing.specs.Standing.{stands}
use Rattle.sync_store.specs.Begin.{has_open}

-- the journal's file by which headers are open, and whether the second is the later one
abbrev file_where : (first second later : Bool) → Option ℕ
file_where first second later =
    if first then (if second && later then Some 1 else Some 0) else
    (if second then Some 1 else None)

no_file : (a b c : Bool) → (a || b) ≡ false → file_where a b c ≡ None
no_file true b c none = absurd (let e : true ≡ false = none in cc)
no_file false true c none = absurd (let e : true ≡ false = none in cc)
no_file false false c none = refl

none_open : (two : Two File) → has_open two ≡ false → journal_file (read_files two) ≡ None
none_open two none =
    no_file (is_open two.first.now) (is_open two.second.now)
    (nat_lt (generation_in two.first.now) (generation_in two.second.now)) none

-- they stand for no store
pub no_store_there : (clients : Meaning) (two : Two File) → has_open two ≡ false → stands clients
    (read_files two) ≡ no_store
unfolding read_standing
no_store_there clients two none = ap (stands_in clients (read_files two)) (none_open two none)
