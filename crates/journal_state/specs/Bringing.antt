-- Whether a batch brings a message.
use Rattle.std.specs.Prelude.{Bool, true, false}
use Rattle.sync_rules.specs.declared.entries.Entry.{Entry}
use Rattle.sync_rules.specs.declared.entries.Entry.TheVariants as entry

-- the entry brings a message that was not held
abbrev pub brings_one : Entry → Bool
brings_one (entry.Author m) = true
brings_one (entry.Arrive s m) = true
brings_one (entry.Kept from m) = true
brings_one _ = false
