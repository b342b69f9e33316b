-- The lines that `status` prints.
use Rattle.std.specs.Prelude.{ℕ, ◌+◌, ◌-◌, List, [], ◌∷◌, ◌++◌, codes, length}
use Rattle.std.specs.Fmt.{decimal}
use Rattle.outside.specs.declared.limits.TheConstants.{MAX_JOURNAL}
use Rattle.sync_rules.specs.declared.entries.Entry.{Entry}
use Rattle.sync_rules.specs.Facts.{Facts, facts}
use Rattle.entry_codec.specs.declared.naming.Format.{Format}
use Rattle.entry_codec.specs.Payloads.{journal_end}
use Rattle.entry_codec.specs.Standing.{room_of}
use Rattle.sync_words.specs.Versions.{version_text}

-- how many messages are held and how many are delivered, and how many sessions have begun
abbrev pub counts_text : (held delivered sessions : ℕ) → List ℕ
counts_text held delivered sessions =
    codes "held "
    ++ (decimal held
    ++ (codes " delivered " ++ (decimal delivered ++ (codes " sessions " ++ (decimal sessions ++ 10 ∷ [])))))

-- where the journal ends, and what is left behind it
abbrev pub journal_text : (end free : ℕ) → List ℕ
journal_text end free =
    codes "journal " ++ (decimal end ++ (codes " free " ++ (decimal free ++ 10 ∷ [])))

-- what is left of the greatest length behind a journal of these facts that ends there, and behind
-- the room that settling may need
abbrev pub free_behind : Format → (end : ℕ) → Facts → ℕ
free_behind format end f = MAX_JOURNAL - (end + room_of format f)

-- all that is printed of a journal of these facts that ends there in this format
abbrev pub status_text : Format → (end : ℕ) → Facts → List ℕ
status_text format end f =
    counts_text (length f.held) (length f.delivered) f.begun
    ++ (journal_text end (free_behind format end f) ++ version_text (codes "version"))

-- and of a journal in this format
abbrev pub journal_status : Format → List (List Entry) → List ℕ
journal_status format j = status_text format (journal_end format j) (facts j)
