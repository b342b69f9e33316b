-- A journal's file as it is read and added to.
use Rattle.std.specs.Prelude.{ℕ, Bool, ◌==◌, ◌||◌}

-- the formats that a journal's file may have
abbrev pub is_format : ℕ → Bool
is_format format = (format == 1) || (format == 2)

-- the number of the file, format and generation as its header has them, the place behind the gate
-- up to which it was read, the length that is known of it, and the place of the last frame read, or
-- 0
pub record JournalValue : Type 0 where
  pub file : ℕ
  pub format : ℕ
  pub generation : ℕ
  pub end : ℕ
  pub len : ℕ
  pub last : ℕ

-- the journal of this format and generation in a prepared file with no frame, which has 15 bytes
abbrev pub fresh_journal : ℕ → ℕ → ℕ → JournalValue
fresh_journal file format generation = record {
  file = file;
  format = format;
  generation = generation;
  end = 15;
  len = 15;
  last = 0;
}

-- a journal that is read from its first frame on again
abbrev pub rewound : JournalValue → JournalValue
rewound journal = record journal { end = 15; last = 0 }
