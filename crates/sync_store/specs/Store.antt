-- What contracts see of a store.
use Rattle.std.specs.Prelude.{◌≡◌, ℕ, ◌+◌, ◌≤◌, ◌==◌, Bool, if◌then◌else◌, List, [], ◌∷◌, length}
use Rattle.std.specs.Prelude.{refl}
use Rattle.std.specs.Coded.{Coded, code_by, coded×, coded_bool, coded_list, coded_ℕ}
use Rattle.frame_journal.specs.Group.{IsGroup}
use Rattle.sync_rules.specs.Facts.{Facts, takes_of}
use Rattle.entry_codec.specs.declared.naming.Format.{Format}
use Rattle.entry_codec.specs.declared.naming.Format.TheVariants as kind
use Rattle.entry_codec.specs.Standing.{room_of}
use Rattle.journal_state.specs.Whole.{StateValue, state_code}
use Rattle.outside.specs.declared.limits.TheConstants.{MAX_JOURNAL}

-- The facts of the journal and the judgements of its messages; the number of the journal's file,
-- its format and generation, and the place of its closed gate plus one; the frames that wait to be
-- added to the file, and a closed gate behind them; the length that commits may fill; and whether a
-- call on the disk failed. The journal itself is not kept. Facts and end are those of the journal
-- with the batches whose frames wait.
pub record StoreValue : Type 0 where
  pub state : StateValue
  pub file : ℕ
  pub format : ℕ
  pub generation : ℕ
  pub end : ℕ
  pub waiting : List ℕ
  pub limit : ℕ
  pub closed : Bool

-- what the number of a journal's format means: it is 1 or 2
abbrev pub format_meant : ℕ → Format
format_meant n = if n == 2 then kind.Short else kind.Whole

-- the format that a store's journal is written in
abbrev pub written_in : StoreValue → Format
written_in s = format_meant s.format

abbrev pub store_code : Coded StoreValue
store_code =
    code_by (StateValue × (ℕ × (ℕ × (ℕ × (ℕ × (List ℕ × (ℕ × Bool)))))))
    (coded× state_code (coded× coded_ℕ
    (coded× coded_ℕ (coded× coded_ℕ (coded× coded_ℕ
    (coded× (coded_list coded_ℕ) (coded× coded_ℕ coded_bool)))))))
    (λ s. (s.state, (s.file, (s.format, (s.generation, (s.end, (s.waiting, (s.limit, s.closed))))))))
    (λ p. record {
      state = p.0;
      file = p.1.0;
      format = p.1.1.0;
      generation = p.1.1.1.0;
      end = p.1.1.1.1.0;
      waiting = p.1.1.1.1.1.0;
      limit = p.1.1.1.1.1.1.0;
      closed = p.1.1.1.1.1.1.1;
    })
    (λ _. refl)

-- The counts of a journal are within a bound. Of the sessions those count that a brief account did
-- not drop: how many there were before them it states as one number.
pub record HasNumbers (f : Facts) (bound : ℕ) : Type 0 where
  pub held : length f.held ≤ bound
  pub sessions : length f.sessions ≤ bound
  pub records : (session : ℕ) → takes_of f.takes session ≤ bound

-- The bound on the counts of a journal in this format that ends there. In format 1 it is the end:
-- each held message, each session begun and each record taken has its bytes in the file. A journal
-- in format 2 may have been written anew from one that was longer, by at most the greatest length.
abbrev pub counts_to : Format → ℕ → ℕ
counts_to kind.Whole end = end
counts_to kind.Short end = MAX_JOURNAL + end

-- what every store keeps: what waits are frames, its limit is one of a journal, settling finds its
-- room, and its counts are bounded by its end and format
pub record IsStore (s : StoreValue) : Type 0 where
  pub waits : IsGroup s.waiting
  pub limited : s.limit ≤ MAX_JOURNAL
  pub roomy : s.end + room_of (written_in s) s.state.facts ≤ MAX_JOURNAL
  pub numbers : HasNumbers s.state.facts (counts_to (written_in s) s.end)

-- no frame waits: there is a closed gate alone
abbrev pub NoneWaits : StoreValue → Type 0
NoneWaits s = s.waiting ≡ 0 ∷ []
