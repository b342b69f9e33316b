-- The end of a journal with a batch more.
use Rattle.std.proofs.Common.{◌≡◌, ℕ, ◌+◌, List, [], ◌∷◌, ◌++◌, length, ap, arith}
use Rattle.frame_journal.specs.Append.{payload_of, IsFramed}
use Rattle.frame_journal.proofs.Framed.{framed_long}
use Rattle.sync_rules.specs.declared.entries.Entry.{Entry}
use Rattle.sync_rules.specs.Facts.{facts}
use Rattle.entry_codec.specs.declared.naming.Format.{Format}
use Rattle.entry_codec.specs.Payloads.{journal_end, names_of, payload}
use Rattle.entry_codec.proofs.Growing.{journal_end_push}
use Rattle.entry_codec.proofs.LawProofs.{batch_len_same}

pub end_framed : (format : Format) (j : List (List Entry)) (b : List Entry) (framed : List ℕ)
    → IsFramed framed → payload_of framed ≡ payload format (facts j) b
    → journal_end format (j ++ b ∷ []) ≡ journal_end format j + length framed
end_framed format j b framed is_framed same =
    omega (
      arith,
      journal_end_push format j b,
      framed_long framed is_framed,
      ap length same,
      batch_len_same format (names_of (facts j)) b,
    )
