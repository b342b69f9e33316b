-- A brief account has more bytes than there are messages.
use Rattle.std.proofs.Common.{◌≡◌, ℕ, ◌≤◌, List, [], ◌∷◌, ◌++◌, length, length-append, ap, arith}
use Rattle.sync_rules.specs.declared.limits.TheConstants.{MAX_ROWS, MAX_STEPS}
use Rattle.sync_rules.specs.declared.entries.Entry.{Entry}
use Rattle.sync_rules.specs.declared.entries.Entry.TheVariants as entry
use Rattle.sync_rules.specs.Clients.{Meaning}
use Rattle.sync_rules.specs.Facts.{Facts, Held, after, after_all, entries_of}
use Rattle.brief_account.specs.Account.{account, brief_of, settling_of, told_of, with_groups}
use Rattle.brief_account.specs.Brief.{each_alone, filled, head_entries, is_kept, never_alone}
use Rattle.brief_account.specs.Brief.{peer_entries}
use Rattle.brief_account.proofs.Filled.{entries-append, filled_entries}
use Rattle.entry_codec.specs.declared.naming.Format.TheVariants as kind
use Rattle.entry_codec.specs.Payloads.{journal_end, spellings}
use Rattle.entry_codec.specs.Spelling.{spelling_in}
use Rattle.journal_compaction.specs.Paging.{frames_len}
use Rattle.journal_compaction.proofs.Filling.{some_spelled, written}
use Rattle.journal_compaction.proofs.Spelled.{end_written}
use Rattle.journal_compaction.proofs.Weighing.{frames-append, one_frame}

-- each entry has some bytes
spelled_many : (names : List (List ℕ)) (es : List Entry) → length es ≤ length
    (spellings kind.Short names es)
spelled_many names [] = omega arith
spelled_many names (e ∷ es) =
    omega (
      arith,
      some_spelled names e,
      length-append (spelling_in kind.Short names e)
          (spellings kind.Short names es),
      spelled_many names es,
    )

written_many : (names : List (List ℕ)) (bs : List (List Entry))
    → length (entries_of bs) ≤ frames_len (written names bs)
written_many names [] = omega arith
written_many names (b ∷ bs) =
    let p = spellings kind.Short names b in
    omega (
      arith,
      frames-append (p ∷ []) (written names bs),
      one_frame p,
      length-append b (entries_of bs),
      spelled_many names b,
      written_many names bs,
    )

-- each message is kept
account_many : (clients : Meaning) (g : Facts) (hs : List Held) → length hs ≤ length
    (account clients g hs)
account_many clients g [] = omega arith
account_many clients g (h ∷ hs) =
    let kept = after g (entry.Kept h.origin h.message) in
    let steps = settling_of clients kept in
    omega (
      arith,
      length-append steps (account clients (after_all kept steps) hs),
      account_many clients
          (after_all kept steps) hs,
    )

pub held_within : (clients : Meaning) (f : Facts) → length f.held ≤ journal_end kind.Short
    (brief_of clients f)
held_within clients f =
    let a = each_alone (head_entries f) in
    let b = filled MAX_STEPS is_kept [] (told_of clients f) in
    let c = filled MAX_ROWS never_alone [] (peer_entries f f.contacts) in
    let told : entries_of b ≡ told_of clients f =
    filled_entries MAX_STEPS is_kept [] (told_of clients f) in
    omega (
      arith,
      end_written [] (brief_of clients f),
      written_many [] (brief_of clients f),
      ap length (entries-append (a ++ b) c),
      length-append (entries_of (a ++ b)) (entries_of c),
      ap length (entries-append a b),
      length-append (entries_of a) (entries_of b),
      ap length told,
      account_many clients (with_groups f.groups) f.held,
    )
