-- How many messages a batch brings.
use Rattle.std.proofs.Common.{◌≡◌, ℕ, ◌+◌, ◌-◌, ◌^◌, ◌≤◌, min, List, [], ◌∷◌, ◌++◌, length, arith}
use Rattle.std.proofs.Common.{length-append}
use Rattle.std.specs.List.{AllByRecursion}
use Rattle.std.proofs.lemmas.Bool.Decides.{nat_tests}
use Rattle.sync_rules.specs.declared.entries.Entry.{Entry}
use Rattle.sync_rules.specs.declared.entries.Entry.TheVariants as entry
use Rattle.sync_rules.specs.Facts.{Facts, after, after_all, arrived, authored, contact_of, kept_as}
use Rattle.entry_codec.specs.declared.naming.Format.TheVariants as kind
use Rattle.entry_codec.specs.Payloads.{spellings}
use Rattle.entry_codec.specs.Spelling.{IsEntry, spelling_in}
use Rattle.entry_codec.proofs.LawProofs.{not_longer}
use Rattle.journal_migration.specs.Copying.{brought_by, counted_to, one_brought}

one_held : (f : Facts) (e : Entry) → length (after f e).held ≡ length f.held + one_brought e
one_held f (entry.Author m) = omega (arith, length-append f.held (authored m ∷ []))
one_held f (entry.Arrive s m) =
    omega (arith, length-append f.held (arrived (contact_of f.sessions s) m ∷ []))
one_held f (entry.Kept from m) = omega (arith, length-append f.held (kept_as from m ∷ []))
one_held f _ = omega arith

pub all_held : (f : Facts) (es : List Entry)
    → length (after_all f es).held ≡ length f.held + brought_by es
all_held f [] = omega arith
all_held f (e ∷ es) = omega (arith, one_held f e, all_held (after f e) es)

-- one entry more
pub brought_push : (es : List Entry) (e : Entry) → brought_by
    (es ++ e ∷ []) ≡ brought_by es + one_brought e
brought_push [] e = omega arith
brought_push (x ∷ es) e = omega (arith, brought_push es e)

-- counts that stand still
pub counted_more : (old new few many one : ℕ) → old ≡ counted_to few → many ≡ few + one
    → new ≡ min (old + one) (2 ^ 32 - 1) → new ≡ counted_to many
counted_more old new few many one was is made = grind (arith, nat_tests)

-- what a batch is spelled in, in format 2, has some bytes
pub some_spelled : (names : List (List ℕ)) (es : List Entry) → AllByRecursion IsEntry es
    → 1 ≤ length es → 1 ≤ length (spellings kind.Short names es)
some_spelled names [] all some = absurd (omega (arith, some))
some_spelled names (e ∷ es) all some =
    omega (
      arith,
      (not_longer names e all.0).0,
      length-append (spelling_in kind.Short names e) (spellings kind.Short names es),
    )
