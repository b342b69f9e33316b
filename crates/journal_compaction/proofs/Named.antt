-- What items name is held, and what they say may be written.
use Rattle.std.proofs.Common.{◌≡◌, ℕ, ◌<◌, true, false, List, [], ◌∷◌, length, take}
use Rattle.std.proofs.Common.{refl, sym, ap, subst}
use Rattle.std.proofs.Common.{arith, zero, suc}
use Rattle.std.specs.Prelude.{◌||◌, slice_get}
use Rattle.std.proofs.lemmas.List.{take_all}
use Rattle.sync_rules.specs.Consistency.{ids_of_held}
use Rattle.sync_rules.specs.Facts.{Facts, Held, Id, wanted_from}
use Rattle.sync_rules.specs.Lists.{is_among, same_id}
use Rattle.sync_rules.proofs.Elements.{same_id_itself}
use Rattle.entry_codec.specs.Payloads.{names_of}
use Rattle.entry_codec.specs.Spelling.{EntryNames}
use Rattle.journal_compaction.specs.declared.items.Item.{Item}
use Rattle.journal_compaction.specs.declared.items.Item.TheVariants as item
use Rattle.journal_compaction.specs.Items.{IsItem, entry_of, group_entry, id_of, kept_entry}
use Rattle.journal_compaction.specs.Items.{level_entry, want_entry}
use Rattle.journal_compaction.proofs.Sections.{there}

among : (hs : List Held) (n : ℕ) → n < length hs → is_among (ids_of_held hs)
    (id_of (slice_get hs n)) ≡ true
among [] n few = absurd (omega (arith, few))
among (h ∷ hs) zero few = ap (λ b. b || is_among (ids_of_held hs) h.id) (same_id_itself h.id)
among (h ∷ hs) (suc n) few =
    let rest = among hs n (omega (arith, few)) in
    elim (same_id h.id (id_of (slice_get hs n))) as (λ b.
    (b || is_among (ids_of_held hs) (id_of (slice_get hs n)))
    ≡ true) [
      | true ↦ refl
      | false ↦ rest
    ]

module _ (f : Facts) where
  abbrev Named : Id → Type 0
  Named id = is_among (names_of f) id ≡ true

  pub item_named : (i : Item) → IsItem f i → EntryNames Named (entry_of f i)
  item_named item.Brief is = tt
  item_named (item.Contact c) is = tt
  item_named (item.Group n) is = let g = there f.groups n is in
      subst (λ o. EntryNames Named (group_entry o)) (sym g.1) tt
  item_named (item.Level c n) is = let g = there f.groups n is in
      subst (λ o. EntryNames Named (level_entry f c o)) (sym g.1) tt
  item_named (item.Kept n) is =
      let h = there f.held n is in subst (λ o. EntryNames Named (kept_entry o)) (sym h.1) tt
  item_named (item.Judged n) is = among f.held n is
  item_named (item.Deliver n) is = among f.held n is
  item_named (item.Invalid n) is = among f.held n is
  item_named (item.Row c n) is = among f.held n is.0
  item_named (item.Want c n) is = let id = there (wanted_from f.wanted c) n is in
      subst (λ o. EntryNames Named (want_entry c o)) (sym id.1) tt

  -- the first so many are all
  pub all_names : (count : ℕ) → count ≡ length f.held → take count (names_of f) ≡ names_of f
  all_names count is = take_all count (names_of f) (omega (arith, is, ids_len f.held))
    where
      ids_len : (hs : List Held) → length (ids_of_held hs) ≡ length hs
      ids_len [] = refl
      ids_len (h ∷ hs) = omega (arith, ids_len hs)
