-- How long the spellings are that a brief account has.
use Rattle.std.proofs.Common.{◌≡◌, ℕ, ◌-◌, ◌≤◌, Bool, true, false, cond, List, [], ◌∷◌, ◌++◌}
use Rattle.std.proofs.Common.{length, length-append}
use Rattle.std.proofs.Common.{refl, arith, Option, Some, None}
use Rattle.std.specs.Prelude.{not, ◌&&◌, nat_lt, slice_get}
use Rattle.std.specs.Int.{w32, w64, to_be_bytes}
use Rattle.std.proofs.lemmas.Bool.{ltb-true}
use Rattle.sync_ids.specs.Values.{GroupValue, IsMessage, MessageValue}
use Rattle.sync_rules.specs.declared.entries.Entry.{Entry}
use Rattle.sync_rules.specs.declared.entries.Entry.TheVariants as entry
use Rattle.sync_rules.specs.declared.entries.Level.{Level}
use Rattle.sync_rules.specs.declared.entries.Tried.{Tried}
use Rattle.sync_rules.specs.declared.states.Origin.{Origin}
use Rattle.sync_rules.specs.declared.states.Origin.TheVariants as origin
use Rattle.sync_rules.specs.Facts.{Facts, Held, Id, Known, level_at, row_at, wanted_from}
use Rattle.entry_codec.specs.declared.naming.Format.TheVariants as kind
use Rattle.entry_codec.specs.Naming.{held_bytes}
use Rattle.entry_codec.specs.Spelling.{IsDef, IsEntry, IsId, counted, flags_byte, level_byte}
use Rattle.entry_codec.specs.Spelling.{message_bytes}
use Rattle.entry_codec.specs.Spelling.{origin_bytes, spelling_in}
use Rattle.retry_table.specs.Table.{tried_of}
use Rattle.journal_compaction.specs.declared.items.Item.{Item}
use Rattle.journal_compaction.specs.declared.items.Item.TheVariants as item
use Rattle.journal_compaction.specs.Items.{bytes_of, entry_of, group_entry, id_at, is_alone}
use Rattle.journal_compaction.specs.Items.{kept_entry, level_entry}
use Rattle.journal_compaction.specs.Items.{want_entry}
use Rattle.journal_compaction.specs.Paging.{left_after, page_for}
use Rattle.journal_compaction.specs.Writing.{HasSpace}
use Rattle.entry_codec.specs.Payloads.{names_of}

module _ (names : List (List ℕ)) where
  abbrev Short : Entry → ℕ → Type 0
  Short e most = length (spelling_in kind.Short names e) ≤ most

  group_short : (d : GroupValue) → IsDef d → Short (entry.Group d) 16647
  unfolding spelling_in
  group_short d is =
      omega (
        arith,
        is.within.short_name,
        is.within.short_descriptor,
        length-append d.name (to_be_bytes w32 d.major ++ counted d.descriptor),
      )

  level_short : (c : ℕ) (g : Id) (l : Level) → IsId g → Short (entry.Level c g l) 35
  unfolding spelling_in
  level_short c g l is = omega (arith, is, length-append g (level_byte l ∷ []))

  origin_short : (from : Origin) → length (origin_bytes from) ≡ 2
  origin_short origin.Author = refl
  origin_short (origin.From contact) = refl

  kept_short : (from : Origin) (m : MessageValue) → IsMessage m → Short (entry.Kept from m) 32813
  unfolding spelling_in
  kept_short from m is =
      omega (
        arith,
        is.whole_group,
        is.short_body,
        origin_short from,
        length-append (origin_bytes from) (message_bytes m),
        length-append m.group (to_be_bytes w64 m.timestamp ++ counted m.body),
      )

  step_short : (id : Id) → Short (entry.Judged id) 34 × Short (entry.Deliver id) 34 × Short
      (entry.Invalid id) 34
  unfolding spelling_in
  step_short id = (omega arith, omega arith, omega arith)

  tried_short : (t : Tried) → Short (entry.Tried t) 34
  unfolding spelling_in
  tried_short t =
      omega (
        arith,
        length-append (held_bytes kind.Short names t.id)
            (flags_byte t.seen t.owed t.asked ∷ t.tries ∷ to_be_bytes w64 t.expiry),
      )

  want_short : (c : ℕ) (id : Id) → IsId id → Short (entry.Want c id) 34
  unfolding spelling_in
  want_short c id is = omega (arith, is)

  brief_short : (n : ℕ) → Short (entry.Brief n) 34
  unfolding spelling_in
  brief_short n = omega arith

  contact_short : (c : ℕ) → Short (entry.Contact c) 34
  unfolding spelling_in
  contact_short c = omega arith

  group_item : (o : Option Known) → IsEntry (group_entry o) → Short (group_entry o) 32813
  group_item None is = omega (arith, brief_short 0)
  group_item (Some g) is = omega (arith, group_short g.def is)

  level_item : (f : Facts) (c : ℕ) (o : Option Known) → IsEntry (level_entry f c o)
      → Short (level_entry f c o) 32813
  level_item f c None is = omega (arith, brief_short 0)
  level_item f c (Some g) is = omega (arith, level_short c g.id (level_at f.levels c g.id) is.1)

  kept_item : (o : Option Held) → IsEntry (kept_entry o) → Short (kept_entry o) 32813
  kept_item None is = omega (arith, brief_short 0)
  kept_item (Some h) is = kept_short h.origin h.message is.1

  want_item : (c : ℕ) (o : Option Id) → IsEntry (want_entry c o) → Short (want_entry c o) 34
  want_item c None is = brief_short 0
  want_item c (Some id) is = want_short c id is.1

-- what stands alone, and what does not
pub long_item : (f : Facts) (i : Item) → IsEntry (entry_of f i) → length (bytes_of f i) ≤ 32813
long_item f item.Brief is = omega (arith, brief_short (names_of f) f.begun)
long_item f (item.Contact c) is = omega (arith, contact_short (names_of f) c)
long_item f (item.Group n) is = group_item (names_of f) (slice_get f.groups n) is
long_item f (item.Level c n) is = level_item (names_of f) f c (slice_get f.groups n) is
long_item f (item.Kept n) is = kept_item (names_of f) (slice_get f.held n) is
long_item f (item.Judged n) is = omega (arith, (step_short (names_of f) (id_at f n)).0)
long_item f (item.Deliver n) is = omega (arith, (step_short (names_of f) (id_at f n)).1)
long_item f (item.Invalid n) is = omega (arith, (step_short (names_of f) (id_at f n)).2)
long_item f (item.Row c n) is =
    omega (arith, tried_short (names_of f) (tried_of c (id_at f n) (row_at f.rows c (id_at f n))))
long_item f (item.Want c n) is =
    omega (arith, want_item (names_of f) c (slice_get (wanted_from f.wanted c) n) is)

pub short_item : (f : Facts) (i : Item) → is_alone i ≡ false → IsEntry (entry_of f i)
    → length (bytes_of f i) ≤ 34
short_item f (item.Judged n) joined is = (step_short (names_of f) (id_at f n)).0
short_item f (item.Deliver n) joined is = (step_short (names_of f) (id_at f n)).1
short_item f (item.Invalid n) joined is = (step_short (names_of f) (id_at f n)).2
short_item f (item.Row c n) joined is =
    tried_short (names_of f) (tried_of c (id_at f n) (row_at f.rows c (id_at f n)))
short_item f (item.Want c n) joined is =
    want_item (names_of f) c (slice_get (wanted_from f.wanted c) n) is
short_item f _ joined is = cc

-- ---- the space of a payload

space_joined : (left : ℕ) (page bytes : List ℕ) → nat_lt 0 left ≡ true → HasSpace left page
    → length bytes ≤ 34
    → HasSpace (left - 1) (page ++ bytes)
space_joined left page bytes more space few =
    omega (arith, ltb-true 0 left more, space, few, length-append page bytes)

-- there is space behind an item
pub space_after : (f : Facts) (most left : ℕ) (page : List ℕ) (i : Item) → 1 ≤ most → most ≤ 1000
    → HasSpace left page
    → IsEntry (entry_of f i)
    → HasSpace (left_after most left i) (page_for left page i ++ bytes_of f i)
space_after f most left page i some few space is =
    let bytes = bytes_of f i in
    let At : Bool → Bool → Type 0 =
    λ a j. HasSpace (cond j (left - 1) (cond a 0 (most - 1))) (cond j page [] ++ bytes) in
    elim (is_alone i) as (λ a. is_alone i ≡ a → At a (not a && nat_lt 0 left)) [
      | true ↦ λ alone. omega (arith, long_item f i is)
      | false ↦ λ joined.
          let short = short_item f i joined is in
          elim (nat_lt 0 left) as (λ j. nat_lt 0 left ≡ j → At false j) [
            | true ↦ λ more. space_joined left page bytes more space short
            | false ↦ λ none. omega (arith, short, some, few)
          ] refl
    ] refl
