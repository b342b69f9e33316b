-- The payloads that items fill are those of the batches that their entries fill.
use Rattle.std.proofs.Common.{◌≡◌, ℕ, zero, suc, ◌+◌, ◌-◌, ◌≤◌, Bool, true, false, cond, List, []}
use Rattle.std.proofs.Common.{◌∷◌, ◌++◌, length}
use Rattle.std.proofs.Common.{map, length-append, refl, sym, ◌∙◌, ap, subst, arith, append-nil}
use Rattle.std.proofs.Common.{lt-ltb, le-ltb}
use Rattle.std.proofs.Common.{ltb-true}
use Rattle.std.specs.Prelude.{not, ◌&&◌, nat_lt}
use Rattle.std.specs.List.{AllByRecursion}
use Rattle.std.proofs.lemmas.List.{length_push}
use Rattle.std.proofs.lemmas.List.Concat.{flat_map-append}
use Rattle.sync_rules.specs.declared.entries.Entry.{Entry}
use Rattle.sync_rules.specs.declared.entries.Entry.TheVariants as entry
use Rattle.sync_rules.specs.Facts.{Facts}
use Rattle.brief_account.specs.Brief.{closed, each_alone, filled}
use Rattle.entry_codec.specs.declared.naming.Format.TheVariants as kind
use Rattle.entry_codec.specs.Payloads.{names_of, spellings}
use Rattle.entry_codec.specs.Spelling.{spelling_in}
use Rattle.journal_compaction.specs.declared.items.Item.{Item}
use Rattle.journal_compaction.specs.Items.{bytes_of, entry_of, is_alone}
use Rattle.journal_compaction.specs.Paging.{closed_page, left_behind, pages}

-- what batches are written as, where these messages are held
abbrev pub written : List (List ℕ) → List (List Entry) → List (List ℕ)
written names bs = map (spellings kind.Short names) bs

pub written-append : (names : List (List ℕ)) (bs cs : List (List Entry))
    → written names (bs ++ cs) ≡ written names bs ++ written names cs
written-append names [] cs = refl
written-append names (b ∷ bs) cs =
    ap (λ (ps : List (List ℕ)). spellings kind.Short names b ∷ ps) (written-append names bs cs)

-- each entry has a tag
pub some_spelled : (names : List (List ℕ)) (e : Entry) → 1 ≤ length (spelling_in kind.Short names e)
unfolding spelling_in
some_spelled names (entry.Contact c) = omega arith
some_spelled names _ = omega arith

pub closed_some : (page : List ℕ) → 1 ≤ length page → closed_page page ≡ page ∷ []
closed_some [] some = absurd (omega (arith, some))
closed_some (x ∷ page) some = refl

-- no item is put into a payload that takes no more
pub none_joins : (b : Bool) → (not b && nat_lt 0 0) ≡ false
none_joins true = refl
none_joins false = refl

test_same : (n left most : ℕ) → n + left ≡ most → nat_lt 0 left ≡ nat_lt n most
test_same n zero most is = le-ltb 0 0 (omega arith) ∙ sym (le-ltb n most (omega (arith, is)))
test_same n (suc left) most is =
    lt-ltb 0 (suc left) (omega arith) ∙ sym (lt-ltb n most (omega (arith, is)))

one_less : (left n m most : ℕ) → nat_lt 0 left ≡ true → m ≡ n + 1 → n + left ≡ most
    → m + (left - 1) ≡ most
one_less left n m most more is sum = omega (arith, ltb-true 0 left more, is, sum)

module _ (f : Facts) where
  abbrev pub spelled : List Entry → List ℕ
  spelled es = spellings kind.Short (names_of f) es

  pub bytes_some : (i : Item) → 1 ≤ length (bytes_of f i)
  bytes_some i = some_spelled (names_of f) (entry_of f i)

  one_spelled : (i : Item) → spelled (entry_of f i ∷ []) ≡ bytes_of f i
  one_spelled i = append-nil (bytes_of f i)

  more_spelled : (front : List Entry) (i : Item)
      → spelled (front ++ entry_of f i ∷ []) ≡ spelled front ++ bytes_of f i
  more_spelled front i =
      flat_map-append (spelling_in kind.Short (names_of f)) front (entry_of f i ∷ [])
      ∙ ap (λ (t : List ℕ). spelled front ++ t) (one_spelled i)

  spelled_some : (front : List Entry) → 1 ≤ length front → 1 ≤ length (spelled front)
  spelled_some [] some = absurd (omega (arith, some))
  spelled_some (e ∷ es) some =
      omega (
        arith,
        some_spelled (names_of f) e,
        length-append (spelling_in kind.Short (names_of f) e) (spelled es),
      )

  closed_written : (front : List Entry) → closed_page (spelled front) ≡ written (names_of f)
      (closed front)
  closed_written [] = refl
  closed_written (e ∷ es) = closed_some (spelled (e ∷ es)) (spelled_some (e ∷ es) (omega arith))

  module _ (most : ℕ) where
    -- the payloads of items of which the first begins one
    abbrev pub begun_at : Item → List Item → List (List ℕ)
    begun_at i items = pages f most (left_behind most i) (bytes_of f i) items

    -- what is written of an item and those behind it, where a test says whether it stands alone and
    -- one whether it joins
    abbrev stepped : List ℕ → (left : ℕ) → Item → List Item → Bool → Bool → List (List ℕ)
    stepped page left i items alone joins =
        cond joins [] (closed_page page)
        ++ pages f most (cond joins (left - 1) (cond alone 0 (most - 1)))
        (cond joins page [] ++ bytes_of f i) items

    -- a payload that takes no more is closed, and the next item begins another
    pub next_begins : (page : List ℕ) (i : Item) (items : List Item)
        → pages f most 0 page (i ∷ items) ≡ closed_page page ++ begun_at i items
    next_begins page i items = ap (stepped page 0 i items (is_alone i)) (none_joins (is_alone i))

    -- ---- items that each stand alone

    pub alone_written : (page : List ℕ) (items : List Item) → AllByRecursion
        (λ i. is_alone i ≡ true) items
        → pages f most 0 page items
        ≡ closed_page page ++ written (names_of f) (each_alone (map (entry_of f) items))
    alone_written page [] all = sym (append-nil (closed_page page))
    alone_written page (i ∷ items) all =
        let here : begun_at i items ≡ pages f most 0 (bytes_of f i) items =
        ap (λ b. pages f most (cond b 0 (most - 1)) (bytes_of f i) items) all.0 in
        let rest = alone_written (bytes_of f i) items all.1 in
        let one : closed_page (bytes_of f i) ≡ spelled (entry_of f i ∷ []) ∷ [] =
        closed_some (bytes_of f i) (bytes_some i)
        ∙ ap (λ (p : List ℕ). p ∷ []) (sym (one_spelled i)) in
        next_begins page i items
        ∙ ap (λ (ps : List (List ℕ)). closed_page page ++ ps)
        (here ∙ (rest
        ∙ ap (λ (ps : List (List ℕ)).
        ps ++ written (names_of f) (each_alone (map (entry_of f) items))) one))

    -- ---- items of which some stand alone

    module _ (alone : Entry → Bool) (some : 1 ≤ most) where
      abbrev pub Suits : List Item → Type 0
      Suits items = AllByRecursion (λ i. alone (entry_of f i) ≡ is_alone i) items

      abbrev filling : List Entry → List Item → List (List ℕ)
      filling front items = written (names_of f) (filled most alone front (map (entry_of f) items))

      -- the payloads are those of the batches: at the beginning, behind an item that stands alone,
      -- and within a batch
      record Cuts (items : List Item) : Type 0 where
        fresh : pages f most 0 [] items ≡ filling [] items
        behind : (i : Item) → pages f most 0 (bytes_of f i) items ≡ bytes_of f i ∷ filling [] items
        within : (left : ℕ) (front : List Entry) → 1 ≤ length front → length front + left ≡ most
            → pages f most left (spelled front) items ≡ filling front items

      cuts_none : Cuts []
      cuts_none = record {
        fresh = refl;
        behind = λ i. closed_some (bytes_of f i) (bytes_some i);
        within = λ left front some_front is. closed_written front;
      }

      -- the batch that an item's entry begins
      begun_filling : (i : Item) (items : List Item) → Cuts items
          → alone (entry_of f i) ≡ is_alone i
          → begun_at i items ≡ filling [] (i ∷ items)
      begun_filling i items rest same =
          let e = entry_of f i in
          let es = map (entry_of f) items in
          let open_one : nat_lt 0 most ≡ true = lt-ltb 0 most (omega (arith, some)) in
          let At : Bool → Bool → Type 0 =
          λ b t. pages f most (cond b 0 (most - 1)) (bytes_of f i) items
          ≡ written (names_of f)
          (cond b ((e ∷ []) ∷ filled most alone [] es)
          (cond t (filled most alone (e ∷ []) es) ([] ∷ filled most alone (e ∷ []) es))) in
          let by_kind : At (is_alone i) true =
          elim (is_alone i) as (λ b. At b true) [
            | true ↦ rest.behind i ∙ ap (λ (p : List ℕ). p ∷ filling [] items) (sym (one_spelled i))
            | false ↦
                ap (λ (p : List ℕ). pages f most (most - 1) p items) (sym (one_spelled i))
                ∙ rest.within (most - 1) (e ∷ []) (omega arith) (omega (arith, some))
          ] in
          let there : At (is_alone i) (nat_lt 0 most) =
          subst (λ t. At (is_alone i) t) (sym open_one) by_kind in
          subst
          (λ b. begun_at i items
          ≡ written (names_of f)
          (cond b ((e ∷ []) ∷ filled most alone [] es)
          (cond (nat_lt 0 most) (filled most alone (e ∷ []) es)
          ([] ∷ filled most alone (e ∷ []) es))))
          (sym same) there

      -- an item within a batch
      more_filling : (i : Item) (items : List Item) → Cuts items → alone (entry_of f i) ≡ is_alone i
          → (left : ℕ) (front : List Entry)
          → 1 ≤ length front → length front + left ≡ most
          → pages f most left (spelled front) (i ∷ items) ≡ filling front (i ∷ items)
      more_filling i items rest same left front some_front is =
          let e = entry_of f i in
          let es = map (entry_of f) items in
          let page = spelled front in
          let At : Bool → Bool → Bool → Type 0 =
          λ b j t. stepped page left i items b j
          ≡ written (names_of f)
          (cond b (closed front ++ (e ∷ []) ∷ filled most alone [] es)
          (cond t (filled most alone (front ++ e ∷ []) es)
          (front ∷ filled most alone (e ∷ []) es))) in
          -- it joins, or begins another batch
          let plain : At false (nat_lt 0 left) (nat_lt 0 left) =
          elim (nat_lt 0 left) as (λ j. nat_lt 0 left ≡ j → At false j j) [
            | true ↦ λ more.
                ap (λ (p : List ℕ). pages f most (left - 1) p items) (sym (more_spelled front i))
                ∙ rest.within (left - 1) (front ++ e ∷ []) (omega (arith, length_push front e))
                (one_less left (length front) (length (front ++ e ∷ [])) most more
                (length_push front e) is)
            | false ↦ λ full.
                ap (λ (ps : List (List ℕ)). ps ++ pages f most (most - 1) (bytes_of f i) items)
                (closed_some page (spelled_some front some_front))
                ∙ ap (λ (ps : List (List ℕ)). page ∷ ps)
                (ap (λ (p : List ℕ). pages f most (most - 1) p items) (sym (one_spelled i))
                ∙ rest.within (most - 1) (e ∷ []) (omega arith) (omega (arith, some)))
          ] refl in
          let both : At false (nat_lt 0 left) (nat_lt (length front) most) =
          subst (λ t. At false (nat_lt 0 left) t) (test_same (length front) left most is) plain in
          let single : At true false (nat_lt (length front) most) =
          (λ n. closed_written front n ++ rest.behind i n)
          ∙ ap (λ (p : List ℕ). written (names_of f) (closed front) ++ p ∷ filling [] items)
          (sym (one_spelled i))
          ∙ sym (written-append (names_of f) (closed front) ((e ∷ []) ∷ filled most alone [] es)) in
          let by_kind : At (is_alone i) (not (is_alone i) && nat_lt 0 left)
          (nat_lt (length front) most) =
          elim (is_alone i) as (λ b. At b (not b && nat_lt 0 left) (nat_lt (length front) most)) [
            | true ↦ single
            | false ↦ both
          ] in
          subst
          (λ b. pages f most left page (i ∷ items)
          ≡ written (names_of f)
          (cond b (closed front ++ (e ∷ []) ∷ filled most alone [] es)
          (cond (nat_lt (length front) most) (filled most alone (front ++ e ∷ []) es)
          (front ∷ filled most alone (e ∷ []) es))))
          (sym same) by_kind

      cuts : (items : List Item) → Suits items → Cuts items
      cuts [] suits = cuts_none
      cuts (i ∷ items) suits =
          let rest = cuts items suits.1 in
          let begun = begun_filling i items rest suits.0 in
          record {
            fresh = next_begins [] i items ∙ begun;
            behind = λ k.
                next_begins (bytes_of f k) i items
                ∙ ap (λ (ps : List (List ℕ)). ps ++ begun_at i items)
                (closed_some (bytes_of f k) (bytes_some k))
                ∙ ap (λ (ps : List (List ℕ)). bytes_of f k ∷ ps) begun;
            within = λ left front some_front is.
                more_filling i items rest suits.0 left front some_front is;
          }

      pub filled_written : (items : List Item) → Suits items
          → pages f most 0 [] items
          ≡ written (names_of f) (filled most alone [] (map (entry_of f) items))
      filled_written items suits = (cuts items suits).fresh
