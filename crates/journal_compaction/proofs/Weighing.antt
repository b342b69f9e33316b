-- How long the frames are that items fill.
use Rattle.std.proofs.Common.{◌≡◌, ◌⊎◌, ℕ, ◌+◌, ◌-◌, ◌≤◌, Bool, true, false, cond, List, [], ◌∷◌}
use Rattle.std.proofs.Common.{◌++◌, length, min}
use Rattle.std.proofs.Common.{length-append, refl, ◌∙◌, ap, inl, inr, arith}
use Rattle.std.specs.Prelude.{not, ◌&&◌, nat_lt}
use Rattle.std.specs.Int.{w32, to_be_bytes}
use Rattle.std.specs.List.{flat_map}
use Rattle.std.proofs.lemmas.Bool.{ltb-true}
use Rattle.std.proofs.lemmas.Bool.Decides.{nat_tests}
use Rattle.std.proofs.lemmas.List.Concat.{flat_map-append}
use Rattle.outside.specs.Frames.{end_of, frame_of}
use Rattle.sync_rules.specs.Facts.{Facts}
use Rattle.journal_compaction.specs.declared.items.Item.{Item}
use Rattle.journal_compaction.specs.Items.{bytes_of, is_alone}
use Rattle.journal_compaction.specs.Paging.{closed_page, frames_len, items_len, joins, left_behind}
use Rattle.journal_compaction.specs.Paging.{pages}
use Rattle.journal_compaction.proofs.Filling.{bytes_some, closed_some}

pub frames-append : (ps qs : List (List ℕ)) → frames_len (ps ++ qs) ≡ frames_len ps + frames_len qs
frames-append ps qs = ap length (flat_map-append frame_of ps qs)
    ∙ length-append (flat_map frame_of ps) (flat_map frame_of qs)

pub one_frame : (p : List ℕ) → frames_len (p ∷ []) ≡ 5 + length p
one_frame p =
    omega (arith, length-append (frame_of p) [], length-append (to_be_bytes w32 (length p)) p)

pub end_more : (ps qs : List (List ℕ)) → end_of (ps ++ qs) ≡ end_of ps + frames_len qs
end_more ps qs = omega (arith, frames-append ps qs)

pub closed_len : (page : List ℕ) → 1 ≤ length page → frames_len (closed_page page) ≡ 5 + length page
closed_len page some = ap frames_len (closed_some page some) ∙ one_frame page

-- a payload that takes more has some bytes
abbrev pub HasBegun : (left : ℕ) → List ℕ → Type 0
HasBegun left page = (left ≡ 0) ⊎ (1 ≤ length page)

begun_some : (alone : Bool) (left : ℕ) (page : List ℕ) → (not alone && nat_lt 0 left) ≡ true
    → HasBegun left page
    → 1 ≤ length page
begun_some true left page more begun = cc
begun_some false left page more begun = elim begun [
  | inl none ↦ absurd (omega (arith, ltb-true 0 left more, none))
  | inr some ↦ some
]

module _ (f : Facts) (most : ℕ) where
  pub pages_len : (left : ℕ) (page : List ℕ) (items : List Item) → HasBegun left page
      → frames_len (pages f most left page items) ≡ frames_len (closed_page page)
      + items_len f most left items
  pages_len left page [] begun = omega arith
  pages_len left page (i ∷ items) begun =
      let At : Bool → Type 0 =
      λ j. frames_len
      (cond j [] (closed_page page) ++ pages f most (cond j (left - 1) (left_behind most i))
      (cond j page [] ++ bytes_of f i) items)
      ≡ frames_len
      (closed_page page) + (cond j 0 5 + length (bytes_of f i) + items_len f most
      (cond j (left - 1) (left_behind most i)) items) in
      elim (joins left i) as (λ j. joins left i ≡ j → At j) [
        | true ↦ λ more.
            let some = begun_some (is_alone i) left page more begun in
            let both : length (page ++ bytes_of f i) ≡ length page + length (bytes_of f i) =
            length-append page (bytes_of f i) in
            let rest = pages_len (left - 1) (page ++ bytes_of f i) items
            (inr (omega (arith, both, some))) in
            omega (
              arith,
              rest,
              closed_len (page ++ bytes_of f i) (omega (arith, both, some)),
              closed_len page some,
              both,
            )
        | false ↦ λ full.
            let next = pages f most (left_behind most i) (bytes_of f i) items in
            let rest = pages_len (left_behind most i) (bytes_of f i) items (inr (bytes_some f i)) in
            omega (
              arith,
              frames-append (closed_page page) next,
              rest,
              closed_len (bytes_of f i) (bytes_some f i),
            )
      ] refl

  pub all_len : (items : List Item) → frames_len
      (pages f most 0 [] items) ≡ items_len f most 0 items
  all_len items = omega (arith, pages_len 0 [] items (inl refl))

-- ---- sums that stand still at 2^64 - 1

pub sum_more : (len added more rest whole new step top : ℕ) → min (len + rest) top ≡ min whole top
    → rest ≡ added + more → step ≡ min added top
    → new ≡ min (len + step) top → min (new + more) top ≡ min whole top
sum_more len added more rest whole new step top was is by made = grind (arith, nat_tests)
