-- Items written one behind the other.
use Rattle.std.proofs.Common.{◌≡◌, ℕ, ◌+◌, ◌≤◌, List, [], ◌∷◌, ◌++◌, take, Option, sym, ap, subst}
use Rattle.std.proofs.Common.{◌∙◌, arith}
use Rattle.std.proofs.Common.{append_assoc}
use Rattle.std.specs.List.{AllByRecursion}
use Rattle.outside.specs.declared.limits.TheConstants.{MAX_JOURNAL}
use Rattle.outside.specs.Files.{Two, File}
use Rattle.frame_journal.specs.Gathering.{GathersFrames}
use Rattle.frame_journal.specs.Group.{IsGroup, group_len}
use Rattle.frame_journal.specs.Journal.{JournalValue}
use Rattle.frame_journal.proofs.Waiting.{gathers_long, gathers_none, gathers_then}
use Rattle.sync_rules.specs.Facts.{Facts}
use Rattle.entry_codec.proofs.Growing.{all_push}
use Rattle.journal_compaction.specs.declared.items.Item.{Item}
use Rattle.journal_compaction.specs.Items.{bytes_of}
use Rattle.journal_compaction.specs.Paging.{closed_page, frames_len, left_after, page_for, pages}
use Rattle.journal_compaction.specs.Paging.{written_for}
use Rattle.journal_compaction.specs.Writing.{Written}
use Rattle.journal_compaction.proofs.Weighing.{frames-append}

pub written_none : (f : Facts) (most : ℕ) (items : List Item) (page : List ℕ) (n : JournalValue)
    (g : List ℕ) (o : Option (Two File)) → page ≡ []
    → Written f most items items 0 page n n g g o o
written_none f most items page n g o empty = record {
  added = [];
  goes_on = ap (λ (p : List ℕ). pages f most 0 p items) empty;
  adding = gathers_none n g o;
}

module _ (f : Facts) (most : ℕ) (items rest : List Item) (i : Item) (left : ℕ) (page : List ℕ)
    (n0 n1 : JournalValue) (g0 g1 : List ℕ)
    (o0 o1 : Option (Two File))
    (so_far : Written f most items (i ∷ rest) left page n0 n1 g0 g1 o0 o1) where
  -- an item more
  pub written_more : (left' : ℕ) (page' : List ℕ) (n2 : JournalValue) (g2 : List ℕ)
      (o2 : Option (Two File))
      → left' ≡ left_after most left i → page' ≡ page_for left page i ++ bytes_of f i
      → GathersFrames n1 n2 g1 g2 (written_for left page i) o1 o2
      → Written f most items rest left' page' n0 n2 g0 g2 o0 o2
  written_more left' page' n2 g2 o2 same alike adding =
      let next = pages f most (left_after most left i) (page_for left page i ++ bytes_of f i)
      rest in
      let here : pages f most left' page' rest ≡ next = λ k. pages f most (same k) (alike k) rest in
      record {
        added = so_far.added ++ written_for left page i;
        goes_on =
            ap (λ (ps : List (List ℕ)). (so_far.added ++ written_for left page i) ++ ps) here
            ∙ append_assoc so_far.added (written_for left page i) next ∙ so_far.goes_on;
        adding = gathers_then n0 n1 n2 g0 g1 g2 so_far.added (written_for left page i) o0 o1 o2
            so_far.adding adding;
      }

  -- there is room for what is written before it
  pub more_room : IsGroup g0
      → n0.end + group_len g0 + frames_len (pages f most 0 [] items) ≤ MAX_JOURNAL
      → n1.end + group_len g1 + frames_len (written_for left page i) ≤ MAX_JOURNAL
  more_room waits room =
      let next = pages f most (left_after most left i) (page_for left page i ++ bytes_of f i)
      rest in
      omega (
        arith,
        room,
        gathers_long n0 n1 g0 g1 so_far.added o0 o1 waits so_far.adding,
        ap frames_len so_far.goes_on,
        frames-append so_far.added (written_for left page i ++ next),
        frames-append (written_for left page i) next,
      )

-- no item is left
module _ (f : Facts) (most : ℕ) (items rest : List Item) (left : ℕ) (page : List ℕ)
    (n0 n1 : JournalValue) (g0 g1 : List ℕ)
    (o0 o1 : Option (Two File)) (none : rest ≡ [])
    (so_far : Written f most items rest left page n0 n1 g0 g1 o0 o1) where
  last : so_far.added ++ closed_page page ≡ pages f most 0 [] items
  last =
      sym (ap (λ (l : List Item). so_far.added ++ pages f most left page l) none) ∙ so_far.goes_on

  pub last_room : IsGroup g0
      → n0.end + group_len g0 + frames_len (pages f most 0 [] items) ≤ MAX_JOURNAL
      → n1.end + group_len g1 + frames_len (closed_page page) ≤ MAX_JOURNAL
  last_room waits room =
      omega (
        arith,
        room,
        gathers_long n0 n1 g0 g1 so_far.added o0 o1 waits so_far.adding,
        ap frames_len last,
        frames-append so_far.added
            (closed_page page),
      )

  pub written_all : (n2 : JournalValue) (g2 : List ℕ) (o2 : Option (Two File))
      → GathersFrames n1 n2 g1 g2 (closed_page page) o1 o2
      → GathersFrames n0 n2 g0 g2 (pages f most 0 [] items) o0 o2
  written_all n2 g2 o2 adding =
      subst (λ (ps : List (List ℕ)). GathersFrames n0 n2 g0 g2 ps o0 o2) last
      (gathers_then n0 n1 n2 g0 g1 g2 so_far.added (closed_page page) o0 o1 o2 so_far.adding
      adding)

-- what holds of the items so far holds of one more
pub all_more : {A : Type 0} (P : A → Type 0) (xs : List A) (i : ℕ) (x : A)
    → take (i + 1) xs ≡ take i xs ++ x ∷ []
    → AllByRecursion P (take i xs) → P x → AllByRecursion P (take (i + 1) xs)
all_more P xs i x is all here =
    subst (AllByRecursion P) (sym is) (all_push P (take i xs) x all here)
