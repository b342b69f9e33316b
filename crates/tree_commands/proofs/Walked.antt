-- A part of the walk of a tree, as it is shown.
use Rattle.std.proofs.Common.{◌≡◌, ℕ, ◌+◌, ◌-◌, ◌<◌, List, [], length}
use Rattle.std.proofs.Common.{map, take, drop, min, Option, get_or, sym, ap, ◌∙◌}
use Rattle.std.proofs.Common.{subst, arith}
use Rattle.std.specs.List.{Contains, flat_map}
use Rattle.std.specs.Prelude.{OnOk, Result, Ok, Err}
use Rattle.std.proofs.lemmas.List.{get_or-drop, get_or-take, get_or_default, length-take}
use Rattle.std.proofs.lemmas.List.{length-map}
use Rattle.std.proofs.Common.{◌++◌, length-drop}
use Rattle.reply_tree.specs.Walks.{HasOneWalk, IsSortedWalk, IsWindow, walk_of}
use Rattle.sync_rules.specs.Clients.{Meaning}
use Rattle.sync_rules.specs.Facts.{Facts, Id}
use Rattle.journal_state.specs.Whole.{id_at}
use Rattle.tree_commands.specs.Gathered.{IsThreadOf}
use Rattle.tree_commands.specs.Threads.{AreItemNumbers, ThreadValue}
use Rattle.tree_commands.specs.Trees.{walk_line, parents_of, walk_text}
use Rattle.tree_commands.proofs.Parents.{parents_long, replies_earlier}

-- ---- numbers of items

-- an item of a part of a walk is one of the walk
in_part : (walk items : List ℕ) (from count i : ℕ) → items ≡ take count (drop from walk)
    → i < length items → (k : ℕ) × (k < length walk) × (get_or walk k 0 ≡ get_or items i 0)
in_part walk items from count i part within =
    let long : length items ≡ min count (length walk - from) = ap length part
    ∙ length-take count (drop from walk) ∙ ap (min count) (length-drop from walk) in
    let few : i < count = omega (arith, within, long) in
    let is : get_or items i 0 ≡ get_or walk (from + i) 0 =
    ap (λ (xs : List ℕ). get_or xs i 0) part ∙ get_or-take count (drop from walk) i 0 few
    ∙ get_or-drop from walk i 0 in
    (from + i, omega (arith, within, long), sym is)

module _ (clients : Meaning) (f : Facts) (ids : List Id) (t : ThreadValue)
    (of : IsThreadOf clients f ids t) where
  many : length t.parents ≡ length t.numbers
  many = ap length of.parents ∙ parents_long clients f [] ids ∙ sym (ap length of.numbered)
      ∙ length-map t.numbers (id_at f.held)

  pub items_within : (from count : ℕ) (items : List ℕ) → IsWindow t.parents from count items
      → AreItemNumbers t items
  items_within from count items w i within =
      let at = in_part w.walk items from count i w.part within in
      let item : ℕ = get_or items i 0 in
      let there : Contains w.walk item =
      (at.0, at.1, get_or_default w.walk at.0 item 0 at.1 ∙ at.2) in
      let less : item < length t.parents = (w.is_walk.items item).1 there in
      subst (λ (k : ℕ). item < k) many less

  -- the lines of the items of a window are those of the walk
  pub lines_are : HasOneWalk → IsSortedWalk → (from count : ℕ) (items : List ℕ)
      → IsWindow t.parents from count items
      → flat_map (walk_line (map (id_at f.held) t.numbers) t.parents) items ≡ walk_text ids
      (parents_of clients f ids) from count
  lines_are one sorted from count items w =
      let ps : List (Option ℕ) = parents_of clients f ids in
      let w' : IsWindow ps from count items =
      subst (λ (x : List (Option ℕ)). IsWindow x from count items) of.parents w in
      let walk_is : w'.walk ≡ walk_of ps =
      one ps w'.walk (walk_of ps) w'.is_walk (sorted ps (replies_earlier clients f ids)) in
      let items_are : items ≡ take count (drop from (walk_of ps)) =
      w'.part ∙ ap (λ (x : List ℕ). take count (drop from x)) walk_is in
      ap (λ (xs : List Id). flat_map (walk_line xs t.parents) items) of.numbered
      ∙ ap (λ (x : List (Option ℕ)). flat_map (walk_line ids x) items) of.parents
      ∙ ap (λ (x : List ℕ). flat_map (walk_line ids ps) x) items_are

-- ---- lines

-- what was appended is said in other words
pub on_lines : {T E : Type 0} (r : Result T E) (old new lines text : List ℕ) → lines ≡ text
    → OnOk r (new ≡ old ++ lines) → OnOk r (new ≡ old ++ text)
on_lines (Ok _) old new lines text same made = made ∙ ap (λ (xs : List ℕ). old ++ xs) same
on_lines (Err _) old new lines text same made = made
