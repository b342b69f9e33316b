-- The edges of each name: what a push of a name or of an edge leaves.
use Rattle.std.proofs.Common.{◌≡◌, ℕ, zero, suc, ◌+◌, ◌<◌, ◌≤◌, true, false, cond, if◌then◌else◌, List, [], ◌∷◌, ◌++◌, length, map, Option, None, Some, slice_get, refl, sym, ap, subst, ◌∙◌, get_or, set, arith, inl, inr, length-append}
use Rattle.std.proofs.lemmas.List.{get_or-set_same, get_or-set_other, get_or_append_left, get_or_push, get_or-map, length-map, map-set, length-set, map-append}
use Rattle.std.proofs.lemmas.Bool.{cases_eq, cases_lt, false_from_ne_true}
use Rattle.std.proofs.lemmas.Option.{get_or_from_slice_get, slice_get_within}
use Rattle.std.specs.Cmp.Lexicographic.{bytes_decides}
use Rattle.message_graph.specs.declared.index.Slot.{Slot}
use Rattle.message_graph.specs.declared.index.Edge.{Edge}
use Rattle.message_graph.specs.Nodes.{same_name}
use Rattle.message_graph.specs.Links.{place_of, holder_at, edge_at, last_before, named, IsLinked}
use Rattle.message_graph.proofs.Positions.{Tells, position_tells, place_pushed, position-push}

pub same_refl : (a : List ℕ) → same_name a a ≡ true
same_refl a = (bytes_decides a a).1 refl

pub same_equal : (a b : List ℕ) → same_name a b ≡ true → a ≡ b
same_equal a b h = (bytes_decides a b).0 h

-- a push changes nothing before it
pub last_before-push : (edges : List (List ℕ × ℕ)) (e : List ℕ × ℕ) (name : List ℕ) (end : ℕ) → end ≤ length edges → last_before (edges ++ e ∷ []) name end ≡ last_before edges name end
last_before-push edges e name zero h = refl
last_before-push edges e name (suc end) h =
    let at : edge_at (edges ++ e ∷ []) end ≡ edge_at edges end = get_or_append_left edges (e ∷ []) ([], 0) end (omega arith) in
    (λ i. if same_name name (at i).0 then Some end else last_before-push edges e name end (omega arith) i)

-- and is the last edge of its name
pub last_before-pushed : (edges : List (List ℕ × ℕ)) (e : List ℕ × ℕ) (name : List ℕ) → last_before (edges ++ e ∷ []) name (suc (length edges)) ≡ (if same_name name e.0 then Some (length edges) else last_before edges name (length edges))
last_before-pushed edges e name =
    let at : edge_at (edges ++ e ∷ []) (length edges) ≡ e = get_or_push edges e ([], 0) (length edges) refl in
    (λ i. if same_name name (at i).0 then Some (length edges) else last_before-push edges e name (length edges) (omega arith) i)

-- without an edge of the name there is no last one
pub last_before_none : (edges : List (List ℕ × ℕ)) (name : List ℕ) (end : ℕ) → ((edge : ℕ) → edge < end → same_name name (edge_at edges edge).0 ≡ false) → last_before edges name end ≡ None
last_before_none edges name zero h = refl
last_before_none edges name (suc end) h =
    ap (λ b. if b then Some end else last_before edges name end) (h end (omega arith))
    ∙ last_before_none edges name end (λ edge l. h edge (omega arith))

abbrev pub name_at : List (List ℕ) → ℕ → List ℕ
name_at names place = get_or names place []

abbrev pub lasts_of : List Slot → List (Option ℕ)
lasts_of slots = map (λ (slot : Slot). slot.last) slots

abbrev pub holders_of : List Slot → List (Option ℕ)
holders_of slots = map (λ (slot : Slot). slot.holder) slots

abbrev pub places_of : List Edge → List ℕ
places_of kept = map (λ (e : Edge). e.place) kept

abbrev pub befores_of : List Edge → List (Option ℕ)
befores_of kept = map (λ (e : Edge). e.before) kept

-- what a slot that was read has
pub slot_last : (slots : List Slot) (place : ℕ) (slot : Slot) → place < length slots → slot ≡ get_or slots place slot → get_or (lasts_of slots) place None ≡ slot.last
slot_last slots place slot within read = get_or-map (λ (s : Slot). s.last) slots place slot None within ∙ sym (ap (λ (s : Slot). s.last) read)

-- a new name leaves the names of the edges
pub named-push : (names : List (List ℕ)) (n : List ℕ) (kept : List Edge) → ((edge : ℕ) → edge < length kept → get_or (places_of kept) edge 0 < length names) → map (named (names ++ n ∷ [])) kept ≡ map (named names) kept
named-push names n [] h = refl
named-push names n (e ∷ kept) h =
    let at : name_at (names ++ n ∷ []) e.place ≡ name_at names e.place = get_or_append_left names (n ∷ []) [] e.place (h 0 (omega arith)) in
    (λ i. (at i, e.waiter) ∷ named-push names n kept (λ edge l. h (suc edge) (omega arith)) i)

-- the name of an edge is that of its place
pub edge_name : (names : List (List ℕ)) (kept : List Edge) (edge : ℕ) → edge < length kept → (edge_at (map (named names) kept) edge).0 ≡ name_at names (get_or (places_of kept) edge 0)
edge_name names [] edge h = absurd (omega arith)
edge_name names (e ∷ kept) zero h = refl
edge_name names (e ∷ kept) (suc edge) h = edge_name names kept edge (omega arith)

module _ (names : List (List ℕ)) (slots : List Slot) (kept : List Edge) (linked : IsLinked names slots kept) where
  edges : List (List ℕ × ℕ)
  edges = map (named names) kept

  -- two places of one name are one
  pub apart_places : (i j : ℕ) → i < length names → j < length names → same_name (name_at names i) (name_at names j) ≡ true → i ≡ j
  apart_places i j hi hj same =
      let e : Some i ≡ Some j = sym (linked.apart i hi) ∙ ap (place_of names) (same_equal _ _ same) ∙ linked.apart j hj in cc

  -- a name at its place
  pub found_name : (name : List ℕ) (place : ℕ) → place_of names name ≡ Some place → (place < length names) × (name ≡ name_at names place)
  found_name name place h =
      let t : Tells (same_name name) names (Some place) = subst (Tells (same_name name) names) h (position_tells (same_name name) names) in
      (t.0, same_equal _ _ (t.1 []))

  -- a name stands at one place
  pub placed_at : (name : List ℕ) (place : ℕ) → slice_get names place ≡ Some name → place_of names name ≡ Some place
  placed_at name place h =
      ap (place_of names) (sym (get_or_from_slice_get names place name [] h)) ∙ linked.apart place (slice_get_within names place name h)

  -- other slots with the same edges
  pub relinked : (others : List Slot) → length others ≡ length slots → lasts_of others ≡ lasts_of slots → IsLinked names others kept
  relinked others len same = record {
    many = len ∙ linked.many;
    apart = linked.apart;
    lasts = λ place h. ap (λ ls. get_or ls place None) same ∙ linked.lasts place h;
    places = linked.places;
    befores = linked.befores;
  }

  -- a name that no place has, with a slot of no edge
  pub linked-push : (name : List ℕ) (slot : Slot) → place_of names name ≡ None → slot.last ≡ None → IsLinked (names ++ name ∷ []) (slots ++ slot ∷ []) kept
  linked-push name slot new none =
      let t : Tells (same_name name) names None = subst (Tells (same_name name) names) new (position_tells (same_name name) names) in
      let es = named-push names name kept linked.places in
      let len : length (names ++ name ∷ []) ≡ length names + 1 = length-append names (name ∷ []) in
      let lasts_are : lasts_of (slots ++ slot ∷ []) ≡ lasts_of slots ++ slot.last ∷ [] = map-append (λ (s : Slot). s.last) slots (slot ∷ []) in
      let lasts_len : length (lasts_of slots) ≡ length names = length-map slots (λ (s : Slot). s.last) ∙ linked.many in
      let no_edge : last_before (map (named names) kept) name (length kept) ≡ None =
      last_before_none (map (named names) kept) name (length kept) (λ edge h. ap (same_name name) (edge_name names kept edge h) ∙ t (get_or (places_of kept) edge 0) [] (linked.places edge h)) in
      record {
        many = length-append slots (slot ∷ []) ∙ (omega (arith, linked.many, len));
        apart = λ place h. elim (cases_lt place (length names)) [
          | inl old ↦ let at : name_at (names ++ name ∷ []) place ≡ name_at names place = get_or_append_left names (name ∷ []) [] place old in
              ap (place_of (names ++ name ∷ [])) at ∙ position-push (same_name (name_at names place)) names name ∙ ap (place_pushed (same_name (name_at names place)) names name) (linked.apart place old)
          | inr last ↦ let is : length names ≡ place = omega (arith, len) in
              let at : name_at (names ++ name ∷ []) place ≡ name = get_or_push names name [] place is in
              ap (place_of (names ++ name ∷ [])) at ∙ position-push (same_name name) names name ∙ ap (place_pushed (same_name name) names name) new
              ∙ ap (λ b. cond b (Some (length names)) None) (same_refl name) ∙ ap Some is
        ];
        lasts = λ place h. elim (cases_lt place (length names)) [
          | inl old ↦ ap (λ ls. get_or ls place None) lasts_are ∙ get_or_append_left (lasts_of slots) (slot.last ∷ []) None place (omega (arith, lasts_len)) ∙ linked.lasts place old
              ∙ sym (λ i. last_before (es i) (get_or_append_left names (name ∷ []) [] place old i) (length kept))
          | inr last ↦ let is : length names ≡ place = omega (arith, len) in
              ap (λ ls. get_or ls place None) lasts_are ∙ get_or_push (lasts_of slots) slot.last None place (lasts_len ∙ is) ∙ none ∙ sym no_edge
              ∙ sym (λ i. last_before (es i) (get_or_push names name [] place is i) (length kept))
        ];
        places = λ edge h. let old : get_or (places_of kept) edge 0 < length names = linked.places edge h in omega (arith, len);
        befores = λ edge h. linked.befores edge h ∙ sym (λ i. last_before (es i) (edge_at (es i) edge).0 edge);
      }

  -- one more edge at a place
  pub linked-wait : (place waiter : ℕ) (slot : Slot) (e : Edge) → place < length names → slot.last ≡ Some (length kept) → e.place ≡ place → e.waiter ≡ waiter → e.before ≡ get_or (lasts_of slots) place None → IsLinked names (set slots place slot) (kept ++ e ∷ [])
  linked-wait place waiter slot e within last ep ew eb =
      let pushed : map (named names) (kept ++ e ∷ []) ≡ map (named names) kept ++ named names e ∷ [] = map-append (named names) kept (e ∷ []) in
      let len : length (kept ++ e ∷ []) ≡ length kept + 1 = length-append kept (e ∷ []) in
      let count : length (kept ++ e ∷ []) ≡ suc (length kept) = omega (arith, len) in
      let elen : length (map (named names) kept) ≡ length kept = length-map kept (named names) in
      let lasts_are : lasts_of (set slots place slot) ≡ set (lasts_of slots) place slot.last = map-set (λ (s : Slot). s.last) slots place slot in
      let lasts_len : length (lasts_of slots) ≡ length names = length-map slots (λ (s : Slot). s.last) ∙ linked.many in
      let ename : (named names e).0 ≡ name_at names place = ap (name_at names) ep in
      let places_are : places_of (kept ++ e ∷ []) ≡ places_of kept ++ e.place ∷ [] = map-append (λ (x : Edge). x.place) kept (e ∷ []) in
      let befores_are : befores_of (kept ++ e ∷ []) ≡ befores_of kept ++ e.before ∷ [] = map-append (λ (x : Edge). x.before) kept (e ∷ []) in
      let plen : length (places_of kept) ≡ length kept = length-map kept (λ (x : Edge). x.place) in
      let blen : length (befores_of kept) ≡ length kept = length-map kept (λ (x : Edge). x.before) in
      let end : (name : List ℕ) → last_before (map (named names) (kept ++ e ∷ [])) name (length (kept ++ e ∷ [])) ≡ (if same_name name (named names e).0 then Some (length kept) else last_before (map (named names) kept) name (length kept)) =
      (λ name. (λ i. last_before (pushed i) name (count i)) ∙ subst (λ n. last_before (map (named names) kept ++ named names e ∷ []) name (suc n) ≡ (if same_name name (named names e).0 then Some n else last_before (map (named names) kept) name n)) elen (last_before-pushed (map (named names) kept) (named names e) name)) in
      record {
        many = length-set slots place slot ∙ linked.many;
        apart = linked.apart;
        lasts = λ other h. elim (cases_eq other place) [
          | inl same ↦ ap (λ ls. get_or ls other None) lasts_are ∙ ap (λ k. get_or (set (lasts_of slots) place slot.last) k None) same ∙ get_or-set_same (lasts_of slots) place slot.last None (omega (arith, lasts_len)) ∙ last
              ∙ sym (end (name_at names other) ∙ ap (λ b. if b then Some (length kept) else last_before (map (named names) kept) (name_at names other) (length kept)) (ap (same_name (name_at names other)) (ename ∙ ap (name_at names) (sym same)) ∙ same_refl (name_at names other)))
          | inr apart ↦ ap (λ ls. get_or ls other None) lasts_are ∙ get_or-set_other (lasts_of slots) place other slot.last None apart ∙ linked.lasts other h
              ∙ sym (end (name_at names other) ∙ ap (λ b. if b then Some (length kept) else last_before (map (named names) kept) (name_at names other) (length kept))
              (false_from_ne_true (same_name (name_at names other) (named names e).0) (λ alike. apart (apart_places other place h within (ap (same_name (name_at names other)) (sym ename) ∙ alike)))))
        ];
        places = λ edge h. elim (cases_lt edge (length kept)) [
          | inl old ↦ subst (λ n. n < length names) (sym (ap (λ ps. get_or ps edge 0) places_are ∙ get_or_append_left (places_of kept) (e.place ∷ []) 0 edge (omega (arith, plen)))) (linked.places edge old)
          | inr at_end ↦ subst (λ n. n < length names) (sym (ap (λ ps. get_or ps edge 0) places_are ∙ get_or_push (places_of kept) e.place 0 edge (omega (arith, plen, len)) ∙ ep)) within
        ];
        befores = λ edge h. elim (cases_lt edge (length kept)) [
          | inl old ↦ ap (λ bs. get_or bs edge None) befores_are ∙ get_or_append_left (befores_of kept) (e.before ∷ []) None edge (omega (arith, blen)) ∙ linked.befores edge old
              ∙ sym ((λ i. last_before (pushed i) (edge_at (pushed i) edge).0 edge)
              ∙ last_before-push (map (named names) kept) (named names e) _ edge (omega (arith, elen))
              ∙ ap (λ (x : List ℕ × ℕ). last_before (map (named names) kept) x.0 edge) (get_or_append_left (map (named names) kept) (named names e ∷ []) ([], 0) edge (omega (arith, elen))))
          | inr at_end ↦ let is : length kept ≡ edge = omega (arith, len) in
              ap (λ bs. get_or bs edge None) befores_are ∙ get_or_push (befores_of kept) e.before None edge (blen ∙ is) ∙ eb ∙ linked.lasts place within
              ∙ sym ((λ i. last_before (pushed i) (edge_at (pushed i) edge).0 edge)
              ∙ last_before-push (map (named names) kept) (named names e) _ edge (omega (arith, elen))
              ∙ ap (λ (x : List ℕ × ℕ). last_before (map (named names) kept) x.0 edge) (get_or_push (map (named names) kept) (named names e) ([], 0) edge (elen ∙ is))
              ∙ (λ i. last_before (map (named names) kept) (ename i) (sym is i)))
        ];
      }

  -- the last edge of a name with a place, and of one without
  pub last_there : (name : List ℕ) (place : ℕ) → place_of names name ≡ Some place → get_or (lasts_of slots) place None ≡ last_before (map (named names) kept) name (length (map (named names) kept))
  last_there name place found =
      let f = found_name name place found in
      linked.lasts place f.0 ∙ sym (λ i. last_before (map (named names) kept) (f.1 i) (length-map kept (named names) i))

  pub last_missing : (name : List ℕ) → place_of names name ≡ None → None ≡ last_before (map (named names) kept) name (length (map (named names) kept))
  last_missing name new =
      let t : Tells (same_name name) names None = subst (Tells (same_name name) names) new (position_tells (same_name name) names) in
      sym (last_before_none (map (named names) kept) name (length (map (named names) kept)) (λ edge h.
      let within : edge < length kept = subst (λ n. edge < n) (length-map kept (named names)) h in
      ap (same_name name) (edge_name names kept edge within) ∙ t (get_or (places_of kept) edge 0) [] (linked.places edge within)))

  -- who holds a name, once a place has a holder
  pub holder-set : (holders : List (Option ℕ)) (name : List ℕ) (place : ℕ) (v : Option ℕ) → length holders ≡ length names → place_of names name ≡ Some place → (other : List ℕ) → holder_at (set holders place v) (place_of names other) ≡ (if same_name other name then v else holder_at holders (place_of names other))
  holder-set holders name place v len found other =
      let f = found_name name place found in
      elim (place_of names other) as (λ o. place_of names other ≡ o → holder_at (set holders place v) o ≡ (if same_name other name then v else holder_at holders o)) [
        | None ↦ λ e. ap (λ b. if b then v else None) (sym (false_from_ne_true (same_name other name) (λ alike. let c : None ≡ Some place = sym e ∙ ap (place_of names) (same_equal other name alike) ∙ found in cc)))
        | (Some t) ↦ λ e.
            let g = found_name other t e in
            elim (cases_eq t place) [
              | inl same ↦ ap (λ k. get_or (set holders place v) k None) same ∙ get_or-set_same holders place v None (omega (arith, len, f.0))
                  ∙ sym (ap (λ b. if b then v else get_or holders t None) (ap (λ n. same_name n name) (g.1 ∙ ap (name_at names) same ∙ sym f.1) ∙ same_refl name))
              | inr apart ↦ get_or-set_other holders place t v None apart
                  ∙ sym (ap (λ b. if b then v else get_or holders t None) (false_from_ne_true (same_name other name) (λ alike. apart (let c : Some t ≡ Some place = sym e ∙ ap (place_of names) (same_equal other name alike) ∙ found in cc))))
            ]
      ] refl

  -- and once a name is pushed that nobody holds
  pub holder-push : (holders : List (Option ℕ)) (name : List ℕ) → length holders ≡ length names → place_of names name ≡ None → (other : List ℕ) → holder_at (holders ++ None ∷ []) (place_of (names ++ name ∷ []) other) ≡ holder_at holders (place_of names other)
  holder-push holders name len new other =
      ap (holder_at (holders ++ None ∷ [])) (position-push (same_name other) names name)
      ∙ elim (place_of names other) as (λ o. place_of names other ≡ o → holder_at (holders ++ None ∷ []) (place_pushed (same_name other) names name o) ≡ holder_at holders o) [
        | None ↦ λ e. elim (same_name other name) as (λ b. holder_at (holders ++ None ∷ []) (cond b (Some (length names)) None) ≡ None) [
          | true ↦ get_or_push holders None None (length names) len
          | false ↦ refl
        ]
        | (Some t) ↦ λ e. get_or_append_left holders (None ∷ []) None t (omega (arith, len, (found_name other t e).0))
      ] refl
