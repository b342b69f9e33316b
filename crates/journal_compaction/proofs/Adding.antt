-- Items put behind others, and the entries that they stand for.
use Rattle.std.proofs.Common.{◌≡◌, ℕ, zero, suc, ◌+◌, ◌<◌, Bool, true, false, cond, List, [], ◌∷◌}
use Rattle.std.proofs.Common.{◌++◌, length, map}
use Rattle.std.proofs.Common.{take, refl, sym, ◌∙◌, ap, subst, append_assoc, append-nil, Some}
use Rattle.std.specs.Prelude.{not, slice_get}
use Rattle.std.specs.Option.{option_map}
use Rattle.std.proofs.lemmas.List.{map-append, take_more}
use Rattle.std.proofs.lemmas.Option.{get_or_from_slice_get, slice_get-map, slice_get_within}
use Rattle.sync_rules.specs.declared.entries.Entry.{Entry}
use Rattle.sync_rules.specs.declared.entries.Entry.TheVariants as entry
use Rattle.sync_rules.specs.declared.entries.Level.{Level}
use Rattle.sync_rules.specs.declared.entries.Level.TheVariants as level
use Rattle.sync_rules.specs.Facts.{Facts, Held, Id, Known, LevelMap, Rows, is_invisible, is_no_row}
use Rattle.sync_rules.specs.Facts.{level_at, row_at}
use Rattle.sync_rules.specs.Facts.{wanted_from}
use Rattle.brief_account.specs.Brief.{group_entries, level_entry, levels_of, row_entries, row_entry}
use Rattle.brief_account.specs.Brief.{want_entries}
use Rattle.entry_codec.proofs.Growing.{all_push}
use Rattle.journal_state.specs.declared.account.Told.{Told}
use Rattle.journal_state.specs.declared.account.Told.TheVariants as told
use Rattle.journal_state.specs.Whole as state
use Rattle.journal_state.specs.Telling.{TellsWithin, no_message, told_entries, told_entry}
use Rattle.journal_state.specs.Telling.{told_number}
use Rattle.journal_compaction.specs.declared.items.Item.{Item}
use Rattle.journal_compaction.specs.declared.items.Item.TheVariants as item
use Rattle.journal_compaction.specs.Items.{AddsItems, AreItems, IsItem, entry_of, group_entry}
use Rattle.journal_compaction.specs.Items.{id_at, id_of, is_alone}
use Rattle.journal_compaction.specs.Items.{is_peer, is_told, is_visible, item_told, kept_entry}
use Rattle.journal_compaction.specs.Items.{want_entry}
use Rattle.journal_compaction.specs.Items as items_of
use Rattle.journal_compaction.proofs.Sections.{there}

module _ (f : Facts) (of : Item → Bool) where
  pub adds_none : (old : List Item) → AddsItems f of old old []
  adds_none old = record {
    more = [];
    is = sym (append-nil old);
    are = record { means = refl; there = tt; kinds = tt };
  }

  -- an item more
  pub adds_one : (old new : List Item) (i : Item) (es : List Entry) → AddsItems f of old new es
      → IsItem f i
      → of i ≡ true
      → AddsItems f of old (new ++ i ∷ []) (es ++ entry_of f i ∷ [])
  adds_one old new i es adds there_is kind_is = record {
    more = adds.more ++ i ∷ [];
    is = ap (λ (l : List Item). l ++ i ∷ []) adds.is ∙ append_assoc old adds.more (i ∷ []);
    are = record {
      means = map-append (entry_of f) adds.more (i ∷ [])
          ∙ ap (λ (l : List Entry). l ++ entry_of f i ∷ []) adds.are.means;
      there = all_push (IsItem f) adds.more i adds.are.there there_is;
      kinds = all_push (λ k. of k ≡ true) adds.more i adds.are.kinds kind_is;
    };
  }

  -- the same in other words
  pub adds_as : (old new new' : List Item) (es es' : List Entry) → new' ≡ new → es' ≡ es
      → AddsItems f of old new es
      → AddsItems f of old new' es'
  adds_as old new new' es es' same alike adds =
      subst (λ (l : List Item). AddsItems f of old l es') (sym same)
      (subst (λ (l : List Entry). AddsItems f of old new l) (sym alike) adds)

  pub adds_all : (items : List Item) (es : List Entry) → AddsItems f of [] items es
      → AreItems f of items es
  adds_all items es adds = subst (λ (l : List Item). AreItems f of l es) (sym adds.is) adds.are

-- ---- one element more

take_next : {A : Type 0} (xs : List A) (n : ℕ) (x : A) → slice_get xs n ≡ Some x
    → take (n + 1) xs ≡ take n xs ++ x ∷ []
take_next xs n x e = take_more xs n x (slice_get_within xs n x e)
    ∙ ap (λ y. take n xs ++ y ∷ []) (get_or_from_slice_get xs n x x e)

-- ---- groups

group_push : (gs : List Known) (g : Known) → group_entries
    (gs ++ g ∷ []) ≡ group_entries gs ++ entry.Group g.def ∷ []
group_push [] g = refl
group_push (x ∷ gs) g = ap (λ (es : List Entry). entry.Group x.def ∷ es) (group_push gs g)

pub group_more : (f : Facts) (old new new' : List Item) (n : ℕ) → n < length f.groups
    → new' ≡ new ++ item.Group n ∷ []
    → AddsItems f is_alone old new (group_entries (take n f.groups))
    → AddsItems f is_alone old new' (group_entries (take (n + 1) f.groups))
group_more f old new new' n few is adds =
    let g = there f.groups n few in
    let one : entry_of f (item.Group n) ≡ entry.Group g.0.def = ap group_entry g.1 in
    let all : group_entries (take (n + 1) f.groups)
    ≡ group_entries (take n f.groups) ++ entry_of f (item.Group n) ∷ [] =
    ap group_entries (take_next f.groups n g.0 g.1) ∙ group_push (take n f.groups) g.0
    ∙ ap (λ (e : Entry). group_entries (take n f.groups) ++ e ∷ []) (sym one) in
    adds_as f is_alone old (new ++ item.Group n ∷ []) new'
    (group_entries (take n f.groups) ++ entry_of f (item.Group n) ∷ [])
    (group_entries (take (n + 1) f.groups)) is
    all
    (adds_one f is_alone old new (item.Group n) (group_entries (take n f.groups)) adds few refl)

-- ---- levels

level_push : (levels : LevelMap) (contact : ℕ) (gs : List Known) (g : Known)
    → levels_of levels contact (gs ++ g ∷ [])
    ≡ levels_of levels contact gs ++ level_entry contact g.id (level_at levels contact g.id)
level_push levels contact [] g =
    append-nil (level_entry contact g.id (level_at levels contact g.id))
level_push levels contact (x ∷ gs) g =
    let here = level_entry contact x.id (level_at levels contact x.id) in
    ap (λ (es : List Entry). here ++ es) (level_push levels contact gs g)
    ∙ sym (append_assoc here (levels_of levels contact gs)
    (level_entry contact g.id (level_at levels contact g.id)))

level_seen : (contact : ℕ) (group : Id) (l : Level) → not (is_invisible l) ≡ true
    → level_entry contact group l ≡ entry.Level contact group l ∷ []
level_seen contact group level.Invisible seen = cc
level_seen contact group level.Visible seen = refl
level_seen contact group level.Shared seen = refl

level_unseen : (contact : ℕ) (group : Id) (l : Level) → not (is_invisible l) ≡ false
    → level_entry contact group l ≡ []
level_unseen contact group level.Invisible seen = refl
level_unseen contact group level.Visible seen = cc
level_unseen contact group level.Shared seen = cc

module _ (f : Facts) (contact : ℕ) (old new new' : List Item) (n : ℕ) (few : n < length f.groups)
    (adds : AddsItems f is_alone old new (levels_of f.levels contact (take n f.groups))) where
  levels_next : levels_of f.levels contact (take (n + 1) f.groups)
      ≡ levels_of f.levels contact (take n f.groups)
      ++ level_entry contact (there f.groups n few).0.id
      (level_at f.levels contact (there f.groups n few).0.id)
  levels_next =
      let g = there f.groups n few in
      ap (levels_of f.levels contact) (take_next f.groups n g.0 g.1)
      ∙ level_push f.levels contact (take n f.groups) g.0

  pub level_more : is_visible f contact (slice_get f.groups n) ≡ true
      → new' ≡ new ++ item.Level contact n ∷ []
      → AddsItems f is_alone old new' (levels_of f.levels contact (take (n + 1) f.groups))
  level_more seen is =
      let g = there f.groups n few in
      let before = levels_of f.levels contact (take n f.groups) in
      let l = level_at f.levels contact g.0.id in
      let seen_so : not (is_invisible l) ≡ true = sym (ap (is_visible f contact) g.1) ∙ seen in
      let one : entry_of f (item.Level contact n) ≡ entry.Level contact g.0.id l =
      ap (items_of.level_entry f contact) g.1 in
      let all : levels_of f.levels contact (take (n + 1) f.groups)
      ≡ before ++ entry_of f (item.Level contact n) ∷ [] =
      levels_next
      ∙ ap (λ (es : List Entry). before ++ es) (level_seen contact g.0.id l seen_so
      ∙ ap (λ (e : Entry). e ∷ []) (sym one)) in
      adds_as f is_alone old (new ++ item.Level contact n ∷ []) new'
      (before ++ entry_of f (item.Level contact n) ∷ [])
      (levels_of f.levels contact (take (n + 1) f.groups)) is
      all
      (adds_one f is_alone old new (item.Level contact n) before adds few refl)

  pub level_none : is_visible f contact (slice_get f.groups n) ≡ false → new' ≡ new
      → AddsItems f is_alone old new' (levels_of f.levels contact (take (n + 1) f.groups))
  level_none unseen is =
      let g = there f.groups n few in
      let before = levels_of f.levels contact (take n f.groups) in
      let l = level_at f.levels contact g.0.id in
      let unseen_so : not (is_invisible l) ≡ false = sym (ap (is_visible f contact) g.1) ∙ unseen in
      adds_as f is_alone old new new' before (levels_of f.levels contact (take (n + 1) f.groups)) is
      (levels_next ∙ ap (λ (es : List Entry). before ++ es)
      (level_unseen contact g.0.id l unseen_so)
      ∙ append-nil before) adds

-- ---- what is told of the messages

id_same : (held : List Held) (n : ℕ) (h : Held) → slice_get held n ≡ Some h
    → id_of (slice_get held n) ≡ state.id_at held n
id_same held n h e =
    let id : slice_get (map (λ (x : Held). x.id) held) n ≡ Some h.id =
    slice_get-map (λ (x : Held). x.id) held n
    ∙ ap (option_map (λ (x : Held). x.id)) e in
    ap id_of e ∙ sym (get_or_from_slice_get (map (λ (x : Held). x.id) held) n h.id [] id)

pub entry_told : (f : Facts) (t : Told) → told_number t < length f.held → entry_of f
    (item_told t) ≡ told_entry f.held t
entry_told f (told.Kept n) few =
    let h = there f.held n few in
    ap kept_entry h.1
    ∙ ap (λ (x : Held). entry.Kept x.origin x.message)
    (sym (get_or_from_slice_get f.held n h.0 no_message h.1))
entry_told f (told.Judged n) few = let h = there f.held n few in
    ap (λ (id : Id). entry.Judged id) (id_same f.held n h.0 h.1)
entry_told f (told.Deliver n) few = let h = there f.held n few in
    ap (λ (id : Id). entry.Deliver id) (id_same f.held n h.0 h.1)
entry_told f (told.Invalid n) few = let h = there f.held n few in
    ap (λ (id : Id). entry.Invalid id) (id_same f.held n h.0 h.1)

told_there : (f : Facts) (t : Told) → told_number t < length f.held → IsItem f (item_told t)
told_there f (told.Kept n) few = few
told_there f (told.Judged n) few = few
told_there f (told.Deliver n) few = few
told_there f (told.Invalid n) few = few

told_kind : (t : Told) → is_told (item_told t) ≡ true
told_kind (told.Kept n) = refl
told_kind (told.Judged n) = refl
told_kind (told.Deliver n) = refl
told_kind (told.Invalid n) = refl

one_within : (most : ℕ) (ts : List Told) (n : ℕ) (t : Told) → TellsWithin most ts
    → slice_get ts n ≡ Some t
    → told_number t < most
one_within most [] n t within e = cc
one_within most (x ∷ ts) zero t within e = let same : x ≡ t = cc in
    subst (λ (y : Told). told_number y < most) same within.0
one_within most (x ∷ ts) (suc n) t within e = one_within most ts n t within.1 e

pub told_more : (f : Facts) (ts : List Told) (old new new' : List Item) (n : ℕ) (t : Told)
    → slice_get ts n ≡ Some t
    → TellsWithin (length f.held) ts
    → new' ≡ new ++ item_told t ∷ [] → AddsItems f is_told old new (told_entries f.held (take n ts))
    → AddsItems f is_told old new' (told_entries f.held (take (n + 1) ts))
told_more f ts old new new' n t e within is adds =
    let few = one_within (length f.held) ts n t within e in
    let before = told_entries f.held (take n ts) in
    let all : told_entries f.held (take (n + 1) ts) ≡ before ++ entry_of f (item_told t) ∷ [] =
    ap (told_entries f.held) (take_next ts n t e)
    ∙ map-append (told_entry f.held) (take n ts) (t ∷ [])
    ∙ ap (λ (x : Entry). before ++ x ∷ []) (sym (entry_told f t few)) in
    adds_as f is_told old (new ++ item_told t ∷ []) new' (before ++ entry_of f (item_told t) ∷ [])
    (told_entries f.held (take (n + 1) ts)) is all
    (adds_one f is_told old new (item_told t) before adds (told_there f t few) (told_kind t))

-- ---- rows

row_push : (rows : Rows) (contact : ℕ) (hs : List Held) (h : Held)
    → row_entries rows contact (hs ++ h ∷ [])
    ≡ row_entries rows contact hs ++ row_entry contact h.id (row_at rows contact h.id)
row_push rows contact [] h = append-nil (row_entry contact h.id (row_at rows contact h.id))
row_push rows contact (x ∷ hs) h =
    let here = row_entry contact x.id (row_at rows contact x.id) in
    ap (λ (es : List Entry). here ++ es) (row_push rows contact hs h)
    ∙ sym (append_assoc here (row_entries rows contact hs)
    (row_entry contact h.id (row_at rows contact h.id)))

not_back : (b c : Bool) → not b ≡ not c → b ≡ c
not_back true true e = refl
not_back true false e = cc
not_back false true e = cc
not_back false false e = refl

module _ (f : Facts) (contact : ℕ) (old new new' : List Item) (n : ℕ) (few : n < length f.held)
    (adds : AddsItems f is_peer old new (row_entries f.rows contact (take n f.held))) where
  abbrev none_kept : Bool
  none_kept = is_no_row (row_at f.rows contact (id_at f n))

  rows_next : row_entries f.rows contact (take (n + 1) f.held)
      ≡ row_entries f.rows contact (take n f.held)
      ++ row_entry contact (id_at f n) (row_at f.rows contact (id_at f n))
  rows_next =
      let h = there f.held n few in
      let named : h.0.id ≡ id_at f n = sym (ap id_of h.1) in
      ap (row_entries f.rows contact) (take_next f.held n h.0 h.1)
      ∙ row_push f.rows contact (take n f.held) h.0
      ∙ ap (λ (id : Id). row_entries f.rows contact (take n f.held)
      ++ row_entry contact id (row_at f.rows contact id)) named

  pub row_more : not none_kept ≡ true → new' ≡ new ++ item.Row contact n ∷ []
      → AddsItems f is_peer old new' (row_entries f.rows contact (take (n + 1) f.held))
  row_more some is =
      let before = row_entries f.rows contact (take n f.held) in
      let kept : none_kept ≡ false = not_back none_kept false some in
      let all : row_entries f.rows contact (take (n + 1) f.held)
      ≡ before ++ entry_of f (item.Row contact n) ∷ [] =
      rows_next ∙ ap (λ b. before ++ cond b [] (entry_of f (item.Row contact n) ∷ [])) kept in
      adds_as f is_peer old (new ++ item.Row contact n ∷ []) new'
      (before ++ entry_of f (item.Row contact n) ∷ [])
      (row_entries f.rows contact (take (n + 1) f.held)) is all
      (adds_one f is_peer old new (item.Row contact n) before adds (few, kept) refl)

  pub row_none : not none_kept ≡ false → new' ≡ new
      → AddsItems f is_peer old new' (row_entries f.rows contact (take (n + 1) f.held))
  row_none none is =
      let before = row_entries f.rows contact (take n f.held) in
      let gone : none_kept ≡ true = not_back none_kept true none in
      adds_as f is_peer old new new' before (row_entries f.rows contact (take (n + 1) f.held)) is
      (rows_next ∙ ap (λ b. before ++ cond b [] (entry_of f (item.Row contact n) ∷ [])) gone
      ∙ append-nil before) adds

-- ---- wanted ids

want_push : (contact : ℕ) (ids : List Id) (id : Id)
    → want_entries contact (ids ++ id ∷ []) ≡ want_entries contact ids ++ entry.Want contact id ∷ []
want_push contact [] id = refl
want_push contact (x ∷ ids) id =
    ap (λ (es : List Entry). entry.Want contact x ∷ es) (want_push contact ids id)

pub want_more : (f : Facts) (contact : ℕ) (old new new' : List Item) (n : ℕ)
    → n < length (wanted_from f.wanted contact) → new' ≡ new ++ item.Want contact n ∷ []
    → AddsItems f is_peer old new (want_entries contact (take n (wanted_from f.wanted contact)))
    → AddsItems f is_peer old new'
    (want_entries contact (take (n + 1) (wanted_from f.wanted contact)))
want_more f contact old new new' n few is adds =
    let ids = wanted_from f.wanted contact in
    let id = there ids n few in
    let before = want_entries contact (take n ids) in
    let one : entry_of f (item.Want contact n) ≡ entry.Want contact id.0 =
    ap (want_entry contact) id.1 in
    let all : want_entries contact (take (n + 1) ids) ≡ before ++ entry_of f (item.Want contact n)
    ∷ [] =
    ap (want_entries contact) (take_next ids n id.0 id.1) ∙ want_push contact (take n ids) id.0
    ∙ ap (λ (e : Entry). before ++ e ∷ []) (sym one) in
    adds_as f is_peer old (new ++ item.Want contact n ∷ []) new'
    (before ++ entry_of f (item.Want contact n) ∷ [])
    (want_entries contact (take (n + 1) ids)) is all
    (adds_one f is_peer old new (item.Want contact n) before adds few refl)
