-- What the plain functions find is what the facts say.
use Rattle.std.proofs.Common.{◌≡◌, ℕ, Bool, true, false, cond, ◌&&◌, ◌||◌, nat_eq, List, [], ◌∷◌}
use Rattle.std.proofs.Common.{◌++◌, refl, sym, ◌∙◌, ap, Option, Some, None, is_some, unwrap_or}
use Rattle.std.specs.Option.{option_or}
use Rattle.std.specs.List.{list_any}
use Rattle.std.specs.FinSet as fin_set
use Rattle.std.specs.FinMap as fin_map
use Rattle.std.specs.Cmp.{IsTotalOrder, nat_cmp_total, unsigned_ties, both_tied}
use Rattle.std.specs.Cmp.Lexicographic.{slice_cmp, nat_list_cmp_total, texts_ties}
use Rattle.std.specs.Ordering.{nat_cmp, eq_by_cmp}
use Rattle.std.proofs.lemmas.Cmp.{on_total, then_total}
use Rattle.sync_rules.specs.declared.entries.Entry.{Entry}
use Rattle.sync_rules.specs.declared.entries.Entry.TheVariants as entry
use Rattle.sync_rules.specs.declared.entries.Level.{Level}
use Rattle.sync_rules.specs.declared.entries.Level.TheVariants as level
use Rattle.sync_rules.specs.Clients.{Meaning}
use Rattle.sync_rules.specs.Lists.{same_id, is_among}
use Rattle.sync_rules.specs.Facts.{Facts, Held, Known, Id, Pair, LevelMap, pair_cmp, after}
use Rattle.sync_rules.specs.Facts.{after_all, after_batches, nothing, facts, entries_of, held_at}
use Rattle.sync_rules.specs.Facts.{group_at, level_at, put_level, authored, arrived, kept_as}
use Rattle.sync_rules.specs.Facts.{known_of, contact_of}
use Rattle.sync_rules.specs.Steps.{step, first_step, next, is_beside, is_elsewhere}
use Rattle.sync_rules.specs.EntryTests.{judges, delivers, invalidates}
use Rattle.sync_rules.specs.Scans.{message_at, def_at, is_beside_message, is_elsewhere_message, message_of, def_of, message_named, def_named, first_of_two, first_message, first_message_in, first_def, first_def_in, any_entry, level_then, last_level, last_level_in, step_brought, first_step_of, first_step_in}
use Rattle.sync_rules.proofs.Elements.{any-append}
use Rattle.sync_rules.proofs.Kept.{after_batches-is}
use Rattle.sync_rules.proofs.Flags.{IsScan, scanned, judged_scan, invalid_scan, delivered_scan}

-- ---- what some entry says

any_entry-is : (test : Entry → Bool) (bs : List (List Entry)) → any_entry test bs ≡ list_any test (entries_of bs)
any_entry-is test [] = refl
any_entry-is test (b ∷ bs) =
    either (list_any test b) (any_entry test bs) ∙ (ap (λ x. list_any test b || x) (any_entry-is test bs) ∙ sym (any-append test b (entries_of bs)))
  where
    either : (a b : Bool) → cond a true b ≡ (a || b)
    either true b = refl
    either false b = refl

or-false : (b : Bool) → (b || false) ≡ b
or-false true = refl
or-false false = refl

found : (sets : Entry → Bool) (flag : Facts → Bool) → IsScan sets flag → flag nothing ≡ false → (j : List (List Entry)) → any_entry sets j ≡ flag (facts j)
found sets flag one none j =
    any_entry-is sets j
    ∙ (sym (or-false (list_any sets (entries_of j)))
    ∙ (ap (λ b. list_any sets (entries_of j) || b) (sym none)
    ∙ (sym (scanned sets flag one nothing (entries_of j)) ∙ ap flag (sym (after_batches-is nothing j)))))

pub judged_found : (id : Id) (j : List (List Entry)) → any_entry (judges id) j ≡ fin_set.contains (facts j).judged id
judged_found id j = found (judges id) (λ f. fin_set.contains f.judged id) (judged_scan id) (fin_set.contains-empty (slice_cmp nat_cmp) id) j

pub invalid_found : (id : Id) (j : List (List Entry)) → any_entry (invalidates id) j ≡ fin_set.contains (facts j).invalid id
invalid_found id j = found (invalidates id) (λ f. fin_set.contains f.invalid id) (invalid_scan id) (fin_set.contains-empty (slice_cmp nat_cmp) id) j

pub delivered_found : (id : Id) (j : List (List Entry)) → any_entry (delivers id) j ≡ is_among (facts j).delivered id
delivered_found id j = found (delivers id) (λ f. is_among f.delivered id) (delivered_scan id) refl j

-- ---- the first of its id

held_at-append : (held : List Held) (x : Held) (id : Id)
    → message_at (held_at (held ++ x ∷ []) id) ≡ first_of_two (message_at (held_at held id)) (cond (same_id x.id id) (Some x.message) None)
held_at-append [] x id = elim (same_id x.id id) as (λ b. message_at (cond b (Some x) None) ≡ cond b (Some x.message) None) [ true ↦ refl | false ↦ refl ]
held_at-append (y ∷ held) x id =
    elim (same_id y.id id) as (λ b. message_at (cond b (Some y) (held_at (held ++ x ∷ []) id))
    ≡ first_of_two (message_at (cond b (Some y) (held_at held id))) (cond (same_id x.id id) (Some x.message) None)) [
      | true ↦ refl
      | false ↦ held_at-append held x id
    ]

group_at-append : (groups : List Known) (x : Known) (id : Id)
    → def_at (group_at (groups ++ x ∷ []) id) ≡ first_of_two (def_at (group_at groups id)) (cond (same_id x.id id) (Some x.def) None)
group_at-append [] x id = elim (same_id x.id id) as (λ b. def_at (cond b (Some x) None) ≡ cond b (Some x.def) None) [ true ↦ refl | false ↦ refl ]
group_at-append (y ∷ groups) x id =
    elim (same_id y.id id) as (λ b. def_at (cond b (Some y) (group_at (groups ++ x ∷ []) id))
    ≡ first_of_two (def_at (cond b (Some y) (group_at groups id))) (cond (same_id x.id id) (Some x.def) None)) [
      | true ↦ refl
      | false ↦ group_at-append groups x id
    ]

-- the first of three
module _ {A : Type 0} where
  pub first-none : (a : Option A) → first_of_two a None ≡ a
  first-none None = refl
  first-none (Some x) = refl

  pub first-assoc : (a b c : Option A) → first_of_two (first_of_two a b) c ≡ first_of_two a (first_of_two b c)
  first-assoc None b c = refl
  first-assoc (Some x) b c = refl

held_after_one : (f : Facts) (e : Entry) (id : Id)
    → message_at (held_at (after f e).held id) ≡ first_of_two (message_at (held_at f.held id)) (message_named id (message_of e))
held_after_one f (entry.Author m) id = held_at-append f.held (authored m) id
held_after_one f (entry.Arrive s m) id = held_at-append f.held (arrived (contact_of f.sessions s) m) id
held_after_one f (entry.Kept from m) id = held_at-append f.held (kept_as from m) id
held_after_one f _ id = sym (first-none (message_at (held_at f.held id)))

pub held_after_all : (f : Facts) (es : List Entry) (id : Id)
    → message_at (held_at (after_all f es).held id) ≡ first_of_two (message_at (held_at f.held id)) (first_message id es)
held_after_all f [] id = sym (first-none (message_at (held_at f.held id)))
held_after_all f (e ∷ es) id =
    held_after_all (after f e) es id
    ∙ (ap (λ x. first_of_two x (first_message id es)) (held_after_one f e id)
    ∙ first-assoc (message_at (held_at f.held id)) (message_named id (message_of e)) (first_message id es))

held_after_batches : (f : Facts) (bs : List (List Entry)) (id : Id)
    → message_at (held_at (after_batches f bs).held id) ≡ first_of_two (message_at (held_at f.held id)) (first_message_in id bs)
held_after_batches f [] id = sym (first-none (message_at (held_at f.held id)))
held_after_batches f (b ∷ bs) id =
    held_after_batches (after_all f b) bs id
    ∙ (ap (λ x. first_of_two x (first_message_in id bs)) (held_after_all f b id)
    ∙ first-assoc (message_at (held_at f.held id)) (first_message id b) (first_message_in id bs))

pub held_found : (id : Id) (j : List (List Entry)) → first_message_in id j ≡ message_at (held_at (facts j).held id)
held_found id j = sym (held_after_batches nothing j id)

group_after_one : (f : Facts) (e : Entry) (id : Id)
    → def_at (group_at (after f e).groups id) ≡ first_of_two (def_at (group_at f.groups id)) (def_named id (def_of e))
group_after_one f (entry.Group def) id = group_at-append f.groups (known_of def) id
group_after_one f _ id = sym (first-none (def_at (group_at f.groups id)))

group_after_all : (f : Facts) (es : List Entry) (id : Id)
    → def_at (group_at (after_all f es).groups id) ≡ first_of_two (def_at (group_at f.groups id)) (first_def id es)
group_after_all f [] id = sym (first-none (def_at (group_at f.groups id)))
group_after_all f (e ∷ es) id =
    group_after_all (after f e) es id
    ∙ (ap (λ x. first_of_two x (first_def id es)) (group_after_one f e id)
    ∙ first-assoc (def_at (group_at f.groups id)) (def_named id (def_of e)) (first_def id es))

group_after_batches : (f : Facts) (bs : List (List Entry)) (id : Id)
    → def_at (group_at (after_batches f bs).groups id) ≡ first_of_two (def_at (group_at f.groups id)) (first_def_in id bs)
group_after_batches f [] id = sym (first-none (def_at (group_at f.groups id)))
group_after_batches f (b ∷ bs) id =
    group_after_batches (after_all f b) bs id
    ∙ (ap (λ x. first_of_two x (first_def_in id bs)) (group_after_all f b id)
    ∙ first-assoc (def_at (group_at f.groups id)) (first_def id b) (first_def_in id bs))

pub group_found : (id : Id) (j : List (List Entry)) → first_def_in id j ≡ def_at (group_at (facts j).groups id)
group_found id j = sym (group_after_batches nothing j id)

-- ---- levels

pub pair_total : IsTotalOrder pair_cmp
pair_total = then_total (on_total (λ (p : Pair). p.0) nat_cmp_total) (on_total (λ (p : Pair). p.1) nat_list_cmp_total)

pub pair_tied : (a b : ℕ) (x y : Id) → eq_by_cmp pair_cmp (a, x) (b, y) ≡ (nat_eq a b && same_id x y)
pair_tied a b x y = sym (both_tied (nat_eq a b) (same_id x y) (nat_cmp a b) (slice_cmp nat_cmp x y) (unsigned_ties a b) (texts_ties x y))

level_chosen : (b : Bool) (x : Level) (o : Option Level)
    → unwrap_or (cond b (Some x) o) level.Invisible ≡ cond b x (unwrap_or o level.Invisible)
level_chosen true x o = refl
level_chosen false x o = refl

level_dropped : (b : Bool) (o : Option Level) → unwrap_or (cond b None o) level.Invisible
    ≡ cond b level.Invisible (unwrap_or o level.Invisible)
level_dropped true o = refl
level_dropped false o = refl

level_put : (levels : LevelMap) (contact c : ℕ) (group g : Id) (l : Level)
    → level_at (fin_map.insert levels (c, g) l) contact group ≡ cond (nat_eq contact c && same_id group g) l (level_at levels contact group)
level_put levels contact c group g l =
    ap (λ (o : Option Level). unwrap_or o level.Invisible)
    (fin_map.get-insert pair_total levels (c, g) l (contact, group))
    ∙ (level_chosen (eq_by_cmp pair_cmp (contact, group) (c, g)) l (fin_map.get levels (contact, group))
    ∙ ap (λ b. cond b l (level_at levels contact group)) (pair_tied contact c group g))

-- what setting a level does to the level of a pair
pub level_at_set : (levels : LevelMap) (contact c : ℕ) (group g : Id) (l : Level)
    → level_at (put_level levels (c, g) l) contact group ≡ cond (nat_eq contact c && same_id group g) l (level_at levels contact group)
level_at_set levels contact c group g level.Invisible =
    ap (λ (o : Option Level). unwrap_or o level.Invisible)
    (fin_map.get-remove pair_total levels (c, g) (contact, group))
    ∙ (level_dropped (eq_by_cmp pair_cmp (contact, group) (c, g)) (fin_map.get levels (contact, group))
    ∙ ap (λ b. cond b level.Invisible (level_at levels contact group)) (pair_tied contact c group g))
level_at_set levels contact c group g level.Visible = level_put levels contact c group g level.Visible
level_at_set levels contact c group g level.Shared = level_put levels contact c group g level.Shared

level_after_one : (f : Facts) (e : Entry) (contact : ℕ) (group : Id)
    → level_at (after f e).levels contact group ≡ level_then contact group (level_at f.levels contact group) e
level_after_one f (entry.Level c g l) contact group = level_at_set f.levels contact c group g l
level_after_one f _ contact group = refl

level_after_all : (f : Facts) (es : List Entry) (contact : ℕ) (group : Id)
    → level_at (after_all f es).levels contact group ≡ last_level contact group (level_at f.levels contact group) es
level_after_all f [] contact group = refl
level_after_all f (e ∷ es) contact group =
    level_after_all (after f e) es contact group ∙ ap (λ l. last_level contact group l es) (level_after_one f e contact group)

level_after_batches : (f : Facts) (bs : List (List Entry)) (contact : ℕ) (group : Id)
    → level_at (after_batches f bs).levels contact group ≡ last_level_in contact group (level_at f.levels contact group) bs
level_after_batches f [] contact group = refl
level_after_batches f (b ∷ bs) contact group =
    level_after_batches (after_all f b) bs contact group ∙ ap (λ l. last_level_in contact group l bs) (level_after_all f b contact group)

pub level_found : (contact : ℕ) (group : Id) (j : List (List Entry)) → last_level_in contact group level.Invisible j ≡ level_at (facts j).levels contact group
level_found contact group j =
    ap (λ l. last_level_in contact group l j)
    (sym (ap (λ (o : Option Level). unwrap_or o level.Invisible)
    (fin_map.get-empty pair_cmp (contact, group))))
    ∙ sym (level_after_batches nothing j contact group)

-- ---- the next step

module _ (clients : Meaning) (f : Facts) where
  next-none : (a : Option Entry) → option_or a None ≡ a
  next-none None = refl
  next-none (Some e) = refl

  next-assoc : (a b c : Option Entry) → option_or (option_or a b) c ≡ option_or a (option_or b c)
  next-assoc None b c = refl
  next-assoc (Some e) b c = refl

  first_step-push : (hs : List Held) (x : Held) → first_step clients f (hs ++ x ∷ [])
      ≡ option_or (first_step clients f hs) (step clients f x)
  first_step-push [] x = next-none (step clients f x)
  first_step-push (h ∷ hs) x =
      ap (option_or (step clients f h)) (first_step-push hs x)
      ∙ sym (next-assoc (step clients f h) (first_step clients f hs) (step clients f x))

  steps_after_one : (g : Facts) (e : Entry) → first_step clients f (after g e).held
      ≡ option_or (first_step clients f g.held) (step_brought clients f (message_of e))
  steps_after_one g (entry.Author m) = first_step-push g.held (authored m)
  steps_after_one g (entry.Arrive s m) = first_step-push g.held (arrived (contact_of g.sessions s) m)
  steps_after_one g (entry.Kept from m) = first_step-push g.held (kept_as from m)
  steps_after_one g _ = sym (next-none (first_step clients f g.held))

  steps_after_all : (g : Facts) (es : List Entry) → first_step clients f (after_all g es).held
      ≡ option_or (first_step clients f g.held) (first_step_of clients f es)
  steps_after_all g [] = sym (next-none (first_step clients f g.held))
  steps_after_all g (e ∷ es) =
      steps_after_all (after g e) es
      ∙ (ap (λ x. option_or x (first_step_of clients f es)) (steps_after_one g e)
      ∙ next-assoc (first_step clients f g.held) (step_brought clients f (message_of e)) (first_step_of clients f es))

  pub steps_after_batches : (g : Facts) (bs : List (List Entry))
      → first_step clients f (after_batches g bs).held ≡ option_or (first_step clients f g.held)
      (first_step_in clients f bs)
  steps_after_batches g [] = sym (next-none (first_step clients f g.held))
  steps_after_batches g (b ∷ bs) =
      steps_after_batches (after_all g b) bs
      ∙ (ap (λ x. option_or x (first_step_in clients f bs)) (steps_after_all g b)
      ∙ next-assoc (first_step clients f g.held) (first_step_of clients f b) (first_step_in clients f bs))

pub next_found : (clients : Meaning) (j : List (List Entry)) → first_step_in clients (facts j) j ≡ next clients (facts j)
next_found clients j = sym (steps_after_batches clients (facts j) nothing j)

-- ---- look-ups by what they find

pub beside_found : (group : Id) (o : Option Held) → is_beside_message group (message_at o) ≡ is_beside group o
beside_found group None = refl
beside_found group (Some h) = refl

pub elsewhere_found : (group : Id) (o : Option Held) → is_elsewhere_message group (message_at o) ≡ is_elsewhere group o
elsewhere_found group None = refl
elsewhere_found group (Some h) = refl

pub some_found : (o : Option Held) → is_some (message_at o) ≡ is_some o
some_found None = refl
some_found (Some h) = refl
