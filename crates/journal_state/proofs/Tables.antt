-- Changes of the table of what is due: look-ups, and room.
use Rattle.std.proofs.Common.{◌≡◌, ℕ, zero, suc, ◌+◌, ◌-◌, ◌<◌, ◌≤◌, max, Bool, true, false, nat_eq, List, [], ◌∷◌, ◌++◌, Option, None, length, map, set, replicate, slice_index_or, refl, sym, ◌∙◌, ap, subst, arith, eqb-true, length-append, Result, Ok, Err, OnOk, OnErr}
use Rattle.std.proofs.lemmas.Bool.{false≢true}
use Rattle.std.proofs.lemmas.List.{length-set, length-replicate}
use Rattle.retry_table.specs.Table as retry
use Rattle.journal_state.specs.Room.{KeepsRoom, room_in, rows_room, wants_room}
use Rattle.journal_state.specs.Taking.{SpendsRoom}

eq_self : (n : ℕ) → nat_eq n n ≡ true
eq_self n = grind arith

-- two numbers are one or not
pub either : {P : Type 0} (a b : ℕ) → (a ≡ b → P) → ((a ≡ b → ⊥) → P) → P
either {P} a b same apart = by (nat_eq a b) refl
  where
    by : (x : Bool) → nat_eq a b ≡ x → P
    by true e = same (eqb-true a b e)
    by false e = apart (λ q. false≢true (sym e ∙ (ap (nat_eq a) (sym q) ∙ eq_self a)))

-- ---- lists

pub set_here : {A : Type 0} (xs : List A) (n : ℕ) (v d : A) → n < length xs → slice_index_or (set xs n v) n d ≡ v
set_here [] n v d within = absurd (omega arith)
set_here (x ∷ xs) zero v d within = refl
set_here (x ∷ xs) (suc n) v d within = set_here xs n v d (omega arith)

pub set_there : {A : Type 0} (xs : List A) (n m : ℕ) (v d : A) → (m ≡ n → ⊥) → slice_index_or (set xs n v) m d ≡ slice_index_or xs m d
set_there [] n m v d apart = refl
set_there (x ∷ xs) zero zero v d apart = absurd (apart refl)
set_there (x ∷ xs) zero (suc m) v d apart = refl
set_there (x ∷ xs) (suc n) zero v d apart = refl
set_there (x ∷ xs) (suc n) (suc m) v d apart = set_there xs n m v d (λ e. apart (ap suc e))

none_more : {A : Type 0} (d : A) (k n : ℕ) → slice_index_or (replicate k d) n d ≡ d
none_more d zero n = refl
none_more d (suc k) zero = refl
none_more d (suc k) (suc n) = none_more d k n

pub padded : {A : Type 0} (xs : List A) (d : A) (k n : ℕ) → slice_index_or (xs ++ replicate k d) n d ≡ slice_index_or xs n d
padded [] d k n = none_more d k n
padded (x ∷ xs) d k zero = refl
padded (x ∷ xs) d k (suc n) = padded xs d k n

pub at_map : {A B : Type 0} (f : A → B) (xs : List A) (n : ℕ) (d : A) → slice_index_or (map f xs) n (f d) ≡ f (slice_index_or xs n d)
at_map f [] n d = refl
at_map f (x ∷ xs) zero d = refl
at_map f (x ∷ xs) (suc n) d = at_map f xs n d

-- ---- room

pub rows_room_is : (space : ℕ) (table : retry.Table) (contact : ℕ) → rows_room (room_in space table) contact ≡ length (retry.rows_of table contact)
rows_room_is space table contact = at_map (λ (ks : List retry.KeptRow). length ks) table.rows contact []

pub wants_room_is : (space : ℕ) (table : retry.Table) (contact : ℕ) → wants_room (room_in space table) contact ≡ (retry.wants_of table contact).room
wants_room_is space table contact = at_map (λ (w : retry.WantedFromContact). w.room) table.wants contact retry.no_wants

-- ---- the same rows and wanted ids

pub record SameKept (old new : retry.Table) : Type 0 where
  pub rows : (contact n : ℕ) → retry.kept_at new contact n ≡ retry.kept_at old contact n
  pub wants : (contact : ℕ) → (retry.wants_of new contact).ids ≡ (retry.wants_of old contact).ids
  pub groups : (n : ℕ) → retry.group_at new n ≡ retry.group_at old n

module _ (old new : retry.Table) (contact numbers room : ℕ) (r : retry.ReservesRows old new contact numbers room) where
  pub same_reserved : SameKept old new
  same_reserved = record {
    rows = λ c n. either c contact
        (λ e. ap (λ x. retry.kept_at new x n) e
        ∙ (ap (λ (ks : List retry.KeptRow). retry.kept_in ks n) r.rows
        ∙ (padded (retry.rows_of old contact) retry.no_kept (numbers - length (retry.rows_of old contact)) n ∙ ap (λ x. retry.kept_at old x n) (sym e))))
        (λ apart. ap (λ (ks : List retry.KeptRow). retry.kept_in ks n) (r.other_rows c apart));
    wants = λ c. either c contact
        (λ e. ap (λ x. (retry.wants_of new x).ids) e ∙ (ap (λ (w : retry.WantedFromContact). w.ids) r.wants ∙ ap (λ x. (retry.wants_of old x).ids) (sym e)))
        (λ apart. ap (λ (w : retry.WantedFromContact). w.ids) (r.other_wants c apart));
    groups = λ n. ap (λ (gs : List (Option ℕ)). slice_index_or gs n None) r.groups;
  }

  reserved_length : length (retry.rows_of new contact) ≡ length (retry.rows_of old contact) + (numbers - length (retry.rows_of old contact))
  reserved_length =
      ap (λ (ks : List retry.KeptRow). length ks) r.rows
      ∙ (length-append (retry.rows_of old contact) (replicate (numbers - length (retry.rows_of old contact)) retry.no_kept)
      ∙ ap (λ n. length (retry.rows_of old contact) + n) (length-replicate (numbers - length (retry.rows_of old contact)) retry.no_kept))

  pub reserved_rows : numbers ≤ length (retry.rows_of new contact)
  reserved_rows = omega (arith, reserved_length)

  pub reserved_wants : room ≤ (retry.wants_of new contact).room
  reserved_wants = let e : (retry.wants_of new contact).room ≡ max (retry.wants_of old contact).room room = ap (λ (w : retry.WantedFromContact). w.room) r.wants in omega (arith, e)

  pub more_rows : (c : ℕ) → length (retry.rows_of old c) ≤ length (retry.rows_of new c)
  more_rows c = either c contact
      (λ e. subst (λ x. length (retry.rows_of old x) ≤ length (retry.rows_of new x)) (sym e) (let l = reserved_length in omega (arith, l)))
      (λ apart. let e = ap (λ (ks : List retry.KeptRow). length ks) (r.other_rows c apart) in omega (arith, e))

  pub more_wants : (c : ℕ) → (retry.wants_of old c).room ≤ (retry.wants_of new c).room
  more_wants c = either c contact
      (λ e. subst (λ x. (retry.wants_of old x).room ≤ (retry.wants_of new x).room) (sym e)
      (let m : (retry.wants_of new contact).room ≡ max (retry.wants_of old contact).room room = ap (λ (w : retry.WantedFromContact). w.room) r.wants in omega (arith, m)))
      (λ apart. let e = ap (λ (w : retry.WantedFromContact). w.room) (r.other_wants c apart) in omega (arith, e))

-- ---- one row changed

module _ (old new : retry.Table) (contact n : ℕ) (kept : retry.KeptRow) (k : retry.KeepsRow old new contact n kept) where
  pub kept_here : n < length (retry.rows_of old contact) → retry.kept_at new contact n ≡ kept
  kept_here within = ap (λ (ks : List retry.KeptRow). retry.kept_in ks n) k.here ∙ set_here (retry.rows_of old contact) n kept retry.no_kept within

  pub kept_there : (c m : ℕ) → (c ≡ contact → m ≡ n → ⊥) → retry.kept_at new c m ≡ retry.kept_at old c m
  kept_there c m apart = either c contact
      (λ e. ap (λ x. retry.kept_at new x m) e
      ∙ (ap (λ (ks : List retry.KeptRow). retry.kept_in ks m) k.here
      ∙ (set_there (retry.rows_of old contact) n m kept retry.no_kept (apart e) ∙ ap (λ x. retry.kept_at old x m) (sym e))))
      (λ away. ap (λ (ks : List retry.KeptRow). retry.kept_in ks m) (k.others c away))

  pub kept_length : (c : ℕ) → length (retry.rows_of new c) ≡ length (retry.rows_of old c)
  kept_length c = either c contact
      (λ e. ap (λ x. length (retry.rows_of new x)) e
      ∙ (ap (λ (ks : List retry.KeptRow). length ks) k.here ∙ (length-set (retry.rows_of old contact) n kept ∙ ap (λ x. length (retry.rows_of old x)) (sym e))))
      (λ away. ap (λ (ks : List retry.KeptRow). length ks) (k.others c away))

-- ---- room kept

-- the same rows and wanted ids, and no room taken away
pub record NoLess (old new : retry.Table) : Type 0 where
  pub same : SameKept old new
  pub rows : (contact : ℕ) → length (retry.rows_of old contact) ≤ length (retry.rows_of new contact)
  pub wants : (contact : ℕ) → (retry.wants_of old contact).room ≤ (retry.wants_of new contact).room

pub no_less : {A E : Type 0} (r : Result A E) (old new : retry.Table) (contact numbers room : ℕ) → OnOk r (retry.ReservesRows old new contact numbers room) → OnErr r (new ≡ old) → NoLess old new
no_less (Ok x) old new contact numbers room r e = record {
  same = same_reserved old new contact numbers room r;
  rows = more_rows old new contact numbers room r;
  wants = more_wants old new contact numbers room r;
}
no_less (Err x) old new contact numbers room r e = subst (λ (t : retry.Table). NoLess old t) (sym e) (record {
  same = record { rows = λ c n. refl; wants = λ c. refl; groups = λ n. refl };
  rows = λ c. omega arith;
  wants = λ c. omega arith;
})

pub room_kept : (space more : ℕ) (old new : retry.Table) → space ≤ more
    → ((contact : ℕ) → length (retry.rows_of old contact) ≤ length (retry.rows_of new contact))
    → ((contact : ℕ) → (retry.wants_of old contact).room ≤ (retry.wants_of new contact).room) → KeepsRoom (room_in space old) (room_in more new)
room_kept space more old new le rows wants = record {
  entries = le;
  rows = λ c. let a = rows_room_is space old c in let b = rows_room_is more new c in let h = rows c in omega (arith, a, b, h);
  wants = λ c. let a = wants_room_is space old c in let b = wants_room_is more new c in let h = wants c in omega (arith, a, b, h);
}

pub room_spent : (space more : ℕ) (old new : retry.Table) → space ≤ more + 1
    → ((contact : ℕ) → length (retry.rows_of old contact) ≤ length (retry.rows_of new contact))
    → ((contact : ℕ) → (retry.wants_of old contact).room ≤ (retry.wants_of new contact).room + 1) → SpendsRoom (room_in space old) (room_in more new)
room_spent space more old new le rows wants = record {
  entries = le;
  rows = λ c. let a = rows_room_is space old c in let b = rows_room_is more new c in let h = rows c in omega (arith, a, b, h);
  wants = λ c. let a = wants_room_is space old c in let b = wants_room_is more new c in let h = wants c in omega (arith, a, b, h);
}

pub one_less : (n : ℕ) → n ≤ (n - 1) + 1
one_less n = omega arith

-- a table that is as before
pub room_one : (space : ℕ) (t : retry.Table) → SpendsRoom (room_in space t) (room_in (space - 1) t)
room_one space t = room_spent space (space - 1) t t (one_less space) (λ c. omega arith) (λ c. omega arith)
