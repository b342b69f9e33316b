-- Changes of what is wanted from contacts.
use Rattle.std.proofs.Common.{◌≡◌, ℕ, zero, suc, ◌+◌, ◌<◌, ◌≤◌, Bool, true, false, cond, nat_eq, nat_lt, List, [], ◌∷◌, ◌++◌, length, Option, None, Some, is_some, slice_index_or, refl, sym, ◌∙◌, ap, subst, arith, eqb-true}
use Rattle.std.specs.FinMap as fin_map
use Rattle.std.specs.Cmp.{nat_cmp_total, unsigned_ties}
use Rattle.std.specs.Ordering.{nat_cmp}
use Rattle.std.proofs.lemmas.Bool.{false≢true}
use Rattle.sync_rules.specs.Facts.{Held, Id, without_each}
use Rattle.sync_rules.specs.Lists.{without}
use Rattle.retry_table.specs.Table as retry
use Rattle.journal_state.specs.Parts.{Parts, facts_of, rows_in, wants_in}
use Rattle.journal_state.specs.Unwanted.{UnwantsBelow, ChangesIds}
use Rattle.journal_state.specs.Whole.{IsState}
use Rattle.sync_rules.specs.Facts.{is_held}
use Rattle.sync_rules.specs.Views.{IsFound}
use Rattle.journal_state.specs.Room.{room_in}
use Rattle.journal_state.specs.Taking.{SpendsRoom}
use Rattle.journal_state.proofs.Tables.{either, room_spent}
use Rattle.journal_state.proofs.Kept.{with_table}

-- ---- an id taken from each contact

pub unwants_none : (t : retry.Table) (id : Id) → UnwantsBelow 0 t t id
unwants_none t id = record {
  rows = refl;
  wants = λ contact below. absurd (omega arith);
  beyond = λ contact beyond. refl;
  room = λ contact. refl;
  groups = refl;
}

pub unwants_more : (k : ℕ) (old mid new : retry.Table) (id : Id) → UnwantsBelow k old mid id
    → retry.ChangesWants mid new k (record (retry.wants_of mid k) { ids = without id (retry.wants_of mid k).ids }) → UnwantsBelow (k + 1) old new id
unwants_more k old mid new id u c = record {
  rows = c.rows ∙ u.rows;
  wants = λ contact below. either contact k
      (λ e. ap (λ x. (retry.wants_of new x).ids) e
      ∙ (ap (λ (w : retry.WantedFromContact). w.ids) c.here ∙ (ap (without id) (u.beyond k (omega arith)) ∙ ap (λ x. without id (retry.wants_of old x).ids) (sym e))))
      (λ apart. ap (λ (w : retry.WantedFromContact). w.ids) (c.others contact apart) ∙ u.wants contact (less contact k below apart));
  beyond = λ contact beyond. ap (λ (w : retry.WantedFromContact). w.ids) (c.others contact (λ e. omega arith)) ∙ u.beyond contact (omega arith);
  room = λ contact. either contact k
      (λ e. ap (λ x. (retry.wants_of new x).room) e
      ∙ (ap (λ (w : retry.WantedFromContact). w.room) c.here ∙ (u.room k ∙ ap (λ x. (retry.wants_of old x).room) (sym e))))
      (λ apart. ap (λ (w : retry.WantedFromContact). w.room) (c.others contact apart) ∙ u.room contact);
  groups = c.groups ∙ u.groups;
}
  where
    less : (a b : ℕ) → a < b + 1 → (a ≡ b → ⊥) → a < b
    less a b below apart = by (nat_lt a b) refl
      where
        by : (t : Bool) → nat_lt a b ≡ t → a < b
        by true e = grind (arith, e)
        by false e = absurd (apart (let other : b ≤ a = grind (arith, e) in omega arith))

-- ---- ids taken from one contact

pub ids_none : (t : retry.Table) (contact : ℕ) → retry.ChangesWants t t contact (record (retry.wants_of t contact) { ids = without_each [] (retry.wants_of t contact).ids })
ids_none t contact = record { here = refl; others = λ other apart. refl; rows = refl; groups = refl }

each_more : (xs : List Id) (x : Id) (ids : List Id) → without_each (xs ++ x ∷ []) ids ≡ without x (without_each xs ids)
each_more [] x ids = refl
each_more (y ∷ xs) x ids = each_more xs x (without y ids)

pub ids_more : (old mid new : retry.Table) (contact : ℕ) (xs : List Id) (x : Id)
    → retry.ChangesWants old mid contact (record (retry.wants_of old contact) { ids = without_each xs (retry.wants_of old contact).ids })
    → retry.ChangesWants mid new contact (record (retry.wants_of mid contact) { ids = without x (retry.wants_of mid contact).ids })
    → retry.ChangesWants old new contact (record (retry.wants_of old contact) { ids = without_each (xs ++ x ∷ []) (retry.wants_of old contact).ids })
ids_more old mid new contact xs x a b = record {
  here =
      b.here
      ∙ (ap (λ (w : retry.WantedFromContact). record w { ids = without x w.ids }) a.here
      ∙ ap (λ (ids : List Id). record (retry.wants_of old contact) { ids = ids }) (sym (each_more xs x (retry.wants_of old contact).ids)));
  others = λ other apart. b.others other apart ∙ a.others other apart;
  rows = b.rows ∙ a.rows;
  groups = b.groups ∙ a.groups;
}

pub ids_of_wants : (old new : retry.Table) (contact : ℕ) (w : retry.WantedFromContact) → retry.ChangesWants old new contact w → (retry.wants_of old contact).room ≤ w.room + 1
    → ChangesIds old new contact w.ids
ids_of_wants old new contact w c room = record {
  here = ap (λ (x : retry.WantedFromContact). x.ids) c.here;
  room = subst (λ n. (retry.wants_of old contact).room ≤ n + 1) (sym (ap (λ (x : retry.WantedFromContact). x.room) c.here)) room;
  others = c.others;
  rows = c.rows;
  groups = c.groups;
}

-- ---- the facts

abbrev got : retry.Table → ℕ → ℕ → Option (List Id)
got t n q = cond (nat_lt q n) (Some (retry.wants_of t q).ids) None

one_got : (t : retry.Table) (k q : ℕ) (a : Bool) → nat_eq q k ≡ a → (b : Bool) → nat_lt q k ≡ b → (c : Bool) → nat_lt q (suc k) ≡ c
    → cond a (Some (retry.wants_of t k).ids) (cond b (Some (retry.wants_of t q).ids) None) ≡ cond c (Some (retry.wants_of t q).ids) None
one_got t k q true e b f true g = ap (λ x. Some (retry.wants_of t x).ids) (sym (eqb-true q k e))
one_got t k q true e b f false g = absurd (let same : q ≡ k = eqb-true q k e in let past : suc k ≤ q = grind (arith, g) in omega arith)
one_got t k q false e true f true g = refl
one_got t k q false e true f false g = absurd (let below : q < k = grind (arith, f) in let past : suc k ≤ q = grind (arith, g) in omega arith)
one_got t k q false e false f true g = absurd (let past : k ≤ q = grind (arith, f) in let below : q < suc k = grind (arith, g) in let same : q ≡ k = omega arith in false≢true (sym e ∙ (ap (nat_eq q) (sym same) ∙ grind arith)))
one_got t k q false e false f false g = refl

got_at : (t : retry.Table) (n q : ℕ) → fin_map.get (wants_in t n) q ≡ got t n q
got_at t zero q = fin_map.get-empty nat_cmp q ∙ sym (ap (λ b. cond b (Some (retry.wants_of t q).ids) None) (let none : nat_lt q 0 ≡ false = grind arith in none))
got_at t (suc k) q =
    fin_map.get-insert nat_cmp_total (wants_in t k) k (retry.wants_of t k).ids q
    ∙ ((λ i. cond (sym (unsigned_ties q k) i) (Some (retry.wants_of t k).ids) (got_at t k q i))
    ∙ one_got t k q (nat_eq q k) refl (nat_lt q k) refl (nat_lt q (suc k)) refl)

module _ (p : Parts) (s : IsState p) (contact : ℕ) (ids : List Id) (t : retry.Table) (k : ChangesIds p.retry t contact ids) (below : contact < p.table.contacts) where
  got_new : (q : ℕ) (a : Bool) → nat_eq q contact ≡ a → got t p.table.contacts q ≡ cond a (Some ids) (got p.retry p.table.contacts q)
  got_new q true e =
      (λ i. cond (nat_lt (eqb-true q contact e i) p.table.contacts) (Some (retry.wants_of t (eqb-true q contact e i)).ids) None)
      ∙ ((λ i. cond (inside i) (Some (k.here i)) None))
    where
      inside : nat_lt contact p.table.contacts ≡ true
      inside = grind (arith, below)
  got_new q false e =
      ap (λ (w : retry.WantedFromContact). cond (nat_lt q p.table.contacts) (Some w.ids) None)
      (k.others q (λ same. false≢true (sym e ∙ (ap (λ x. nat_eq x contact) same ∙ grind arith))))

  ids_wanted : wants_in t p.table.contacts ≡ fin_map.insert (wants_in p.retry p.table.contacts) contact ids
  ids_wanted =
      fin_map.same_map nat_cmp_total fin_map.nat_cmp-IsAntisymmetric (wants_in t p.table.contacts) (fin_map.insert (wants_in p.retry p.table.contacts) contact ids)
      (λ q. got_at t p.table.contacts q
      ∙ (got_new q (nat_eq q contact) refl
      ∙ sym (fin_map.get-insert nat_cmp_total (wants_in p.retry p.table.contacts) contact ids q
      ∙ (λ i. cond (sym (unsigned_ties q contact) i) (Some ids) (got_at p.retry p.table.contacts q i)))))

  kept_by_ids : (c n : ℕ) → retry.kept_at t c n ≡ retry.kept_at p.retry c n
  kept_by_ids c n = ap (λ (rows : List (List retry.KeptRow)). retry.kept_in (slice_index_or rows c []) n) k.rows

  pub ids_state : IsState (record p { retry = t; space = p.space })
  ids_state = with_table p s t p.space
      (λ c n. ap (λ (x : retry.KeptRow). x.ready) (kept_by_ids c n))
      (λ c n beyond. kept_by_ids c n ∙ s.free_rows c n beyond)
      (λ c beyond. ap (λ (w : retry.WantedFromContact). w.ids) (k.others c (λ e. omega arith)) ∙ s.free_wants c beyond)
      (λ n. ap (λ (gs : List (Option ℕ)). slice_index_or gs n None) k.groups)

  pub ids_facts : facts_of (record p { retry = t; space = p.space }) ≡ record (facts_of p) { wanted = fin_map.insert (wants_in p.retry p.table.contacts) contact ids }
  ids_facts = λ i. record (facts_of p) {
    rows = ap (λ (rows : List (List retry.KeptRow)). rows_in (record p.retry { rows = rows }) p.held) k.rows i;
    wanted = ids_wanted i;
  }

-- ---- room, and what a look-up tells

pub ids_room : (space : ℕ) (old new : retry.Table) (contact : ℕ) (ids : List Id) → ChangesIds old new contact ids → SpendsRoom (room_in space old) (room_in space new)
ids_room space old new contact ids k = room_spent space space old new (omega arith)
    (λ c. let e = ap (λ (rows : List (List retry.KeptRow)). length (slice_index_or rows c [])) k.rows in omega (arith, e))
    (λ c. either c contact
    (λ e. subst (λ x. (retry.wants_of old x).room ≤ (retry.wants_of new x).room + 1) (sym e) k.room)
    (λ apart. let e = ap (λ (w : retry.WantedFromContact). w.room) (k.others c apart) in omega (arith, e)))

pub found_held : (held : List Held) (id : Id) (o : Option ℕ) → IsFound held id o → is_some o ≡ is_held held id
found_held held id None found = sym (ap (λ (x : Option Held). is_some x) found)
found_held held id (Some n) found = sym (ap (λ (x : Option Held). is_some x) found.first)
