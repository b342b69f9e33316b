-- What an entry that brings no message makes of the parts: a contact, a group, a session, a record.
use Rattle.std.proofs.Common.{◌≡◌, ℕ, zero, suc, ◌+◌, ◌-◌, ◌<◌, ◌≤◌, Bool, true, false, cond, nat_eq, nat_lt, List, [], ◌∷◌, ◌++◌, length, map, Option, None, Some, is_some, position, slice_get, refl, sym, ◌∙◌, ap, subst, arith}
use Rattle.std.specs.List.{list_all, position_from}
use Rattle.std.specs.FinMap as fin_map
use Rattle.std.specs.FinSet as fin_set
use Rattle.std.proofs.lemmas.Bool.{and_parts, and_from, false≢true}
use Rattle.std.proofs.lemmas.Iterator.Adapters.{position_from-zero}
use Rattle.sync_ids.specs.Values.{GroupValue}
use Rattle.sync_rules.specs.declared.entries.Entry.TheVariants as entry
use Rattle.sync_rules.specs.declared.entries.Session.{Session}
use Rattle.sync_rules.specs.Clients.{Meaning}
use Rattle.sync_rules.specs.Lists.{same_id}
use Rattle.sync_rules.specs.Facts.{Facts, Held, Id, Known, group_at, known_of, session_at}
use Rattle.sync_rules.specs.Steps.{answer_of, verdict_for}
use Rattle.visibility_table.specs.Table as levels
use Rattle.journal_state.specs.Begun.{Begun}
use Rattle.journal_state.specs.Parts.{Parts, facts_of, wants_in}
use Rattle.journal_state.specs.Taking.{moved}
use Rattle.journal_state.specs.Whole.{IsState, KnowsJudgements, value_of}
use Rattle.journal_state.proofs.Seen.{there}
use Rattle.journal_state.proofs.Next.{many_nodes}
use Rattle.journal_state.proofs.Wants.{wants_found}

-- ---- a contact

add_one : (n : ℕ) → n + 1 ≡ suc n
add_one n = omega arith

module _ (p : Parts) (s : IsState p) (c : ℕ) (t : levels.TableOfLevels) (made : t ≡ levels.after_entry p.table (entry.Contact c)) (space : ℕ) where
  contact_then : IsState (record p { table = levels.after_entry p.table (entry.Contact c); space = space })
  contact_then = record {
    named = s.named;
    grouped = s.grouped;
    distinct = s.distinct;
    each_share = s.each_share;
    order = s.order;
    within = s.within;
    ended = s.ended;
    many = s.many;
    free_rows = s.free_rows;
    free_wants = λ contact beyond. s.free_wants contact (omega arith);
    hidden = λ contact group beyond. s.hidden contact group (omega arith);
    shown = s.shown;
    released = s.released;
    unreleased = s.unreleased;
    ready = s.ready;
  }

  pub contact_state : IsState (record p { table = t; space = space })
  contact_state = subst (λ (x : levels.TableOfLevels). IsState (record p { table = x; space = space })) (sym made) contact_then

  contact_wants : c ≡ p.table.contacts
      → wants_in p.retry (p.table.contacts + 1) ≡ (moved (facts_of p) (entry.Contact c)).wanted
  contact_wants is =
      ap (wants_in p.retry) (add_one p.table.contacts)
      ∙ (λ i. fin_map.insert (wants_in p.retry p.table.contacts) (sym is i) ((sym (wants_found p.retry p.table.contacts (sym is i) s.free_wants)) i))

  pub contact_facts : c ≡ p.table.contacts → facts_of (record p { table = t; space = space }) ≡ moved (facts_of p) (entry.Contact c)
  contact_facts is =
      ap (λ (x : levels.TableOfLevels). facts_of (record p { table = x; space = space })) made
      ∙ (λ i. record (moved (facts_of p) (entry.Contact c)) { wanted = contact_wants is i })

-- ---- a group

position_more : (p : Known → Bool) (i : ℕ) (gs more : List Known) (n : ℕ) → position_from p i gs ≡ Some n → position_from p i (gs ++ more) ≡ Some n
position_more p i [] more n e = absurd (let none : None ≡ Some n = e in cc)
position_more p i (g ∷ gs) more n e =
    elim (p g) as (λ b. cond b (Some i) (position_from p (i + 1) gs) ≡ Some n → cond b (Some i) (position_from p (i + 1) (gs ++ more)) ≡ Some n) [
      | true ↦ λ q. q
      | false ↦ λ q. position_more p (i + 1) gs more n q
    ] e

position_is : (p : Known → Bool) (xs : List Known) → position p xs ≡ position_from p 0 xs
position_is p [] = refl
position_is p (x ∷ xs) = position_from-zero p (x ∷ xs)

pub number_more : (gs more : List Known) (id : Id) (n : ℕ) → levels.group_number gs id ≡ Some n
    → levels.group_number (gs ++ more) id ≡ Some n
number_more gs more id n e =
    position_is (λ g. same_id g.id id) (gs ++ more)
    ∙ position_more (λ g. same_id g.id id) 0 gs more n (sym (position_is (λ g. same_id g.id id) gs) ∙ e)

pub known_more : (gs more : List Known) (id : Id) → is_some (group_at gs id) ≡ true → group_at (gs ++ more) id ≡ group_at gs id
known_more [] more id e = absurd (false≢true e)
known_more (g ∷ gs) more id e =
    elim (same_id g.id id) as (λ b. is_some (cond b (Some g) (group_at gs id)) ≡ true → cond b (Some g) (group_at (gs ++ more) id) ≡ cond b (Some g) (group_at gs id)) [
      | true ↦ λ q. refl
      | false ↦ λ q. known_more gs more id q
    ] e

-- a group that has a number is known
numbered_from : (i : ℕ) (gs : List Known) (id : Id) (n : ℕ) → position_from (λ (g : Known). same_id g.id id) i gs ≡ Some n → is_some (group_at gs id) ≡ true
numbered_from i [] id n e = absurd (let none : None ≡ Some n = e in cc)
numbered_from i (g ∷ gs) id n e =
    elim (same_id g.id id) as (λ b. cond b (Some i) (position_from (λ (x : Known). same_id x.id id) (i + 1) gs) ≡ Some n → is_some (cond b (Some g) (group_at gs id)) ≡ true) [
      | true ↦ λ q. refl
      | false ↦ λ q. numbered_from (i + 1) gs id n q
    ] e

pub numbered_known : (gs : List Known) (id : Id) (n : ℕ) → levels.group_number gs id ≡ Some n
    → is_some (group_at gs id) ≡ true
numbered_known gs id n e = numbered_from 0 gs id n (sym (position_is (λ g. same_id g.id id) gs) ∙ e)

pub map_same : {A B : Type 0} (f g : A → B) (xs : List A) → ((n : ℕ) (x : A) → slice_get xs n ≡ Some x → f x ≡ g x) → map f xs ≡ map g xs
map_same f g [] e = refl
map_same f g (x ∷ xs) e = λ i. e 0 x refl i ∷ map_same f g xs (λ n y at. e (suc n) y at) i

module _ (p : Parts) (s : IsState p) where
  -- the group of each held message is known
  pub group_known : (n : ℕ) (h : Held) → slice_get p.held n ≡ Some h → is_some (group_at p.table.groups h.message.group) ≡ true
  group_known n h at =
      let within : n < length p.held = inside p.held n h at in
      let node = there p.nodes n (omega (arith, within, many_nodes p s)) in
      numbered_known p.table.groups h.message.group node.0.group (s.grouped n h node.0 at node.1)
    where
      inside : (hs : List Held) (n : ℕ) (h : Held) → slice_get hs n ≡ Some h → n < length hs
      inside [] n h at = absurd (let e : None ≡ Some h = at in cc)
      inside (x ∷ hs) zero h at = omega arith
      inside (x ∷ hs) (suc n) h at = let later = inside hs n h at in omega (arith, later)

module _ (p : Parts) (s : IsState p) (def : GroupValue) (t : levels.TableOfLevels)
    (made : t ≡ record p.table { groups = p.table.groups ++ known_of def ∷ []; spare = p.table.spare - 1 }) (space : ℕ) where
  group_then : IsState (record p { table = record p.table { groups = p.table.groups ++ known_of def ∷ []; spare = p.table.spare - 1 }; space = space })
  group_then = record {
    named = s.named;
    grouped = λ n h node a b. number_more p.table.groups (known_of def ∷ []) h.message.group node.group (s.grouped n h node a b);
    distinct = s.distinct;
    each_share = s.each_share;
    order = s.order;
    within = s.within;
    ended = s.ended;
    many = s.many;
    free_rows = s.free_rows;
    free_wants = s.free_wants;
    hidden = s.hidden;
    shown = λ contact group e.
        let known = s.shown contact group e in
        ap (λ (o : Option Known). is_some o) (known_more p.table.groups (known_of def ∷ []) group known) ∙ known;
    released = s.released;
    unreleased = s.unreleased;
    ready = s.ready;
  }

  pub group_state : IsState (record p { table = t; space = space })
  group_state = subst (λ (x : levels.TableOfLevels). IsState (record p { table = x; space = space })) (sym made) group_then

  pub group_facts : facts_of (record p { table = t; space = space }) ≡ moved (facts_of p) (entry.Group def)
  group_facts = ap (λ (x : levels.TableOfLevels). facts_of (record p { table = x; space = space })) made

  -- what is judged of a held message is as before
  pub group_answers : (clients : Meaning) → map (answer_of clients (facts_of p)) p.held ≡ map (answer_of clients (moved (facts_of p) (entry.Group def))) p.held
  group_answers clients = map_same _ _ p.held (λ n h at.
      ap (λ (o : Option Known). cond (fin_set.contains (facts_of p).judged h.id) (Some (verdict_for clients o h.message)) None)
      (sym (known_more p.table.groups (known_of def ∷ []) h.message.group (group_known p s n h at))))

  pub group_knows : (clients : Meaning) → KnowsJudgements clients (value_of p) → KnowsJudgements clients (value_of (record p { table = t; space = space }))
  group_knows clients k = k ∙ (group_answers clients ∙ ap (λ (f : Facts). map (answer_of clients f) f.held) (sym group_facts))

-- ---- a session and a record

module _ (p : Parts) (s : IsState p) (begun : Begun) (space : ℕ) where
  pub begun_state : IsState (record p { begun = begun; space = space })
  begun_state = record {
    named = s.named;
    grouped = s.grouped;
    distinct = s.distinct;
    each_share = s.each_share;
    order = s.order;
    within = s.within;
    ended = s.ended;
    many = s.many;
    free_rows = s.free_rows;
    free_wants = s.free_wants;
    hidden = s.hidden;
    shown = s.shown;
    released = s.released;
    unreleased = s.unreleased;
    ready = s.ready;
  }

pub all_more : {A : Type 0} (test : A → Bool) (xs : List A) (x : A) → list_all test xs ≡ true → test x ≡ true → list_all test (xs ++ x ∷ []) ≡ true
all_more test [] x all own = and_from (test x) true own refl
all_more test (y ∷ xs) x all own =
    let both = and_parts (test y) (list_all test xs) all in and_from (test y) (list_all test (xs ++ x ∷ [])) both.0 (all_more test xs x both.1 own)

pub all_weaker : {A : Type 0} (test other : A → Bool) → ((x : A) → test x ≡ true → other x ≡ true) → (xs : List A) → list_all test xs ≡ true → list_all other xs ≡ true
all_weaker test other more [] all = refl
all_weaker test other more (y ∷ xs) all =
    let both = and_parts (test y) (list_all test xs) all in and_from (other y) (list_all other xs) (more y both.0) (all_weaker test other more xs both.1)

pub below_more : (contact n m : ℕ) → n ≤ m → nat_lt contact n ≡ true → nat_lt contact m ≡ true
below_more contact n m le e = grind arith

-- the contact of a session is known
pub met_known : (contacts : ℕ) (ss : List Session) (n : ℕ) (x : Session) → list_all (λ y. nat_lt y.contact contacts) ss ≡ true → session_at ss n ≡ Some x → x.contact < contacts
met_known contacts [] n x all e = absurd (let none : None ≡ Some x = e in cc)
met_known contacts (y ∷ ss) n x all e =
    let both = and_parts (nat_lt y.contact contacts) (list_all (λ (z : Session). nat_lt z.contact contacts) ss) all in
    elim (nat_eq y.number n) as (λ b. cond b (Some y) (session_at ss n) ≡ Some x → x.contact < contacts) [
      | true ↦ λ q. let same : y ≡ x = cc in (let own : nat_lt y.contact contacts ≡ true = both.0 in subst (λ (z : Session). z.contact < contacts) same (grind (arith, own)))
      | false ↦ λ q. met_known contacts ss n x both.1 q
    ] e
