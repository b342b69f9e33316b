-- The wanted ids of a brief account: the Want entries of a contact suit, and put the ids that they tell at the end of
-- its list.
use Rattle.std.proofs.Common.{◌≡◌, ℕ, zero, suc, ◌+◌, ◌<◌, ◌≤◌, Bool, true, false, cond, ◌||◌}
use Rattle.std.proofs.Common.{nat_eq, nat_lt, eqb-true, List, [], ◌∷◌, ◌++◌, length, length-append}
use Rattle.std.proofs.Common.{append_assoc, append-nil, Option, Some, None, is_some, refl, sym, ◌∙◌}
use Rattle.std.proofs.Common.{ap, subst, arith, unwrap_or}
use Rattle.std.specs.FinMap as fin_map
use Rattle.std.specs.Cmp.{nat_cmp_total, unsigned_tied}
use Rattle.std.proofs.lemmas.Bool.{false≢true, le-ltb, lt-ltb, or_left, or_parts, or_right}
use Rattle.sync_rules.specs.declared.entries.Entry.TheVariants as entry
use Rattle.sync_rules.specs.declared.limits.TheConstants.{MAX_WANTED}
use Rattle.sync_rules.specs.Lists.{same_id, is_among, has_repeat}
use Rattle.sync_rules.specs.Facts.{Facts, Id, Rows, Wants, is_held, wanted_from, with_want}
use Rattle.sync_rules.proofs.Elements.{any-append, same_id_itself, same_id_swap}
use Rattle.brief_account.specs.Brief.{want_entries}
use Rattle.brief_account.proofs.PeersMaps.{below_or_last}
use Rattle.brief_account.proofs.PeersRows.{IsTold, told_none, told_then, with_peers}

-- ---- lists of distinct ids

-- an id of such a list is not among those before it
pub apart_before : (before : List Id) (id : Id) (ids : List Id) → has_repeat (before ++ id ∷ ids) ≡ false
    → is_among before id ≡ false
apart_before [] id ids distinct = refl
apart_before (x ∷ before) id ids distinct =
    let parts = or_parts (is_among (before ++ id ∷ ids) x) (has_repeat (before ++ id ∷ ids)) distinct in
    let two = or_parts (is_among before x) (is_among (id ∷ ids) x)
    (sym (any-append (λ y. same_id y x) before (id ∷ ids)) ∙ parts.0) in
    let one = or_parts (same_id id x) (is_among ids x) two.1 in
    (λ i. (same_id_swap x id ∙ one.0) i || apart_before before id ids parts.1 i)

-- ---- what is wanted from a contact

-- an id put at the end of a contact's list
abbrev pub put_want : Wants → ℕ → List Id → Id → Wants
put_want wanted contact before id = fin_map.insert wanted contact (before ++ id ∷ [])

-- these ids put at the end of a contact's list, one after the other
abbrev pub put_wants : Wants → ℕ → List Id → List Id → Wants
put_wants wanted contact before [] = wanted
put_wants wanted contact before (id ∷ ids) = put_wants (put_want wanted contact before id) contact (before ++ id ∷ []) ids

got_put : (wanted : Wants) (contact : ℕ) (ids : List Id) (at : ℕ)
    → fin_map.get (fin_map.insert wanted contact ids) at ≡ cond (nat_eq at contact) (Some ids) (fin_map.get wanted at)
got_put wanted contact ids at =
    fin_map.get-insert nat_cmp_total wanted contact ids at
    ∙ ap (λ b. cond b (Some ids) (fin_map.get wanted at)) (unsigned_tied at contact)

got_here : (wanted : Wants) (contact : ℕ) (ids : List Id)
    → fin_map.get (fin_map.insert wanted contact ids) contact ≡ Some ids
got_here wanted contact ids =
    got_put wanted contact ids contact ∙ ap (λ b. cond b (Some ids) (fin_map.get wanted contact)) (same_number contact)
  where
    same_number : (n : ℕ) → nat_eq n n ≡ true
    same_number n = grind arith

put_over : (b : Bool) (x y o : Option (List Id)) → cond b x (cond b y o) ≡ cond b x o
put_over true x y o = refl
put_over false x y o = refl

pub put_wants-get : (wanted : Wants) (contact : ℕ) (before ids : List Id) (at : ℕ)
    → fin_map.get wanted contact ≡ Some before
    → fin_map.get (put_wants wanted contact before ids) at
    ≡ cond (nat_eq at contact) (Some (before ++ ids)) (fin_map.get wanted at)
put_wants-get wanted contact before [] at was = here (nat_eq at contact) refl
  where
    here : (b : Bool) → nat_eq at contact ≡ b
        → fin_map.get wanted at ≡ cond b (Some (before ++ [])) (fin_map.get wanted at)
    here true e = ap (fin_map.get wanted) (eqb-true at contact e)
        ∙ (was ∙ ap (λ (l : List Id). Some l) (sym (append-nil before)))
    here false e = refl
put_wants-get wanted contact before (id ∷ ids) at was =
    put_wants-get (put_want wanted contact before id) contact (before ++ id ∷ []) ids at
    (got_here wanted contact (before ++ id ∷ []))
    ∙ (ap (λ o. cond (nat_eq at contact) (Some ((before ++ id ∷ []) ++ ids)) o)
    (got_put wanted contact (before ++ id ∷ []) at)
    ∙ (put_over (nat_eq at contact) (Some ((before ++ id ∷ []) ++ ids)) (Some (before ++ id ∷ [])) (fin_map.get wanted at)
    ∙ ap (λ (l : List Id). cond (nat_eq at contact) (Some l) (fin_map.get wanted at))
    (append_assoc before (id ∷ []) ids)))

-- ---- the Want entries of a contact

module _ (g : Facts) (rows : Rows) (contact : ℕ) (known : contact < g.contacts) where
  want_told : (wanted : Wants) (before : List Id) (id : Id) → fin_map.get wanted contact ≡ Some before
      → is_held g.held id ≡ false
      → is_among before id ≡ false → length before < MAX_WANTED
      → IsTold g (entry.Want contact id ∷ []) rows wanted rows (put_want wanted contact before id)
  want_told wanted before id was new apart few = record {
    suits = (
      record {
        known_contact = known;
        not_held = new;
        not_wanted = ap (λ (o : Option (List Id)). is_among (unwrap_or o []) id) was ∙ apart;
        few = subst (λ (l : List Id). length l < MAX_WANTED)
            (sym (ap (λ (o : Option (List Id)). unwrap_or o []) was)) few;
      },
      tt,
    );
    reached = λ i. with_peers g rows (fin_map.insert wanted contact (longer i));
  }
    where
      longer : with_want (is_held g.held id) (wanted_from wanted contact) id ≡ before ++ id ∷ []
      longer =
          ap (λ (o : Option (List Id)). with_want (is_held g.held id) (unwrap_or o []) id) was
          ∙ (λ i. cond (new i || apart i) before (before ++ id ∷ []))

  pub wants_told : (wanted : Wants) (before ids : List Id) → fin_map.get wanted contact ≡ Some before
      → ((id : Id) → is_among ids id ≡ true → is_held g.held id ≡ false)
      → has_repeat (before ++ ids) ≡ false → length (before ++ ids) ≤ MAX_WANTED
      → IsTold g (want_entries contact ids) rows wanted rows (put_wants wanted contact before ids)
  wants_told wanted before [] was new distinct few = told_none g rows wanted
  wants_told wanted before (id ∷ ids) was new distinct few =
      told_then g (entry.Want contact id ∷ []) (want_entries contact ids) rows wanted rows
      (put_want wanted contact before id)
      rows (put_wants wanted contact before (id ∷ ids))
      (want_told wanted before id was (new id (or_left (same_id id id) (is_among ids id) (same_id_itself id)))
      (apart_before before id ids distinct)
      (let whole : length (before ++ id ∷ ids) ≡ length before + length (id ∷ ids) = length-append before (id ∷ ids) in
      omega (arith, whole, few)))
      (wants_told (put_want wanted contact before id) (before ++ id ∷ []) ids
      (got_here wanted contact (before ++ id ∷ []))
      (λ x e. new x (or_right (same_id id x) (is_among ids x) e))
      (ap has_repeat (append_assoc before (id ∷ []) ids) ∙ distinct)
      (subst (λ (l : List Id). length l ≤ MAX_WANTED) (sym (append_assoc before (id ∷ []) ids)) few))

-- ---- the contacts below a number

-- the lists of wanted ids for the contacts below a number, put into a map of empty lists
abbrev pub wants_below : Wants → Wants → ℕ → Wants
wants_below from into zero = into
wants_below from into (suc n) = put_wants (wants_below from into n) n [] (wanted_from from n)

module _ (from into : Wants) where
  -- a: below the number; b: this number
  below_step : (at n : ℕ) (a b : Bool) → nat_lt at n ≡ a → nat_eq at n ≡ b
      → cond b (Some (wanted_from from n)) (cond a (Some (wanted_from from at)) (fin_map.get into at))
      ≡ cond (a || b) (Some (wanted_from from at)) (fin_map.get into at)
  below_step at n true true below same = ap (λ k. Some (wanted_from from k)) (sym (eqb-true at n same))
  below_step at n false true below same = ap (λ k. Some (wanted_from from k)) (sym (eqb-true at n same))
  below_step at n true false below same = refl
  below_step at n false false below same = refl

  -- the list of this number's contact is still empty
  unwanted : (n : ℕ) → fin_map.get (wants_below from into n) n
      ≡ cond (nat_lt n n) (Some (wanted_from from n)) (fin_map.get into n)
      → fin_map.get into n ≡ Some [] → fin_map.get (wants_below from into n) n ≡ Some []
  unwanted n got empty = got
      ∙ (ap (λ b. cond b (Some (wanted_from from n)) (fin_map.get into n)) (le-ltb n n (omega arith)) ∙ empty)

  pub wants_below-get : (n at : ℕ) → ((contact : ℕ) → contact < n → fin_map.get into contact ≡ Some [])
      → fin_map.get (wants_below from into n) at ≡ cond (nat_lt at n) (Some (wanted_from from at)) (fin_map.get into at)
  wants_below-get zero at empty =
      ap (λ b. cond b (Some (wanted_from from at)) (fin_map.get into at)) (sym (le-ltb at 0 (omega arith)))
  wants_below-get (suc n) at empty =
      let below : (contact : ℕ) → contact < n → fin_map.get into contact ≡ Some [] =
      λ contact k. empty contact (omega (arith, k)) in
      put_wants-get (wants_below from into n) n [] (wanted_from from n) at
      (unwanted n (wants_below-get n n below) (empty n (omega arith)))
      ∙ (ap (λ o. cond (nat_eq at n) (Some (wanted_from from n)) o) (wants_below-get n at below)
      ∙ (below_step at n (nat_lt at n) (nat_eq at n) refl refl
      ∙ ap (λ b. cond b (Some (wanted_from from at)) (fin_map.get into at)) (sym (below_or_last at n))))

  pub not_yet_wanted : (n : ℕ) → ((contact : ℕ) → contact < n + 1 → fin_map.get into contact ≡ Some [])
      → fin_map.get (wants_below from into n) n ≡ Some []
  not_yet_wanted n empty =
      unwanted n (wants_below-get n n (λ contact k. empty contact (omega (arith, k)))) (empty n (omega arith))

-- a: below the number of contacts
whole_at : (a : Bool) (o : Option (List Id)) → (is_some o ≡ true → a ≡ true) → (a ≡ true → is_some o ≡ true)
    → cond a (Some (unwrap_or o [])) (cond a (Some []) None) ≡ o
whole_at true None up down = absurd (false≢true (down refl))
whole_at true (Some ids) up down = refl
whole_at false None up down = refl
whole_at false (Some ids) up down = absurd (false≢true (up refl))

-- all lists of wanted ids
pub wants_whole : (from into : Wants) (contacts : ℕ)
    → ((contact : ℕ) → fin_map.get into contact ≡ cond (nat_lt contact contacts) (Some []) None)
    → ((contact : ℕ) (ids : List Id) → fin_map.get from contact ≡ Some ids → contact < contacts)
    → ((contact : ℕ) → contact < contacts → is_some (fin_map.get from contact) ≡ true)
    → wants_below from into contacts ≡ from
wants_whole from into contacts empty known lists =
    fin_map.same_map nat_cmp_total fin_map.nat_cmp-IsAntisymmetric (wants_below from into contacts) from
    (λ at. wants_below-get from into contacts at (λ contact below. empty contact
    ∙ ap (λ b. cond b (Some []) None) (lt-ltb contact contacts below))
    ∙ (ap (λ o. cond (nat_lt at contacts) (Some (wanted_from from at)) o) (empty at)
    ∙ whole_at (nat_lt at contacts) (fin_map.get from at) (known_if at (fin_map.get from at) refl)
    (λ e. lists at (grind (arith, e)))))
  where
    known_if : (at : ℕ) (o : Option (List Id)) → fin_map.get from at ≡ o → is_some o ≡ true → nat_lt at contacts ≡ true
    known_if at None found some = absurd (false≢true some)
    known_if at (Some ids) found some = lt-ltb at contacts (known at ids found)
