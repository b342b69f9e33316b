-- The rows of all contacts: what is seen of them, and what a change of one contact or of what is released leaves.
use Rattle.std.proofs.Common.{◌≡◌, ◌≢◌, ℕ, zero, suc, ◌+◌, ◌-◌, ◌<◌, ◌≤◌, ◌^◌, Result, Ok, Err, OnErr, Bool, true, false, cond, nat_eq, nat_lt, List, [], ◌∷◌, ◌++◌, length, map, Option, None, Some, slice_get, refl, sym, ap, subst, ◌∙◌, get_or, set, replicate, arith, length-append, inl, inr}
use Rattle.std.proofs.lemmas.List.{length-set, length-replicate, get_or_past, get_or-set_same, get_or-set_other, get_or-map, map-set, map-append, same_lists}
use Rattle.std.proofs.lemmas.Option.{slice_get_within, slice_get-get_or, get_or_from_slice_get}
use Rattle.std.proofs.lemmas.Bool.{cases_eq, cases_lt}
use Rattle.std.specs.List.{AllByRecursion}
use Rattle.due_tree.proofs.Places.{longer_at}
use Rattle.retry_table.specs.declared.contact_rows.ContactRows.{ContactRows}
use Rattle.retry_table.specs.declared.contact_rows.Released.{Released}
use Rattle.retry_table.specs.declared.contact_rows.Turn.{Turn}
use Rattle.retry_table.specs.Table.{KeptRow, RowsTable, SetsGroup, WantedFromContact, is_of_group, kept_in, no_kept, rows_at, with_numbers, with_ready, with_rows}
use Rattle.retry_table.specs.Turns.{as_said, count_released, group_of, said_at, said_before, said_of, shown, turned, turns_in, with_turn, word_of, IsSaid}
use Rattle.retry_table.specs.Contacts.{AreContacts, HasTurnRoom, IsBlank, IsSaidFor}
use Rattle.retry_table.proofs.Said.{fewer_said, group_in, group_said, said_ext, said_length, said_more, said_none, said_one, said_past, said_set, said_still}

-- what is seen of a contact, and of all
abbrev pub seen_of : List (Option Released) → ContactRows → List KeptRow
seen_of released c = shown released c.turns.entries c.queues

abbrev pub seen_all : List ContactRows → List (Option Released) → RowsTable
seen_all contacts released = record { rows = map (seen_of released) contacts; groups = map group_of released }

pub seen_at : (released : List (Option Released)) (contacts : List ContactRows) (contact : ℕ) (c : ContactRows) → contact < length contacts → c ≡ get_or contacts contact c
    → rows_at (seen_all contacts released) contact ≡ seen_of released c
seen_at released contacts contact c within read = get_or-map (seen_of released) contacts contact c [] within ∙ ap (seen_of released) (sym read)

pub seen_set : (released : List (Option Released)) (contacts : List ContactRows) (contact : ℕ) (c : ContactRows) (rows : List KeptRow) → seen_of released c ≡ rows
    → seen_all (set contacts contact c) released ≡ with_rows contact rows (seen_all contacts released)
seen_set released contacts contact c rows is =
    (λ j. record { rows = (map-set (seen_of released) contacts contact c ∙ ap (set (map (seen_of released) contacts) contact) is) j; groups = map group_of released })

-- where one contact is seen as before all are
set_same : {X : Type 0} (xs : List X) (i : ℕ) (x d : X) → i < length xs → x ≡ get_or xs i d → set xs i x ≡ xs
set_same [] i x d h e = absurd (omega arith)
set_same (y ∷ ys) zero x d h e = ap (λ z. z ∷ ys) e
set_same (y ∷ ys) (suc i) x d h e = ap (λ zs. y ∷ zs) (set_same ys i x d (omega arith) e)

pub seen_still : (released : List (Option Released)) (contacts : List ContactRows) (contact : ℕ) (c new : ContactRows) → contact < length contacts → c ≡ get_or contacts contact c → seen_of released new ≡ seen_of released c
    → seen_all (set contacts contact new) released ≡ seen_all contacts released
seen_still released contacts contact c new within read same =
    seen_set released contacts contact new (seen_of released c) same
    ∙ (λ j. record {
      rows = set_same (map (seen_of released) contacts) contact (seen_of released c) [] (subst (λ n. contact < n) (sym (long contacts)) within) (sym (seen_at released contacts contact c within read)) j;
      groups = map group_of released;
    })
  where
    long : (xs : List ContactRows) → length (map (seen_of released) xs) ≡ length xs
    long [] = refl
    long (x ∷ xs) = ap suc (long xs)

pub contact_of : (contacts : List ContactRows) (contact : ℕ) (c : ContactRows) → contact < length contacts → c ≡ get_or contacts contact c → slice_get contacts contact ≡ Some c
contact_of contacts contact c within read = slice_get-get_or contacts contact c within ∙ ap Some (sym read)

-- ---- the invariant

module _ (contacts : List ContactRows) (released : List (Option Released)) (count : ℕ) (a : AreContacts contacts released count) where
  each_set : (contact : ℕ) (new : ContactRows) → IsSaidFor released count new → (other : ℕ) (c : ContactRows) → slice_get (set contacts contact new) other ≡ Some c → IsSaidFor released count c
  each_set contact new s other c at =
      let within : other < length (set contacts contact new) = slice_get_within (set contacts contact new) other c at in
      let inside : other < length contacts = omega (arith, within, length-set contacts contact new) in
      let is : get_or (set contacts contact new) other c ≡ c = get_or_from_slice_get (set contacts contact new) other c c at in
      elim (cases_eq other contact) [
        | inl here ↦ subst (IsSaidFor released count)
            (sym (get_or-set_same contacts contact new c (subst (λ n. n < length contacts) here inside)) ∙ (ap (λ n. get_or (set contacts contact new) n c) (sym here) ∙ is)) s
        | inr away ↦ a.each other c (slice_get-get_or contacts other c inside ∙ ap Some (sym (get_or-set_other contacts contact other new c away) ∙ is))
      ]

  pub contacts_set : (contact : ℕ) (new : ContactRows) → IsSaidFor released count new → AreContacts (set contacts contact new) released count
  contacts_set contact new s = record {
    many = length-set contacts contact new ∙ a.many;
    each = each_set contact new s;
    places = a.places;
    counted = a.counted;
    few = a.few;
  }

-- ---- nothing yet

pub blank_more : (cs : List ContactRows) (c : ContactRows) → AllByRecursion IsBlank cs → IsBlank c → AllByRecursion IsBlank (cs ++ c ∷ [])
blank_more [] c all b = (b, tt)
blank_more (x ∷ cs) c all b = (all.0, blank_more cs c all.1 b)

blank_at : (cs : List ContactRows) (i : ℕ) (c : ContactRows) → AllByRecursion IsBlank cs → slice_get cs i ≡ Some c → IsBlank c
blank_at [] i c all at = absurd (let e : None ≡ Some c = at in cc)
blank_at (x ∷ cs) zero c all at = let is : x ≡ c = cc in subst IsBlank is all.0
blank_at (x ∷ cs) (suc i) c all at = blank_at cs i c all.1 at

blank_said : (c : ContactRows) → IsBlank c → IsSaidFor [] 0 c
blank_said c b = (
  b.room,
  record {
    early = λ g t e. absurd (let none : None ≡ Some t = ap (λ es. turns_in es g) (sym b.turns) ∙ e in cc);
    within = λ n ready e. absurd (let none : None ≡ Some ready = e in cc);
  },
)

pub blank_contacts : (cs : List ContactRows) → AllByRecursion IsBlank cs → length cs ≡ 256 → AreContacts cs [] 0
unfolding count_released
blank_contacts cs all many = record {
  many = many;
  each = λ i c at. blank_said c (blank_at cs i c all at);
  places = λ n at e. absurd (let none : None ≡ Some at = e in cc);
  counted = omega arith;
  few = omega arith;
}

pub blank_rows : (cs : List ContactRows) (contact : ℕ) → AllByRecursion IsBlank cs → rows_at (seen_all cs []) contact ≡ []
unfolding as_said
blank_rows [] contact all = refl
blank_rows (c ∷ cs) zero all = ap (λ rows. as_said (said_at (turns_in c.turns.entries) []) 0 rows) all.0.rows
blank_rows (c ∷ cs) (suc contact) all = blank_rows cs contact all.1

-- ---- messages are released

map_each : (f g : ContactRows → List KeptRow) (cs : List ContactRows) → ((i : ℕ) (c : ContactRows) → slice_get cs i ≡ Some c → f c ≡ g c) → map f cs ≡ map g cs
map_each f g [] h = refl
map_each f g (c ∷ cs) h = (λ j. h 0 c refl j ∷ map_each f g cs (λ i x at. h (suc i) x at) j)

-- other messages are released, of which nothing is said
pub seen_more : (contacts : List ContactRows) (released new : List (Option Released)) → ((i : ℕ) (c : ContactRows) → slice_get contacts i ≡ Some c → (n : ℕ) → said_at (turns_in c.turns.entries) new n ≡ said_at (turns_in c.turns.entries) released n)
    → map (seen_of new) contacts ≡ map (seen_of released) contacts
seen_more contacts released new same =
    map_each (seen_of new) (seen_of released) contacts
    (λ i c at. said_ext (said_at (turns_in c.turns.entries) new) (said_at (turns_in c.turns.entries) released) c.queues (λ n h. same i c at n))

count_more : (released : List (Option Released)) (k : ℕ) → count_released (released ++ replicate k None) ≡ count_released released
unfolding count_released
count_more [] zero = refl
count_more [] (suc k) = count_more [] k
count_more (None ∷ released) k = count_more released k
count_more (Some at ∷ released) k = ap suc (count_more released k)

map_none : (k : ℕ) → map group_of (replicate k None) ≡ replicate k None
map_none zero = refl
map_none (suc k) = ap (λ os. None ∷ os) (map_none k)

module _ (contacts : List ContactRows) (released : List (Option Released)) (count : ℕ) (a : AreContacts contacts released count) (k : ℕ) where
  abbrev longer : List (Option Released)
  longer = released ++ replicate k None

  pub longer_contacts : length longer < 2 ^ 32 → AreContacts contacts longer count
  longer_contacts few = record {
    many = a.many;
    each = λ i c at. (
      (a.each i c at).0,
      record {
        early = (a.each i c at).1.early;
        within = λ n ready e. (a.each i c at).1.within n ready (ap (said_of (turns_in c.turns.entries)) (sym (longer_at released k n None)) ∙ e);
      },
    );
    places = λ n at e. a.places n at (sym (longer_at released k n None) ∙ e);
    counted = omega (arith, a.counted, count_more released k);
    few = few;
  }

  pub longer_seen : seen_all contacts longer ≡ record (seen_all contacts released) { groups = map group_of released ++ replicate k None }
  longer_seen =
      (λ j. record {
        rows = seen_more contacts released longer (λ i c at n. ap (said_of (turns_in c.turns.entries)) (longer_at released k n None)) j;
        groups = (map-append group_of released (replicate k None) ∙ ap (λ os. map group_of released ++ os) (map_none k)) j;
      })

count_most : (released : List (Option Released)) → count_released released ≤ length released
unfolding count_released
count_most [] = omega arith
count_most (None ∷ released) = let rest : count_released released ≤ length released = count_most released in omega (arith, rest)
count_most (Some at ∷ released) = let rest : count_released released ≤ length released = count_most released in omega (arith, rest)

pub count_less : (released : List (Option Released)) (n : ℕ) → n < length released → get_or released n None ≡ None → count_released released < length released
unfolding count_released
count_less [] n h e = absurd (omega arith)
count_less (None ∷ released) n h e = let rest : count_released released ≤ length released = count_most released in omega (arith, rest)
count_less (Some at ∷ released) zero h e = absurd (let some : Some at ≡ None = e in cc)
count_less (Some at ∷ released) (suc n) h e = let rest : count_released released < length released = count_less released n (omega arith) e in omega (arith, rest)

count_set : (released : List (Option Released)) (n : ℕ) (at : Released) → n < length released → get_or released n None ≡ None → count_released (set released n (Some at)) ≡ suc (count_released released)
unfolding count_released
count_set [] n at h e = absurd (omega arith)
count_set (None ∷ released) zero at h e = refl
count_set (None ∷ released) (suc n) at h e = count_set released n at (omega arith) e
count_set (Some x ∷ released) zero at h e = absurd (let some : Some x ≡ None = e in cc)
count_set (Some x ∷ released) (suc n) at h e = ap suc (count_set released n at (omega arith) e)

-- no group is that of a message that was not released
pub not_released : (released : List (Option Released)) (n : ℕ) → get_or (map group_of released) n None ≡ None → get_or released n None ≡ None
not_released [] n e = refl
not_released (None ∷ released) zero e = refl
not_released (Some at ∷ released) zero e = absurd (let some : Some at.group ≡ None = e in cc)
not_released (o ∷ released) (suc n) e = not_released released n e

module _ (contacts : List ContactRows) (released : List (Option Released)) (count : ℕ) (a : AreContacts contacts released count) (n group : ℕ) (within : n < length released) (free : get_or released n None ≡ None) where
  abbrev one : Released
  one = record { group = group; place = count }

  abbrev more : List (Option Released)
  more = set released n (Some one)

  -- nothing is said of the message
  unsaid : (turns : List (ℕ × Turn)) → ((g : ℕ) (t : Turn) → turns_in turns g ≡ Some t → t.before ≤ count) → said_of (turns_in turns) (Some one) ≡ None
  unsaid turns early = by (turns_in turns group) refl
    where
      by : (t : Option Turn) → turns_in turns group ≡ t → said_before count t ≡ None
      by None e = refl
      by (Some t) e = let late : nat_lt count t.before ≡ false = (let m : t.before ≤ count = early group t e in grind (arith, m)) in ap (λ b. cond b (Some t.shared) None) late

  same_said : (turns : List (ℕ × Turn)) → ((g : ℕ) (t : Turn) → turns_in turns g ≡ Some t → t.before ≤ count) → (m : ℕ) → said_at (turns_in turns) more m ≡ said_at (turns_in turns) released m
  same_said turns early m =
      elim (cases_eq m n) [
        | inl here ↦ subst (λ x. said_at (turns_in turns) more x ≡ said_at (turns_in turns) released x) (sym here)
            (ap (said_of (turns_in turns)) (get_or-set_same released n (Some one) None within) ∙ (unsaid turns early ∙ ap (said_of (turns_in turns)) (sym free)))
        | inr away ↦ ap (said_of (turns_in turns)) (get_or-set_other released n m (Some one) None away)
      ]

  places_more : (m : ℕ) (at : Released) → get_or more m None ≡ Some at → at.place < count + 1
  places_more m at e =
      elim (cases_eq m n) [
        | inl here ↦ (let is : Some one ≡ Some at = sym (get_or-set_same released n (Some one) None within) ∙ (ap (λ x. get_or more x None) (sym here) ∙ e) in
            let same : one ≡ at = cc in
            subst (λ (x : Released). x.place < count + 1) same (omega arith))
        | inr away ↦ (let low : at.place < count = a.places m at (sym (get_or-set_other released n m (Some one) None away) ∙ e) in omega (arith, low))
      ]

  pub released_contacts : AreContacts contacts more (count + 1)
  released_contacts = record {
    many = a.many;
    each = λ i c at. (
      (a.each i c at).0,
      record {
        early = λ g t e. (let low : t.before ≤ count = (a.each i c at).1.early g t e in omega (arith, low));
        within = λ m ready e. (a.each i c at).1.within m ready (sym (same_said c.turns.entries (a.each i c at).1.early m) ∙ e);
      },
    );
    places = places_more;
    counted = omega (arith, a.counted, count_set released n one within free);
    few = omega (arith, a.few, length-set released n (Some one));
  }

  pub released_seen : seen_all contacts more ≡ record (seen_all contacts released) { groups = set (map group_of released) n (Some group) }
  released_seen =
      (λ j. record {
        rows = seen_more contacts released more (λ i c at m. same_said c.turns.entries (a.each i c at).1.early m) j;
        groups = map-set group_of released n (Some one) j;
      })

  pub released_fits : count + 1 < 2 ^ 32
  released_fits = omega (arith, a.counted, a.few, count_less released n within free)

-- ---- one contact's rows change

pub said_for : (contacts : List ContactRows) (released : List (Option Released)) (count contact : ℕ) (c : ContactRows) → AreContacts contacts released count → contact < length contacts → c ≡ get_or contacts contact c → IsSaidFor released count c
said_for contacts released count contact c a within read = a.each contact c (contact_of contacts contact c within read)

pub still_for : (released : List (Option Released)) (count : ℕ) (c new : ContactRows) → IsSaidFor released count c → (HasTurnRoom c → HasTurnRoom new)
    → ((g : ℕ) (t : Turn) → turns_in new.turns.entries g ≡ Some t → turns_in c.turns.entries g ≡ Some t) → length c.queues ≤ length new.queues → IsSaidFor released count new
still_for released count c new s room fewer long = (room s.0, said_still released count c.turns.entries new.turns.entries c.queues new.queues s.1 fewer long)

pub same_turns : (c new : ContactRows) → new.turns.entries ≡ c.turns.entries → (g : ℕ) (t : Turn) → turns_in new.turns.entries g ≡ Some t → turns_in c.turns.entries g ≡ Some t
same_turns c new e g t at = ap (λ es. turns_in es g) (sym e) ∙ at

put_row : (o : Option Bool) (old row : KeptRow) → turned o (record row { ready = old.ready }) ≡ record (turned o old) { row = row.row }
put_row None old row = refl
put_row (Some b) old row = refl

pub seen_put : (released : List (Option Released)) (c new : ContactRows) (n : ℕ) (row : KeptRow) → n < length c.queues → new.turns.entries ≡ c.turns.entries
    → new.queues ≡ set c.queues n (record row { ready = (kept_in c.queues n).ready }) → seen_of released new ≡ set (seen_of released c) n (record (kept_in (seen_of released c) n) { row = row.row })
seen_put released c new n row within turns queues =
    let said : ℕ → Option Bool = said_at (turns_in c.turns.entries) released in
    (λ j. as_said (said_at (turns_in (turns j)) released) 0 (queues j))
    ∙ (said_set said c.queues n (record row { ready = (kept_in c.queues n).ready }) within
    ∙ ap (set (seen_of released c) n) (put_row (said n) (kept_in c.queues n) row ∙ ap (λ (k : KeptRow). record k { row = row.row }) (sym (said_one said n c.queues within))))

pub seen_reserved : (released : List (Option Released)) (count : ℕ) (c new : ContactRows) (numbers : ℕ) → IsSaidFor released count c → new.turns.entries ≡ c.turns.entries
    → new.queues ≡ with_numbers numbers c.queues → seen_of released new ≡ with_numbers numbers (seen_of released c)
seen_reserved released count c new numbers s turns queues =
    (λ j. as_said (said_at (turns_in (turns j)) released) 0 (queues j)) ∙ said_more (said_at (turns_in c.turns.entries) released) c.queues numbers s.1.within

pub seen_kept : (released : List (Option Released)) (c new : ContactRows) → new.turns.entries ≡ c.turns.entries → new.queues ≡ c.queues → seen_of released new ≡ seen_of released c
seen_kept released c new turns queues = (λ j. as_said (said_at (turns_in (turns j)) released) 0 (queues j))

pub seen_brought : (released : List (Option Released)) (c new : ContactRows) → new.turns.entries ≡ [] → new.queues ≡ seen_of released c → seen_of released new ≡ seen_of released c
seen_brought released c new turns queues =
    (λ j. as_said (said_at (turns_in (turns j)) released) 0 (queues j))
    ∙ said_none (said_at (turns_in []) released) (seen_of released c) (λ n h. nothing (get_or released n None))
  where
    nothing : (o : Option Released) → said_of (turns_in []) o ≡ None
    nothing None = refl
    nothing (Some at) = refl

pub seen_long : (released : List (Option Released)) (c : ContactRows) → length (seen_of released c) ≡ length c.queues
seen_long released c = said_length (said_at (turns_in c.turns.entries) released) 0 c.queues

pub more_numbers : (numbers : ℕ) (rows : List KeptRow) → length rows ≤ length (with_numbers numbers rows)
more_numbers numbers rows = omega (arith, length-append rows (replicate (numbers - length rows) (record { ready = false; row = record { seen = false; owed = false; asked = false; tries = 0; expiry = 0 } })))

-- a word on a group, of all that are released
module _ (contacts : List ContactRows) (released : List (Option Released)) (count : ℕ) (a : AreContacts contacts released count) (contact : ℕ) (c new : ContactRows) (s : IsSaidFor released count c) (group : ℕ) (turn : Turn) (now : turn.before ≡ count)
    (is : seen_of released new ≡ as_said (said_at (with_turn group turn (turns_in c.turns.entries)) released) 0 c.queues)
    (many : length new.queues ≡ length c.queues)
    (turns : (g : ℕ) (t : Turn) → turns_in new.turns.entries g ≡ Some t → with_turn group turn (turns_in c.turns.entries) g ≡ Some t)
    (room : HasTurnRoom new) (rows : (n : ℕ) → get_or (map group_of released) n None ≡ Some group → n < length (seen_of released c)) where
  pub all_early : (n : ℕ) (at : Released) → get_or released n None ≡ Some at → at.place < turn.before
  all_early n at e = let low : at.place < count = a.places n at e in omega (arith, low, now)

  pub seen_word : seen_of released new ≡ as_said (word_of (map group_of released) group turn.shared) 0 (seen_of released c)
  seen_word = is ∙ group_said released (turns_in c.turns.entries) group turn c.queues all_early

  early_by : (g : ℕ) (t : Turn) (b : Bool) → nat_eq group g ≡ b → cond b (Some turn) (turns_in c.turns.entries g) ≡ Some t → t.before ≤ count
  early_by g t true e is = let same : turn ≡ t = cc in subst (λ (x : Turn). x.before ≤ count) same (omega (arith, now))
  early_by g t false e is = s.1.early g t is

  there_by : (n : ℕ) (o : Option Released) → get_or released n None ≡ o → (ready : Bool) → said_of (with_turn group turn (turns_in c.turns.entries)) o ≡ Some ready → n < length c.queues
  there_by n None e ready h = absurd (let none : None ≡ Some ready = h in cc)
  there_by n (Some at) e ready h = by (nat_eq group at.group) refl
    where
      in_group : nat_eq group at.group ≡ true → get_or (map group_of released) n None ≡ Some group
      in_group b = group_in released n ∙ (ap group_of e ∙ ap Some (let same : at.group ≡ group = grind arith in same))

      by : (b : Bool) → nat_eq group at.group ≡ b → n < length c.queues
      by true b = (let low : n < length (seen_of released c) = rows n (in_group b) in omega (arith, low, seen_long released c))
      by false b = s.1.within n ready (ap (said_of (turns_in c.turns.entries)) e ∙ (ap (λ x. said_before at.place (cond x (Some turn) (turns_in c.turns.entries at.group))) (sym b) ∙ h))

  pub word_for : IsSaidFor released count new
  word_for = (
    room,
    record {
      early = λ g t e. early_by g t (nat_eq group g) refl (turns g t e);
      within = λ n ready e.
          (let low : n < length c.queues = there_by n (get_or released n None) refl ready
          (fewer_said (turns_in new.turns.entries) (with_turn group turn (turns_in c.turns.entries)) turns (get_or released n None) ready e) in
          omega (arith, low, many));
    },
  )

pub seen_ready : (released : List (Option Released)) (c new : ContactRows) (n : ℕ) (ready : Bool) → n < length c.queues → said_at (turns_in c.turns.entries) released n ≡ None → new.turns.entries ≡ c.turns.entries
    → new.queues ≡ set c.queues n (with_ready ready (kept_in c.queues n)) → seen_of released new ≡ set (seen_of released c) n (with_ready ready (kept_in (seen_of released c) n))
seen_ready released c new n ready within none turns queues =
    let said : ℕ → Option Bool = said_at (turns_in c.turns.entries) released in
    let plain : kept_in (seen_of released c) n ≡ kept_in c.queues n = said_one said n c.queues within ∙ ap (λ o. turned o (kept_in c.queues n)) none in
    (λ j. as_said (said_at (turns_in (turns j)) released) 0 (queues j))
    ∙ (said_set said c.queues n (with_ready ready (kept_in c.queues n)) within
    ∙ ap (set (seen_of released c) n) (ap (λ o. turned o (with_ready ready (kept_in c.queues n))) none ∙ ap (with_ready ready) (sym plain)))

-- the rows of a contact, by what is seen
pub rows_seen : (contacts : List ContactRows) (released : List (Option Released)) (now : RowsTable) (contact : ℕ) (c : ContactRows) → seen_all contacts released ≡ now → contact < length contacts → c ≡ get_or contacts contact c
    → rows_at now contact ≡ seen_of released c
rows_seen contacts released now contact c is within read = ap (λ (v : RowsTable). rows_at v contact) (sym is) ∙ seen_at released contacts contact c within read

pub rows_within : (contacts : List ContactRows) (released : List (Option Released)) (now : RowsTable) (contact n : ℕ) (c : ContactRows) → seen_all contacts released ≡ now → contact < length contacts → c ≡ get_or contacts contact c
    → n < length (rows_at now contact) → n < length c.queues
rows_within contacts released now contact n c is within read low =
    let m : n < length (seen_of released c) = subst (λ (rs : List KeptRow). n < length rs) (rows_seen contacts released now contact c is within read) low in
    omega (arith, m, seen_long released c)

pub groups_length : (released : List (Option Released)) → length (map group_of released) ≡ length released
groups_length [] = refl
groups_length (o ∷ released) = ap suc (groups_length released)

pub groups_within : (contacts : List ContactRows) (released : List (Option Released)) (now : RowsTable) (n : ℕ) → seen_all contacts released ≡ now → n < length now.groups → n < length released
groups_within contacts released now n is low =
    let m : n < length (map group_of released) = subst (λ (v : RowsTable). n < length v.groups) (sym is) low in
    let long : length (map group_of released) ≡ length released = groups_length released in
    omega (arith, m, long)

pub groups_free : (contacts : List ContactRows) (released : List (Option Released)) (now : RowsTable) (n : ℕ) → seen_all contacts released ≡ now → get_or now.groups n None ≡ None → get_or released n None ≡ None
groups_free contacts released now n is free = not_released released n (ap (λ (v : RowsTable). get_or v.groups n None) is ∙ free)

-- ---- what is said of a group, as the whole table has it

word_kept : (b ready : Bool) (kept : KeptRow) → turned (cond b (Some ready) None) kept ≡ cond b (with_ready ready kept) kept
word_kept true ready kept = refl
word_kept false ready kept = refl

no_word : (o : Option ℕ) (group n most : ℕ) (a b : KeptRow) → (o ≡ Some group → n < most) → most ≤ n → cond (is_of_group o group) a b ≡ b
no_word None group n most a b h past = refl
no_word (Some other) group n most a b h past =
    elim (nat_eq group other) as (λ x. nat_eq group other ≡ x → cond x a b ≡ b) [
      | true ↦ λ e. absurd (let same : other ≡ group = grind arith in let low : n < most = h (ap Some same) in omega (arith, low, past))
      | false ↦ λ e. refl
    ] refl

pub sets_group : (t : RowsTable) (wants : List WantedFromContact) (contact group : ℕ) (ready : Bool) → contact < length t.rows → ((n : ℕ) → get_or t.groups n None ≡ Some group → n < length (rows_at t contact))
    → SetsGroup (record { rows = t.rows; wants = wants; groups = t.groups })
    (record { rows = set t.rows contact (as_said (word_of t.groups group ready) 0 (rows_at t contact)); wants = wants; groups = t.groups }) contact group ready
sets_group t wants contact group ready within rows =
    let old = rows_at t contact in
    let new = as_said (word_of t.groups group ready) 0 old in
    let here : get_or (set t.rows contact new) contact [] ≡ new = get_or-set_same t.rows contact new [] within in
    record {
      here = λ n. ap (λ (rs : List KeptRow). kept_in rs n) here
          ∙ elim (cases_lt n (length old)) as (λ _. kept_in new n ≡ cond (is_of_group (get_or t.groups n None) group) (with_ready ready (kept_in old n)) (kept_in old n)) [
            | inl inside ↦ said_one (word_of t.groups group ready) n old inside ∙ word_kept (is_of_group (get_or t.groups n None) group) ready (kept_in old n)
            | inr past ↦ said_past (word_of t.groups group ready) n old past
                ∙ (sym (get_or_past old n no_kept past) ∙ sym (no_word (get_or t.groups n None) group n (length old) (with_ready ready (kept_in old n)) (kept_in old n) (rows n) past))
          ];
      many = ap (λ (rs : List KeptRow). length rs) here ∙ said_length (word_of t.groups group ready) 0 old;
      others = λ other away. get_or-set_other t.rows contact other new [] away;
      wants = refl;
      groups = refl;
    }

pub same_none : (c new : ContactRows) → new.turns.entries ≡ [] → (g : ℕ) (t : Turn) → turns_in new.turns.entries g ≡ Some t → turns_in c.turns.entries g ≡ Some t
same_none c new e g t at = absurd (let none : None ≡ Some t = ap (λ es. turns_in es g) (sym e) ∙ at in cc)

pub on_err : {A E : Type 0} (r : Result A E) (P : Type 0) → P → OnErr r P
on_err (Ok x) P h = tt
on_err (Err x) P h = h
