-- The links of a node as those of a course, what was heard on them, and which of them a course closes
-- as redundant.
use Rattle.std.proofs.Common.{◌≡◌, ℕ, zero, suc, ◌+◌, ◌<◌, Bool, true, false, cond, ◌&&◌, nat_eq, eq-eqb, List, [], ◌∷◌, length, refl, sym, ◌∙◌, ap, subst, inl, inr, arith, Some, ◌≤◌, ◌||◌, drop, Option}
use Rattle.std.specs.Prelude.{slice_get, slice_set, nat_lt}
use Rattle.std.proofs.lemmas.Bool.{cases_eq, ne_eqb}
use Rattle.sync_course.proofs.LiftLaws.{get_other, get_set, get_within, set_same}
use Rattle.sync_node.specs.declared.link.Link.{Link}
use Rattle.sync_node.specs.Courses.{AllRead, IsLinkRead, link_at, links_from, outdoes_of}
use Rattle.sync_node.specs.Sending.{ClosesSome}
use Rattle.std.specs.Cmp.Lexicographic.{slice_cmp}
use Rattle.std.specs.Ordering.{nat_cmp}
use Rattle.std.specs.declared.cmp.Ordering.{Ordering}
use Rattle.sync_course.specs.Links.{beats, is_beaten, is_preferred, is_going, is_nonce_kept}
use Rattle.sync_course.specs.Links.{without_redundant}
use Rattle.sync_course.specs.Redundant.{closed_upto}
use Rattle.sync_course.proofs.KeptLaws.{closed_whole, closes_next}
use Rattle.sync_course.specs.declared.ends.LinkEnd.{LinkEnd}
use Rattle.sync_course.specs.Links as course_links
use Rattle.sync_course.specs.declared.ends.LinkEnd.TheVariants as link_end

-- ---- lists of links

-- what was heard, changed on one link
abbrev pub heard_with : ℕ → List ℕ → (ℕ → List ℕ) → ℕ → List ℕ
heard_with n bytes heard k = cond (nat_eq k n) bytes (heard k)

pub get_at : (k n : ℕ) (links : List Link) (heard : ℕ → List ℕ) (l : Link)
    → slice_get links n ≡ Some l
    → slice_get (links_from k links heard) n ≡ Some (link_at l (heard (k + n)))
get_at k n [] heard l at = cc
get_at k zero (x ∷ links) heard l at =
    let same : x ≡ l = cc in
    let here : k ≡ k + 0 = omega arith in
    ap (λ (y : Link). Some (link_at y (heard k))) same ∙ ap (λ (j : ℕ). Some (link_at l (heard j))) here
get_at k (suc n) (x ∷ links) heard l at =
    let later : suc k + n ≡ k + suc n = omega arith in
    get_at (suc k) n links heard l at ∙ ap (λ (j : ℕ). Some (link_at l (heard j))) later

-- what was heard on other links does not matter
same_from : (k n : ℕ) (links : List Link) (heard : ℕ → List ℕ) (bytes : List ℕ) → n < k
    → links_from k links (heard_with n bytes heard) ≡ links_from k links heard
same_from k n [] heard bytes less = refl
same_from k n (x ∷ links) heard bytes less =
    let other : nat_eq k n ≡ false = ne_eqb k n (λ e. omega (arith, e, less)) in
    ap (λ (b : Bool). link_at x (cond b bytes (heard k)) ∷ links_from (suc k) links (heard_with n bytes heard)) other
    ∙ ap (λ (ls : List course_links.Link). link_at x (heard k) ∷ ls) (same_from (suc k) n links heard bytes (omega (arith, less)))

pub set_at : (k n : ℕ) (links : List Link) (heard : ℕ → List ℕ) (l' : Link) (bytes : List ℕ)
    → slice_set (links_from k links heard) n (link_at l' bytes) ≡ links_from k (slice_set links n l') (heard_with (k + n) bytes heard)
set_at k n [] heard l' bytes = refl
set_at k zero (x ∷ links) heard l' bytes =
    let here : nat_eq k (k + 0) ≡ true = eq-eqb k (k + 0) (omega arith) in
    ap (λ (b : Bool). link_at l' (cond b bytes (heard k)) ∷ links_from (suc k) links heard) (sym here)
    ∙ ap (λ (ls : List course_links.Link). link_at l' (heard_with (k + 0) bytes heard k) ∷ ls)
    (sym (same_from (suc k) (k + 0) links heard bytes (omega arith)))
set_at k (suc n) (x ∷ links) heard l' bytes =
    let other : nat_eq k (k + suc n) ≡ false = ne_eqb k (k + suc n) (λ e. omega (arith, e)) in
    let later : suc k + n ≡ k + suc n = omega arith in
    ap (λ (b : Bool). link_at x (cond b bytes (heard k)) ∷ slice_set (links_from (suc k) links heard) n (link_at l' bytes)) (sym other)
    ∙ ap (λ (ls : List course_links.Link). link_at x (heard_with (k + suc n) bytes heard k) ∷ ls)
    (set_at (suc k) n links heard l' bytes ∙ ap (λ (j : ℕ). links_from (suc k) (slice_set links n l') (heard_with j bytes heard)) later)

pub length_from : (k : ℕ) (links : List Link) (heard : ℕ → List ℕ)
    → length (links_from k links heard) ≡ length links
length_from k [] heard = refl
length_from k (x ∷ links) heard = ap suc (length_from (suc k) links heard)

pub all_read : (n : ℕ) (links : List Link) (heard : ℕ → List ℕ) (l l' : Link) (bytes : List ℕ)
    → slice_get links n ≡ Some l → AllRead heard links → IsLinkRead bytes l'
    → AllRead (heard_with n bytes heard) (slice_set links n l')
all_read n links heard l l' bytes at all read i x at_i =
    elim (cases_eq i n) [
      | inl same ↦
          let here : slice_get (slice_set links n l') n ≡ Some x = subst (λ (k : ℕ). slice_get (slice_set links n l') k ≡ Some x) same at_i in
          let both : Some l' ≡ Some x = sym (get_set links n l' (get_within links n l at)) ∙ here in
          let is : l' ≡ x = cc in
          subst (λ (b : Bool). IsLinkRead (cond b bytes (heard i)) x) (sym (eq-eqb i n same)) (subst (IsLinkRead bytes) is read)
      | inr other ↦
          subst (λ (b : Bool). IsLinkRead (cond b bytes (heard i)) x) (sym (ne_eqb i n other)) (all i x (sym (get_other links n i l' other) ∙ at_i))
    ]

-- ---- the turn of one more link

pub and_cond : (a b moved : Bool) → cond b (cond a moved true) true ≡ cond (a && b) moved true
and_cond true true moved = refl
and_cond true false moved = refl
and_cond false true moved = refl
and_cond false false moved = refl

pub still_then : (a b r : Bool) → a ≡ true → r ≡ b → r ≡ (a && b)
still_then true b r is same = same
still_then false b r is same = cc

pub still_else : (a b r : Bool) → a ≡ false → r ≡ a → r ≡ (a && b)
still_else true b r is same = cc
still_else false b r is same = same

-- ---- what was heard

-- links that are closed have read what they are to have read
pub closed_read : (mid links' : List Link) (heard : ℕ → List ℕ) → ClosesSome mid links'
    → AllRead heard mid → AllRead heard links'
closed_read mid links' heard closes read i l at =
    let one = closes.each i l at in
    elim one.is [
      | inl same ↦ subst (IsLinkRead (heard i)) (sym same) (read i one.before one.was)
      | inr closing ↦ subst (IsLinkRead (heard i)) (sym closing.1) (λ going. absurd (let e : link_end.Redundant ≡ link_end.Going = going in cc))
    ]

-- what was heard, as it was
pub same_cond : (k n : ℕ) (heard : ℕ → List ℕ) → cond (nat_eq k n) (heard n) (heard k) ≡ heard k
same_cond k n heard =
    elim (cases_eq k n) [
      | inl same ↦ ap (λ (b : Bool). cond b (heard n) (heard k)) (eq-eqb k n same) ∙ ap heard (sym same)
      | inr other ↦ ap (λ (b : Bool). cond b (heard n) (heard k)) (ne_eqb k n other)
    ]

pub same_heard : (k n : ℕ) (links : List Link) (heard : ℕ → List ℕ)
    → links_from k links (heard_with n (heard n) heard) ≡ links_from k links heard
same_heard k n [] heard = refl
same_heard k n (x ∷ links) heard =
    ap (λ (bytes : List ℕ). link_at x bytes ∷ links_from (suc k) links (heard_with n (heard n) heard)) (same_cond k n heard)
    ∙ ap (λ (ls : List course_links.Link). link_at x (heard k) ∷ ls) (same_heard (suc k) n links heard)

-- both links are asked, with one contact and known nonces
pub outdoes_when : (a b : Link) (before r : Bool) (o : Ordering) (theirs own : List ℕ)
    → a.end ≡ link_end.Going → b.end ≡ link_end.Going → a.session.contact ≡ b.session.contact
    → a.nonce ≡ Some theirs → b.nonce ≡ Some own → o ≡ slice_cmp nat_cmp theirs own
    → r ≡ is_preferred o before → r ≡ outdoes_of a b before
outdoes_when a b before r o theirs own first second same one two order is =
    is ∙ ap (λ (x : Ordering). is_preferred x before) order ∙ sym (whole first second same one two)
  where
    whole : a.end ≡ link_end.Going → b.end ≡ link_end.Going
        → a.session.contact ≡ b.session.contact → a.nonce ≡ Some theirs → b.nonce ≡ Some own
        → outdoes_of a b before ≡ is_preferred (slice_cmp nat_cmp theirs own) before
    whole first second same one two =
        ap (λ (e : LinkEnd). is_going e && (is_going b.end
        && (nat_eq a.session.contact b.session.contact && is_nonce_kept a.nonce b.nonce before)))
        first
        ∙ ap (λ (e : LinkEnd). is_going e
        && (nat_eq a.session.contact b.session.contact && is_nonce_kept a.nonce b.nonce before))
        second
        ∙ ap (λ (t : Bool). t && is_nonce_kept a.nonce b.nonce before)
        (eq-eqb a.session.contact b.session.contact same)
        ∙ ap (λ (n : Option (List ℕ)). is_nonce_kept n b.nonce before) one
        ∙ ap (λ (n : Option (List ℕ)). is_nonce_kept (Some theirs) n before) two

-- ---- some link of a list is kept rather than one

module _ (k : ℕ) (b : course_links.Link) where
  pub beaten_step : (j i : ℕ) (links : List course_links.Link) (a : course_links.Link)
      → slice_get links i ≡ Some a
      → is_beaten (j + i)
      (drop i links) k b ≡ (beats (j + i) a k b || is_beaten (suc (j + i)) (drop (suc i) links) k b)
  beaten_step j i [] a at = cc
  beaten_step j zero (x ∷ links) a at =
      let same : x ≡ a = cc in
      ap (λ y. beats (j + 0) y k b || is_beaten (suc (j + 0)) links k b) same
  beaten_step j (suc i) (x ∷ links) a at =
      let later : suc j + i ≡ j + suc i = omega arith in
      subst (λ (n : ℕ). is_beaten n (drop i links) k b ≡ (beats n a k b || is_beaten (suc n) (drop (suc i) links) k b)) later
      (beaten_step (suc j) i links a at)

  pub beaten_end : (j i : ℕ) (links : List course_links.Link) → length links ≤ i
      → is_beaten j (drop i links) k b ≡ false
  beaten_end j zero [] past = refl
  beaten_end j (suc i) [] past = refl
  beaten_end j zero (x ∷ links) past = absurd (omega (arith, past))
  beaten_end j (suc i) (x ∷ links) past = beaten_end j i links (omega (arith, past))

-- so far none of the links was
pub record NoneSoFar (links : List Link) (place i : ℕ) : Type 0 where
  pub rest : (heard : ℕ → List ℕ) (l : Link) → slice_get links place ≡ Some l
      → is_beaten 0 (links_from 0 links heard) place (link_at l (heard place))
      ≡ is_beaten i (drop i (links_from 0 links heard)) place (link_at l (heard place))

pub none_yet : (links : List Link) (place : ℕ) → NoneSoFar links place 0
none_yet links place = record { rest = λ heard l at. refl }

one_more_of : (links : List Link) (place i : ℕ) (a : Link) → slice_get links i ≡ Some a
    → NoneSoFar links place i → (heard : ℕ → List ℕ) (l : Link)
    → slice_get links place ≡ Some l
    → is_beaten 0 (links_from 0 links heard) place (link_at l (heard place))
    ≡ (outdoes_of a l (nat_lt i place) || is_beaten (suc i) (drop (suc i) (links_from 0 links heard)) place (link_at l (heard place)))
one_more_of links place i a at so heard l here =
    let plain : 0 + i ≡ i = omega arith in
    let found : slice_get (links_from 0 links heard) i ≡ Some (link_at a (heard i)) =
    get_at 0 i links heard a at ∙ ap (λ (j : ℕ). Some (link_at a (heard j))) plain in
    so.rest heard l here
    ∙ subst (λ (n : ℕ). is_beaten n (drop i (links_from 0 links heard)) place (link_at l (heard place))
    ≡ (beats n (link_at a (heard i)) place (link_at l (heard place))
    || is_beaten (suc n) (drop (suc i) (links_from 0 links heard)) place (link_at l (heard place)))) plain
    (beaten_step place (link_at l (heard place)) 0 i (links_from 0 links heard) (link_at a (heard i)) found)

-- this one was
pub some_beats : (links : List Link) (place i : ℕ) (a l0 : Link) (r : Bool)
    → slice_get links i ≡ Some a → slice_get links place ≡ Some l0
    → r ≡ outdoes_of a l0 (nat_lt i place) → r ≡ true → NoneSoFar links place i
    → (heard : ℕ → List ℕ) (l : Link) → slice_get links place ≡ Some l
    → true ≡ is_beaten 0 (links_from 0 links heard) place (link_at l (heard place))
some_beats links place i a l0 r at here is so before heard l at_l =
    let both : Some l0 ≡ Some l = sym here ∙ at_l in
    let same : l0 ≡ l = cc in
    let first : outdoes_of a l (nat_lt i place) ≡ true = ap (λ x. outdoes_of a x (nat_lt i place)) (sym same) ∙ sym is ∙ so in
    sym (one_more_of links place i a at before heard l at_l
    ∙ ap (λ (t : Bool). t || is_beaten (suc i) (drop (suc i) (links_from 0 links heard)) place (link_at l (heard place))) first)

-- this one was not
pub one_more : (links : List Link) (place i k : ℕ) (a l0 : Link) (r : Bool)
    → slice_get links i ≡ Some a → slice_get links place ≡ Some l0
    → r ≡ outdoes_of a l0 (nat_lt i place) → r ≡ false → k ≡ i + 1 → NoneSoFar links place i
    → NoneSoFar links place k
one_more links place i k a l0 r at here is so next before =
    let suc_is : suc i ≡ k = omega (arith, next) in
    subst (NoneSoFar links place) suc_is (record {
      rest = λ heard l at_l.
          let both : Some l0 ≡ Some l = sym here ∙ at_l in
          let same : l0 ≡ l = cc in
          let first : outdoes_of a l (nat_lt i place) ≡ false = ap (λ x. outdoes_of a x (nat_lt i place)) (sym same) ∙ sym is ∙ so in
          one_more_of links place i a at before heard l at_l
          ∙ ap (λ (t : Bool). t || is_beaten (suc i) (drop (suc i) (links_from 0 links heard)) place (link_at l (heard place))) first;
    })

-- none was
pub none_at_all : (links : List Link) (place i : ℕ) → length links ≤ i → NoneSoFar links place i
    → (heard : ℕ → List ℕ) (l : Link) → slice_get links place ≡ Some l
    → false ≡ is_beaten 0 (links_from 0 links heard) place (link_at l (heard place))
none_at_all links place i past so heard l at =
    let len : length (links_from 0 links heard) ≡ length links = length_from 0 links heard in
    sym (so.rest heard l at ∙ beaten_end place (link_at l (heard place)) i i (links_from 0 links heard) (omega (arith, len, past)))

-- ---- closing one after the other

rest_of : (all : List course_links.Link) (k m : ℕ) (links : List course_links.Link)
    → slice_get (closed_upto all k m links) m ≡ slice_get links m
rest_of all k zero links = refl
rest_of all k (suc m) [] = refl
rest_of all k (suc m) (x ∷ links) = rest_of all (suc k) m links

set_there : (k n : ℕ) (links : List Link) (heard : ℕ → List ℕ) (l' : Link)
    → slice_set (links_from k links heard) n (link_at l' (heard (k + n))) ≡ links_from k (slice_set links n l') heard
set_there k n [] heard l' = refl
set_there k zero (x ∷ links) heard l' =
    let here : k + 0 ≡ k = omega arith in
    ap (λ (j : ℕ). link_at l' (heard j) ∷ links_from (suc k) links heard) here
set_there k (suc n) (x ∷ links) heard l' =
    let later : k + suc n ≡ suc k + n = omega arith in
    ap (λ (ls : List course_links.Link). link_at x (heard k) ∷ ls)
    (ap (λ (j : ℕ). slice_set (links_from (suc k) links heard) n (link_at l' (heard j))) later ∙ set_there (suc k) n links heard l')

-- the first links, so many, are closed as a course has it
pub record ClosedSo (old links : List Link) (m : ℕ) : Type 0 where
  pub closed : (heard : ℕ → List ℕ)
      → links_from 0 links heard ≡ closed_upto (links_from 0 old heard) 0 m (links_from 0 old heard)

pub closed_none : (old : List Link) → ClosedSo old old 0
closed_none old = record { closed = λ heard. refl }

module _ (old links : List Link) (m : ℕ) (l : Link) (at : slice_get links m ≡ Some l) (r : Bool)
    (exact : (heard : ℕ → List ℕ) (x : Link) → slice_get links m ≡ Some x → r ≡ is_beaten 0 (links_from 0 links heard) m (link_at x (heard m)))
    (before : ClosedSo old links m) where
  next_closed : (heard : ℕ → List ℕ)
      → closed_upto (links_from 0 old heard) 0 (suc m) (links_from 0 old heard)
      ≡ slice_set (links_from 0 links heard) m (record (link_at l (heard m)) { stands = cond r link_end.Redundant l.end })
  next_closed heard =
      let whole : List course_links.Link = links_from 0 old heard in
      let now : List course_links.Link = links_from 0 links heard in
      let b : course_links.Link = link_at l (heard m) in
      let plain : 0 + m ≡ m = omega arith in
      let found : slice_get now m ≡ Some b = get_at 0 m links heard l at ∙ ap (λ (j : ℕ). Some (link_at l (heard j))) plain in
      let in_old : slice_get whole m ≡ Some b =
      sym (rest_of whole 0 m whole) ∙ ap (λ (ls : List course_links.Link). slice_get ls m) (sym (before.closed heard)) ∙ found in
      closes_next whole m b in_old
      ∙ ap (λ (ls : List course_links.Link). slice_set ls m (record b { stands = cond (is_beaten 0 ls m b) link_end.Redundant b.stands })) (sym (before.closed heard))
      ∙ ap (λ (t : Bool). slice_set now m (record b { stands = cond t link_end.Redundant b.stands })) (sym (exact heard l at))

  pub closes_it : r ≡ true → (k : ℕ) → k ≡ m + 1 → ClosedSo old (slice_set links m (record l { end = link_end.Redundant })) k
  closes_it so k next =
      let more : suc m ≡ k = omega (arith, next) in
      subst (ClosedSo old (slice_set links m (record l { end = link_end.Redundant }))) more (record {
        closed = λ heard.
            let plain : m ≡ 0 + m = omega arith in
            sym (next_closed heard
            ∙ ap (λ (t : Bool). slice_set (links_from 0 links heard) m (record (link_at l (heard m)) { stands = cond t link_end.Redundant l.end })) so
            ∙ ap (λ (j : ℕ). slice_set (links_from 0 links heard) m (link_at (record l { end = link_end.Redundant }) (heard j))) plain
            ∙ set_there 0 m links heard (record l { end = link_end.Redundant }));
      })

  pub leaves_it : r ≡ false → (k : ℕ) → k ≡ m + 1 → ClosedSo old links k
  leaves_it so k next =
      let more : suc m ≡ k = omega (arith, next) in
      subst (ClosedSo old links) more (record {
        closed = λ heard.
            let plain : 0 + m ≡ m = omega arith in
            let found : slice_get (links_from 0 links heard) m ≡ Some (link_at l (heard m)) =
            get_at 0 m links heard l at ∙ ap (λ (j : ℕ). Some (link_at l (heard j))) plain in
            sym (next_closed heard
            ∙ ap (λ (t : Bool). slice_set (links_from 0 links heard) m (record (link_at l (heard m)) { stands = cond t link_end.Redundant l.end })) so
            ∙ set_same (links_from 0 links heard) m (link_at l (heard m)) found);
      })

pub get_there : (links : List Link) (i : ℕ) → i < length links
    → (l : Link) × (slice_get links i ≡ Some l)
get_there [] i less = absurd (omega (arith, less))
get_there (x ∷ links) zero less = (x, refl)
get_there (x ∷ links) (suc i) less = get_there links i (omega (arith, less))

pub closed_all : (old links : List Link) (m : ℕ) → m ≡ length old → ClosedSo old links m
    → (heard : ℕ → List ℕ)
    → links_from 0 links heard ≡ without_redundant (links_from 0 old heard)
closed_all old links m all so heard =
    let whole : List course_links.Link = links_from 0 old heard in
    let count : m ≡ length whole = all ∙ sym (length_from 0 old heard) in
    so.closed heard ∙ ap (λ (k : ℕ). closed_upto whole 0 k whole) count ∙ closed_whole whole 0 whole
