-- Whose turn it is, and what is done on each connection.
use Rattle.std.proofs.Common.{◌≡◌, ℕ, zero, suc, ◌+◌, ◌<◌, ◌≤◌, Bool, true, false, List, [], ◌∷◌, ◌++◌, length, take, set, get_or}
use Rattle.std.proofs.Common.{Option, Some, None, All, IfSome, refl, sym, ap, ◌∙◌, subst, arith, leb}
use Rattle.std.proofs.Common.{Result, if◌then◌else◌}
use Rattle.std.proofs.lemmas.Bool.Decides.{nat_tests}
use Rattle.std.specs.Prelude.{slice_get, slice_set}
use Rattle.std.specs.declared.alloc.AllocError.{AllocError}
use Rattle.node_service.specs.declared.node.Reply.{Reply}
use Rattle.connections.specs.declared.desk.Place.{Place}
use Rattle.connections.specs.declared.connection.Standing.{Standing}
use Rattle.connections.specs.declared.connection.Standing.TheVariants as standing
use Rattle.connections.specs.Connections.{ConnectionValue, asks_since}
use Rattle.connections.specs.Desks.{AnswersAt, AnswersOn, AsksFirst, EachBy, NobodyAsks, Saying, earlier_of}

-- ---- each up to a place

-- of each before a place only the connection was touched, in this way, and those behind are as they were
abbrev pub EachUpTo : {S : Type 0} → (ConnectionValue → ConnectionValue → Type 0) → ℕ → (ps qs : List (Place S)) → Type 0
EachUpTo R zero ps qs = qs ≡ ps
EachUpTo R (suc n) [] [] = Unit {0}
EachUpTo R (suc n) [] (q ∷ qs) = ⊥
EachUpTo R (suc n) (p ∷ ps) [] = ⊥
EachUpTo R (suc n) (p ∷ ps) (q ∷ qs) =
    (q ≡ record p { connection = q.connection }) × R p.connection q.connection × EachUpTo R n ps qs

pub each_all : {S : Type 0} (R : ConnectionValue → ConnectionValue → Type 0) (n : ℕ) (ps qs : List (Place S))
    → length qs ≤ n → EachUpTo R n ps qs → EachBy R ps qs
each_all R zero [] [] within each = tt
each_all R zero (p ∷ ps) [] within each = absurd (cc)
each_all R zero ps (q ∷ qs) within each = absurd (omega arith)
each_all R (suc n) [] [] within each = tt
each_all R (suc n) [] (q ∷ qs) within each = absurd each
each_all R (suc n) (p ∷ ps) [] within each = absurd each
each_all R (suc n) (p ∷ ps) (q ∷ qs) within each = (each.0, each.1, each_all R n ps qs (omega arith) each.2)

-- the one at the place was touched
pub each_more : {S : Type 0} (R : ConnectionValue → ConnectionValue → Type 0) (n : ℕ) (ps qs : List (Place S))
    (p : Place S) (c : ConnectionValue) → n < length qs → p ≡ get_or qs n p → R p.connection c → EachUpTo R n ps qs
    → EachUpTo R (suc n) ps (set qs n (record p { connection = c }))
each_more R n ps [] p c within is does each = absurd (omega arith)
each_more R zero [] (q ∷ qs) p c within is does each = absurd (cc)
each_more {S} R zero (x ∷ ps) (q ∷ qs) p c within is does each =
    let same : p ≡ x = cc in
    let rest : qs ≡ ps = cc in (
      ap (λ (y : Place S). record y { connection = c }) same,
      subst (λ (y : Place S). R y.connection c) same does,
      rest,
    )
each_more R (suc n) [] (q ∷ qs) p c within is does each = absurd each
each_more R (suc n) (x ∷ ps) (q ∷ qs) p c within is does each =
    (each.0, each.1, each_more R n ps qs p c (omega arith) is does each.2)

pub each_next : {S : Type 0} (R : ConnectionValue → ConnectionValue → Type 0) (n : ℕ) (ps qs : List (Place S))
    (p : Place S) (c : ConnectionValue) → n < length qs → p ≡ get_or qs n p → R (get_or qs n p).connection c
    → EachUpTo R n ps qs → EachUpTo R (n + 1) ps (set qs n (record (get_or qs n p) { connection = c }))
each_next {S} R n ps qs p c within is does each =
    let more : suc n ≡ n + 1 = omega arith in
    subst (λ (m : ℕ). EachUpTo R m ps (set qs n (record (get_or qs n p) { connection = c }))) more
    (each_more R n ps qs (get_or qs n p) c within (ap (λ (y : Place S). get_or qs n y) is) does each)

take_front : {X : Type 0} (n : ℕ) (xs ys : List X) → length xs ≡ n → take n (xs ++ ys) ≡ xs
take_front zero [] ys is = refl
take_front zero (x ∷ xs) ys is = absurd (omega (arith, is))
take_front (suc n) [] ys is = absurd (omega (arith, is))
take_front {X} (suc n) (x ∷ xs) ys is = ap (λ (r : List X). x ∷ r) (take_front n xs ys (omega (arith, is)))

-- all were gone through, and put back where they were
pub each_back : {S : Type 0} (R : ConnectionValue → ConnectionValue → Type 0) (i n : ℕ) (old ps qs ys : List (Place S))
    → ps ≡ old → length qs ≡ n → length qs ≤ i → EachUpTo R i ps qs → EachBy R old (take n (qs ++ ys))
each_back {S} R i n old ps qs ys same long within each =
    subst (λ (rs : List (Place S)). EachBy R old rs) (sym (take_front n qs ys long))
    (subst (λ (os : List (Place S)). EachBy R os qs) same (each_all R i ps qs within each))

-- ---- who asks first

abbrev pub FoundFirst : {S : Type 0} → List (Place S) → Option (ℕ × ℕ) → Type 0
FoundFirst places None = NobodyAsks places
FoundFirst places (Some found) = AsksFirst places found.0 found.1

one_holds : {X : Type 0} (P : X → Type 0) (x : X) → P x → (k : ℕ) (d : X) → k < 1 → P (get_or (x ∷ []) k d)
one_holds P x here zero d within = here
one_holds P x here (suc k) d within = absurd (omega arith)

next_holds : {X : Type 0} (P : X → Type 0) (y : X) (ys : List X) → P y → All P ys → (k : ℕ) (d : X)
    → k < length (y ∷ ys) → P (get_or (y ∷ ys) k d)
next_holds P y ys here all zero d within = here
next_holds P y ys here all (suc k) d within = all k d (omega arith)

all_more : {X : Type 0} (P : X → Type 0) (xs : List X) (x : X) → All P xs → P x → All P (xs ++ x ∷ [])
all_more P [] x all here = one_holds P x here
all_more P (y ∷ xs) x all here =
    next_holds P y (xs ++ x ∷ []) (all 0 y (omega arith))
    (all_more P xs x (λ k d within. all (suc k) d (omega (arith, within))) here)

all_weaker : {X : Type 0} (P Q : X → Type 0) (xs : List X) → ((x : X) → P x → Q x) → All P xs → All Q xs
all_weaker P Q xs goes all = λ k d within. goes (get_or xs k d) (all k d within)

later_too : (o : Option ℕ) (a b : ℕ) → b ≤ a → IfSome o (λ time. a ≤ time) → IfSome o (λ time. b ≤ time)
later_too None a b before after = tt
later_too (Some time) a b before after = omega (arith, before, after)

get_front : {X : Type 0} (xs : List X) (x p : X) (i : ℕ) → slice_get xs i ≡ Some p → slice_get (xs ++ x ∷ []) i ≡ Some p
get_front [] x p i is = absurd (cc)
get_front (y ∷ xs) x p zero is = is
get_front (y ∷ xs) x p (suc i) is = get_front xs x p i is

get_last : {X : Type 0} (xs : List X) (x : X) → slice_get (xs ++ x ∷ []) (length xs) ≡ Some x
get_last [] x = refl
get_last (y ∷ xs) x = get_last xs x

pub get_within : {X : Type 0} (xs : List X) (p : X) (i : ℕ) → slice_get xs i ≡ Some p → i < length xs
get_within [] p i is = absurd (cc)
get_within (y ∷ xs) p zero is = omega arith
get_within (y ∷ xs) p (suc i) is = omega (arith, get_within xs p i is)

-- one who does not ask comes behind
pub found_other : {S : Type 0} (places : List (Place S)) (p : Place S) (found : Option (ℕ × ℕ))
    → asks_since p.connection.standing ≡ None → FoundFirst places found → FoundFirst (places ++ p ∷ []) found
found_other {S} places p None none found = all_more (λ (q : Place S). asks_since q.connection.standing ≡ None) places p found none
found_other {S} places p (Some f) none found = record {
  place = found.place;
  is = get_front places p found.place f.0 found.is;
  asks = found.asks;
  longest =
      all_more (λ (q : Place S). IfSome (asks_since q.connection.standing) (λ time. f.1 ≤ time)) places p found.longest
      (subst (λ (o : Option ℕ). IfSome o (λ time. f.1 ≤ time)) (sym none) tt);
}

-- one who asks comes behind
pub found_asks : {S : Type 0} (places : List (Place S)) (p : Place S) (found : Option (ℕ × ℕ)) (since : ℕ)
    → p.connection.standing ≡ standing.Asks since → FoundFirst places found
    → FoundFirst (places ++ p ∷ []) (earlier_of found (length places) since)
found_asks {S} places p None since asks found = record {
  place = p;
  is = get_last places p;
  asks = asks;
  longest =
      all_more (λ (q : Place S). IfSome (asks_since q.connection.standing) (λ time. since ≤ time)) places p
      (all_weaker (λ (q : Place S). asks_since q.connection.standing ≡ None)
      (λ (q : Place S). IfSome (asks_since q.connection.standing) (λ time. since ≤ time)) places
      (λ q none. subst (λ (o : Option ℕ). IfSome o (λ time. since ≤ time)) (sym none) tt) found)
      (subst (λ (s : Standing). IfSome (asks_since s) (λ time. since ≤ time)) (sym asks) (omega arith));
}
found_asks {S} places p (Some f) since asks found = by_order (leb f.1 since) refl where
  by_order : (b : Bool) → leb f.1 since ≡ b
      → FoundFirst (places ++ p ∷ []) (if b then Some (f.0, f.1) else Some (length places, since))
  by_order true is =
      let before : f.1 ≤ since = grind (arith, nat_tests) in
      record {
        place = found.place;
        is = get_front places p found.place f.0 found.is;
        asks = found.asks;
        longest =
            all_more (λ (q : Place S). IfSome (asks_since q.connection.standing) (λ time. f.1 ≤ time)) places p found.longest
            (subst (λ (s : Standing). IfSome (asks_since s) (λ time. f.1 ≤ time)) (sym asks) before);
      }
  by_order false is =
      let behind : since ≤ f.1 = grind (arith, nat_tests) in
      record {
        place = p;
        is = get_last places p;
        asks = asks;
        longest =
            all_more (λ (q : Place S). IfSome (asks_since q.connection.standing) (λ time. since ≤ time)) places p
            (all_weaker (λ (q : Place S). IfSome (asks_since q.connection.standing) (λ time. f.1 ≤ time))
            (λ (q : Place S). IfSome (asks_since q.connection.standing) (λ time. since ≤ time)) places
            (λ q later. later_too (asks_since q.connection.standing) f.1 since behind later) found.longest)
            (subst (λ (s : Standing). IfSome (asks_since s) (λ time. since ≤ time)) (sym asks) (omega arith));
      }

not_asking : (s : Standing) → ((time : ℕ) → s ≡ standing.Asks time → ⊥) → asks_since s ≡ None
not_asking standing.Hears not = refl
not_asking (standing.Waits time) not = refl
not_asking (standing.Asks time) not = absurd (not time refl)
not_asking standing.Fault not = refl

take_next : {X : Type 0} (xs : List X) (i : ℕ) (p : X) → i < length xs → p ≡ get_or xs i p
    → take (i + 1) xs ≡ take i xs ++ p ∷ []
take_next {X} xs i p within is =
    let more : i + 1 ≡ suc i = omega arith in
    ap (λ (n : ℕ). take n xs) more ∙ go xs i p within is where
      go : (xs : List X) (i : ℕ) (p : X) → i < length xs → p ≡ get_or xs i p → take (suc i) xs ≡ take i xs ++ p ∷ []
      go [] i p within is = absurd (omega arith)
      go (x ∷ xs) zero p within is = ap (λ (q : X). q ∷ []) (sym is)
      go (x ∷ xs) (suc i) p within is = ap (λ (r : List X). x ∷ r) (go xs i p (omega arith) is)

take_length : {X : Type 0} (xs : List X) (i : ℕ) → i ≤ length xs → length (take i xs) ≡ i
take_length xs zero within = refl
take_length [] (suc i) within = absurd (omega arith)
take_length (x ∷ xs) (suc i) within = ap (λ (n : ℕ). suc n) (take_length xs i (omega arith))

-- everything was looked at
pub take_whole : {X : Type 0} (xs : List X) (i : ℕ) → length xs ≤ i → take i xs ≡ xs
take_whole [] zero within = refl
take_whole [] (suc i) within = refl
take_whole (x ∷ xs) zero within = absurd (omega arith)
take_whole {X} (x ∷ xs) (suc i) within = ap (λ (r : List X). x ∷ r) (take_whole xs i (omega arith))

-- the next one asks, or does not
module _ {S : Type 0} (places : List (Place S)) (i : ℕ) (p : Place S) (found : Option (ℕ × ℕ))
    (within : i < length places) (is : p ≡ get_or places i p) (before : FoundFirst (take i places) found) where
  pub next_asks : (time : ℕ) → p.connection.standing ≡ standing.Asks time
      → FoundFirst (take (i + 1) places) (earlier_of found i time)
  next_asks time asks =
      let counted : i ≤ length places = omega arith in
      subst (λ (xs : List (Place S)). FoundFirst xs (earlier_of found i time)) (sym (take_next places i p within is))
      (subst (λ (n : ℕ). FoundFirst (take i places ++ p ∷ []) (earlier_of found n time)) (take_length places i counted)
      (found_asks (take i places) p found time asks before))

  pub next_other : ((time : ℕ) → p.connection.standing ≡ standing.Asks time → ⊥) → FoundFirst (take (i + 1) places) found
  next_other not =
      subst (λ (xs : List (Place S)). FoundFirst xs found) (sym (take_next places i p within is))
      (found_other (take i places) p found (not_asking p.connection.standing not) before)

-- ---- who asks first was answered

get_same : {X : Type 0} (xs : List X) (i : ℕ) (p d : X) → slice_get xs i ≡ Some p → get_or xs i d ≡ p
get_same [] i p d is = absurd (cc)
get_same (x ∷ xs) zero p d is = cc
get_same (x ∷ xs) (suc i) p d is = get_same xs i p d is

pub answered_at : {S N : Type 0} (says : Saying N) (n n' : N) (places : List (Place S)) (at since : ℕ) (reply : Reply)
    (told : Result (Unit {0}) AllocError) (p : Place S) (c : ConnectionValue) → AsksFirst places at since
    → p ≡ get_or places at p → AnswersOn says n n' p.connection c reply.came told
    → AnswersAt says n n' places (slice_set places at (record p { connection = c })) (record { at = at; reply = reply; told = told })
answered_at {S} says n n' places at since reply told p c first is answers =
    let same : p ≡ first.place = is ∙ get_same places at first.place p first.is in
    record {
      since = since;
      first = first;
      connection = c;
      others = ap (λ (q : Place S). slice_set places at (record q { connection = c })) same;
      answers = subst (λ (q : Place S). AnswersOn says n n' q.connection c reply.came told) same answers;
    }
