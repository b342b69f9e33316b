-- Readers: what is written is read again, whatever follows, and what is read was written.
use Rattle.std.proofs.Common.{◌≡◌, ℕ, zero, suc, ◌+◌, ◌^◌, ◌<◌, ◌≤◌, Bool, true, false, cond, List, [], ◌∷◌, ◌++◌, length, get_or, take, drop, refl, sym, ap, subst, ◌∙◌, arith, inl, inr, append_assoc, length-append}
use Rattle.std.specs.Prelude.{Option, Some, None, nat_lt}
use Rattle.std.specs.Int.{Width, w16, w32, w64, byte_len, from_be_bytes, to_be_bytes}
use Rattle.std.specs.List.{AllByRecursion, flat_map}
use Rattle.std.proofs.lemmas.Bool.{cases_lt, ltb-false, le-ltb}
use Rattle.std.proofs.lemmas.List.{take_at, drop_at, take-append-drop, length-take, length-take-le, get_or-append-add, get_or-take, get_or_past}
use Rattle.std.proofs.lemmas.Nat.{be_bytes_2, be_bytes_4, be_bytes_8, from_be_bytes-to_be_bytes_2, from_be_bytes-to_be_bytes_4, from_be_bytes-to_be_bytes_8}
use Rattle.entry_codec.specs.Reading.{beside, both, byte_in, chained, front_in, list_in, made, meant, be_number_in, passed}

abbrev pub IsBytes : List ℕ → Type 0
IsBytes bytes = (i : ℕ) → get_or bytes i 0 < 256

pub IsBytes-take : (n : ℕ) (bytes : List ℕ) → IsBytes bytes → IsBytes (take n bytes)
IsBytes-take n bytes h i =
    elim (cases_lt i n) [
      | inl lt ↦ rw (get_or-take n bytes i 0 lt) (h i)
      | inr le ↦ rw (get_or_past (take n bytes) i 0 (omega (arith, length-take n bytes))) (omega arith)
    ]

-- what follows is bytes too
pub IsBytes-rest : (bytes text rest : List ℕ) → bytes ≡ text ++ rest → IsBytes bytes → IsBytes rest
IsBytes-rest bytes text rest e h i = rw (← get_or-append-add text rest i 0, ← e) (h (length text + i))

-- A reader p reads what S writes, of the values that keep the limits L.
pub record IsReader {A : Type 0} (S : A → List ℕ) (L : A → Type 0) (p : List ℕ → Option (A × List ℕ)) : Type 0 where
  pub back : (a : A) (more : List ℕ) → L a → p (S a ++ more) ≡ Some (a, more)
  pub sound : (bytes rest : List ℕ) (a : A) → IsBytes bytes → p bytes ≡ Some (a, rest) → L a × (bytes ≡ S a ++ rest)

-- ---- the option of a part

abbrev pub part : {A : Type 0} → A → List ℕ → Option (A × List ℕ)
part a x = Some (a, x)

pub part_is : {A : Type 0} → (a b : A) (x y : List ℕ) → part a x ≡ part b y → (a ≡ b) × (x ≡ y)
part_is {A} a b x y e = go (a, x) (b, y) cc where
  go : (p q : A × List ℕ) → p ≡ q → (p.0 ≡ q.0) × (p.1 ≡ q.1)
  go p q same = (ap (λ (r : A × List ℕ). r.0) same, ap (λ (r : A × List ℕ). r.1) same)

-- what a made part was made of
pub made_some : {A B : Type 0} → (f : A → B) (o : Option (A × List ℕ)) (b : B) (rest : List ℕ) → made f o ≡ Some (b, rest) → (a : A) × (o ≡ Some (a, rest)) × (f a ≡ b)
made_some f None b rest e = absurd cc
made_some {A} {B} f (Some x) b rest e =
    let is = part_is (f x.0) b x.1 rest e in
    (x.0, ap (λ (r : List ℕ). part x.0 r) is.1, is.0)

-- what a part was chained to
pub chained_some : {A B : Type 0} → (q : A → List ℕ → Option (B × List ℕ)) (o : Option (A × List ℕ)) (b : B) (rest : List ℕ) → chained q o ≡ Some (b, rest)
    → (a : A) × (mid : List ℕ) × (o ≡ Some (a, mid)) × (q a mid ≡ Some (b, rest))
chained_some q None b rest e = absurd cc
chained_some q (Some x) b rest e = (x.0, x.1, refl, e)

-- ---- numbers

pub record IsWide (w : Width) (limit : ℕ) : Type 0 where
  pub len : (n : ℕ) → length (to_be_bytes w n) ≡ byte_len w
  pub back : (bytes : List ℕ) → length bytes ≡ byte_len w → IsBytes bytes → to_be_bytes w (from_be_bytes w bytes) ≡ bytes
  pub again : (n : ℕ) → n < limit → from_be_bytes w (to_be_bytes w n) ≡ n
  pub below : (bytes : List ℕ) → IsBytes bytes → from_be_bytes w bytes < limit

pub wide16 : IsWide w16 (2 ^ 16)
wide16 = record {
  len = λ n. refl;
  back = λ bytes len fits. be_bytes_2 bytes _ len fits refl;
  again = λ n lt. from_be_bytes-to_be_bytes_2 n lt;
  below = λ bytes fits. omega (arith, fits 0, fits 1);
}

pub wide32 : IsWide w32 (2 ^ 32)
wide32 = record {
  len = λ n. refl;
  back = λ bytes len fits. be_bytes_4 bytes _ len fits refl;
  again = λ n lt. from_be_bytes-to_be_bytes_4 n lt;
  below = λ bytes fits. omega (arith, fits 0, fits 1, fits 2, fits 3);
}

pub wide64 : IsWide w64 (2 ^ 64)
wide64 = record {
  len = λ n. refl;
  back = λ bytes len fits. be_bytes_8 bytes _ len fits refl;
  again = λ n lt. from_be_bytes-to_be_bytes_8 n lt;
  below = λ bytes fits. omega (arith, fits 0, fits 1, fits 2, fits 3, fits 4, fits 5, fits 6, fits 7);
}

-- ---- the parts

front_back : (n : ℕ) (a more : List ℕ) → length a ≡ n → front_in n (a ++ more) ≡ Some (a, more)
unfolding front_in
front_back n a more len =
    let long : nat_lt (length (a ++ more)) n ≡ false = le-ltb _ _ (omega (arith, length-append a more)) in
    rw (long, take_at a more n len, drop_at a more n len) refl

front_sound : (n : ℕ) (bytes a rest : List ℕ) → front_in n bytes ≡ Some (a, rest) → (length a ≡ n) × (bytes ≡ a ++ rest)
unfolding front_in
front_sound n bytes a rest e = go (nat_lt (length bytes) n) refl e where
  go : (b : Bool) → nat_lt (length bytes) n ≡ b → cond b None (part (take n bytes) (drop n bytes)) ≡ part a rest → (length a ≡ n) × (bytes ≡ a ++ rest)
  go true f h = absurd cc
  go false f h =
      let long : n ≤ length bytes = ltb-false _ _ f in
      let is = part_is (take n bytes) a (drop n bytes) rest h in
      (ap length (sym is.0) ∙ length-take-le n bytes long, sym (take-append-drop n bytes) ∙ ap (λ (b : List ℕ). b ++ drop n bytes) is.0 ∙ ap (λ (b : List ℕ). a ++ b) is.1)

pub front_reads : (n : ℕ) → IsReader (λ (a : List ℕ). a) (λ a. length a ≡ n) (front_in n)
front_reads n = record { back = front_back n; sound = λ bytes rest a fits e. front_sound n bytes a rest e }

byte_back : (a : ℕ) (more : List ℕ) → byte_in ((a ∷ []) ++ more) ≡ Some (a, more)
unfolding byte_in
byte_back a more = refl

byte_sound : (bytes rest : List ℕ) (a : ℕ) → IsBytes bytes → byte_in bytes ≡ Some (a, rest) → (a < 256) × (bytes ≡ (a ∷ []) ++ rest)
unfolding byte_in
byte_sound [] rest a fits e = absurd cc
byte_sound (x ∷ bytes) rest a fits e =
    let is = part_is x a bytes rest e in
    let P : ℕ → Type 0 = λ n. n < 256 in
    (subst P is.0 (fits 0), ap (λ (n : ℕ). n ∷ bytes) is.0 ∙ ap (λ (b : List ℕ). a ∷ b) is.1)

pub byte_reads : IsReader (λ (a : ℕ). a ∷ []) (λ a. a < 256) byte_in
byte_reads = record { back = λ a more fits. byte_back a more; sound = byte_sound }

number_back : (w : Width) (limit : ℕ) → IsWide w limit → (n : ℕ) (more : List ℕ) → n < limit → be_number_in w (to_be_bytes w n ++ more) ≡ Some (n, more)
unfolding be_number_in
number_back w limit wide n more lt =
    ap (made (from_be_bytes w)) (front_back (byte_len w) (to_be_bytes w n) more (wide.len n)) ∙ ap (λ (k : ℕ). Some (k, more)) (wide.again n lt)

number_sound : (w : Width) (limit : ℕ) → IsWide w limit → (bytes rest : List ℕ) (n : ℕ) → IsBytes bytes → be_number_in w bytes ≡ Some (n, rest) → (n < limit) × (bytes ≡ to_be_bytes w n ++ rest)
unfolding be_number_in
number_sound w limit wide bytes rest n fits e =
    let m = made_some (from_be_bytes w) (front_in (byte_len w) bytes) n rest e in
    let f = front_sound (byte_len w) bytes m.0 rest m.1 in
    let front : take (byte_len w) bytes ≡ m.0 = ap (take (byte_len w)) f.1 ∙ take_at m.0 rest (byte_len w) f.0 in
    let Q : List ℕ → Type 0 = λ b. IsBytes b in
    let few : IsBytes m.0 = subst Q front (IsBytes-take (byte_len w) bytes fits) in
    let again : to_be_bytes w n ≡ m.0 = ap (to_be_bytes w) (sym m.2) ∙ wide.back m.0 f.0 few in
    let P : ℕ → Type 0 = λ k. k < limit in
    (subst P m.2 (wide.below m.0 few), f.1 ∙ ap (λ (b : List ℕ). b ++ rest) (sym again))

pub number_reads : (w : Width) (limit : ℕ) → IsWide w limit → IsReader (to_be_bytes w) (λ n. n < limit) (be_number_in w)
number_reads w limit wide = record { back = number_back w limit wide; sound = number_sound w limit wide }

-- ---- how parts are put together

pub passed_reads : {A : Type 0} → (S : A → List ℕ) (L M : A → Type 0) (p : List ℕ → Option (A × List ℕ)) (test : A → Bool) → IsReader S L p
    → ((a : A) → M a → L a × (test a ≡ true)) → ((a : A) → L a → test a ≡ true → M a) → IsReader S M (λ bytes. passed test (p bytes))
passed_reads {A} S L M p test r into out = record {
  back = λ a more m. ap (passed test) (r.back a more (into a m).0) ∙ ap (λ (b : Bool). cond b (part a more) None) (into a m).1;
  sound = λ bytes rest a fits e. go bytes rest a fits (p bytes) refl e;
} where
  here : (bytes rest : List ℕ) (a b : A) (mid : List ℕ) → IsBytes bytes → p bytes ≡ Some (b, mid) → (t : Bool) → test b ≡ t → cond t (part b mid) None ≡ part a rest → M a × (bytes ≡ S a ++ rest)
  here bytes rest a b mid fits e false f h = absurd cc
  here bytes rest a b mid fits e true f h =
      let is = part_is b a mid rest h in
      let s = r.sound bytes rest a fits (e ∙ h) in
      (out a s.0 (ap test (sym is.0) ∙ f), s.1)

  go : (bytes rest : List ℕ) (a : A) → IsBytes bytes → (o : Option (A × List ℕ)) → p bytes ≡ o → passed test o ≡ Some (a, rest) → M a × (bytes ≡ S a ++ rest)
  go bytes rest a fits None e h = absurd cc
  go bytes rest a fits (Some x) e h = here bytes rest a x.0 x.1 fits e (test x.0) refl h

pub meant_reads : {A B : Type 0} → (S : A → List ℕ) (L : A → Type 0) (M : B → Type 0) (p : List ℕ → Option (A × List ℕ)) (f : A → Option B) (g : B → A) → IsReader S L p
    → ((b : B) → M b → L (g b) × (f (g b) ≡ Some b)) → ((a : A) (b : B) → L a → f a ≡ Some b → M b × (a ≡ g b)) → IsReader (λ b. S (g b)) M (λ bytes. meant f (p bytes))
meant_reads {A} {B} S L M p f g r into out = record {
  back = λ b more m. ap (meant f) (r.back (g b) more (into b m).0) ∙ ap (λ (o : Option B). beside o more) (into b m).1;
  sound = λ bytes rest b fits e. go bytes rest b fits (p bytes) refl e;
} where
  here : (bytes rest : List ℕ) (a : A) (b : B) (mid : List ℕ) → IsBytes bytes → p bytes ≡ Some (a, mid) → (o : Option B) → f a ≡ o → beside o mid ≡ Some (b, rest) → M b × (bytes ≡ S (g b) ++ rest)
  here bytes rest a b mid fits e None k h = absurd cc
  here bytes rest a b mid fits e (Some c) k h =
      let is = part_is c b mid rest h in
      let s = r.sound bytes mid a fits e in
      let o = out a b s.0 (k ∙ ap (λ (x : B). Some x) is.0) in
      (o.0, s.1 ∙ ap (λ (x : A). S x ++ mid) o.1 ∙ ap (λ (x : List ℕ). S (g b) ++ x) is.1)

  go : (bytes rest : List ℕ) (b : B) → IsBytes bytes → (o : Option (A × List ℕ)) → p bytes ≡ o → meant f o ≡ Some (b, rest) → M b × (bytes ≡ S (g b) ++ rest)
  go bytes rest b fits None e h = absurd cc
  go bytes rest b fits (Some x) e h = here bytes rest x.0 b x.1 fits e (f x.0) refl h

-- A part that says what follows: what follows of a value b, T b, stands behind the part of its key.
pub chained_reads : {A B : Type 0} → (S : A → List ℕ) (L : A → Type 0) (p : List ℕ → Option (A × List ℕ)) (T : B → List ℕ) (M : A → B → Type 0) (q : A → List ℕ → Option (B × List ℕ)) (key : B → A)
    → IsReader S L p → ((a : A) → IsReader T (M a) (q a)) → ((a : A) (b : B) → M a b → key b ≡ a)
    → IsReader (λ b. S (key b) ++ T b) (λ b. L (key b) × M (key b) b) (λ bytes. chained q (p bytes))
chained_reads {A} {B} S L p T M q key r s is = record {
  back = λ b more m. ap (λ (x : List ℕ). chained q (p x)) (append_assoc (S (key b)) (T b) more)
      ∙ ap (chained q) (r.back (key b) (T b ++ more) m.0) ∙ (s (key b)).back b more m.1;
  sound = λ bytes rest b fits e. go bytes rest b fits (chained_some q (p bytes) b rest e);
} where
  go : (bytes rest : List ℕ) (b : B) → IsBytes bytes → ((a : A) × (mid : List ℕ) × (p bytes ≡ Some (a, mid)) × (q a mid ≡ Some (b, rest))) → (L (key b) × M (key b) b) × (bytes ≡ (S (key b) ++ T b) ++ rest)
  go bytes rest b fits (a, mid, e, f) =
      let first = r.sound bytes mid a fits e in
      let second = (s a).sound mid rest b (IsBytes-rest bytes (S a) mid first.1 fits) f in
      let k : key b ≡ a = is a b second.0 in
      let P : A → Type 0 = λ x. (L x × M x b) × (bytes ≡ (S x ++ T b) ++ rest) in
      subst P (sym k) ((first.0, second.0), first.1 ∙ ap (λ (x : List ℕ). S a ++ x) second.1 ∙ sym (append_assoc (S a) (T b) rest))

pub both_reads : {A B : Type 0} → (S : A → List ℕ) (L : A → Type 0) (p : List ℕ → Option (A × List ℕ)) (T : B → List ℕ) (M : B → Type 0) (q : List ℕ → Option (B × List ℕ))
    → IsReader S L p → IsReader T M q → IsReader (λ (x : A × B). S x.0 ++ T x.1) (λ x. L x.0 × M x.1) (both p q)
both_reads {A} {B} S L p T M q r s = record {
  back = λ x more m. ap (both p q) (append_assoc (S x.0) (T x.1) more)
      ∙ ap (chained (λ a rest. made (λ b. (a, b)) (q rest))) (r.back x.0 (T x.1 ++ more) m.0) ∙ ap (made (λ b. (x.0, b))) (s.back x.1 more m.1);
  sound = λ bytes rest x fits e. go bytes rest x fits (chained_some (λ a rest. made (λ b. (a, b)) (q rest)) (p bytes) x rest e);
} where
  go : (bytes rest : List ℕ) (x : A × B) → IsBytes bytes → ((a : A) × (mid : List ℕ) × (p bytes ≡ Some (a, mid)) × (made (λ b. (a, b)) (q mid) ≡ Some (x, rest))) → (L x.0 × M x.1) × (bytes ≡ (S x.0 ++ T x.1) ++ rest)
  go bytes rest x fits (a, mid, e, f) =
      let m = made_some (λ b. (a, b)) (q mid) x rest f in
      let first = r.sound bytes mid a fits e in
      let second = s.sound mid rest m.0 (IsBytes-rest bytes (S a) mid first.1 fits) m.1 in
      let P : A × B → Type 0 = λ y. (L y.0 × M y.1) × (bytes ≡ (S y.0 ++ T y.1) ++ rest) in
      subst P m.2 ((first.0, second.0), first.1 ∙ ap (λ (y : List ℕ). S a ++ y) second.1 ∙ sym (append_assoc (S a) (T m.0) rest))

-- a part that is made into a value from which it can be got back
pub made_reads : {A B : Type 0} → (S : A → List ℕ) (L : A → Type 0) (p : List ℕ → Option (A × List ℕ)) (T : B → List ℕ) (M : B → Type 0) (f : A → B) (g : B → A)
    → IsReader S L p → ((b : B) → M b → L (g b) × (f (g b) ≡ b) × (T b ≡ S (g b))) → ((a : A) → L a → M (f a) × (T (f a) ≡ S a))
    → IsReader T M (λ bytes. made f (p bytes))
made_reads {A} {B} S L p T M f g r into out = record {
  back = λ b more m. ap (λ (x : List ℕ). made f (p (x ++ more))) (into b m).2 ∙ ap (made f) (r.back (g b) more (into b m).0) ∙ ap (λ (x : B). Some (x, more)) (into b m).1;
  sound = λ bytes rest b fits e. go bytes rest b fits (made_some f (p bytes) b rest e);
} where
  go : (bytes rest : List ℕ) (b : B) → IsBytes bytes → ((a : A) × (p bytes ≡ Some (a, rest)) × (f a ≡ b)) → M b × (bytes ≡ T b ++ rest)
  go bytes rest b fits (a, e, k) =
      let s = r.sound bytes rest a fits e in
      let o = out a s.0 in
      let P : B → Type 0 = λ x. M x × (bytes ≡ T x ++ rest) in
      subst P k (o.0, s.1 ∙ ap (λ (x : List ℕ). x ++ rest) (sym o.1))

-- ---- lists

list_back : {A : Type 0} → (S : A → List ℕ) (L : A → Type 0) (p : List ℕ → Option (A × List ℕ)) → IsReader S L p
    → (n : ℕ) (xs : List A) (more : List ℕ) → length xs ≡ n → AllByRecursion L xs → list_in p n (flat_map S xs ++ more) ≡ Some (xs, more)
unfolding list_in
list_back S L p r zero [] more len all = refl
list_back S L p r zero (x ∷ xs) more len all = absurd (omega arith)
list_back S L p r (suc n) [] more len all = absurd (omega arith)
list_back {A} S L p r (suc n) (x ∷ xs) more len all =
    ap (λ (b : List ℕ). list_in p (suc n) b) (append_assoc (S x) (flat_map S xs) more)
    ∙ ap (λ o. made (λ (a : A × List A). a.0 ∷ a.1) (chained (λ a rest. made (λ b. (a, b)) (list_in p n rest)) o)) (r.back x (flat_map S xs ++ more) all.0)
    ∙ ap (λ o. made (λ (a : A × List A). a.0 ∷ a.1) (made (λ b. (x, b)) o)) (list_back S L p r n xs more (omega arith) all.1)

list_sound : {A : Type 0} → (S : A → List ℕ) (L : A → Type 0) (p : List ℕ → Option (A × List ℕ)) → IsReader S L p
    → (n : ℕ) (bytes rest : List ℕ) (xs : List A) → IsBytes bytes → list_in p n bytes ≡ Some (xs, rest) → ((length xs ≡ n) × AllByRecursion L xs) × (bytes ≡ flat_map S xs ++ rest)
unfolding list_in
list_sound {A} S L p r zero bytes rest xs fits e =
    let is = part_is [] xs bytes rest e in
    let P : List A → Type 0 = λ ys. ((length ys ≡ 0) × AllByRecursion L ys) × (bytes ≡ flat_map S ys ++ rest) in
    subst P is.0 ((refl, tt), is.1)
list_sound {A} S L p r (suc n) bytes rest xs fits e =
    let m = made_some (λ (a : A × List A). a.0 ∷ a.1) (both p (list_in p n) bytes) xs rest e in
    let c = chained_some (λ a rest. made (λ b. (a, b)) (list_in p n rest)) (p bytes) m.0 rest m.1 in
    let k = made_some (λ b. (c.0, b)) (list_in p n c.1) m.0 rest c.3 in
    let first = r.sound bytes c.1 c.0 fits c.2 in
    let others = list_sound S L p r n c.1 rest k.0 (IsBytes-rest bytes (S c.0) c.1 first.1 fits) k.1 in
    let whole : c.0 ∷ k.0 ≡ xs = ap (λ (a : A × List A). a.0 ∷ a.1) k.2 ∙ m.2 in
    let P : List A → Type 0 = λ ys. ((length ys ≡ suc n) × AllByRecursion L ys) × (bytes ≡ flat_map S ys ++ rest) in
    subst P whole ((ap suc others.0.0, (first.0, others.0.1)), first.1 ∙ ap (λ (b : List ℕ). S c.0 ++ b) others.1 ∙ sym (append_assoc (S c.0) (flat_map S k.0) rest))

pub list_reads : {A : Type 0} → (S : A → List ℕ) (L : A → Type 0) (p : List ℕ → Option (A × List ℕ)) → IsReader S L p
    → (n : ℕ) → IsReader (λ xs. flat_map S xs) (λ xs. (length xs ≡ n) × AllByRecursion L xs) (list_in p n)
list_reads S L p r n = record { back = λ xs more m. list_back S L p r n xs more m.0 m.1; sound = list_sound S L p r n }

-- the same reader, seen with limits and spellings that come to the same
pub seen_as : {A : Type 0} → (S T : A → List ℕ) (L M : A → Type 0) (p : List ℕ → Option (A × List ℕ)) → IsReader S L p
    → ((a : A) → M a → L a) → ((a : A) → L a → M a) → ((a : A) → T a ≡ S a) → IsReader T M p
seen_as S T L M p r into out same = record {
  back = λ a more m. ap (λ (x : List ℕ). p (x ++ more)) (same a) ∙ r.back a more (into a m);
  sound = λ bytes rest a fits e. let s = r.sound bytes rest a fits e in (out a s.0, s.1 ∙ ap (λ (x : List ℕ). x ++ rest) (sym (same a)));
}
