-- The readers of the values that the entries of a brief account hold.
use Rattle.std.proofs.Common.{◌≡◌, ℕ, zero, suc, ◌^◌, ◌<◌, ◌≤◌, Bool, true, false, List, [], ◌∷◌, ◌++◌, length, refl, sym, ap, subst, ◌∙◌, arith}
use Rattle.std.specs.Prelude.{Some, None, ◌==◌, ◌&&◌, ◌||◌, not, nat_eq, nat_le, if◌then◌else◌}
use Rattle.std.specs.Int.{w64, to_be_bytes}
use Rattle.std.proofs.lemmas.Bool.{and_from, and_parts, eq-eqb, eqb-true, le-leb, leb-true, not-true, not_from_false}
use Rattle.sync_ids.specs.Values.{IsMessage, MessageValue}
use Rattle.sync_rules.specs.declared.entries.Tried.{Tried}
use Rattle.sync_rules.specs.declared.states.Origin.{Origin}
use Rattle.sync_rules.specs.declared.states.Origin.TheVariants as origin
use Rattle.sync_rules.specs.declared.limits.TheConstants.{MAX_TRIES}
use Rattle.sync_rules.specs.Legal.{is_empty_row}
use Rattle.entry_codec.specs.Spelling.{IsId, IsOrigin, IsStated, IsTried, flags_byte, message_bytes, origin_bytes, tried_bytes}
use Rattle.entry_codec.specs.Reading.{IdReader, be_number_in, both, byte_in, flags_in, flags_of, id_in, is_stated, made, message_in, origin_in, origin_of, passed, tried_in, tried_of}
use Rattle.entry_codec.proofs.Readers.{IsReader, both_reads, byte_reads, made_reads, meant_reads, passed_reads, seen_as}
use Rattle.entry_codec.proofs.Parts.{id_reads, message_reads, number64, some_same, tested}

-- ---- where a message came from

abbrev pair_bytes : ℕ × ℕ → List ℕ
pair_bytes a = (a.0 ∷ []) ++ (a.1 ∷ [])

abbrev IsBytePair : ℕ × ℕ → Type 0
IsBytePair a = (a.0 < 256) × (a.1 < 256)

pair_reads : IsReader pair_bytes IsBytePair (both byte_in byte_in)
pair_reads = both_reads (λ n. n ∷ []) (λ n. n < 256) byte_in (λ n. n ∷ []) (λ n. n < 256) byte_in byte_reads byte_reads

abbrev pair_of : Origin → ℕ × ℕ
pair_of origin.Author = (0, 0)
pair_of (origin.From contact) = (1, contact)

pair_is : (a : ℕ × ℕ) (x y : ℕ) → a.0 ≡ x → a.1 ≡ y → a ≡ (x, y)
pair_is a x y first second = ap (λ (n : ℕ). (n, a.1)) first ∙ ap (λ (n : ℕ). (x, n)) second

origin_into : (o : Origin) → IsOrigin o → IsBytePair (pair_of o) × (origin_of (pair_of o) ≡ Some o)
origin_into origin.Author is = ((omega arith, omega arith), refl)
origin_into (origin.From contact) is = ((omega arith, is), refl)

-- an origin that was told of a pair
abbrev IsTold : ℕ × ℕ → Origin → Type 0
IsTold a o = IsOrigin o × (a ≡ pair_of o)

author_told : (a : ℕ × ℕ) (o : Origin) → a.0 ≡ 0 → (if a.1 == 0 then Some origin.Author else None) ≡ Some o → IsTold a o
author_told a o flag h =
    tested (IsTold a o) a.1 0 (Some origin.Author) None (Some o)
    (λ contact k. subst (IsTold a) (some_same origin.Author o k) (tt, pair_is a 0 0 flag contact)) (λ k. absurd cc) h

origin_told : (a : ℕ × ℕ) (o : Origin) → IsBytePair a → origin_of a ≡ Some o → IsTold a o
origin_told a o is h =
    tested (IsTold a o) a.0 0 (if a.1 == 0 then Some origin.Author else None) (if a.0 == 1 then Some (origin.From a.1) else None) (Some o)
    (λ flag k. author_told a o flag k)
    (tested (IsTold a o) a.0 1 (Some (origin.From a.1)) None (Some o)
    (λ flag k. subst (IsTold a) (some_same (origin.From a.1) o k) (is.1, pair_is a 1 a.1 flag refl)) (λ k. absurd cc))
    h

origin_same : (o : Origin) → origin_bytes o ≡ pair_bytes (pair_of o)
origin_same origin.Author = refl
origin_same (origin.From contact) = refl

pub origin_reads : IsReader origin_bytes IsOrigin origin_in
unfolding origin_in
origin_reads =
    seen_as (λ (o : Origin). pair_bytes (pair_of o)) origin_bytes IsOrigin IsOrigin origin_in
    (meant_reads pair_bytes IsBytePair IsOrigin (both byte_in byte_in) origin_of pair_of pair_reads origin_into origin_told)
    (λ o m. m) (λ o l. l) origin_same

pub kept_reads : IsReader (λ (a : Origin × MessageValue). origin_bytes a.0 ++ message_bytes a.1) (λ a. IsOrigin a.0 × IsMessage a.1) (both origin_in message_in)
kept_reads = both_reads origin_bytes IsOrigin origin_in message_bytes IsMessage message_in origin_reads message_reads

-- ---- flags

abbrev pub Flags : Type 0
Flags = Bool × Bool × Bool

abbrev byte_of : Flags → ℕ
byte_of a = flags_byte a.0 a.1 a.2

flags_few : (seen owed asked : Bool) → flags_byte seen owed asked ≤ 7
flags_few true true true = omega arith
flags_few true true false = omega arith
flags_few true false true = omega arith
flags_few true false false = omega arith
flags_few false true true = omega arith
flags_few false true false = omega arith
flags_few false false true = omega arith
flags_few false false false = omega arith

flags_again : (seen owed asked : Bool) → flags_of (flags_byte seen owed asked) ≡ (seen, owed, asked)
flags_again true true true = refl
flags_again true true false = refl
flags_again true false true = refl
flags_again true false false = refl
flags_again false true true = refl
flags_again false true false = refl
flags_again false false true = refl
flags_again false false false = refl

flags_back : (n : ℕ) → n ≤ 7 → byte_of (flags_of n) ≡ n
flags_back zero few = refl
flags_back (suc zero) few = refl
flags_back (suc (suc zero)) few = refl
flags_back (suc (suc (suc zero))) few = refl
flags_back (suc (suc (suc (suc zero)))) few = refl
flags_back (suc (suc (suc (suc (suc zero))))) few = refl
flags_back (suc (suc (suc (suc (suc (suc zero)))))) few = refl
flags_back (suc (suc (suc (suc (suc (suc (suc zero))))))) few = refl
flags_back (suc (suc (suc (suc (suc (suc (suc (suc n)))))))) few = absurd (omega (arith, few))

flag_number_reads : IsReader (λ n. n ∷ []) (λ n. n ≤ 7) (λ bytes. passed (λ n. nat_le n 7) (byte_in bytes))
flag_number_reads =
    passed_reads (λ n. n ∷ []) (λ n. n < 256) (λ n. n ≤ 7) byte_in (λ n. nat_le n 7) byte_reads
    (λ n m. (omega (arith, m), le-leb n 7 m)) (λ n l e. leb-true n 7 e)

flags_reads : IsReader (λ (a : Flags). byte_of a ∷ []) (λ a. Unit {0}) flags_in
unfolding flags_in
flags_reads =
    made_reads (λ n. n ∷ []) (λ n. n ≤ 7) (λ bytes. passed (λ n. nat_le n 7) (byte_in bytes)) (λ (a : Flags). byte_of a ∷ []) (λ a. Unit {0}) flags_of byte_of
    flag_number_reads (λ a m. (flags_few a.0 a.1 a.2, flags_again a.0 a.1 a.2, refl)) (λ n l. (tt, ap (λ (k : ℕ). k ∷ []) (flags_back n l)))

-- ---- rows

wait_from : (tries expiry : ℕ) → (tries ≡ 0 → expiry ≡ 0) → (not (nat_eq tries 0) || nat_eq expiry 0) ≡ true
wait_from tries expiry waits = go (nat_eq tries 0) refl where
  go : (b : Bool) → nat_eq tries 0 ≡ b → (not b || nat_eq expiry 0) ≡ true
  go true is = eq-eqb expiry 0 (waits (eqb-true tries 0 is))
  go false is = refl

wait_told : (tries expiry : ℕ) → (not (nat_eq tries 0) || nat_eq expiry 0) ≡ true → tries ≡ 0 → expiry ≡ 0
wait_told tries expiry e none = eqb-true expiry 0 (sym (ap (λ (b : Bool). not b || nat_eq expiry 0) (eq-eqb tries 0 none)) ∙ e)

stated_from : (t : Tried) → IsStated t → is_stated t ≡ true
stated_from t is =
    let waits : Bool = not (nat_eq t.tries 0) || nat_eq t.expiry 0 in
    let some : Bool = not (is_empty_row t) in
    and_from (nat_le t.tries MAX_TRIES) (waits && some) (le-leb t.tries MAX_TRIES is.few_tries)
    (and_from waits some (wait_from t.tries t.expiry is.no_wait) (not_from_false (is_empty_row t) is.not_empty))

stated_told : (t : Tried) → is_stated t ≡ true → IsStated t
stated_told t e =
    let waits : Bool = not (nat_eq t.tries 0) || nat_eq t.expiry 0 in
    let some : Bool = not (is_empty_row t) in
    let all = and_parts (nat_le t.tries MAX_TRIES) (waits && some) e in
    let rest = and_parts waits some all.1 in
    record {
      few_tries = leb-true t.tries MAX_TRIES all.0;
      no_wait = wait_told t.tries t.expiry rest.0;
      not_empty = not-true (is_empty_row t) rest.1;
    }

abbrev Tail2 : Type 0
Tail2 = ℕ × ℕ

abbrev Tail3 : Type 0
Tail3 = Flags × Tail2

abbrev Tail4 : Type 0
Tail4 = List ℕ × Tail3

tail2_reads : IsReader (λ (a : Tail2). (a.0 ∷ []) ++ to_be_bytes w64 a.1) (λ a. (a.0 < 256) × (a.1 < 2 ^ 64)) (both byte_in (be_number_in w64))
tail2_reads = both_reads (λ n. n ∷ []) (λ n. n < 256) byte_in (to_be_bytes w64) (λ n. n < 2 ^ 64) (be_number_in w64) byte_reads number64

tail3_reads : IsReader (λ (a : Tail3). (byte_of a.0 ∷ []) ++ ((a.1.0 ∷ []) ++ to_be_bytes w64 a.1.1)) (λ a. Unit {0} × ((a.1.0 < 256) × (a.1.1 < 2 ^ 64))) (both flags_in (both byte_in (be_number_in w64)))
tail3_reads =
    both_reads (λ (a : Flags). byte_of a ∷ []) (λ a. Unit {0}) flags_in (λ (a : Tail2). (a.0 ∷ []) ++ to_be_bytes w64 a.1) (λ a. (a.0 < 256) × (a.1 < 2 ^ 64)) (both byte_in (be_number_in w64))
    flags_reads tail2_reads

-- where the ids of messages that are held are written and read in some way, and keep N
module _ (S : List ℕ → List ℕ) (N : List ℕ → Type 0) (p : IdReader) (r : IsReader S (λ id. IsId id × N id) p) where
  abbrev tail4_bytes : Tail4 → List ℕ
  tail4_bytes a = S a.0 ++ ((byte_of a.1.0 ∷ []) ++ ((a.1.1.0 ∷ []) ++ to_be_bytes w64 a.1.1.1))

  abbrev IsTail4 : Tail4 → Type 0
  IsTail4 a = (IsId a.0 × N a.0) × (Unit {0} × ((a.1.1.0 < 256) × (a.1.1.1 < 2 ^ 64)))

  tail4_reads : IsReader tail4_bytes IsTail4 (both p (both flags_in (both byte_in (be_number_in w64))))
  tail4_reads =
      both_reads S (λ id. IsId id × N id) p (λ (a : Tail3). (byte_of a.0 ∷ []) ++ ((a.1.0 ∷ []) ++ to_be_bytes w64 a.1.1)) (λ a. Unit {0} × ((a.1.0 < 256) × (a.1.1 < 2 ^ 64)))
      (both flags_in (both byte_in (be_number_in w64))) r tail3_reads

  abbrev row_bytes : ℕ × Tail4 → List ℕ
  row_bytes a = (a.0 ∷ []) ++ tail4_bytes a.1

  abbrev IsRow : ℕ × Tail4 → Type 0
  IsRow a = (a.0 < 256) × IsTail4 a.1

  row_reads : IsReader row_bytes IsRow (both byte_in (both p (both flags_in (both byte_in (be_number_in w64)))))
  row_reads = both_reads (λ n. n ∷ []) (λ n. n < 256) byte_in tail4_bytes IsTail4 (both p (both flags_in (both byte_in (be_number_in w64)))) byte_reads tail4_reads

  abbrev untried : Tried → ℕ × Tail4
  untried t = (t.contact, (t.id, ((t.seen, t.owed, t.asked), (t.tries, t.expiry))))

  made_row_reads : IsReader (tried_bytes S) (λ t. IsRow (untried t)) (λ bytes. made tried_of (both byte_in (both p (both flags_in (both byte_in (be_number_in w64)))) bytes))
  made_row_reads =
      made_reads row_bytes IsRow (both byte_in (both p (both flags_in (both byte_in (be_number_in w64))))) (tried_bytes S) (λ t. IsRow (untried t)) tried_of untried
      row_reads (λ t m. (m, refl, refl)) (λ a l. (l, refl))

  tried_into : (t : Tried) → IsTried t × N t.id → IsRow (untried t) × (is_stated t ≡ true)
  tried_into t m =
      let fits : t.tries < 256 = omega (arith, m.0.stated.few_tries) in
      ((m.0.contact_fits, ((m.0.whole_id, m.1), (tt, (fits, m.0.expiry_fits)))), stated_from t m.0.stated)

  tried_out : (t : Tried) → IsRow (untried t) → is_stated t ≡ true → IsTried t × N t.id
  tried_out t l e = (record { contact_fits = l.0; whole_id = l.1.0.0; stated = stated_told t e; expiry_fits = l.1.1.1.1 }, l.1.0.1)

  pub tried_reads : IsReader (tried_bytes S) (λ t. IsTried t × N t.id) (tried_in p)
  unfolding tried_in
  tried_reads =
      passed_reads (tried_bytes S) (λ t. IsRow (untried t)) (λ t. IsTried t × N t.id) (λ bytes. made tried_of (both byte_in (both p (both flags_in (both byte_in (be_number_in w64)))) bytes))
      is_stated made_row_reads tried_into tried_out

-- ---- wanted ids

pub want_reads : IsReader (λ (a : ℕ × List ℕ). (a.0 ∷ []) ++ a.1) (λ a. (a.0 < 256) × (length a.1 ≡ 32)) (both byte_in id_in)
want_reads = both_reads (λ n. n ∷ []) (λ n. n < 256) byte_in (λ (id : List ℕ). id) (λ id. length id ≡ 32) id_in byte_reads id_reads
