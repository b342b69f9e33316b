-- The readers of the values that an entry holds.
use Rattle.std.proofs.Common.{◌≡◌, ℕ, suc, ◌^◌, ◌<◌, ◌≤◌, Bool, true, false, List, [], ◌∷◌, ◌++◌, length, refl, sym, ap, subst, ◌∙◌, arith, lt-ltb}
use Rattle.std.specs.Prelude.{Option, Some, None, ◌==◌, nat_le, nat_lt, if◌then◌else◌}
use Rattle.std.specs.Int.{w16, w32, w64, to_be_bytes}
use Rattle.std.specs.List.{AllByRecursion, flat_map}
use Rattle.std.specs.Str.{IsUtf8, is_utf8}
use Rattle.std.proofs.lemmas.Str.{IsUtf8-from_is_utf8, is_utf8-from_IsUtf8}
use Rattle.std.proofs.lemmas.Bool.{eqb-true, le-leb, leb-true, ltb-true}
use Rattle.std.proofs.lemmas.Bool.Decides.{nat_tests}
use Rattle.sync_ids.specs.Values.{AreIds, IsIdList, IsMessage}
use Rattle.sync_ids.specs.declared.def.TheConstants.{MAX_DESCRIPTOR, MAX_NAME}
use Rattle.sync_ids.specs.declared.lists.TheConstants.{MAX_IDS}
use Rattle.sync_ids.specs.declared.message.TheConstants.{MAX_BODY, MAX_TIMESTAMP}
use Rattle.sync_rules.specs.declared.entries.Level.{Level}
use Rattle.sync_rules.specs.declared.entries.Level.TheVariants as level
use Rattle.sync_rules.specs.declared.entries.Mode.{Mode}
use Rattle.sync_rules.specs.declared.entries.Mode.TheVariants as mode_kind
use Rattle.sync_rules.specs.declared.entries.Out.{Out}
use Rattle.sync_rules.specs.declared.entries.Out.TheVariants as out
use Rattle.entry_codec.specs.Spelling.{IsDef, IsId, IsNonce, IsOut, IsSession, OutNames, counted, def_bytes, ids_bytes, level_byte, message_bytes, mode_byte, nonce_bytes, out_bytes, session_bytes, whole}
use Rattle.entry_codec.specs.Reading.{IdReader, both, byte_in, chained, counted_in, def_in, def_of, flagged, front_in, id_in, ids_in, is_between, latency_in, level_in, level_of, list_in, made, message_in, message_of, mode_in, mode_of, name_in, nonce_in, be_number_in, out_in, out_of, passed, session_in, session_of, time_in}
use Rattle.entry_codec.proofs.Readers.{IsBytes, IsReader, both_reads, byte_reads, chained_reads, chained_some, front_reads, list_reads, made_reads, made_some, meant_reads, number_reads, part, part_is, passed_reads, seen_as, wide16, wide32, wide64}

-- ---- numbers and ids

pub number16 : IsReader (to_be_bytes w16) (λ n. n < 2 ^ 16) (be_number_in w16)
number16 = number_reads w16 (2 ^ 16) wide16

pub number32 : IsReader (to_be_bytes w32) (λ n. n < 2 ^ 32) (be_number_in w32)
number32 = number_reads w32 (2 ^ 32) wide32

pub number64 : IsReader (to_be_bytes w64) (λ n. n < 2 ^ 64) (be_number_in w64)
number64 = number_reads w64 (2 ^ 64) wide64

pub id_reads : IsReader (λ (id : List ℕ). id) (λ id. length id ≡ 32) id_in
id_reads = front_reads 32

between_is : (least most n : ℕ) → least ≤ n → n ≤ most → is_between least most n ≡ true
between_is least most n some few = grind (arith, nat_tests)

between_told : (least most n : ℕ) → is_between least most n ≡ true → (least ≤ n) × (n ≤ most)
between_told least most n e = (grind (arith, nat_tests), grind (arith, nat_tests))

-- a number of two bytes within limits
count_reads : (least most : ℕ) → most < 2 ^ 16 → IsReader (to_be_bytes w16) (λ n. (least ≤ n) × (n ≤ most)) (λ bytes. passed (is_between least most) (be_number_in w16 bytes))
count_reads least most fits =
    passed_reads (to_be_bytes w16) (λ n. n < 2 ^ 16) (λ n. (least ≤ n) × (n ≤ most)) (be_number_in w16) (is_between least most) number16
    (λ n m. (omega (arith, m.1), between_is least most n m.0 m.1)) (λ n l e. between_told least most n e)

pub counted_reads : (least most : ℕ) → most < 2 ^ 16 → IsReader counted (λ b. (least ≤ length b) × (length b ≤ most)) (counted_in least most)
unfolding counted_in
counted_reads least most fits =
    seen_as counted counted (λ b. ((least ≤ length b) × (length b ≤ most)) × (length b ≡ length b)) (λ b. (least ≤ length b) × (length b ≤ most)) (counted_in least most)
    (chained_reads (to_be_bytes w16) (λ n. (least ≤ n) × (n ≤ most)) (λ bytes. passed (is_between least most) (be_number_in w16 bytes)) (λ b. b) (λ n b. length b ≡ n) front_in length
    (count_reads least most fits) front_reads (λ n b e. e))
    (λ b m. (m, refl)) (λ b l. l.0) (λ b. refl)

-- ---- a group's definition

abbrev IsName : List ℕ → Type 0
IsName name = (1 ≤ length name) × (length name ≤ MAX_NAME) × IsUtf8 name

short_reads : IsReader (λ n. n ∷ []) (λ n. (0 < n) × (n < 256)) (λ bytes. passed (nat_lt 0) (byte_in bytes))
short_reads =
    passed_reads (λ n. n ∷ []) (λ n. n < 256) (λ n. (0 < n) × (n < 256)) byte_in (nat_lt 0) byte_reads
    (λ n m. (m.1, lt-ltb 0 n m.0)) (λ n l e. (ltb-true 0 n e, l))

sized_reads : IsReader (λ b. length b ∷ b) (λ b. ((0 < length b) × (length b < 256)) × (length b ≡ length b)) (λ bytes. chained front_in (passed (nat_lt 0) (byte_in bytes)))
sized_reads =
    chained_reads (λ n. n ∷ []) (λ n. (0 < n) × (n < 256)) (λ bytes. passed (nat_lt 0) (byte_in bytes)) (λ b. b) (λ n b. length b ≡ n) front_in length
    short_reads front_reads (λ n b e. e)

pub name_reads : IsReader (λ b. length b ∷ b) IsName name_in
unfolding name_in
name_reads =
    passed_reads (λ b. length b ∷ b) (λ b. ((0 < length b) × (length b < 256)) × (length b ≡ length b)) IsName
    (λ bytes. chained front_in (passed (nat_lt 0) (byte_in bytes))) is_utf8 sized_reads
    (λ b m. (((m.0, omega (arith, m.1)), refl), is_utf8-from_IsUtf8 b m.2)) (λ b l e. (l.0.0, omega (arith, l.0.1), IsUtf8-from_is_utf8 b e))

pub def_reads : IsReader def_bytes IsDef def_in
unfolding def_in
def_reads =
    made_reads (λ (a : List ℕ × (ℕ × List ℕ)). (length a.0 ∷ a.0) ++ (to_be_bytes w32 a.1.0 ++ counted a.1.1))
    (λ a. IsName a.0 × ((a.1.0 < 2 ^ 32) × ((0 ≤ length a.1.1) × (length a.1.1 ≤ MAX_DESCRIPTOR))))
    (both name_in (both (be_number_in w32) (counted_in 0 MAX_DESCRIPTOR))) def_bytes IsDef def_of (λ d. (d.name, (d.major, d.descriptor)))
    (both_reads (λ b. length b ∷ b) IsName name_in (λ (a : ℕ × List ℕ). to_be_bytes w32 a.0 ++ counted a.1) (λ a. (a.0 < 2 ^ 32) × ((0 ≤ length a.1) × (length a.1 ≤ MAX_DESCRIPTOR))) (both (be_number_in w32) (counted_in 0 MAX_DESCRIPTOR))
    name_reads
    (both_reads (to_be_bytes w32) (λ n. n < 2 ^ 32) (be_number_in w32) counted (λ b. (0 ≤ length b) × (length b ≤ MAX_DESCRIPTOR)) (counted_in 0 MAX_DESCRIPTOR) number32 (counted_reads 0 MAX_DESCRIPTOR (omega arith))))
    (λ d m. (((m.within.some_name, m.within.short_name, m.utf8_name), (m.within.major_fits, (omega arith, m.within.short_descriptor))), refl, refl))
    (λ a l. (record { within = record { some_name = l.0.0; short_name = l.0.1; major_fits = l.1.0; short_descriptor = l.1.1.1 }; utf8_name = l.0.2 }, refl))

-- ---- a message

time_reads : IsReader (to_be_bytes w64) (λ t. t ≤ MAX_TIMESTAMP) time_in
unfolding time_in
time_reads =
    passed_reads (to_be_bytes w64) (λ t. t < 2 ^ 64) (λ t. t ≤ MAX_TIMESTAMP) (be_number_in w64) (λ t. nat_le t MAX_TIMESTAMP) number64
    (λ t m. (omega (arith, m), le-leb t MAX_TIMESTAMP m)) (λ t l e. leb-true t MAX_TIMESTAMP e)

pub message_reads : IsReader message_bytes IsMessage message_in
unfolding message_in
message_reads =
    made_reads (λ (a : List ℕ × (ℕ × List ℕ)). a.0 ++ (to_be_bytes w64 a.1.0 ++ counted a.1.1))
    (λ a. (length a.0 ≡ 32) × ((a.1.0 ≤ MAX_TIMESTAMP) × ((1 ≤ length a.1.1) × (length a.1.1 ≤ MAX_BODY))))
    (both id_in (both time_in (counted_in 1 MAX_BODY))) message_bytes IsMessage message_of (λ m. (m.group, (m.timestamp, m.body)))
    (both_reads (λ (b : List ℕ). b) (λ b. length b ≡ 32) id_in (λ (a : ℕ × List ℕ). to_be_bytes w64 a.0 ++ counted a.1) (λ a. (a.0 ≤ MAX_TIMESTAMP) × ((1 ≤ length a.1) × (length a.1 ≤ MAX_BODY))) (both time_in (counted_in 1 MAX_BODY))
    id_reads
    (both_reads (to_be_bytes w64) (λ t. t ≤ MAX_TIMESTAMP) time_in counted (λ b. (1 ≤ length b) × (length b ≤ MAX_BODY)) (counted_in 1 MAX_BODY) time_reads (counted_reads 1 MAX_BODY (omega arith))))
    (λ m is. ((is.whole_group, (is.sound_timestamp, (is.some_body, is.short_body))), refl, refl))
    (λ a l. (record { whole_group = l.0; sound_timestamp = l.1.0; some_body = l.1.1.0; short_body = l.1.1.1 }, refl))

-- ---- levels and modes

-- a test of a number: what either answer gives
pub tested : {C : Type 0} → (P : Type 0) (t n : ℕ) (x y r : C) → (t ≡ n → x ≡ r → P) → (y ≡ r → P) → (if t == n then x else y) ≡ r → P
tested {C} P t n x y r passes fails e = go (t == n) refl e where
  go : (b : Bool) → (t == n) ≡ b → (if b then x else y) ≡ r → P
  go true f h = passes (eqb-true t n f) h
  go false f h = fails h

level_small : (l : Level) → level_byte l < 256
level_small level.Invisible = omega arith
level_small level.Visible = omega arith
level_small level.Shared = omega arith

level_again : (l : Level) → level_of (level_byte l) ≡ Some l
level_again level.Invisible = refl
level_again level.Visible = refl
level_again level.Shared = refl

pub some_same : {A : Type 0} → (a b : A) → Some a ≡ Some b → a ≡ b
some_same a b e = cc

level_told : (b : ℕ) (l : Level) → level_of b ≡ Some l → b ≡ level_byte l
level_told b l e =
    tested (b ≡ level_byte l) b 0 (Some level.Invisible) (if b == 1 then Some level.Visible else if b == 2 then Some level.Shared else None) (Some l)
    (λ n h. n ∙ ap level_byte (some_same level.Invisible l h))
    (tested (b ≡ level_byte l) b 1 (Some level.Visible) (if b == 2 then Some level.Shared else None) (Some l)
    (λ n h. n ∙ ap level_byte (some_same level.Visible l h))
    (tested (b ≡ level_byte l) b 2 (Some level.Shared) None (Some l) (λ n h. n ∙ ap level_byte (some_same level.Shared l h)) (λ h. absurd cc)))
    e

pub level_reads : IsReader (λ l. level_byte l ∷ []) (λ l. Unit {0}) level_in
unfolding level_in
level_reads =
    meant_reads (λ n. n ∷ []) (λ n. n < 256) (λ l. Unit {0}) byte_in level_of level_byte byte_reads
    (λ l m. (level_small l, level_again l)) (λ n l k e. (tt, level_told n l e))

mode_small : (m : Mode) → mode_byte m < 256
mode_small mode_kind.Interactive = omega arith
mode_small mode_kind.Batch = omega arith

mode_again : (m : Mode) → mode_of (mode_byte m) ≡ Some m
mode_again mode_kind.Interactive = refl
mode_again mode_kind.Batch = refl

mode_told : (b : ℕ) (m : Mode) → mode_of b ≡ Some m → b ≡ mode_byte m
mode_told b m e =
    tested (b ≡ mode_byte m) b 0 (Some mode_kind.Interactive) (if b == 1 then Some mode_kind.Batch else None) (Some m)
    (λ n h. n ∙ ap mode_byte (some_same mode_kind.Interactive m h))
    (tested (b ≡ mode_byte m) b 1 (Some mode_kind.Batch) None (Some m) (λ n h. n ∙ ap mode_byte (some_same mode_kind.Batch m h)) (λ h. absurd cc))
    e

mode_reads : IsReader (λ m. mode_byte m ∷ []) (λ m. Unit {0}) mode_in
unfolding mode_in
mode_reads =
    meant_reads (λ n. n ∷ []) (λ n. n < 256) (λ m. Unit {0}) byte_in mode_of mode_byte byte_reads
    (λ m k. (mode_small m, mode_again m)) (λ n m k e. (tt, mode_told n m e))

-- ---- what stands behind a byte

-- a part behind the byte of its kind
pub told : {A B : Type 0} → (S : A → List ℕ) (L : A → Type 0) (p : List ℕ → Option (A × List ℕ)) → IsReader S L p
    → (f : A → B) (T : B → List ℕ) (M : B → Type 0) (k : ℕ) → ((a : A) → L a → M (f a)) → ((a : A) → T (f a) ≡ k ∷ S a)
    → (bytes mid rest : List ℕ) (n : ℕ) (b : B) → IsBytes mid → bytes ≡ n ∷ mid → n ≡ k → made f (p mid) ≡ Some (b, rest) → M b × (bytes ≡ T b ++ rest)
told {A} {B} S L p r f T M k keeps spelled bytes mid rest n b fits first same e =
    let m = made_some f (p mid) b rest e in
    let s = r.sound mid rest m.0 fits m.1 in
    let P : B → Type 0 = λ x. M x × (bytes ≡ T x ++ rest) in
    subst P m.2 (keeps m.0 s.0, first ∙ ap (λ (x : ℕ). x ∷ mid) same ∙ ap (λ (x : List ℕ). k ∷ x) s.1 ∙ ap (λ (x : List ℕ). x ++ rest) (sym (spelled m.0)))

IsBytes-tail : (bytes mid : List ℕ) (n : ℕ) → bytes ≡ n ∷ mid → IsBytes bytes → IsBytes mid
IsBytes-tail bytes mid n e fits i = let same = e in rw same at (fits (suc i))

-- what is chained to a byte
pub behind_byte : {B : Type 0} → (q : ℕ → List ℕ → Option (B × List ℕ)) (bytes rest : List ℕ) (b : B) → IsBytes bytes → chained q (byte_in bytes) ≡ Some (b, rest)
    → (n : ℕ) × (mid : List ℕ) × (bytes ≡ n ∷ mid) × IsBytes mid × (q n mid ≡ Some (b, rest))
behind_byte q bytes rest b fits e =
    let c = chained_some q (byte_in bytes) b rest e in
    let s = byte_reads.sound bytes c.1 c.0 fits c.2 in
    (c.0, c.1, s.1, IsBytes-tail bytes c.1 c.0 s.1 fits, c.3)

-- ---- a nonce

nonce_back : (o : Option (List ℕ)) (more : List ℕ) → IsNonce o → nonce_in (nonce_bytes o ++ more) ≡ Some (o, more)
unfolding nonce_in byte_in
nonce_back None more is = refl
nonce_back (Some nonce) more is = ap (made (λ x. Some x)) ((front_reads 16).back nonce more is)

nonce_sound : (bytes rest : List ℕ) (o : Option (List ℕ)) → IsBytes bytes → nonce_in bytes ≡ Some (o, rest) → IsNonce o × (bytes ≡ nonce_bytes o ++ rest)
unfolding nonce_in
nonce_sound bytes rest o fits e =
    let c = behind_byte flagged bytes rest o fits e in
    let P : Option (List ℕ) → Type 0 = λ x. IsNonce x × (bytes ≡ nonce_bytes x ++ rest) in
    tested (P o) c.0 0 (part None c.1) (if c.0 == 1 then made Some (front_in 16 c.1) else None) (Some (o, rest))
    (λ n h.
    let is = part_is None o c.1 rest h in
    subst P is.0 (tt, c.2 ∙ ap (λ (x : ℕ). x ∷ c.1) n ∙ ap (λ (x : List ℕ). 0 ∷ x) is.1))
    (tested (P o) c.0 1 (made Some (front_in 16 c.1)) None (Some (o, rest))
    (λ n h. told (λ (x : List ℕ). x) (λ x. length x ≡ 16) (front_in 16) (front_reads 16) Some nonce_bytes IsNonce 1 (λ a l. l) (λ a. refl) bytes c.1 rest c.0 o c.3 c.2 n h)
    (λ h. absurd cc))
    c.4

pub nonce_reads : IsReader nonce_bytes IsNonce nonce_in
nonce_reads = record { back = nonce_back; sound = nonce_sound }

-- ---- a session

latency_reads : IsReader (to_be_bytes w32) (λ n. (0 < n) × (n < 2 ^ 32)) latency_in
unfolding latency_in
latency_reads =
    passed_reads (to_be_bytes w32) (λ n. n < 2 ^ 32) (λ n. (0 < n) × (n < 2 ^ 32)) (be_number_in w32) (nat_lt 0) number32
    (λ n m. (m.1, lt-ltb 0 n m.0)) (λ n l e. (ltb-true 0 n e, l))

abbrev Tail2 : Type 0
Tail2 = ℕ × Option (List ℕ)

abbrev Tail3 : Type 0
Tail3 = Mode × Tail2

abbrev Tail4 : Type 0
Tail4 = ℕ × Tail3

tail2_reads : IsReader (λ (a : Tail2). to_be_bytes w32 a.0 ++ nonce_bytes a.1) (λ a. ((0 < a.0) × (a.0 < 2 ^ 32)) × IsNonce a.1) (both latency_in nonce_in)
tail2_reads = both_reads (to_be_bytes w32) (λ n. (0 < n) × (n < 2 ^ 32)) latency_in nonce_bytes IsNonce nonce_in latency_reads nonce_reads

tail3_reads : IsReader (λ (a : Tail3). (mode_byte a.0 ∷ []) ++ (to_be_bytes w32 a.1.0 ++ nonce_bytes a.1.1)) (λ a. Unit {0} × (((0 < a.1.0) × (a.1.0 < 2 ^ 32)) × IsNonce a.1.1)) (both mode_in (both latency_in nonce_in))
tail3_reads =
    both_reads (λ m. mode_byte m ∷ []) (λ m. Unit {0}) mode_in (λ (a : Tail2). to_be_bytes w32 a.0 ++ nonce_bytes a.1) (λ a. ((0 < a.0) × (a.0 < 2 ^ 32)) × IsNonce a.1) (both latency_in nonce_in) mode_reads tail2_reads

tail4_reads : IsReader (λ (a : Tail4). (a.0 ∷ []) ++ ((mode_byte a.1.0 ∷ []) ++ (to_be_bytes w32 a.1.1.0 ++ nonce_bytes a.1.1.1)))
    (λ a. (a.0 < 256) × (Unit {0} × (((0 < a.1.1.0) × (a.1.1.0 < 2 ^ 32)) × IsNonce a.1.1.1))) (both byte_in (both mode_in (both latency_in nonce_in)))
tail4_reads =
    both_reads (λ n. n ∷ []) (λ n. n < 256) byte_in (λ (a : Tail3). (mode_byte a.0 ∷ []) ++ (to_be_bytes w32 a.1.0 ++ nonce_bytes a.1.1)) (λ a. Unit {0} × (((0 < a.1.0) × (a.1.0 < 2 ^ 32)) × IsNonce a.1.1)) (both mode_in (both latency_in nonce_in))
    byte_reads tail3_reads

pub session_reads : IsReader session_bytes IsSession session_in
unfolding session_in
session_reads =
    made_reads (λ (a : ℕ × Tail4). to_be_bytes w32 a.0 ++ ((a.1.0 ∷ []) ++ ((mode_byte a.1.1.0 ∷ []) ++ (to_be_bytes w32 a.1.1.1.0 ++ nonce_bytes a.1.1.1.1))))
    (λ a. (a.0 < 2 ^ 32) × ((a.1.0 < 256) × (Unit {0} × (((0 < a.1.1.1.0) × (a.1.1.1.0 < 2 ^ 32)) × IsNonce a.1.1.1.1))))
    (both (be_number_in w32) (both byte_in (both mode_in (both latency_in nonce_in)))) session_bytes IsSession session_of (λ s. (s.number, (s.contact, (s.mode, (s.latency, s.nonce)))))
    (both_reads (to_be_bytes w32) (λ n. n < 2 ^ 32) (be_number_in w32)
    (λ (a : Tail4). (a.0 ∷ []) ++ ((mode_byte a.1.0 ∷ []) ++ (to_be_bytes w32 a.1.1.0 ++ nonce_bytes a.1.1.1)))
    (λ a. (a.0 < 256) × (Unit {0} × (((0 < a.1.1.0) × (a.1.1.0 < 2 ^ 32)) × IsNonce a.1.1.1))) (both byte_in (both mode_in (both latency_in nonce_in))) number32 tail4_reads)
    (λ s m. ((m.number_fits, (m.contact_fits, (tt, ((m.some_latency, m.latency_fits), m.whole_nonce)))), refl, refl))
    (λ a l. (record { number_fits = l.0; contact_fits = l.1.0; some_latency = l.1.1.1.0.0; latency_fits = l.1.1.1.0.1; whole_nonce = l.1.1.1.1 }, refl))

-- ---- an output

pub ids_reads : IsReader (ids_bytes whole) (IsIdList MAX_IDS) (ids_in id_in)
unfolding ids_in
ids_reads =
    seen_as (ids_bytes whole) (ids_bytes whole)
    (λ ids. ((1 ≤ length ids) × (length ids ≤ MAX_IDS)) × ((length ids ≡ length ids) × AreIds ids)) (IsIdList MAX_IDS) (ids_in id_in)
    (chained_reads (to_be_bytes w16) (λ n. (1 ≤ n) × (n ≤ MAX_IDS)) (λ bytes. passed (is_between 1 MAX_IDS) (be_number_in w16 bytes))
    (flat_map (λ (id : List ℕ). id)) (λ n ids. (length ids ≡ n) × AreIds ids) (list_in id_in) length
    (count_reads 1 MAX_IDS (omega arith)) (list_reads (λ (id : List ℕ). id) (λ id. length id ≡ 32) id_in id_reads) (λ n ids e. e.0))
    (λ ids m. ((m.some, m.few), (refl, m.whole))) (λ ids l. record { some = l.0.0; few = l.0.1; whole = l.1.1 }) (λ ids. refl)

-- all of a list keep two facts where all keep each
join_all : {A : Type 0} (P Q : A → Type 0) (xs : List A) → AllByRecursion P xs → AllByRecursion Q xs → AllByRecursion (λ x. P x × Q x) xs
join_all P Q [] p q = tt
join_all P Q (x ∷ xs) p q = ((p.0, q.0), join_all P Q xs p.1 q.1)

first_all : {A : Type 0} (P Q : A → Type 0) (xs : List A) → AllByRecursion (λ x. P x × Q x) xs → AllByRecursion P xs
first_all P Q [] all = tt
first_all P Q (x ∷ xs) all = (all.0.0, first_all P Q xs all.1)

second_all : {A : Type 0} (P Q : A → Type 0) (xs : List A) → AllByRecursion (λ x. P x × Q x) xs → AllByRecursion Q xs
second_all P Q [] all = tt
second_all P Q (x ∷ xs) all = (all.0.1, second_all P Q xs all.1)

-- where the ids of messages that are held are written and read in some way, and keep N
module _ (S : List ℕ → List ℕ) (N : List ℕ → Type 0) (p : IdReader) (r : IsReader S (λ id. IsId id × N id) p) where
  held_ids_reads : IsReader (ids_bytes S) (λ ids. IsIdList MAX_IDS ids × AllByRecursion N ids) (ids_in p)
  unfolding ids_in
  held_ids_reads =
      seen_as (ids_bytes S) (ids_bytes S)
      (λ ids. ((1 ≤ length ids) × (length ids ≤ MAX_IDS)) × ((length ids ≡ length ids) × AllByRecursion (λ id. IsId id × N id) ids))
      (λ ids. IsIdList MAX_IDS ids × AllByRecursion N ids) (ids_in p)
      (chained_reads (to_be_bytes w16) (λ n. (1 ≤ n) × (n ≤ MAX_IDS)) (λ bytes. passed (is_between 1 MAX_IDS) (be_number_in w16 bytes))
      (flat_map S) (λ n ids. (length ids ≡ n) × AllByRecursion (λ id. IsId id × N id) ids) (list_in p) length
      (count_reads 1 MAX_IDS (omega arith)) (list_reads S (λ id. IsId id × N id) p r) (λ n ids e. e.0))
      (λ ids m. ((m.0.some, m.0.few), (refl, join_all IsId N ids m.0.whole m.1)))
      (λ ids l. (record { some = l.0.0; few = l.0.1; whole = first_all IsId N ids l.1.1 }, second_all IsId N ids l.1.1)) (λ ids. refl)

  abbrev IsOutIn : Out → Type 0
  IsOutIn o = IsOut o × OutNames N o

  out_back : (o : Out) (more : List ℕ) → IsOutIn o → out_in p (out_bytes S o ++ more) ≡ Some (o, more)
  unfolding out_in byte_in
  out_back (out.Acks ids) more is = ap (made out.Acks) (held_ids_reads.back ids more is)
  out_back (out.Requests ids) more is = ap (made out.Requests) (ids_reads.back ids more is.0)
  out_back (out.Offers ids) more is = ap (made out.Offers) (held_ids_reads.back ids more is)
  out_back (out.Send id) more is = ap (made out.Send) (r.back id more is)

  out_sound : (bytes rest : List ℕ) (o : Out) → IsBytes bytes → out_in p bytes ≡ Some (o, rest) → IsOutIn o × (bytes ≡ out_bytes S o ++ rest)
  unfolding out_in
  out_sound bytes rest o fits e =
      let c = behind_byte (out_of p) bytes rest o fits e in
      let P : Type 0 = IsOutIn o × (bytes ≡ out_bytes S o ++ rest) in
      let L : List (List ℕ) → Type 0 = λ ids. IsIdList MAX_IDS ids × AllByRecursion N ids in
      tested P c.0 0 (made out.Acks (ids_in p c.1)) _ (Some (o, rest))
      (λ n h. told (ids_bytes S) L (ids_in p) held_ids_reads out.Acks (out_bytes S) IsOutIn 0 (λ a l. l) (λ a. refl) bytes c.1 rest c.0 o c.3 c.2 n h)
      (tested P c.0 1 (made out.Requests (ids_in id_in c.1)) _ (Some (o, rest))
      (λ n h. told (ids_bytes whole) (IsIdList MAX_IDS) (ids_in id_in) ids_reads out.Requests (out_bytes S) IsOutIn 1 (λ a l. (l, tt)) (λ a. refl) bytes c.1 rest c.0 o c.3 c.2 n h)
      (tested P c.0 2 (made out.Offers (ids_in p c.1)) _ (Some (o, rest))
      (λ n h. told (ids_bytes S) L (ids_in p) held_ids_reads out.Offers (out_bytes S) IsOutIn 2 (λ a l. l) (λ a. refl) bytes c.1 rest c.0 o c.3 c.2 n h)
      (tested P c.0 3 (made out.Send (p c.1)) None (Some (o, rest))
      (λ n h. told S (λ id. IsId id × N id) p r out.Send (out_bytes S) IsOutIn 3 (λ a l. l) (λ a. refl) bytes c.1 rest c.0 o c.3 c.2 n h)
      (λ h. absurd cc))))
      c.4

  pub out_reads : IsReader (out_bytes S) IsOutIn (out_in p)
  out_reads = record { back = out_back; sound = out_sound }
