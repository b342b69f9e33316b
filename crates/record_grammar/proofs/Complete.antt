-- What is spelled is read so, whatever follows.
use Rattle.std.proofs.Common.{◌≡◌, ◌≢◌, ◌⊎◌, inl, inr, ℕ, ◌+◌, ◌*◌, ◌/◌, ◌%◌, ◌^◌, ◌<◌, ◌≤◌, Bool, true, false, List, [], ◌∷◌, ◌++◌, length, take, drop, refl, sym, ap, ◌∙◌, arith, length-append, length-drop}
use Rattle.std.specs.Prelude.{Option, Some, None, Result, Ok, Err, OnOk, ◌==◌, nat_lt, if◌then◌else◌}
use Rattle.std.specs.Int.{w64, from_be_bytes, to_be_bytes}
use Rattle.std.proofs.lemmas.List.{append_assoc, append-nil, drop_at, drop-append-le, drop-drop, take_at, take-append-le}
use Rattle.std.proofs.lemmas.Bool.{ltb-false}
use Rattle.std.proofs.lemmas.Bool.Decides.{nat_tests}
use Rattle.std.proofs.lemmas.Nat.{from_be_bytes-to_be_bytes_8}
use Rattle.sync_ids.specs.Values.{AreIds, IsMessage, MessageValue}
use Rattle.sync_ids.specs.Records.{IsRecord}
use Rattle.sync_ids.specs.declared.records.Record.{Record}
use Rattle.sync_ids.specs.declared.records.Record.TheVariants as record_kind
use Rattle.record_grammar.specs.Spelling.{Skips, Spells, framed, header, joined, payload_of, spelling, type_of}
use Rattle.record_grammar.specs.Reading.{AnswersBytes, HasWhole, decided_by, decided_header, decided_payload, decided_rest, found_at, found_in, found_payload, front_in, ids_in, ids_of, kind_of, message_of, refused_for, refused_ids, refused_length, timestamp_in}
use Rattle.record_grammar.specs.Laws.{IsWholeRecord}
use Rattle.record_grammar.specs.declared.front.Front.{Front}
use Rattle.record_grammar.specs.declared.front.Front.TheVariants as front
use Rattle.record_grammar.specs.declared.front.Kind.{Kind}
use Rattle.record_grammar.specs.declared.front.Kind.TheVariants as kind
use Rattle.record_grammar.specs.declared.front.Reason.{Reason}
use Rattle.record_grammar.specs.declared.front.Reason.TheVariants as reason
use Rattle.record_grammar.specs.declared.reading.Found.{Found}
use Rattle.record_grammar.specs.declared.reading.Found.TheVariants as found
use Rattle.record_grammar.proofs.Fronts.{front_backs}
use Rattle.record_grammar.proofs.TypeBytes.{kind_other}

ltb_no : (a b : ℕ) → b ≤ a → nat_lt a b ≡ false
ltb_no a b h = grind (arith, nat_tests)

ltb_yes : (a b : ℕ) → a < b → nat_lt a b ≡ true
ltb_yes a b h = grind (arith, nat_tests)

eqb_no : (a b : ℕ) → a ≢ b → (a == b) ≡ false
eqb_no a b h = grind (arith, nat_tests)

eqb_yes : (a b : ℕ) → a ≡ b → (a == b) ≡ true
eqb_yes a b h = grind (arith, nat_tests)

-- a payload that passes is found behind its header
framed_found : (t : ℕ) (p more : List ℕ) → length p ≤ 49152 → refused_length (kind_of t) (length p) ≡ None
    → decided_payload (kind_of t) t p ≡ front.Whole t (length p) → found_in (framed t p ++ more) ≡ found_payload (kind_of t) t p
unfolding found_in front_in
framed_found t p more short passes decided =
    let len_is : length p / 256 % 256 * 256 + length p % 256 ≡ length p = omega arith in
    let there : nat_lt (length (p ++ more)) (length p) ≡ false = ltb_no (length (p ++ more)) (length p) (omega (arith, length-append p more)) in
    let taken : take (length p) (p ++ more) ≡ p = take_at p more (length p) refl in
    rw (len_is, passes, there, taken, decided, taken) refl

passes_if : (k : Kind) (len : ℕ) → len ≤ 49152 → refused_for k len ≡ None → refused_length k len ≡ None
passes_if k len short passes = rw (ltb_no 49152 len short) passes

ids_pass : (len n : ℕ) → len ≡ 32 * n → 1 ≤ n → refused_ids len ≡ None
ids_pass len n e some =
    let none : (len == 0) ≡ false = eqb_no len 0 (λ h. omega arith) in
    let whole : (len % 32 == 0) ≡ true = eqb_yes (len % 32) 0 (omega arith) in
    rw (none, whole) refl

joined_length : (ids : List (List ℕ)) → AreIds ids → length (joined ids) ≡ 32 * length ids
joined_length [] whole = refl
joined_length (id ∷ ids) whole = omega (arith, length-append id (joined ids), whole.0, joined_length ids whole.1)

-- ids that are joined are cut into themselves
ids_again : (ids : List (List ℕ)) → AreIds ids → ids_in (length ids) (joined ids) ≡ ids
unfolding ids_in
ids_again [] whole = refl
ids_again (id ∷ ids) whole =
    let first : take 32 (id ++ joined ids) ≡ id = take_at id (joined ids) 32 whole.0 in
    let rest : drop 32 (id ++ joined ids) ≡ joined ids = drop_at id (joined ids) 32 whole.0 in
    rw (first, rest, ids_again ids whole.1) refl

ids_of_joined : (ids : List (List ℕ)) → AreIds ids → ids_of (joined ids) ≡ ids
ids_of_joined ids whole =
    let len : length (joined ids) ≡ 32 * length ids = joined_length ids whole in
    let count : length (joined ids) / 32 ≡ length ids = omega arith in
    rw count (ids_again ids whole)

message_length : (m : MessageValue) → IsMessage m → length (payload_of (record_kind.Message m)) ≡ 40 + length m.body
message_length m is = omega (arith, is.whole_group, length-append m.group (to_be_bytes w64 m.timestamp ++ m.body))

message_rest : (m : MessageValue) → IsMessage m → drop 32 (payload_of (record_kind.Message m)) ≡ to_be_bytes w64 m.timestamp ++ m.body
message_rest m is = drop_at m.group (to_be_bytes w64 m.timestamp ++ m.body) 32 is.whole_group

message_timestamp : (m : MessageValue) → IsMessage m → timestamp_in (payload_of (record_kind.Message m)) ≡ m.timestamp
message_timestamp m is =
    ap (λ (b : List ℕ). from_be_bytes w64 (take 8 b)) (message_rest m is) ∙ from_be_bytes-to_be_bytes_8 m.timestamp (omega (arith, is.sound_timestamp))

message_body : (m : MessageValue) → IsMessage m → drop 40 (payload_of (record_kind.Message m)) ≡ m.body
message_body m is = sym (drop-drop 8 32 (payload_of (record_kind.Message m))) ∙ ap (drop 8) (message_rest m is)

-- a message's payload is read as the message
message_again : (m : MessageValue) → IsMessage m → message_of (payload_of (record_kind.Message m)) ≡ m
message_again m is =
    let group : take 32 (payload_of (record_kind.Message m)) ≡ m.group = take_at m.group (to_be_bytes w64 m.timestamp ++ m.body) 32 is.whole_group in
    ap (λ (g : List ℕ). record { group = g; timestamp = timestamp_in (payload_of (record_kind.Message m)); body = drop 40 (payload_of (record_kind.Message m)) }) group
    ∙ ap (λ (t : ℕ). record { group = m.group; timestamp = t; body = drop 40 (payload_of (record_kind.Message m)) }) (message_timestamp m is)
    ∙ ap (λ (b : List ℕ). record { group = m.group; timestamp = m.timestamp; body = b }) (message_body m is)

message_passes : (len : ℕ) → nat_lt len 41 ≡ false → nat_lt 32808 len ≡ false → refused_for kind.Message len ≡ None
message_passes len enough few = rw (enough, few) refl

message_decided : (t : ℕ) (p : List ℕ) → nat_lt (timestamp_in p) (2 ^ 63) ≡ true → decided_payload kind.Message t p ≡ front.Whole t (length p)
message_decided t p time = rw time refl

versions_pass : (len : ℕ) → (len == 0) ≡ false → nat_lt 10 len ≡ false → refused_for kind.Versions len ≡ None
versions_pass len some few = rw (some, few) refl

nonce_passes : (len : ℕ) → (len == 16) ≡ true → refused_for kind.Priority len ≡ None
nonce_passes len e = rw e refl

-- each record is found behind its header
record_found : (r : Record) (more : List ℕ) → IsRecord r → found_in (framed (type_of r) (payload_of r) ++ more) ≡ found.One r (4 + length (payload_of r))
record_found (record_kind.Ack ids) more within =
    let len : length (joined ids) ≡ 32 * length ids = joined_length ids within.whole in
    let short : length (joined ids) ≤ 49152 = omega (arith, within.few) in
    framed_found 0 (joined ids) more short (passes_if kind.Ack (length (joined ids)) short (ids_pass (length (joined ids)) (length ids) len within.some)) refl
    ∙ ap (λ (xs : List (List ℕ)). found.One (record_kind.Ack xs) (4 + length (joined ids))) (ids_of_joined ids within.whole)
record_found (record_kind.Message m) more within =
    let p : List ℕ = payload_of (record_kind.Message m) in
    let len : length p ≡ 40 + length m.body = message_length m within in
    let short : length p ≤ 49152 = omega (arith, within.short_body) in
    let enough : nat_lt (length p) 41 ≡ false = ltb_no (length p) 41 (omega (arith, within.some_body)) in
    let few : nat_lt 32808 (length p) ≡ false = ltb_no 32808 (length p) (omega (arith, within.short_body)) in
    let time : nat_lt (timestamp_in p) (2 ^ 63) ≡ true = ltb_yes (timestamp_in p) (2 ^ 63) (omega (arith, message_timestamp m within, within.sound_timestamp)) in
    framed_found 1 p more short (passes_if kind.Message (length p) short (message_passes (length p) enough few)) (message_decided 1 p time)
    ∙ ap (λ (v : MessageValue). found.One (record_kind.Message v) (4 + length p)) (message_again m within)
record_found (record_kind.Offer ids) more within =
    let len : length (joined ids) ≡ 32 * length ids = joined_length ids within.whole in
    let short : length (joined ids) ≤ 49152 = omega (arith, within.few) in
    framed_found 2 (joined ids) more short (passes_if kind.Offer (length (joined ids)) short (ids_pass (length (joined ids)) (length ids) len within.some)) refl
    ∙ ap (λ (xs : List (List ℕ)). found.One (record_kind.Offer xs) (4 + length (joined ids))) (ids_of_joined ids within.whole)
record_found (record_kind.Request ids) more within =
    let len : length (joined ids) ≡ 32 * length ids = joined_length ids within.whole in
    let short : length (joined ids) ≤ 49152 = omega (arith, within.few) in
    framed_found 3 (joined ids) more short (passes_if kind.Request (length (joined ids)) short (ids_pass (length (joined ids)) (length ids) len within.some)) refl
    ∙ ap (λ (xs : List (List ℕ)). found.One (record_kind.Request xs) (4 + length (joined ids))) (ids_of_joined ids within.whole)
record_found (record_kind.Versions versions) more within =
    let short : length versions ≤ 49152 = omega (arith, within.few) in
    let some : (length versions == 0) ≡ false = eqb_no (length versions) 0 (λ h. omega (arith, within.some)) in
    let few : nat_lt 10 (length versions) ≡ false = ltb_no 10 (length versions) within.few in
    framed_found 4 versions more short (passes_if kind.Versions (length versions) short (versions_pass (length versions) some few)) refl
record_found (record_kind.Priority nonce) more within =
    let short : length nonce ≤ 49152 = omega (arith, within) in
    framed_found 5 nonce more short (passes_if kind.Priority (length nonce) short (nonce_passes (length nonce) (eqb_yes (length nonce) 16 within))) refl

framed_length : (t : ℕ) (p : List ℕ) → length (framed t p) ≡ 4 + length p
framed_length t p = omega arith

pub spelled_found : (r : Record) (bytes more : List ℕ) → Spells r bytes → found_in (bytes ++ more) ≡ found.One r (length bytes)
unfolding spelling
spelled_found r bytes more spelled =
    rw (spelled.is, framed_length (type_of r) (payload_of r)) (record_found r more spelled.within)

pub skipped_found : (t : ℕ) (bytes more : List ℕ) → Skips t bytes → found_in (bytes ++ more) ≡ found.Skipped t (length bytes)
skipped_found t bytes more skipped =
    let p : List ℕ = skipped.payload in
    let other : kind_of t ≡ kind.Other = kind_other t skipped.other in
    let passes : refused_length (kind_of t) (length p) ≡ None = rw other (passes_if kind.Other (length p) skipped.short refl) in
    let decided : decided_payload (kind_of t) t p ≡ front.Whole t (length p) = rw other refl in
    rw (skipped.is, framed_length t p) (framed_found t p more skipped.short passes decided ∙ rw other refl)

-- how many bytes an answer takes
used_of : Found → ℕ
used_of (found.One r used) = used
used_of (found.Skipped t used) = used
used_of found.More = 0
used_of (found.Bad why) = 0

whole_used : (bytes more : List ℕ) → IsWholeRecord bytes → used_of (found_in (bytes ++ more)) ≡ length bytes
unfolding used_of
whole_used bytes more (inl spelled) = ap used_of (spelled_found spelled.0 bytes more spelled.1)
whole_used bytes more (inr skipped) = ap used_of (skipped_found skipped.0 bytes more skipped.1)

empty : (xs : List ℕ) → length xs ≡ 0 → xs ≡ []
empty [] none = refl
empty (x ∷ xs) none = absurd (omega arith)

pub none_begins : (bytes more : List ℕ) → IsWholeRecord bytes → IsWholeRecord (bytes ++ more) → more ≡ []
none_begins bytes more whole longer =
    let first : used_of (found_in (bytes ++ more)) ≡ length bytes = whole_used bytes more whole in
    let second : used_of (found_in ((bytes ++ more) ++ [])) ≡ length (bytes ++ more) = whole_used (bytes ++ more) [] longer in
    let same : used_of (found_in (bytes ++ more)) ≡ length (bytes ++ more) = rw (append-nil (bytes ++ more)) at second in
    empty more (omega (arith, length-append bytes more))

pub one_record : (r s : Record) (bytes : List ℕ) → Spells r bytes → Spells s bytes → r ≡ s
one_record r s bytes spelled other =
    let first = spelled_found r bytes [] spelled in
    let second = spelled_found s bytes [] other in
    cc (first, second)

header_stays : (k : Kind) (t len : ℕ) (rest x : List ℕ) → (decided_header k t len rest ≡ front.More) ⊎ (decided_header k t len (rest ++ x) ≡ decided_header k t len rest)
header_stays k t len rest x = go (refused_length k len) (nat_lt (length rest) len) refl where
  go : (o : Option Reason) (w : Bool) → nat_lt (length rest) len ≡ w
      → (decided_by o (if nat_lt (length rest) len then front.More else decided_payload k t (take len rest)) ≡ front.More)
      ⊎ (decided_by o (if nat_lt (length (rest ++ x)) len then front.More else decided_payload k t (take len (rest ++ x)))
      ≡ decided_by o (if nat_lt (length rest) len then front.More else decided_payload k t (take len rest)))
  go (Some why) w e = inr refl
  go None true e = inl (rw e refl)
  go None false e =
      let fits : len ≤ length rest = ltb-false (length rest) len e in
      let still : nat_lt (length (rest ++ x)) len ≡ false = ltb_no (length (rest ++ x)) len (omega (arith, length-append rest x)) in
      inr (rw (e, still, take-append-le len rest x fits) refl)

-- what stands at the front stays, if it is decided
front_stays : (b x : List ℕ) → (front_in b ≡ front.More) ⊎ (front_in (b ++ x) ≡ front_in b)
unfolding front_in
front_stays [] x = inl refl
front_stays (v ∷ b) x = go (v == 0) b where
  go : (w : Bool) (b : List ℕ) → ((if w then decided_rest b else front.Bad reason.WrongVersion) ≡ front.More)
      ⊎ ((if w then decided_rest (b ++ x) else front.Bad reason.WrongVersion) ≡ (if w then decided_rest b else front.Bad reason.WrongVersion))
  go false b = inr refl
  go true [] = inl refl
  go true (t ∷ []) = inl refl
  go true (t ∷ h ∷ []) = inl refl
  go true (t ∷ h ∷ l ∷ rest) = header_stays (kind_of t) t (h * 256 + l) rest x

pub found_stays : (b x : List ℕ) → found_in b ≢ found.More → found_in (b ++ x) ≡ found_in b
unfolding found_in
found_stays b x decided = go (front_in b) refl (front_stays b x) (front_backs b) decided where
  go : (f : Front) → front_in b ≡ f → ((front_in b ≡ front.More) ⊎ (front_in (b ++ x) ≡ front_in b)) → AnswersBytes b (front_in b) → found_at (front_in b) b ≢ found.More
      → found_at (front_in (b ++ x)) (b ++ x) ≡ found_at (front_in b) b
  go f e (inl more) back decided = absurd (decided (rw more refl))
  go front.More e (inr same) back decided = absurd (decided (rw e refl))
  go (front.Bad why) e (inr same) back decided = rw (same, e) refl
  go (front.Whole t len) e (inr same) back decided =
      let whole : HasWhole b t len = rw e at back in
      let tail : drop 4 (b ++ x) ≡ drop 4 b ++ x = drop-append-le 4 b x (omega (arith, whole.fits)) in
      let front : take len (drop 4 b ++ x) ≡ take len (drop 4 b) = take-append-le len (drop 4 b) x (omega (arith, whole.fits, length-drop 4 b)) in
      rw (same, e, tail, front) refl

-- ids behind their header are framed
pub list_framed : {T E : Type 0} → (r : Result T E) (old mid new : List ℕ) (t : ℕ) (ids xs : List (List ℕ)) → OnOk r (new ≡ mid ++ joined xs)
    → OnOk r (AreIds xs) → mid ≡ old ++ header t (32 * length xs) → xs ≡ ids → OnOk r (new ≡ old ++ framed t (joined ids))
list_framed (Ok x) old mid new t ids xs e whole em es =
    e ∙ ap (λ (m : List ℕ). m ++ joined xs) em ∙ append_assoc old (header t (32 * length xs)) (joined xs)
    ∙ ap (λ (n : ℕ). old ++ (header t n ++ joined xs)) (sym (joined_length xs whole)) ∙ ap (λ (ys : List (List ℕ)). old ++ framed t (joined ys)) es
list_framed (Err x) old mid new t ids xs e whole em es = tt
