-- What is read is spelled so.
use Rattle.std.proofs.Common.{◌≡◌, ◌≢◌, inl, inr, ℕ, zero, suc, ◌+◌, ◌*◌, ◌/◌, ◌%◌, ◌^◌, ◌<◌, ◌≤◌, Bool, true, false, List, [], ◌∷◌, ◌++◌, length, take, drop, get_or, get_or-drop, lit<, subst, refl, sym, ap, ◌∙◌, arith, length-drop}
use Rattle.std.specs.Prelude.{Option, Some, None, Result, Ok, Err, IfOk, ◌==◌, nat_lt, if◌then◌else◌}
use Rattle.std.specs.Int.{w64, to_be_bytes}
use Rattle.std.proofs.lemmas.List.{drop-drop, length-take-le, take-append-drop}
use Rattle.std.proofs.lemmas.Bool.{eqb-true, eqb-false, ltb-true, ltb-false}
use Rattle.std.proofs.lemmas.Nat.{be_bytes_8}
use Rattle.sync_ids.specs.Values.{AreIds, IsIdList, IsMessage, IsVersionList}
use Rattle.record_grammar.specs.Spelling.{framed, joined, spelling}
use Rattle.record_grammar.specs.Reading.{decided_by, decided_payload, decided_rest, found_at, found_in, found_payload, front_in, ids_in, ids_of, kind_of, message_of, refused_for, refused_ids, refused_length, timestamp_in}
use Rattle.record_grammar.specs.Laws.{IsSpelled}
use Rattle.std.specs.declared.alloc.AllocError.{AllocError}
use Rattle.record_grammar.specs.declared.reading.Found.{Found}
use Rattle.record_grammar.specs.declared.front.Front.TheVariants as front
use Rattle.record_grammar.specs.declared.front.Kind.{Kind}
use Rattle.record_grammar.specs.declared.front.Kind.TheVariants as kind
use Rattle.record_grammar.specs.declared.front.Reason.{Reason}
use Rattle.record_grammar.specs.declared.front.Reason.TheVariants as reason
use Rattle.record_grammar.proofs.Fronts.{payload_cases, refused_long}
use Rattle.record_grammar.proofs.TypeBytes.{Says, kind_says}
use Rattle.record_grammar.proofs.Lists.{length-ids_in}

abbrev pub IsBytes : List ℕ → Type 0
IsBytes b = (i : ℕ) → get_or b i 0 < 256

-- the ids of a payload have 32 bytes each
pub whole_ids : (n : ℕ) (p : List ℕ) → 32 * n ≤ length p → AreIds (ids_in n p)
unfolding ids_in
whole_ids zero p fits = tt
whole_ids (suc n) p fits = (length-take-le 32 p (omega arith), whole_ids n (drop 32 p) (omega (arith, length-drop 32 p)))

-- joined again they are the payload
pub joined_ids : (n : ℕ) (p : List ℕ) → 32 * n ≡ length p → joined (ids_in n p) ≡ p
unfolding ids_in
joined_ids zero [] all = refl
joined_ids zero (x ∷ p) all = absurd (omega arith)
joined_ids (suc n) p all =
    ap (λ (x : List ℕ). take 32 p ++ x) (joined_ids n (drop 32 p) (omega (arith, length-drop 32 p))) ∙ take-append-drop 32 p

-- the length of a list of ids that passes
pub ids_passed : (len : ℕ) → refused_ids len ≡ None → (1 ≤ len / 32) × (32 * (len / 32) ≡ len)
ids_passed len e = go (len == 0) refl e where
  go : (b : Bool) → (len == 0) ≡ b → (if b then Some reason.EmptyIds else if len % 32 == 0 then None else Some reason.RaggedIds) ≡ None → (1 ≤ len / 32) × (32 * (len / 32) ≡ len)
  go true f h = cc
  go false f h = go2 (len % 32 == 0) refl h where
    go2 : (c : Bool) → (len % 32 == 0) ≡ c → (if c then None else Some reason.RaggedIds) ≡ None → (1 ≤ len / 32) × (32 * (len / 32) ≡ len)
    go2 true g i =
        let whole : len % 32 ≡ 0 = eqb-true (len % 32) 0 g in
        let some : len ≢ 0 = eqb-false len 0 f in
        (omega arith, omega arith)
    go2 false g i = cc

-- bytes of a part are bytes
pub IsBytes-drop : (n : ℕ) (b : List ℕ) → IsBytes b → IsBytes (drop n b)
IsBytes-drop n b bytes = λ i. rw (get_or-drop n b i 0) (bytes (n + i))

IsBytes-cons : (x : ℕ) (b : List ℕ) → x < 256 → IsBytes b → IsBytes (x ∷ b)
IsBytes-cons x b first rest = go where
  go : (i : ℕ) → get_or (x ∷ b) i 0 < 256
  go zero = first
  go (suc i) = rest i

pub IsBytes-take : (n : ℕ) (b : List ℕ) → IsBytes b → IsBytes (take n b)
IsBytes-take zero b bytes = λ i. lit< tt
IsBytes-take (suc n) [] bytes = λ i. lit< tt
IsBytes-take (suc n) (x ∷ b) bytes = IsBytes-cons x (take n b) (bytes 0) (IsBytes-take n b (λ j. bytes (suc j)))

-- bytes with their header, written out
pub framed_is : (t h l : ℕ) (p : List ℕ) → h < 256 → l < 256 → length p ≡ h * 256 + l → framed t p ≡ 0 ∷ t ∷ h ∷ l ∷ p
framed_is t h l p hh hl e =
    let hi : length p / 256 % 256 ≡ h = omega arith in
    let lo : length p % 256 ≡ l = omega arith in
    rw (hi, lo) refl

passed_for : (k : Kind) (len : ℕ) → refused_length k len ≡ None → refused_for k len ≡ None
passed_for k len e = go (nat_lt 49152 len) refl e where
  go : (b : Bool) → nat_lt 49152 len ≡ b → (if b then Some reason.TooLong else refused_for k len) ≡ None → refused_for k len ≡ None
  go true f h = cc
  go false f h = h

ids_within : (p : List ℕ) → length p ≤ 49152 → 1 ≤ length p / 32 → IsIdList 1536 (ids_of p)
ids_within p most some =
    let len : length (ids_of p) ≡ length p / 32 = length-ids_in (length p / 32) p in
    record { some = omega arith; few = omega arith; whole = whole_ids (length p / 32) p (omega arith) }

message_lens : (len : ℕ) → refused_for kind.Message len ≡ None → (41 ≤ len) × (len ≤ 32808)
message_lens len e = go (nat_lt len 41) refl e where
  go : (b : Bool) → nat_lt len 41 ≡ b → (if b then Some reason.ShortMessage else if nat_lt 32808 len then Some reason.BodyTooLong else None) ≡ None → (41 ≤ len) × (len ≤ 32808)
  go true f h = cc
  go false f h = go2 (nat_lt 32808 len) refl h where
    go2 : (c : Bool) → nat_lt 32808 len ≡ c → (if c then Some reason.BodyTooLong else None) ≡ None → (41 ≤ len) × (len ≤ 32808)
    go2 true g i = cc
    go2 false g i = (ltb-false len 41 f, ltb-false 32808 len g)

message_time : (t : ℕ) (p : List ℕ) → decided_payload kind.Message t p ≡ front.Whole t (length p) → timestamp_in p < 2 ^ 63
message_time t p e = go (nat_lt (timestamp_in p) (2 ^ 63)) refl e where
  go : (b : Bool) → nat_lt (timestamp_in p) (2 ^ 63) ≡ b → (if b then front.Whole t (length p) else front.Bad reason.BadTimestamp) ≡ front.Whole t (length p) → timestamp_in p < 2 ^ 63
  go true f h = ltb-true (timestamp_in p) (2 ^ 63) f
  go false f h = cc

versions_lens : (p : List ℕ) → refused_for kind.Versions (length p) ≡ None → IsVersionList p
versions_lens p e = go (length p == 0) refl e where
  go : (b : Bool) → (length p == 0) ≡ b → (if b then Some reason.BadVersions else if nat_lt 10 (length p) then Some reason.BadVersions else None) ≡ None → IsVersionList p
  go true f h = cc
  go false f h = go2 (nat_lt 10 (length p)) refl h where
    go2 : (c : Bool) → nat_lt 10 (length p) ≡ c → (if c then Some reason.BadVersions else None) ≡ None → IsVersionList p
    go2 true g i = cc
    go2 false g i = let some : length p ≢ 0 = eqb-false (length p) 0 f in record { some = omega arith; few = ltb-false 10 (length p) g }

nonce_len : (p : List ℕ) → refused_for kind.Priority (length p) ≡ None → length p ≡ 16
nonce_len p e = go (length p == 16) refl e where
  go : (b : Bool) → (length p == 16) ≡ b → (if b then None else Some reason.BadNonce) ≡ None → length p ≡ 16
  go true f h = eqb-true (length p) 16 f
  go false f h = cc

time_within : (t : ℕ) → t < 2 ^ 63 → t ≤ 9223372036854775807
time_within t below = omega arith

-- the message of a payload that passes
message_sound : (p : List ℕ) → IsBytes p → 41 ≤ length p → length p ≤ 32808 → timestamp_in p < 2 ^ 63 → IsMessage (message_of p)
message_sound p bytes some few time = record {
  whole_group = length-take-le 32 p (omega arith);
  sound_timestamp = time_within (timestamp_in p) time;
  some_body = omega (arith, length-drop 40 p);
  short_body = omega (arith, length-drop 40 p);
}

-- its parts joined again are the payload
message_joined : (p : List ℕ) → IsBytes p → 41 ≤ length p → take 32 p ++ (to_be_bytes w64 (timestamp_in p) ++ drop 40 p) ≡ p
message_joined p bytes some =
    let eight : List ℕ = take 8 (drop 32 p) in
    let len : length eight ≡ 8 = length-take-le 8 (drop 32 p) (omega (arith, length-drop 32 p)) in
    let back : to_be_bytes w64 (timestamp_in p) ≡ eight = be_bytes_8 eight (timestamp_in p) len (IsBytes-take 8 (drop 32 p) (IsBytes-drop 32 p bytes)) refl in
    let tail : drop 8 (drop 32 p) ≡ drop 40 p = drop-drop 8 32 p in
    let rest : eight ++ drop 40 p ≡ drop 32 p = ap (λ (x : List ℕ). eight ++ x) (sym tail) ∙ take-append-drop 8 (drop 32 p) in
    ap (λ (x : List ℕ). take 32 p ++ (x ++ drop 40 p)) back ∙ ap (λ (x : List ℕ). take 32 p ++ x) rest ∙ take-append-drop 32 p

-- a whole payload that passes, with the bytes that it is framed in
payload_sound : (k : Kind) (t : ℕ) (p b : List ℕ) → Says k t → IsBytes p → refused_length k (length p) ≡ None
    → decided_payload k t p ≡ front.Whole t (length p) → 4 + length p ≤ length b → take (4 + length p) b ≡ framed t p → IsSpelled b (found_payload k t p)
unfolding spelling
payload_sound kind.Ack t p b says bytes passes decided fits is =
    let most : length p ≤ 49152 = refused_long kind.Ack (length p) passes in
    let ids = ids_passed (length p) (passed_for kind.Ack (length p) passes) in
    (omega arith, fits, record { within = ids_within p most ids.0; is = is ∙ rw (says, joined_ids (length p / 32) p ids.1) refl })
payload_sound kind.Message t p b says bytes passes decided fits is =
    let lens = message_lens (length p) (passed_for kind.Message (length p) passes) in
    let time = message_time t p decided in
    (omega arith, fits, record { within = message_sound p bytes lens.0 lens.1 time; is = is ∙ rw (says, message_joined p bytes lens.0) refl })
payload_sound kind.Offer t p b says bytes passes decided fits is =
    let most : length p ≤ 49152 = refused_long kind.Offer (length p) passes in
    let ids = ids_passed (length p) (passed_for kind.Offer (length p) passes) in
    (omega arith, fits, record { within = ids_within p most ids.0; is = is ∙ rw (says, joined_ids (length p / 32) p ids.1) refl })
payload_sound kind.Request t p b says bytes passes decided fits is =
    let most : length p ≤ 49152 = refused_long kind.Request (length p) passes in
    let ids = ids_passed (length p) (passed_for kind.Request (length p) passes) in
    (omega arith, fits, record { within = ids_within p most ids.0; is = is ∙ rw (says, joined_ids (length p / 32) p ids.1) refl })
payload_sound kind.Versions t p b says bytes passes decided fits is =
    (omega arith, fits, record { within = versions_lens p (passed_for kind.Versions (length p) passes); is = is ∙ rw says refl })
payload_sound kind.Priority t p b says bytes passes decided fits is =
    (omega arith, fits, record { within = nonce_len p (passed_for kind.Priority (length p) passes); is = is ∙ rw says refl })
payload_sound kind.Other t p b says bytes passes decided fits is =
    (omega arith, fits, record { payload = p; other = says; short = refused_long kind.Other (length p) passes; is = is })

-- a header, and what follows it
header_sound : (b rest : List ℕ) (t len : ℕ) → IsBytes rest → drop 4 b ≡ rest → length b ≡ 4 + length rest
    → ((p : List ℕ) → length p ≡ len → p ≡ take len rest → take (4 + len) b ≡ framed t p)
    → IsSpelled b (found_at (decided_by (refused_length (kind_of t) len) (if nat_lt (length rest) len then front.More else decided_payload (kind_of t) t (take len rest))) b)
header_sound b rest t len bytes tail count is = go (refused_length (kind_of t) len) refl (nat_lt (length rest) len) refl where
  go : (o : Option Reason) → refused_length (kind_of t) len ≡ o → (w : Bool) → nat_lt (length rest) len ≡ w
      → IsSpelled b (found_at (decided_by o (if w then front.More else decided_payload (kind_of t) t (take len rest))) b)
  go (Some why) e w f = tt
  go None e true f =
      let most : len ≤ 49152 = refused_long (kind_of t) len e in
      let short : length rest < len = ltb-true (length rest) len f in
      omega arith
  go None e false f =
      let fits : len ≤ length rest = ltb-false (length rest) len f in
      let p : List ℕ = take len rest in
      let len_p : length p ≡ len = length-take-le len rest fits in
      elim (payload_cases (kind_of t) t p) [
        | inl d ↦
            let same : take (length p) (drop 4 b) ≡ p = rw (len_p, tail) refl in
            rw (d, same) (payload_sound (kind_of t) t p b (kind_says t) (IsBytes-take len rest bytes) (rw len_p e) d (omega arith) (ap (λ (n : ℕ). take (4 + n) b) len_p ∙ is p len_p refl))
        | inr d ↦ rw d tt
      ]

pub found_sound : (b : List ℕ) → IsBytes b → IsSpelled b (found_in b)
unfolding found_in front_in
found_sound [] bytes = omega arith
found_sound (v ∷ b) bytes = go (v == 0) refl b bytes where
  go : (w : Bool) → (v == 0) ≡ w → (b : List ℕ) → IsBytes (v ∷ b) → IsSpelled (v ∷ b) (found_at (if w then decided_rest b else front.Bad reason.WrongVersion) (v ∷ b))
  go false e b bytes = tt
  go true e [] bytes = omega arith
  go true e (t ∷ []) bytes = omega arith
  go true e (t ∷ h ∷ []) bytes = omega arith
  go true e (t ∷ h ∷ l ∷ rest) bytes =
      header_sound (v ∷ t ∷ h ∷ l ∷ rest) rest t (h * 256 + l) (λ i. bytes (suc (suc (suc (suc i))))) refl (omega arith)
      (λ p len_p is.
      let more : 4 + (h * 256 + l) ≡ suc (suc (suc (suc (h * 256 + l)))) = omega arith in
      let right : v ≡ 0 = eqb-true v 0 e in
      rw (more, right, ← is) (sym (framed_is t h l p (bytes 2) (bytes 3) len_p)))

-- the same of an answer that may not have come
pub IsSpelled-IfOk : (b : List ℕ) (r : Result Found AllocError) → IsBytes b → IfOk r (λ f. f ≡ found_in b) → IfOk r (λ f. IsSpelled b f)
IsSpelled-IfOk b (Ok f) bytes e = let P : Found → Type 0 = λ g. IsSpelled b g in subst P (sym e) (found_sound b bytes)
IsSpelled-IfOk b (Err x) bytes e = tt

pub IsSpelled-at : (b : List ℕ) (f : Found) → IsBytes b → f ≡ found_in b → IsSpelled b f
IsSpelled-at b f bytes e = let P : Found → Type 0 = λ g. IsSpelled b g in subst P (sym e) (found_sound b bytes)
