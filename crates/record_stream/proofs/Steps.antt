-- What a reader's steps do to the bytes that it holds.
use Rattle.std.proofs.Common.{◌≡◌, ℕ, zero, suc, ◌+◌, ◌-◌, ◌<◌, ◌≤◌, Bool, true, false, List, [], ◌∷◌, ◌++◌, length, take, drop, refl, sym, ap, ◌∙◌, arith, length-append, length-drop}
use Rattle.std.proofs.lemmas.List.{append_assoc, append-nil, drop_all, drop-append-le, drop-drop, take_all, length-take-le, take_at}
use Rattle.std.specs.List.{copy_within}
use Rattle.sync_ids.specs.declared.records.Record.{Record}
use Rattle.record_grammar.specs.Reading.{found_in, front_in}
use Rattle.record_grammar.specs.Stream.{TellsStream, IsRest, advanced, items, parsed}
use Rattle.record_grammar.specs.declared.front.Reason.{Reason}
use Rattle.record_grammar.specs.declared.reading.Found.{Found}
use Rattle.record_grammar.specs.declared.reading.Found.TheVariants as found
use Rattle.record_grammar.specs.declared.stream.Item.TheVariants as item
use Rattle.record_stream.specs.Reading.{AwaitsBytes, EndsBad, IsStreamRefused, ReaderState, ReadsOn}
use Rattle.record_stream.specs.Reading.{after, fresh_reader}

pub rest_nil : IsRest []
unfolding found_in front_in
rest_nil = refl

-- a refusal is for good
pub refused_of : (place : ℕ) (b : List ℕ) (why : Reason) (f : Found) → f ≡ found_in b → f ≡ found.Bad why → TellsStream b f → IsStreamRefused place b
refused_of place b why f e is goes = record {
  why = why;
  bad = sym e ∙ is;
  nothing = λ more. (goes.refused place more why is).0;
  ends = λ more. (goes.refused place more why is).1;
}

take_nil : (n : ℕ) → take {A = ℕ} n [] ≡ []
take_nil zero = refl
take_nil (suc n) = refl

-- what is left of a front
drop_of_take : (n e : ℕ) (l : List ℕ) → drop n (take e l) ≡ take (e - n) (drop n l)
drop_of_take zero e l = let z : e - 0 ≡ e = omega arith in rw z refl
drop_of_take (suc n) zero l = let z : 0 - suc n ≡ 0 = omega arith in rw z refl
drop_of_take (suc n) (suc e) [] = sym (take_nil (suc e - suc n))
drop_of_take (suc n) (suc e) (x ∷ l) = let z : suc e - suc n ≡ e - n = omega arith in rw z (drop_of_take n e l)

-- the bytes behind the first n
pub bytes_after : (buf : List ℕ) (start end n : ℕ) → take (end - (start + n)) (drop (start + n) buf) ≡ drop n (take (end - start) (drop start buf))
bytes_after buf start end n =
    let left : end - (start + n) ≡ end - start - n = omega arith in
    sym (drop_of_take n (end - start) (drop start buf) ∙ ap (take (end - start - n)) (drop-drop n start buf) ∙ ap (λ (k : ℕ). take k (drop (start + n) buf)) (sym left))

pub one_after : (buf : List ℕ) (start end place place' used : ℕ) (failed : Bool) (s : ReaderState) (r : Record)
    → record { place = place; bytes = take (end - start) (drop start buf); failed = failed } ≡ s → place' ≡ advanced place used
    → record { place = place'; bytes = take (end - (start + used)) (drop (start + used) buf); failed = failed } ≡ after s (found.One r used)
one_after buf start end place place' used failed s r view ep = rw (← view, ep, bytes_after buf start end used) refl

pub skipped_after : (buf : List ℕ) (start end place place' used : ℕ) (failed : Bool) (s : ReaderState) (t : ℕ)
    → record { place = place; bytes = take (end - start) (drop start buf); failed = failed } ≡ s → place' ≡ advanced place used
    → record { place = place'; bytes = take (end - (start + used)) (drop (start + used) buf); failed = failed } ≡ after s (found.Skipped t used)
skipped_after buf start end place place' used failed s t view ep = rw (← view, ep, bytes_after buf start end used) refl

pub one_read : (s n : ReaderState) (r : Record) (used : ℕ) → TellsStream s.bytes (found.One r used) → n ≡ after s (found.One r used)
    → ReadsOn [] s (item.One s.place r ∷ []) [] n
one_read s n r used goes en = record {
  items_stay = λ more. rw en (goes.begins s.place more (λ m. cc));
  ending_stays = λ more. rw en (goes.ends s.place more (λ m. cc));
}

pub skipped_read : (s n : ReaderState) (t used : ℕ) → TellsStream s.bytes (found.Skipped t used) → n ≡ after s (found.Skipped t used)
    → ReadsOn [] s (item.Skipped s.place t (used - 4) ∷ []) [] n
skipped_read s n t used goes en = record {
  items_stay = λ more. rw en (goes.begins s.place more (λ m. cc));
  ending_stays = λ more. rw en (goes.ends s.place more (λ m. cc));
}

-- bytes that are copied in behind those held are held
pub fed : (buf copied behind piece : List ℕ) (start end count : ℕ) → start ≤ end → end ≤ length buf → copied ≡ take count piece → count ≤ length piece
    → take (end + count - start) (drop start (take end buf ++ (copied ++ behind))) ≡ take (end - start) (drop start buf) ++ take count piece
fed buf copied behind piece start end count ordered within ec fits =
    let len_end : length (take end buf) ≡ end = length-take-le end buf within in
    let held : drop start (take end buf) ≡ take (end - start) (drop start buf) = drop_of_take start end buf in
    let x : List ℕ = take (end - start) (drop start buf) in
    let len_x : length x ≡ end - start = length-take-le (end - start) (drop start buf) (omega (arith, length-drop start buf)) in
    let tail : drop start (take end buf ++ (copied ++ behind)) ≡ (x ++ copied) ++ behind =
    drop-append-le start (take end buf) (copied ++ behind) (omega arith) ∙ ap (λ (y : List ℕ). y ++ (copied ++ behind)) held ∙ sym (append_assoc x copied behind) in
    let len_c : length copied ≡ count = ap length ec ∙ length-take-le count piece fits in
    ap (take (end + count - start)) tail
    ∙ take_at (x ++ copied) behind (end + count - start) (omega (arith, length-append x copied))
    ∙ ap (λ (y : List ℕ). x ++ y) ec

-- the fields of a reader, and what it is seen as
pub record Held (buf : List ℕ) (start end place : ℕ) (failed : Bool) (s : ReaderState) : Type 0 where
  pub view : record { place = place; bytes = take (end - start) (drop start buf); failed = failed } ≡ s
  pub ordered : start ≤ end
  pub within : end ≤ length buf
  pub whole : length buf ≡ 49156

pub feeds : (buf now copied behind piece : List ℕ) (len start end place count : ℕ) (failed : Bool) (s : ReaderState) → Held buf start end place failed s → now ≡ buf
    → length now ≡ len → copied ≡ take count piece → count ≤ length piece → end + count ≤ length buf → behind ≡ drop count (drop end now)
    → ◌≡◌ {A = ReaderState} (record {
      place = place;
      bytes = take (end + count - start) (drop start (take len ((take end now ++ (copied ++ behind)) ++ drop (length (take end now ++ (copied ++ behind))) buf)));
      failed = failed;
    }) (record { place = s.place; bytes = s.bytes ++ take count piece; failed = s.failed })
feeds buf now copied behind piece len start end place count failed s held en el ec fits room eb =
    let x : List ℕ = take end now ++ (copied ++ behind) in
    let len_now : length now ≡ length buf = ap length en in
    let len_c : length copied ≡ count = ap length ec ∙ length-take-le count piece fits in
    let len_b : length behind ≡ length now - end - count = ap length eb ∙ length-drop count (drop end now) ∙ ap (λ (n : ℕ). n - count) (length-drop end now) in
    let len_e : length (take end now) ≡ end = length-take-le end now (omega (arith, held.within)) in
    let len_x : length x ≡ len = omega (arith, length-append (take end now) (copied ++ behind), length-append copied behind) in
    let none : drop (length x) buf ≡ [] = drop_all (length x) buf (omega arith) in
    let same : take len (x ++ drop (length x) buf) ≡ x = rw (none, append-nil) (take_all len x (omega arith)) in
    let bytes = fed now copied behind piece start end count held.ordered (omega (arith, held.within)) ec fits in
    rw same (rw (en, ← held.view) (ap (λ (b : List ℕ). record { place = place; bytes = b; failed = failed }) (rw en at bytes)))

-- the bytes held, moved to the front of the buffer
pub moved : (old now new : List ℕ) (len start end place : ℕ) (failed : Bool) (s : ReaderState)
    → record { place = place; bytes = take (end - start) (drop start old); failed = failed } ≡ s → now ≡ old → length now ≡ len → length new ≡ length now
    → new ≡ copy_within now start end 0 → start ≤ end → end ≤ length old → length old ≡ 49156 → Held (take len (new ++ drop (length new) old)) 0 (end - start) place failed s
moved old now new len start end place failed s view en el ew em ordered within whole =
    let n : ℕ = end - start in
    let len_old : length old ≡ len = ap length (sym en) ∙ el in
    let none : drop (length new) old ≡ [] = drop_all (length new) old (omega arith) in
    let same : take len (new ++ drop (length new) old) ≡ new = rw (none, append-nil) (take_all len new (omega arith)) in
    let long : n ≤ length (drop start now) = omega (arith, length-drop start now, ap length en) in
    let front : take n new ≡ take n (drop start old) = ap (take n) em ∙ take_at (take n (drop start now)) _ n (length-take-le n (drop start now) long) ∙ ap (λ (x : List ℕ). take n (drop start x)) en in
    let left : n - 0 ≡ n = omega arith in
    rw same (record { view = rw (left, front) view; ordered = omega arith; within = omega arith; whole = omega arith })

-- a reader that is not at a refusal has not failed
pub not_failed : (place : ℕ) (b : List ℕ) (failed : Bool) → (failed ≡ true → IsStreamRefused place b) → found.More ≡ found_in b → failed ≡ false
not_failed place b true refused e = let bad : found_in b ≡ found.Bad (refused refl).why = (refused refl).bad in cc
not_failed place b false refused e = refl

pub more_leaves : (s : ReaderState) → found.More ≡ found_in s.bytes → TellsStream s.bytes found.More → length s.bytes < 49156 → s.failed ≡ false
    → (s ≡ s) × AwaitsBytes s × (s.failed ≡ false) × (found_in s.bytes ≡ found.More)
more_leaves s e goes room going =
    (refl, record { rest = rw (← e) refl; nothing = goes.unfinished s.place refl; room = λ _. room }, going, sym e)

pub bad_leaves : (place : ℕ) (b : List ℕ) (why : Reason) (f : Found) → f ≡ found_in b → f ≡ found.Bad why → TellsStream b f
    → AwaitsBytes (record { place = place; bytes = b; failed = true }) × EndsBad (record { place = place; bytes = b; failed = true }) place why
bad_leaves place b why f e is goes = (
  record {
    rest = rw (← e, is) refl;
    nothing = let all = (goes.refused place [] why is).0 in rw (append-nil b) at all;
    room = λ no. cc;
  },
  record {
    failed = refl;
    nothing = λ more. (goes.refused place more why is).0;
    ends = λ more. (goes.refused place more why is).1;
  },
)

-- a reader at the start of a stream waits for its first byte
pub waits_at_start : AwaitsBytes fresh_reader
unfolding items parsed
waits_at_start = record { rest = rest_nil; nothing = refl; room = λ _. omega arith }
