-- What was heard of an input piece by piece, by the laws of readings.
use Rattle.std.proofs.Common.{◌≡◌, ℕ, ◌+◌, ◌≤◌, List, [], ◌++◌, length, take, drop, refl, ap}
use Rattle.std.proofs.Common.{sym, ◌∙◌, subst, append-nil, arith, Option, None, Some}
use Rattle.std.proofs.Math.Seq.{take-append-add}
use Rattle.std.proofs.KnownBytes.{Consumes-trans, Consumes-kept}
use Rattle.std.proofs.lemmas.List.{append_assoc, take-append-drop, take_all, length-append}
use Rattle.std.proofs.lemmas.List.{take-append-le, length-take-le}
use Rattle.std.specs.Io.KnownBytes.{Consumes, Keeps, IsAtEnd}
use Rattle.outside.specs.Faults.{CountRose}
use Rattle.outside.specs.Streams.{Stream}
use Rattle.record_grammar.specs.Stream.{ending, items}
use Rattle.record_grammar.specs.declared.stream.Item.{Item}
use Rattle.record_grammar.specs.declared.stream.Ending.{Ending}
use Rattle.record_stream.specs.Pieces.{Hearing, ReadingsAreWhole, ReadingsJoin}
use Rattle.record_stream.specs.Reading.{AwaitsBytes, ReaderState, fresh_reader}
use Rattle.stream_commands.specs.declared.input.TheConstants.{MAX_INPUT}
use Rattle.stream_commands.specs.declared.input.Stop.{Stop}
use Rattle.stream_commands.specs.declared.input.Stop.TheVariants as stop
use Rattle.stream_commands.specs.Input.{HearsInput, Reading, StopsReading}

consumes_none : (told : Option (List ℕ)) → Consumes told told []
consumes_none None = tt
consumes_none (Some bytes) = refl

-- no byte was read
pub consumed_none : (now now' : Option (List ℕ)) (n : ℕ) (buf : List ℕ) → n ≡ 0 → Consumes now now'
    (take n buf) → Consumes now now' []
consumed_none now now' n buf none consumed =
    subst (λ k. Consumes now now' (take k buf)) none consumed

-- the first bytes of the first bytes
pub take_shorter : (a b : ℕ) (l : List ℕ) → a ≤ b → b ≤ length l → take a (take b l) ≡ take a l
take_shorter a b l few within =
    let long : a ≤ length (take b l) = omega (arith, length-take-le b l within) in
    sym (take-append-le a (take b l) (drop b l) long) ∙ ap (take a) (take-append-drop b l)

module _ (join : ReadingsJoin) (are_whole : ReadingsAreWhole) {L : Type 0}
    (heard : L → List Item → L → Type 0) where
  hearing_none : (r : ReaderState) (l : L) → Hearing heard [] r [] r l l
  hearing_none r l = record {
    has = [];
    reads = record { items_stay = λ more. refl; ending_stays = λ more. refl };
    hears = λ first before h.
        subst (λ (some : List Item). heard first some l) (sym (append-nil before)) h;
  }

  -- one piece, and then another
  hearing_then : (a b : List ℕ) (r1 r2 r3 : ReaderState) (l1 l2 l3 : L)
      → Hearing heard a r1 [] r2 l1 l2 → Hearing heard b r2 [] r3 l2 l3
      → Hearing heard (a ++ b) r1 [] r3 l1 l3
  hearing_then a b r1 r2 r3 l1 l2 l3 one other = record {
    has = one.has ++ other.has;
    reads = join a [] b [] r1 r2 r3 one.has other.has one.reads other.reads;
    hears = λ first before h.
        subst (λ (some : List Item). heard first some l3) (append_assoc before one.has other.has)
        (other.hears first (before ++ one.has) (one.hears first before h));
  }

  -- all that was read of an input was heard
  all_heard : (read : List ℕ) (r : ReaderState) (l l' : L)
      → Hearing heard read fresh_reader [] r l l'
      → AwaitsBytes r → (first : L) (before : List Item) → heard first before l
      → heard first (before ++ items 0 read) l'
  all_heard read r l l' hearing waits first before h =
      let all : items 0 read ≡ hearing.has = (are_whole read hearing.has r hearing.reads waits).0 in
      subst (λ (some : List Item). heard first (before ++ some) l') (sym all)
      (hearing.hears first before h)

  all_ends : (read : List ℕ) (r : ReaderState) (l l' : L)
      → Hearing heard read fresh_reader [] r l l'
      → AwaitsBytes r → ending r.place r.bytes ≡ ending 0 read
  all_ends read r l l' hearing waits = sym (are_whole read hearing.has r hearing.reads waits).1

  -- the input was heard whole, up to its end or to a fault
  heard_within : (input input' : Stream) (read : List ℕ) (r : ReaderState) (l l' : L) (why : Stop)
      (end : Ending) → Consumes input.bytes input'.bytes read
      → length read ≤ MAX_INPUT → Hearing heard read fresh_reader [] r l l' → AwaitsBytes r
      → end ≡ ending r.place r.bytes → StopsReading why input input' read
      → HearsInput heard input input' l l' why end
  heard_within input input' read r l l' why end consumed within hearing waits ends stops =
      let whole : take MAX_INPUT read ≡ read = take_all MAX_INPUT read within in
      record {
        read = read;
        consumed = consumed;
        hears = λ first before h.
            subst (λ (bytes : List ℕ). heard first (before ++ items 0 bytes) l') (sym whole)
            (all_heard read r l l' hearing waits first before h);
        ends = ends ∙ all_ends read r l l' hearing waits ∙ ap (ending 0) (sym whole);
        stops = stops;
      }

  -- a reader at the start
  pub reading_none : (input : Stream) (r : ReaderState) (l : L) → r ≡ fresh_reader → AwaitsBytes r
      → Reading heard input input 0 r l l
  reading_none input r l start waits = record {
    read = [];
    consumed = consumes_none input.bytes;
    counted = refl;
    within = omega arith;
    later = omega arith;
    hearing = subst (λ (s : ReaderState). Hearing heard [] s [] r l l) start (hearing_none r l);
    waits = waits;
  }

  -- one piece more was read and heard
  pub reading_more : (input input' input'' : Stream) (total n : ℕ) (piece : List ℕ)
      (r r' : ReaderState) (l l' l'' : L) → Reading heard input input' total r l l'
      → Consumes input'.bytes input''.bytes piece → length piece ≡ n → total + n ≤ MAX_INPUT
      → input'.faults ≤ input''.faults → Hearing heard piece r [] r' l' l''
      → AwaitsBytes r' → Reading heard input input'' (total + n) r' l l''
  reading_more input input' input'' total n piece r r' l l' l'' so_far consumed counted within later
      hearing waits = record {
        read = so_far.read ++ piece;
        consumed = Consumes-trans input.bytes input'.bytes input''.bytes so_far.read piece
            so_far.consumed consumed;
        counted =
            let sum = length-append so_far.read piece in let had = so_far.counted in omega arith;
        within = within;
        later = let earlier = so_far.later in omega arith;
        hearing = hearing_then so_far.read piece fresh_reader r r' l l' l'' so_far.hearing hearing;
        waits = waits;
      }

  -- a read failed
  pub reading_fails : (input input' input'' : Stream) (total : ℕ) (r : ReaderState) (l l' : L)
      (why : Stop) (end : Ending) → Reading heard input input' total r l l'
      → Keeps input'.bytes input''.bytes → CountRose input'.faults input''.faults
      → why ≡ stop.ReadFault → end ≡ ending r.place r.bytes
      → HearsInput heard input input'' l l' why end
  reading_fails input input' input'' total r l l' why end so_far kept rose fault ends =
      let had = so_far.counted in
      let few = so_far.within in
      let earlier = so_far.later in
      let within : length so_far.read ≤ MAX_INPUT = omega arith in
      let from_start : CountRose input.faults input''.faults = omega arith in
      heard_within input input'' so_far.read r l l' why end
      (Consumes-kept input.bytes input'.bytes input''.bytes so_far.read so_far.consumed kept)
      within so_far.hearing so_far.waits ends
      (subst (λ (w : Stop). StopsReading w input input'' so_far.read) (sym fault) (
        from_start,
        within,
      ))

  -- a read gave nothing: the input is at its end
  pub reading_ends : (input input' input'' : Stream) (total : ℕ) (r : ReaderState) (l l' : L)
      (why : Stop) (end : Ending) → Reading heard input input' total r l l'
      → Consumes input'.bytes input''.bytes [] → IsAtEnd input''.bytes → why ≡ stop.End
      → end ≡ ending r.place r.bytes → HearsInput heard input input'' l l' why end
  reading_ends input input' input'' total r l l' why end so_far consumed at_end ended ends =
      let had = so_far.counted in
      let few = so_far.within in
      let within : length so_far.read ≤ MAX_INPUT = omega arith in
      let all : Consumes input.bytes input''.bytes so_far.read =
      subst (λ (bytes : List ℕ). Consumes input.bytes input''.bytes bytes) (append-nil so_far.read)
      (Consumes-trans input.bytes input'.bytes input''.bytes so_far.read [] so_far.consumed
      consumed) in
      heard_within input input'' so_far.read r l l' why end all within so_far.hearing so_far.waits
      ends
      (subst (λ (w : Stop). StopsReading w input input'' so_far.read) (sym ended) (at_end, within))

  -- a read gave one byte more than the limit, which was not heard
  pub reading_much : (input input' input'' : Stream) (total wanted : ℕ) (piece : List ℕ)
      (r r' : ReaderState) (l l' l'' : L) (why : Stop) (end : Ending)
      → Reading heard input input' total r l l' → Consumes input'.bytes input''.bytes piece
      → total + length piece ≡ MAX_INPUT + 1 → total + wanted ≡ MAX_INPUT
      → why ≡ stop.TooMuch → Hearing heard (take wanted piece) r [] r' l' l'' → AwaitsBytes r'
      → end ≡ ending r'.place r'.bytes
      → HearsInput heard input input'' l l'' why end
  reading_much input input' input'' total wanted piece r r' l l' l'' why end so_far consumed much
      some too_much hearing waits ends =
      let read = so_far.read in
      let had = so_far.counted in
      let sum = length-append read piece in
      let all : length (read ++ piece) ≡ MAX_INPUT + 1 = omega arith in
      let split : length read + wanted ≡ MAX_INPUT = omega arith in
      let bytes : read ++ take wanted piece ≡ take MAX_INPUT (read ++ piece) =
      sym (take-append-add read piece wanted) ∙ ap (λ n. take n (read ++ piece)) split in
      let front : Hearing heard (take MAX_INPUT (read ++ piece)) fresh_reader [] r' l l'' =
      subst (λ (some : List ℕ). Hearing heard some fresh_reader [] r' l l'') bytes
      (hearing_then read (take wanted piece) fresh_reader r r' l l' l'' so_far.hearing hearing) in
      record {
        read = read ++ piece;
        consumed = Consumes-trans input.bytes input'.bytes input''.bytes read piece so_far.consumed
            consumed;
        hears = all_heard (take MAX_INPUT (read ++ piece)) r' l l'' front waits;
        ends = ends ∙ all_ends (take MAX_INPUT (read ++ piece)) r' l l'' front waits;
        stops =
            subst (λ (w : Stop). StopsReading w input input'' (read ++ piece)) (sym too_much) all;
      }
