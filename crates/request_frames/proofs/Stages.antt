-- What a reader's steps do with the bytes of a request.
use Rattle.std.proofs.Common.{◌≡◌, ℕ, zero, suc, ◌+◌, ◌-◌, ◌<◌, ◌≤◌, min, Bool, true, false, List, [], ◌∷◌, ◌++◌, length, take, drop, refl, sym, ap, subst, ◌==◌, ◌∙◌, arith, lt-ltb, le-ltb, ne_eqb, length-append}
use Rattle.std.specs.Prelude.{nat_lt, if◌then◌else◌}
use Rattle.std.proofs.lemmas.List.{append-nil, append_assoc, drop_at, length-take, length-take-le, take-take, take_all, take_at, take-append-drop}
use Rattle.request_frames.specs.Heads.{IsHead, head_in, length_of}
use Rattle.request_frames.specs.Requests.{Fault, More, One, are_words, ending, ending_for, found_behind, found_in, found_words, requests}
use Rattle.request_frames.specs.Reading.{Awaits, AwaitsAt, Hears, IsLineOf, IsTold, LeavesAt, ReaderState, SoundAt, end_at, StandsAt, StandsFor, StandsInInput, StandsInWords}
use Rattle.request_frames.specs.declared.head.FoundHead.TheVariants as head
use Rattle.request_frames.specs.declared.head.Head.{Head}
use Rattle.request_frames.specs.declared.head.InputSize.{InputSize}
use Rattle.request_frames.specs.declared.reader.Stage.{Stage}
use Rattle.request_frames.specs.declared.reader.Stage.TheVariants as stage
use Rattle.request_frames.specs.declared.reader.Next.{Next}
use Rattle.request_frames.specs.declared.reader.Next.TheVariants as next
use Rattle.request_frames.specs.declared.reader.Ending.TheVariants as ending_kind
use Rattle.request_frames.proofs.Heads.{fault_stays, head_stays, limits, line_of, line_used}
use Rattle.request_frames.proofs.Streams.{fault_is, found_nil, more_is}

-- ---- behind a line

pub found_line_at : (line x : List ℕ) (h : Head) → IsLineOf line h → found_in (line ++ x) ≡ found_words h x
unfolding found_in
found_line_at line x h is = rw (is x, drop_at line x (length line) refl) refl

words_open : (h : Head) (x : List ℕ) → length x < h.words → found_words h x ≡ More
words_open h x few = rw (lt-ltb (length x) h.words few) refl

pub words_there : (h : Head) (front x : List ℕ) (ended : Bool) → length front ≡ h.words → are_words front ≡ ended
    → found_words h (front ++ x) ≡ (if ended then found_behind h.input front x else Fault)
words_there h front x ended len is =
    let long : nat_lt (length (front ++ x)) h.words ≡ false = le-ltb (length (front ++ x)) h.words (omega (arith, length-append front x)) in
    rw (long, take_at front x h.words len, drop_at front x h.words len, is) refl

pub input_open : (size : InputSize) (words x : List ℕ) → length x < length_of size → found_behind size words x ≡ More
input_open size words x few = rw (lt-ltb (length x) (length_of size) few) refl

pub input_there : (size : InputSize) (words input x : List ℕ) → length input ≡ length_of size
    → found_behind size words (input ++ x) ≡ One (record { words = words; size = size; input = input }) x
input_there size words input x len =
    let long : nat_lt (length (input ++ x)) (length_of size) ≡ false = le-ltb (length (input ++ x)) (length_of size) (omega (arith, length-append input x)) in
    rw (long, take_at input x (length_of size) len, drop_at input x (length_of size) len) refl

-- ---- the steps

-- the line of a head came to its end
pub head_moves : (held front x : List ℕ) (h : Head) (used : ℕ) → held ≡ front → head_in front ≡ head.More → head_in (front ++ x) ≡ head.Whole h used
    → StandsInWords (held ++ take (used - length front) x) h []
head_moves held front x h used eh open_at e =
    let more = line_used front x h used open_at e in
    let line : take used (front ++ x) ≡ front ++ take (used - length front) x = front_and front x used (omega arith) in
    record {
      line = take used (front ++ x);
      is = line_of (front ++ x) h used e;
      held_is = rw (eh, ← line) (sym (append-nil (take used (front ++ x))));
      short = omega arith;
    }
  where
    front_and : (f y : List ℕ) (n : ℕ) → length f ≤ n → take n (f ++ y) ≡ f ++ take (n - length f) y
    front_and [] y n few = let same : n - 0 ≡ n = omega arith in rw same refl
    front_and (c ∷ f) y zero few = absurd (omega arith)
    front_and (c ∷ f) y (suc n) few = let less : suc n - suc (length f) ≡ n - length f = omega arith in rw less (ap (λ (z : List ℕ). c ∷ z) (front_and f y n (omega arith)))

-- what is no head stays none
pub head_faults : (b x more : List ℕ) → head_in b ≡ head.Fault → found_in ((b ++ x) ++ more) ≡ Fault
unfolding found_in
head_faults b x more e = rw (append_assoc b x more, fault_stays b (x ++ more) e) refl

-- the words go on
pub words_move : (held front x : List ℕ) (h : Head) → StandsInWords held h front → length (front ++ x) ≤ h.words → StandsInWords (held ++ x) h (front ++ x)
words_move held front x h s short = record {
  line = s.line;
  is = s.is;
  held_is = rw s.held_is (append_assoc s.line front x);
  short = short;
}

-- they are there
pub words_end : (held front x : List ℕ) (h : Head) → StandsInWords held h front → length (front ++ x) ≡ h.words → are_words (front ++ x) ≡ true
    → StandsInInput (held ++ x) h.input 0 0 (front ++ x) []
words_end held front x h s len ended =
    let P : ℕ → Type 0 = λ n. IsLineOf s.line (record { words = n; input = h.input }) in
    record {
      line = s.line;
      input = [];
      is = rw len s.is;
      held_is = rw (s.held_is, append-nil) (append_assoc s.line front x);
      ended = ended;
      kept_is = refl;
      counted = refl;
      within = omega arith;
    }

-- they are none
pub words_fault : (held front x y more : List ℕ) (h : Head) → StandsInWords held h front → length (front ++ x) ≡ h.words → are_words (front ++ x) ≡ false
    → found_in ((held ++ (x ++ y)) ++ more) ≡ Fault
words_fault held front x y more h s len ended =
    let same : (held ++ (x ++ y)) ++ more ≡ s.line ++ ((front ++ x) ++ (y ++ more)) =
    ap (λ (b : List ℕ). (b ++ (x ++ y)) ++ more) s.held_is ∙ append_assoc (s.line ++ front) (x ++ y) more ∙ append_assoc s.line front ((x ++ y) ++ more)
    ∙ ap (λ (b : List ℕ). s.line ++ (front ++ b)) (append_assoc x y more) ∙ ap (λ (b : List ℕ). s.line ++ b) (sym (append_assoc front x (y ++ more))) in
    ap found_in same ∙ found_line_at s.line ((front ++ x) ++ (y ++ more)) h s.is ∙ words_there h (front ++ x) (y ++ more) false len ended

-- ---- the input

kept_more : (most : ℕ) (input x : List ℕ) → take most (input ++ x) ≡ take most input ++ take (most - min most (length input)) x
kept_more zero input x = let none : 0 - min 0 (length input) ≡ 0 = omega arith in rw none refl
kept_more (suc n) [] x = let same : suc n - min (suc n) 0 ≡ suc n = omega arith in rw same refl
kept_more (suc n) (c ∷ input) x =
    let same : suc n - min (suc n) (suc (length input)) ≡ n - min n (length input) = omega arith in
    rw same (ap (λ (z : List ℕ). c ∷ z) (kept_more n input x))

-- the input goes on
pub input_moves : (held front kept x more_kept : List ℕ) (size : InputSize) (most came now : ℕ) → StandsInInput held size most came front kept
    → now ≡ came + length x → now ≤ length_of size → more_kept ≡ take (most - min most came) x
    → StandsInInput (held ++ x) size most now front (kept ++ more_kept)
input_moves held front kept x more_kept size most came now s en few em =
    let counts : most - min most (length s.input) ≡ most - min most came = ap (λ (n : ℕ). most - min most n) s.counted in
    record {
      line = s.line;
      input = s.input ++ x;
      is = s.is;
      held_is = rw (s.held_is, append_assoc, append_assoc) refl;
      ended = s.ended;
      kept_is = rw (s.kept_is, em, ← counts) (sym (kept_more most s.input x));
      counted = omega (arith, length-append s.input x, s.counted);
      within = few;
    }

-- it is there whole
pub input_ends : (held front kept : List ℕ) (size : InputSize) (most came : ℕ) → StandsInInput held size most came front kept → came ≡ length_of size
    → IsTold held size most front kept
input_ends held front kept size most came s all = record {
  request = record { words = front; size = size; input = s.input };
  is = λ more.
      (let same : held ++ more ≡ s.line ++ (front ++ (s.input ++ more)) = rw (s.held_is, append_assoc, append_assoc) refl in
      ap found_in same ∙ found_line_at s.line (front ++ (s.input ++ more)) (record { words = length front; input = size }) s.is
      ∙ words_there (record { words = length front; input = size }) front (s.input ++ more) true refl s.ended
      ∙ input_there size front s.input more (s.counted ∙ all));
  words = refl;
  sized = refl;
  kept_is = s.kept_is;
}

-- ---- the state of a reader's fields

pub words_state : (front kept held : List ℕ) (at : Stage) (s : ReaderState) (h : Head) → record { at = at; front = front; kept = kept } ≡ s → s.at ≡ stage.Words h
    → StandsFor held s → StandsInWords held h front
words_state front kept held at s h view is stands =
    let here : StandsAt held at front kept = rw (← view) at stands in
    let e : at ≡ stage.Words h = rw (← view) at is in
    rw e at here

pub input_state : (front kept held : List ℕ) (at : Stage) (s : ReaderState) (size : InputSize) (most came : ℕ) → record { at = at; front = front; kept = kept } ≡ s
    → s.at ≡ stage.Input size most came → StandsFor held s → StandsInInput held size most came front kept
input_state front kept held at s size most came view is stands =
    let here : StandsAt held at front kept = rw (← view) at stands in
    let e : at ≡ stage.Input size most came = rw (← view) at is in
    rw e at here

pub input_sound : (front : List ℕ) (len kept kept_room : ℕ) (at : Stage) (size : InputSize) (most came : ℕ) → SoundAt at front len kept kept_room → at ≡ stage.Input size most came
    → (came ≤ length_of size) × (kept ≡ min most came) × (min most (length_of size) ≤ kept_room) × (length_of size ≤ 268435456)
input_sound front len kept kept_room at size most came sound e = rw e at sound

pub head_sound : (front : List ℕ) (len kept kept_room : ℕ) (at : Stage) → SoundAt at front len kept kept_room → at ≡ stage.Head → (head_in front ≡ head.More) × (len < 16)
head_sound front len kept kept_room at sound e = rw e at sound

pub head_state : (front kept held : List ℕ) (at : Stage) (s : ReaderState) → record { at = at; front = front; kept = kept } ≡ s → s.at ≡ stage.Head → StandsFor held s
    → (held ≡ front) × (head_in front ≡ head.More)
head_state front kept held at s view is stands =
    let here : StandsAt held at front kept = rw (← view) at stands in
    let e : at ≡ stage.Head = rw (← view) at is in
    rw e at here

pub begins : head_in [] ≡ head.More
unfolding head_in
begins = refl

-- all of a piece behind words that are none
pub words_refused : (held front piece now : List ℕ) (count : ℕ) (h : Head) → StandsInWords held h front → now ≡ front ++ take count piece → length now ≡ h.words → are_words now ≡ false
    → (more : List ℕ) → found_in ((held ++ take (length piece) piece) ++ more) ≡ Fault
words_refused held front piece now count h s en len ended more =
    let all : take (length piece) piece ≡ take count piece ++ drop count piece = take_all (length piece) piece (omega arith) ∙ sym (take-append-drop count piece) in
    rw all (words_fault held front (take count piece) (drop count piece) more h s (rw en at len) (rw en at ended))

pub words_whole : (held front piece now : List ℕ) (count : ℕ) (h : Head) → StandsInWords held h front → now ≡ front ++ take count piece → length now ≡ h.words → are_words now ≡ true
    → StandsInInput (held ++ take count piece) h.input 0 0 now []
words_whole held front piece now count h s en len ended = rw en (words_end held front (take count piece) h s (rw en at len) (rw en at ended))

take_nil : (n : ℕ) → take {A = ℕ} n [] ≡ []
take_nil zero = refl
take_nil (suc n) = refl

take_both : (n m : ℕ) (xs : List ℕ) → take (min n m) xs ≡ take m (take n xs)
take_both zero m xs = let none : min 0 m ≡ 0 = omega arith in rw none (sym (take_nil m))
take_both (suc n) zero xs = let none : min (suc n) 0 ≡ 0 = omega arith in rw none refl
take_both (suc n) (suc m) [] = take_nil (min (suc n) (suc m))
take_both (suc n) (suc m) (x ∷ xs) = let less : min (suc n) (suc m) ≡ suc (min n m) = omega arith in rw less (ap (λ (z : List ℕ). x ∷ z) (take_both n m xs))

pub input_heard : (held front kept piece now_kept : List ℕ) (size : InputSize) (most came count wanted : ℕ) → StandsInInput held size most came front kept → count ≤ length piece
    → came + count ≤ length_of size → wanted ≡ min count (most - min most came) → now_kept ≡ kept ++ take wanted piece
    → StandsInInput (held ++ take count piece) size most (came + count) front now_kept
input_heard held front kept piece now_kept size most came count wanted s fits few ew en =
    let part : take wanted piece ≡ take (most - min most came) (take count piece) = ap (λ (n : ℕ). take n piece) ew ∙ take_both count (most - min most came) piece in
    rw en (input_moves held front kept (take count piece) (take wanted piece) size most came (came + count) s (omega (arith, length-take-le count piece fits)) few part)

-- ---- a head

take_add : (n m : ℕ) (xs : List ℕ) → take (n + m) xs ≡ take n xs ++ take m (drop n xs)
take_add zero m xs = let same : 0 + m ≡ m = omega arith in rw same refl
take_add (suc n) m [] = take_nil (suc n + m) ∙ sym (take_nil m)
take_add (suc n) m (x ∷ xs) = let more : suc n + m ≡ suc (n + m) = omega arith in rw more (ap (λ (z : List ℕ). x ∷ z) (take_add n m xs))

pub head_heard : (held front piece now behind : List ℕ) (count k u : ℕ) (h : Head) (taken : ℕ) (n : Next) (new : ReaderState) → held ≡ front → head_in front ≡ head.More
    → now ≡ front ++ take count piece → head.Whole h taken ≡ head_in now → k ≡ taken - length front → behind ≡ drop k piece
    → ((b : List ℕ) → StandsInWords b h [] → Hears n (b ++ take u behind) new) → Hears n (held ++ take (k + u) piece) new
head_heard held front piece now behind count k u h taken n new eh open_at en e ek eb hears =
    let whole : head_in (front ++ take count piece) ≡ head.Whole h taken = rw (← en) (sym e) in
    let s = head_stays (front ++ take count piece) (front ++ take count piece) h taken whole in
    let few : k ≤ count = omega (arith, s.fits, length-append front (take count piece), length-take count piece) in
    let words = head_moves held front (take count piece) h taken eh open_at whole in
    let part : take (taken - length front) (take count piece) ≡ take k piece = ap (λ (i : ℕ). take i (take count piece)) (sym ek) ∙ take-take k count piece few in
    let words_at : StandsInWords (held ++ take k piece) h [] = rw part at words in
    let heard = hears (held ++ take k piece) words_at in
    let joined : (held ++ take k piece) ++ take u behind ≡ held ++ take (k + u) piece =
    append_assoc held (take k piece) (take u behind) ∙ ap (λ (x : List ℕ). held ++ (take k piece ++ take u x)) eb ∙ ap (λ (x : List ℕ). held ++ x) (sym (take_add k u piece)) in
    subst (λ (b : List ℕ). Hears n b new) joined heard

pub head_used : (front piece now : List ℕ) (count : ℕ) (h : Head) (taken : ℕ) → head_in front ≡ head.More → now ≡ front ++ take count piece → head.Whole h taken ≡ head_in now
    → (length front < taken) × (taken - length front ≤ count) × (taken - length front ≤ length piece) × IsHead h
head_used front piece now count h taken open_at en e =
    let whole : head_in (front ++ take count piece) ≡ head.Whole h taken = rw (← en) (sym e) in
    let s = head_stays (front ++ take count piece) (front ++ take count piece) h taken whole in
    let some = line_used front (take count piece) h taken open_at whole in (
      some,
      omega (arith, s.fits, length-append front (take count piece), length-take count piece),
      omega (arith, s.fits, length-append front (take count piece), length-take count piece),
      limits (front ++ take count piece) h taken whole,
    )

pub head_open : (held front piece now : List ℕ) (count : ℕ) → held ≡ front → now ≡ front ++ take count piece → head.More ≡ head_in now
    → (held ++ take count piece ≡ now) × (head_in now ≡ head.More)
head_open held front piece now count eh en e = (rw (eh, en) refl, sym e)

pub head_refused : (held front piece now : List ℕ) (count : ℕ) → held ≡ front → now ≡ front ++ take count piece → head.Fault ≡ head_in now
    → (more : List ℕ) → found_in ((held ++ take (length piece) piece) ++ more) ≡ Fault
head_refused held front piece now count eh en e more =
    let all : take (length piece) piece ≡ take count piece ++ drop count piece = take_all (length piece) piece (omega arith) ∙ sym (take-append-drop count piece) in
    let bytes : held ++ take (length piece) piece ≡ now ++ drop count piece =
    ap (λ (x : List ℕ). held ++ x) all ∙ sym (append_assoc held (take count piece) (drop count piece)) ∙ ap (λ (x : List ℕ). (x ++ take count piece) ++ drop count piece) eh
    ∙ ap (λ (x : List ℕ). x ++ drop count piece) (sym en) in
    ap (λ (x : List ℕ). found_in (x ++ more)) bytes ∙ head_faults now (drop count piece) more (sym e)

-- ---- between requests, and where nothing is taken

pub refused_on : (held piece : List ℕ) → ((more : List ℕ) → found_in (held ++ more) ≡ Fault) → (more : List ℕ) → found_in ((held ++ piece) ++ more) ≡ Fault
refused_on held piece refused more = ap found_in (append_assoc held piece more) ∙ refused (piece ++ more)

pub asked_on : (held : List ℕ) (s : ReaderState) → StandsFor held s → StandsFor (held ++ []) s
asked_on held s stands = let same : held ≡ held ++ [] = sym (append-nil held) in subst (λ (b : List ℕ). StandsFor b s) same stands

pub state_at : (front kept held : List ℕ) (at : Stage) (s : ReaderState) → record { at = at; front = front; kept = kept } ≡ s → StandsFor held s → StandsAt held at front kept
state_at front kept held at s view stands = rw (← view) at stands

-- ---- the end

head_more : (b : List ℕ) → head_in b ≡ head.More → found_in b ≡ More
unfolding found_in
head_more b e = rw e refl

line_some : (line : List ℕ) (h : Head) → IsLineOf line h → 0 < length line
line_some line h is = let s = head_stays (line ++ []) (line ++ []) h (length line) (is []) in s.some

inside_of : (b : List ℕ) → 0 < length b → ending_for b More ≡ ending_kind.Inside
inside_of [] some = absurd (omega arith)
inside_of (x ∷ b) some = refl

fault_of : (b : List ℕ) → found_in b ≡ Fault → ending_for b Fault ≡ ending_kind.Fault
fault_of [] bad = let never : More ≡ Fault = sym found_nil ∙ bad in cc
fault_of (x ∷ b) bad = refl

pub ends_so : (held : List ℕ) (at : Stage) (front kept : List ℕ) → StandsAt held at front kept → AwaitsAt at (length front)
    → (requests held ≡ []) × (ending held ≡ end_at at (length front == 0))
ends_so held stage.Head [] kept stands waits =
    let none = more_is [] found_nil in
    let empty : held ≡ [] = stands.0 in
    rw empty (none.none, none.ending_is)
ends_so held stage.Head (x ∷ front) kept stands waits =
    let none = more_is (x ∷ front) (head_more (x ∷ front) stands.1) in
    let same : held ≡ x ∷ front = stands.0 in
    let some : (length (x ∷ front) == 0) ≡ false = ne_eqb (length (x ∷ front)) 0 (λ e. omega arith) in
    rw (same, some) (none.none, none.ending_is)
ends_so held (stage.Words h) front kept stands waits =
    let open_at = found_line_at stands.line front h stands.is ∙ words_open h front waits in
    let none = more_is (stands.line ++ front) open_at in
    let inside = inside_of (stands.line ++ front) (omega (arith, length-append stands.line front, line_some stands.line h stands.is)) in
    rw stands.held_is (none.none, none.ending_is ∙ inside)
ends_so held (stage.Asked size) front kept stands waits = absurd waits
ends_so held (stage.Input size most came) front kept stands waits =
    let h : Head = record { words = length front; input = size } in
    let open_at = found_line_at stands.line (front ++ stands.input) h stands.is ∙ words_there h front stands.input true refl stands.ended
    ∙ input_open size front stands.input (omega (arith, stands.counted, waits)) in
    let none = more_is (stands.line ++ (front ++ stands.input)) open_at in
    let inside = inside_of (stands.line ++ (front ++ stands.input)) (omega (arith, length-append stands.line (front ++ stands.input), line_some stands.line h stands.is)) in
    rw stands.held_is (none.none, none.ending_is ∙ inside)
ends_so held (stage.Whole size most) front kept stands waits =
    let none = more_is [] found_nil in
    rw stands (none.none, none.ending_is)
ends_so held stage.Fault front kept stands waits =
    let bad : found_in held ≡ Fault = rw append-nil at (stands []) in
    let none = fault_is held bad in
    (none.none, none.ending_is ∙ fault_of held bad)

pub waits_at : (front kept : List ℕ) (at : Stage) (s : ReaderState) → record { at = at; front = front; kept = kept } ≡ s → Awaits s → AwaitsAt at (length front)
waits_at front kept at s view waits = rw (← view) at waits

-- ---- a request that begins behind one that is whole

pub begins_anew : (held taken front kept : List ℕ) (at : Stage) (size : InputSize) (most : ℕ) (s : ReaderState) (n : Next) (new : ReaderState) → record { at = at; front = front; kept = kept } ≡ s
    → at ≡ stage.Whole size most → StandsFor held s → Hears n ([] ++ taken) new → Hears n (held ++ taken) new
begins_anew held taken front kept at size most s n new view is stands heard =
    let here : StandsAt held at front kept = rw (← view) at stands in
    let none : held ≡ [] = rw is at here in
    rw none heard

-- ---- where a reader stands in a head

pub awaits_in_head : (at : Stage) (n : ℕ) → at ≡ stage.Head → AwaitsAt at n
awaits_in_head at n e = rw e tt

pub stands_in_head : (held front kept : List ℕ) (at : Stage) → at ≡ stage.Head → (held ≡ front) × (head_in front ≡ head.More) → StandsAt held at front kept
stands_in_head held front kept at e stands = rw e stands

pub sound_in_head : (front : List ℕ) (len kept room : ℕ) (at : Stage) → at ≡ stage.Head → head_in front ≡ head.More → len < 16 → SoundAt at front len kept room
sound_in_head front len kept room at e open_at few = rw e (open_at, few)

-- what is left of a piece behind its first bytes
pub leaves_on : (n : Next) (k u m len : ℕ) (new : ReaderState) → k + m ≡ len → LeavesAt n u m new → LeavesAt n (k + u) len new
leaves_on next.Words k u m len new e left = left
leaves_on next.Whole k u m len new e left = left
leaves_on next.More k u m len new e left = (omega (arith, left.0), left.1)
leaves_on next.Fault k u m len new e left = (omega (arith, left.0), left.1)
