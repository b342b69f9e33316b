-- The items of a stream, one by one.
use Rattle.std.proofs.Common.{◌≡◌, ◌≢◌, ℕ, zero, suc, ◌+◌, ◌-◌, ◌<◌, ◌≤◌, List, [], ◌∷◌, ◌++◌, length, take, drop, refl, sym, ap, ◌∙◌, arith, length-drop}
use Rattle.std.specs.Prelude.{Option, Some, None, Result, Ok, Err, IfOk}
use Rattle.std.proofs.lemmas.List.{drop-append-le, length-take-le}
use Rattle.record_grammar.specs.Reading.{AnswersBytes, HasWhole, found_at, found_in, found_payload, front_in, kind_of}
use Rattle.record_grammar.specs.Stream.{TellsStream, IsRest, Parsed, ending, ending_for, item_of, items, parsed, place_after, rest, rest_place, used_of, with_item}
use Rattle.record_grammar.specs.declared.front.Front.{Front}
use Rattle.record_grammar.specs.declared.front.Front.TheVariants as front
use Rattle.record_grammar.specs.declared.front.Kind.{Kind}
use Rattle.record_grammar.specs.declared.front.Kind.TheVariants as kind
use Rattle.record_grammar.specs.declared.front.Reason.{Reason}
use Rattle.record_grammar.specs.declared.reading.Found.{Found}
use Rattle.record_grammar.specs.declared.reading.Found.TheVariants as found
use Rattle.record_grammar.specs.declared.stream.Ending.TheVariants as ending_kind
use Rattle.record_grammar.specs.declared.stream.Item.{Item}
use Rattle.record_grammar.specs.declared.stream.Item.TheVariants as item
use Rattle.std.specs.declared.alloc.AllocError.{AllocError}
use Rattle.record_grammar.proofs.Fronts.{front_backs}
use Rattle.record_grammar.proofs.Complete.{found_stays}

payload_used : (k : Kind) (t : ℕ) (p : List ℕ) → used_of (found_payload k t p) ≡ 4 + length p
payload_used kind.Ack t p = refl
payload_used _ t p = refl

-- an item takes at least its header, and no more than is there
pub item_used : (b : List ℕ) (place : ℕ) (i : Item) → item_of place (found_in b) ≡ Some i → (4 ≤ used_of (found_in b)) × (used_of (found_in b) ≤ length b)
unfolding found_in
item_used b place i is = go (front_in b) refl (front_backs b) is where
  go : (f : Front) → front_in b ≡ f → AnswersBytes b (front_in b) → item_of place (found_at (front_in b) b) ≡ Some i
      → (4 ≤ used_of (found_at (front_in b) b)) × (used_of (found_at (front_in b) b) ≤ length b)
  go front.More e back is = let none : None ≡ Some i = rw e at is in cc
  go (front.Bad why) e back is = let none : None ≡ Some i = rw e at is in cc
  go (front.Whole t len) e back is =
      let whole : HasWhole b t len = rw e at back in
      let p : List ℕ = take len (drop 4 b) in
      let len_p : length p ≡ len = length-take-le len (drop 4 b) (omega (arith, whole.fits, length-drop 4 b)) in
      let used : used_of (found_at (front_in b) b) ≡ 4 + length p = rw e (payload_used (kind_of t) t p) in
      (omega arith, omega (arith, whole.fits))

unfoldable pub stop : ℕ → List ℕ → Parsed
stop place bytes = record { items = []; place = place; rest = bytes }

parsed_none : (n place : ℕ) → parsed n place [] ≡ stop place []
unfolding parsed found_in front_in stop
parsed_none zero place = refl
parsed_none (suc n) place = refl

same_step : (o : Option Item) (s p q : Parsed) → ((i : Item) → o ≡ Some i → p ≡ q) → with_item o s p ≡ with_item o s q
same_step None s p q ih = refl
same_step (Some i) s p q ih = ap (with_item (Some i) s) (ih i refl)

-- with as many steps as there are bytes, more steps make no difference
parsed_same : (n m place : ℕ) (b : List ℕ) → length b ≤ n → length b ≤ m → parsed n place b ≡ parsed m place b
unfolding parsed
parsed_same zero zero place b few enough = refl
parsed_same zero (suc m) place [] few enough = parsed_none zero place ∙ sym (parsed_none (suc m) place)
parsed_same zero (suc m) place (x ∷ b) few enough = absurd (omega arith)
parsed_same (suc n) zero place [] few enough = parsed_none (suc n) place ∙ sym (parsed_none zero place)
parsed_same (suc n) zero place (x ∷ b) few enough = absurd (omega arith)
parsed_same (suc n) (suc m) place b few enough =
    let f : Found = found_in b in
    same_step (item_of place f) _ (parsed n (place_after place f) (drop (used_of f) b)) (parsed m (place_after place f) (drop (used_of f) b))
    (λ i is.
    let used = item_used b place i is in
    parsed_same n m (place_after place f) (drop (used_of f) b) (omega (arith, used.0, used.1, length-drop (used_of f) b)) (omega (arith, used.0, used.1, length-drop (used_of f) b)))

-- an item is the first, and those of what follows it come behind
pub whole_step : (place : ℕ) (b : List ℕ) (i : Item) → item_of place (found_in b) ≡ Some i
    → parsed (length b) place b ≡ with_item (Some i) (stop place b) (parsed (length (drop (used_of (found_in b)) b)) (place_after place (found_in b)) (drop (used_of (found_in b)) b))
unfolding parsed stop
whole_step place [] i is = let used = item_used [] place i is in absurd (omega (arith, used.0, used.1))
whole_step place (x ∷ b) i is =
    let f : Found = found_in (x ∷ b) in
    let used = item_used (x ∷ b) place i is in
    let later = parsed_same (length b) (length (drop (used_of f) (x ∷ b))) (place_after place f) (drop (used_of f) (x ∷ b))
    (omega (arith, used.0, used.1, length-drop (used_of f) (x ∷ b))) (omega arith) in
    rw (is, later) refl

-- where none is, nothing is parsed
pub none_step : (place : ℕ) (b : List ℕ) → item_of place (found_in b) ≡ None → parsed (length b) place b ≡ stop place b
unfolding parsed stop
none_step place [] none = refl
none_step place (x ∷ b) none = rw none refl

pub no_item : (place : ℕ) (f : Found) → item_of 0 f ≡ None → item_of place f ≡ None
no_item place (found.One r used) none = cc
no_item place (found.Skipped t used) none = cc
no_item place found.More none = refl
no_item place (found.Bad why) none = refl

pub record Steps (place : ℕ) (b : List ℕ) (i : Item) (place' : ℕ) (b' : List ℕ) : Type 0 where
  pub items_of : items place b ≡ i ∷ items place' b'
  pub ends : ending place b ≡ ending place' b'
  pub rests : rest place b ≡ rest place' b'
  pub places : rest_place place b ≡ rest_place place' b'

pub steps : (place : ℕ) (b : List ℕ) (i : Item) (f : Found) → found_in b ≡ f → item_of place f ≡ Some i → Steps place b i (place_after place f) (drop (used_of f) b)
unfolding items ending rest rest_place
steps place b i f e is =
    let step = whole_step place b i (rw e is) in
    let later : parsed (length b) place b ≡ with_item (Some i) (stop place b) (parsed (length (drop (used_of f) b)) (place_after place f) (drop (used_of f) b)) = rw e at step in
    record {
      items_of = ap (λ (p : Parsed). p.items) later;
      ends = ap (λ (p : Parsed). ending_for p.place p.rest (found_in p.rest)) later;
      rests = ap (λ (p : Parsed). p.rest) later;
      places = ap (λ (p : Parsed). p.place) later;
    }

-- an item that is decided about the front is the first of the whole stream
pub goes_step : (b : List ℕ) (f : Found) (place : ℕ) (i : Item) (more : List ℕ) → f ≡ found_in b → f ≢ found.More → item_of place f ≡ Some i
    → Steps place (b ++ more) i (place_after place f) (drop (used_of f) b ++ more)
goes_step b f place i more e decided is =
    let open_at : found_in b ≢ found.More = λ m. decided (e ∙ m) in
    let stays : found_in (b ++ more) ≡ f = found_stays b more open_at ∙ sym e in
    let fits = item_used b place i (rw (← e) is) in
    let within : used_of f ≤ length b = rw (← e) at fits.1 in
    let tail : drop (used_of f) (b ++ more) ≡ drop (used_of f) b ++ more = drop-append-le (used_of f) b more within in
    rw (← tail) (steps place (b ++ more) i f stays is)

pub rest_ends : (place : ℕ) (b : List ℕ) → IsRest b → (items place b ≡ []) × (ending place b ≡ ending_for place b (found_in b))
unfolding items ending rest rest_place stop
rest_ends place b is =
    let none : item_of place (found_in b) ≡ None = no_item place (found_in b) is in
    let step = none_step place b none in
    (ap (λ (p : Parsed). p.items) step, ap (λ (p : Parsed). ending_for p.place p.rest (found_in p.rest)) step)

-- bytes that are refused are some
bad_some : (b : List ℕ) (why : Reason) → found_in b ≡ found.Bad why → 0 < length b
unfolding found_in front_in
bad_some [] why e = cc
bad_some (x ∷ b) why e = omega arith

bad_ends : (place : ℕ) (b more : List ℕ) (why : Reason) → found_in b ≡ found.Bad why → ending_for place (b ++ more) (found.Bad why) ≡ ending_kind.Bad place why
bad_ends place [] more why e = absurd (omega (arith, bad_some [] why e))
bad_ends place (x ∷ b) more why e = refl

-- behind a refusal there is nothing
refused_stays : (b : List ℕ) (why : Reason) → found.Bad why ≡ found_in b → (place : ℕ) (more : List ℕ)
    → (items place (b ++ more) ≡ []) × (ending place (b ++ more) ≡ ending_kind.Bad place why)
refused_stays b why e place more =
    let open_at : found_in b ≢ found.More = λ m. (let no : found.Bad why ≡ found.More = e ∙ m in cc) in
    let stays : found_in (b ++ more) ≡ found_in b = found_stays b more open_at in
    let long : IsRest (b ++ more) = rw (stays, ← e) refl in
    let whole : ending place (b ++ more) ≡ ending_for place (b ++ more) (found.Bad why) = (rest_ends place (b ++ more) long).1 ∙ ap (ending_for place (b ++ more)) (stays ∙ sym e) in
    ((rest_ends place (b ++ more) long).0, whole ∙ bad_ends place b more why (sym e))

-- what is decided about the front goes for the whole stream
pub goes_on : (b : List ℕ) (f : Found) → f ≡ found_in b → TellsStream b f
goes_on b (found.One r used) e = record {
  begins = λ place more decided. (goes_step b (found.One r used) place (item.One place r) more e decided refl).items_of;
  ends = λ place more decided. (goes_step b (found.One r used) place (item.One place r) more e decided refl).ends;
  unfinished = λ place more. cc;
  refused = λ place more why bad. cc;
}
goes_on b (found.Skipped t used) e = record {
  begins = λ place more decided. (goes_step b (found.Skipped t used) place (item.Skipped place t (used - 4)) more e decided refl).items_of;
  ends = λ place more decided. (goes_step b (found.Skipped t used) place (item.Skipped place t (used - 4)) more e decided refl).ends;
  unfinished = λ place more. cc;
  refused = λ place more why bad. cc;
}
goes_on b found.More e = record { begins = λ place more decided. absurd (decided refl); ends = λ place more decided. absurd (decided refl); unfinished = λ place more. (rest_ends place b (rw (← e) refl)).0; refused = λ place more why bad. cc }
goes_on b (found.Bad why) e = record { begins = λ place more decided. refl; ends = λ place more decided. refl; unfinished = λ place more. cc; refused = λ place more other bad. (let same : why ≡ other = cc in rw (← same) (refused_stays b why e place more)) }

pub GoesOn-IfOk : (b : List ℕ) (r : Result Found AllocError) → IfOk r (λ f. f ≡ found_in b) → IfOk r (λ f. TellsStream b f)
GoesOn-IfOk b (Ok f) e = goes_on b f e
GoesOn-IfOk b (Err x) e = tt

pub ending_none : (place : ℕ) (b : List ℕ) → IsRest b → length b ≡ 0 → ending_kind.Clean ≡ ending place b
ending_none place [] is none = sym (rest_ends place [] is).1
ending_none place (x ∷ b) is none = absurd (omega arith)

pub ending_bad : (place : ℕ) (b : List ℕ) (why : Reason) → IsRest b → 0 < length b → front.Bad why ≡ front_in b → ending_kind.Bad place why ≡ ending place b
unfolding found_in
ending_bad place [] why is some e = absurd (omega arith)
ending_bad place (x ∷ b) why is some e = sym ((rest_ends place (x ∷ b) is).1 ∙ rw (← e) refl)

payload_inside : (place : ℕ) (x : ℕ) (b : List ℕ) (k : Kind) (t : ℕ) (p : List ℕ) → ending_for place (x ∷ b) (found_payload k t p) ≡ ending_kind.Inside place
payload_inside place x b kind.Ack t p = refl
payload_inside place x b _ t p = refl

pub ending_inside : (place : ℕ) (b : List ℕ) (f : Front) → IsRest b → 0 < length b → f ≡ front_in b → ((why : Reason) → f ≡ front.Bad why → ⊥) → ending_kind.Inside place ≡ ending place b
unfolding found_in
ending_inside place [] f is some e other = absurd (omega arith)
ending_inside place (x ∷ b) front.More is some e other = sym ((rest_ends place (x ∷ b) is).1 ∙ rw (← e) refl)
ending_inside place (x ∷ b) (front.Bad why) is some e other = absurd (other why refl)
ending_inside place (x ∷ b) (front.Whole t len) is some e other =
    sym ((rest_ends place (x ∷ b) is).1 ∙ rw (← e) (payload_inside place x b (kind_of t) t (take len (drop 4 (x ∷ b)))))
