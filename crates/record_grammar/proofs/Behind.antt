-- What a stream is behind its rest, and records that are spelled one behind the other.
use Rattle.std.proofs.Common.{◌≡◌, ◌≢◌, ℕ, zero, suc, ◌-◌, ◌≤◌, List, [], ◌∷◌, ◌++◌, length, drop, refl, sym, ap, ◌∙◌, arith, length-drop}
use Rattle.std.specs.Prelude.{Some, None}
use Rattle.std.proofs.lemmas.List.{append_assoc, append-nil}
use Rattle.std.specs.List.{AllByRecursion}
use Rattle.sync_ids.specs.Records.{IsRecord}
use Rattle.sync_ids.specs.declared.records.Record.{Record}
use Rattle.record_grammar.specs.Spelling.{Spells, spelled, spelling}
use Rattle.record_grammar.specs.Reading.{found_in, front_in}
use Rattle.record_grammar.specs.Stream.{EndsWith, GoesOnBehind, IsRest, Parsed, advanced, behind, ending, ending_for, item_of, items, place_after, placed, records, records_of, rest, rest_place, used_of}
use Rattle.record_grammar.specs.declared.reading.Found.{Found}
use Rattle.record_grammar.specs.declared.reading.Found.TheVariants as found
use Rattle.record_grammar.specs.declared.stream.Ending.TheVariants as ending_kind
use Rattle.record_grammar.specs.declared.stream.Item.{Item}
use Rattle.record_grammar.specs.declared.stream.Item.TheVariants as item
use Rattle.record_grammar.proofs.Parts.{one_ends, one_first}
use Rattle.record_grammar.proofs.Streams.{goes_step, item_used, no_item, none_step, rest_ends, steps, stop}

-- where no item stands at the front, all is rest
pub stops : (place : ℕ) (b : List ℕ) → IsRest b → (items place b ≡ []) × (rest place b ≡ b) × (rest_place place b ≡ place)
unfolding items rest rest_place stop
stops place b is =
    let step = none_step place b (no_item place (found_in b) is) in
    (ap (λ (p : Parsed). p.items) step, ap (λ (p : Parsed). p.rest) step, ap (λ (p : Parsed). p.place) step)

behind_none : (place : ℕ) (b : List ℕ) → IsRest b → GoesOnBehind place b
behind_none place b is =
    let s = stops place b is in
    record {
      begins = λ more. rw (s.0, s.1, s.2) refl;
      ends = λ more. rw (s.1, s.2) refl;
      no_more = rw s.1 is;
    }

behind_item : (place : ℕ) (b : List ℕ) (i : Item) (f : Found) → found_in b ≡ f → f ≢ found.More → item_of place f ≡ Some i
    → GoesOnBehind (place_after place f) (drop (used_of f) b) → GoesOnBehind place b
behind_item place b i f e decided is later =
    let here = steps place b i f e is in
    record {
      begins = λ more. rw (here.items_of, here.rests, here.places)
          ((goes_step b f place i more (sym e) decided is).items_of ∙ ap (λ (x : List Item). i ∷ x) (later.begins more));
      ends = λ more. rw (here.rests, here.places) ((goes_step b f place i more (sym e) decided is).ends ∙ later.ends more);
      no_more = rw here.rests later.no_more;
    }

behind_step : (n place : ℕ) (b : List ℕ) → length b ≤ suc n → ((place' : ℕ) (b' : List ℕ) → length b' ≤ n → GoesOnBehind place' b')
    → (f : Found) → found_in b ≡ f → GoesOnBehind place b
behind_step n place b few later (found.One r used) e =
    let used_here = item_used b place (item.One place r) (rw e refl) in
    let some : 4 ≤ used = rw e at used_here.0 in
    let fits : used ≤ length b = rw e at used_here.1 in
    behind_item place b (item.One place r) (found.One r used) e (λ m. cc) refl (later (advanced place used) (drop used b) (omega (arith, length-drop used b)))
behind_step n place b few later (found.Skipped t used) e =
    let used_here = item_used b place (item.Skipped place t (used - 4)) (rw e refl) in
    let some : 4 ≤ used = rw e at used_here.0 in
    let fits : used ≤ length b = rw e at used_here.1 in
    behind_item place b (item.Skipped place t (used - 4)) (found.Skipped t used) e (λ m. cc) refl (later (advanced place used) (drop used b) (omega (arith, length-drop used b)))
behind_step n place b few later found.More e = behind_none place b (rw e refl)
behind_step n place b few later (found.Bad why) e = behind_none place b (rw e refl)

rest_nil : IsRest []
unfolding found_in front_in
rest_nil = refl

behind_in : (n place : ℕ) (b : List ℕ) → length b ≤ n → GoesOnBehind place b
behind_in zero place [] few = behind_none place [] rest_nil
behind_in zero place (x ∷ b) few = absurd (omega arith)
behind_in (suc n) place b few = behind_step n place b few (λ place' b' few'. behind_in n place' b' few') (found_in b) refl

pub goes_on_behind : (place : ℕ) (b : List ℕ) → GoesOnBehind place b
goes_on_behind place b = behind_in (length b) place b (omega arith)

ends_by : (p : ℕ) (l : List ℕ) (f : Found) → found_in l ≡ f → item_of 0 f ≡ None → EndsWith p l (ending_for p l f)
ends_by p [] f e is = refl
ends_by p (x ∷ l) (found.One r used) e is = cc
ends_by p (x ∷ l) (found.Skipped t used) e is = cc
ends_by p (x ∷ l) found.More e is = (refl, omega arith, e)
ends_by p (x ∷ l) (found.Bad why) e is = (refl, e)

pub ends_with : (place : ℕ) (b : List ℕ) → EndsWith (rest_place place b) (rest place b) (ending place b)
unfolding ending
ends_with place b = ends_by (rest_place place b) (rest place b) (found_in (rest place b)) refl (goes_on_behind place b).no_more

pub records_joined : (its others : List Item) → records_of (its ++ others) ≡ records_of its ++ records_of others
unfolding records_of
records_joined [] others = refl
records_joined (item.One place r ∷ its) others = ap (λ (rs : List Record). r ∷ rs) (records_joined its others)
records_joined (item.Skipped place t len ∷ its) others = records_joined its others

pub fronts : (b more : List ℕ) → (later : List Record) × (records (b ++ more) ≡ records b ++ later)
fronts b more =
    let more_items : List Item = items (rest_place 0 b) (rest 0 b ++ more) in
    (records_of more_items, ap records_of ((goes_on_behind 0 b).begins more) ∙ records_joined (items 0 b) more_items)

-- records that are spelled one behind the other are read so
pub spelled_read : (place : ℕ) (rs : List Record) (more : List ℕ) → AllByRecursion IsRecord rs
    → (items place (spelled rs ++ more) ≡ placed place rs ++ items (behind place rs) more)
    × (ending place (spelled rs ++ more) ≡ ending (behind place rs) more)
spelled_read place [] more all = (refl, refl)
spelled_read place (r ∷ rs) more all =
    let one : Spells r (spelling r) = record { within = all.0; is = refl } in
    let later = spelled_read (advanced place (length (spelling r))) rs more all.1 in
    let whole : (spelling r ++ spelled rs) ++ more ≡ spelling r ++ (spelled rs ++ more) = append_assoc (spelling r) (spelled rs) more in (
      ap (items place) whole ∙ one_first place r (spelling r) (spelled rs ++ more) one ∙ ap (λ (x : List Item). item.One place r ∷ x) later.0,
      ap (ending place) whole ∙ one_ends place r (spelling r) (spelled rs ++ more) one ∙ later.1,
    )

placed_records : (place : ℕ) (rs : List Record) → records_of (placed place rs) ≡ rs
unfolding records_of
placed_records place [] = refl
placed_records place (r ∷ rs) = ap (λ (x : List Record). r ∷ x) (placed_records (advanced place (length (spelling r))) rs)

pub spelled_streams : (rs : List Record) → AllByRecursion IsRecord rs
    → (items 0 (spelled rs) ≡ placed 0 rs) × (records (spelled rs) ≡ rs) × (ending 0 (spelled rs) ≡ ending_kind.Clean)
spelled_streams rs all =
    let read = spelled_read 0 rs [] all in
    let none = rest_ends (behind 0 rs) [] rest_nil in
    let whole : spelled rs ++ [] ≡ spelled rs = append-nil (spelled rs) in
    let its : items 0 (spelled rs) ≡ placed 0 rs =
    ap (items 0) (sym whole) ∙ read.0 ∙ ap (λ (x : List Item). placed 0 rs ++ x) none.0 ∙ append-nil (placed 0 rs) in
    (its, ap records_of its ∙ placed_records 0 rs, ap (ending 0) (sym whole) ∙ read.1 ∙ none.1)
