-- A stream is made of its items.
use Rattle.std.proofs.Common.{◌≡◌, ℕ, zero, suc, ◌+◌, ◌-◌, ◌<◌, ◌≤◌, List, [], ◌∷◌, ◌++◌, length, take, drop, refl, sym, ap, ◌∙◌, arith, length-drop, slice_index}
use Rattle.std.specs.Prelude.{None}
use Rattle.std.proofs.lemmas.List.{append_assoc, drop_at, length-take-le, take-append-drop}
use Rattle.sync_ids.specs.declared.records.Record.{Record}
use Rattle.record_grammar.specs.Spelling.{Skips, Spells, joined}
use Rattle.record_grammar.specs.Reading.{found_in, front_in}
use Rattle.record_grammar.specs.Laws.{AreCutAs, IsMadeOf, IsSpelled}
use Rattle.record_grammar.specs.Stream.{Parsed, advanced, ending, item_of, items, parsed, rest}
use Rattle.record_grammar.specs.declared.reading.Found.{Found}
use Rattle.record_grammar.specs.declared.reading.Found.TheVariants as found
use Rattle.record_grammar.specs.declared.stream.Item.{Item}
use Rattle.record_grammar.specs.declared.stream.Item.TheVariants as item
use Rattle.record_grammar.proofs.Complete.{skipped_found, spelled_found}
use Rattle.record_grammar.proofs.Sound.{IsBytes, IsBytes-drop, found_sound}
use Rattle.record_grammar.proofs.Streams.{none_step, steps, stop}

-- an item at the front is the first
pub one_first : (place : ℕ) (r : Record) (part more : List ℕ) → Spells r part → items place (part ++ more) ≡ item.One place r ∷ items (advanced place (length part)) more
one_first place r part more spelled =
    let step = steps place (part ++ more) (item.One place r) (found.One r (length part)) (spelled_found r part more spelled) refl in
    let behind : drop (length part) (part ++ more) ≡ more = drop_at part more (length part) refl in
    rw behind at step.items_of

-- and the stream ends as what is behind it does
pub one_ends : (place : ℕ) (r : Record) (part more : List ℕ) → Spells r part → ending place (part ++ more) ≡ ending (advanced place (length part)) more
one_ends place r part more spelled =
    let step = steps place (part ++ more) (item.One place r) (found.One r (length part)) (spelled_found r part more spelled) refl in
    let behind : drop (length part) (part ++ more) ≡ more = drop_at part more (length part) refl in
    rw behind at step.ends

skipped_first : (place t len : ℕ) (part more : List ℕ) → Skips t part → length part ≡ 4 + len
    → items place (part ++ more) ≡ item.Skipped place t len ∷ items (advanced place (length part)) more
skipped_first place t len part more skipped el =
    let step = steps place (part ++ more) (item.Skipped place t (length part - 4)) (found.Skipped t (length part)) (skipped_found t part more skipped) refl in
    let behind : drop (length part) (part ++ more) ≡ more = drop_at part more (length part) refl in
    let left : length part - 4 ≡ len = omega arith in
    let first : items place (part ++ more) ≡ item.Skipped place t (length part - 4) ∷ items (advanced place (length part)) more = rw behind at step.items_of in
    rw left at first

pub longest : (place : ℕ) (parts : List (List ℕ)) (its : List Item) (more : List ℕ) → AreCutAs place parts its
    → (later : List Item) × (items place (joined parts ++ more) ≡ its ++ later)
longest place [] [] more cut = (items place more, refl)
longest place [] (i ∷ its) more cut = absurd cut
longest place (part ∷ parts) [] more cut = absurd cut
longest place (part ∷ parts) (item.One at r ∷ its) more cut =
    let others = longest (advanced place (length part)) parts its more cut.2 in (
      others.0,
      ap (items place) (append_assoc part (joined parts) more) ∙ one_first place r part (joined parts ++ more) cut.1
          ∙ ap (λ (x : List Item). item.One place r ∷ x) others.1 ∙ ap (λ (p : ℕ). item.One p r ∷ (its ++ others.0)) (sym cut.0),
    )
longest place (part ∷ parts) (item.Skipped at t len ∷ its) more cut =
    let others = longest (advanced place (length part)) parts its more cut.3 in (
      others.0,
      ap (items place) (append_assoc part (joined parts) more) ∙ skipped_first place t len part (joined parts ++ more) cut.1 cut.2
          ∙ ap (λ (x : List Item). item.Skipped place t len ∷ x) others.1 ∙ ap (λ (p : ℕ). item.Skipped p t len ∷ (its ++ others.0)) (sym cut.0),
    )

-- where no item stands at the front, all is rest
made_of_none : (place : ℕ) (b : List ℕ) → item_of 0 (found_in b) ≡ None → item_of place (found_in b) ≡ None → IsMadeOf place b []
unfolding items rest stop
made_of_none place b none here =
    let step = none_step place b here in
    let its : (parsed (length b) place b).items ≡ [] = ap (λ (p : Parsed). p.items) step in
    let tail : (parsed (length b) place b).rest ≡ b = ap (λ (p : Parsed). p.rest) step in
    record { cut = rw its tt; whole = sym tail; no_more = rw tail none }

empty_made : (place : ℕ) (b : List ℕ) → length b ≡ 0 → IsMadeOf place b []
unfolding found_in front_in
empty_made place [] none = made_of_none place [] refl refl
empty_made place (x ∷ b) none = absurd (omega arith)

-- an item at the front, and what the stream behind it is made of
made_of_more : (place place' : ℕ) (b : List ℕ) (used : ℕ) (i : Item) (parts : List (List ℕ)) → used ≤ length b
    → items place b ≡ i ∷ items place' (drop used b) → rest place b ≡ rest place' (drop used b)
    → IsMadeOf place' (drop used b) parts → AreCutAs place (take used b ∷ parts) (i ∷ items place' (drop used b)) → IsMadeOf place b (take used b ∷ parts)
made_of_more place place' b used i parts fits ei er made cut = record {
  cut = rw ei cut;
  whole = rw er (sym (append_assoc (take used b) (joined parts) (rest place' (drop used b)) ∙ ap (λ (x : List ℕ). take used b ++ x) (sym made.whole) ∙ take-append-drop used b));
  no_more = rw er made.no_more;
}

-- one step of the cutting, given how what is behind is cut
made_step : (n place : ℕ) (b : List ℕ) → length b ≤ suc n → IsBytes b
    → ((place' : ℕ) (b' : List ℕ) → length b' ≤ n → IsBytes b' → (parts : List (List ℕ)) × IsMadeOf place' b' parts)
    → (f : Found) → found_in b ≡ f → IsSpelled b f → (parts : List (List ℕ)) × IsMadeOf place b parts
made_step n place b few bytes behind (found.One r used) e spelled =
    let step = steps place b (item.One place r) (found.One r used) e refl in
    let others = behind (advanced place used) (drop used b) (omega (arith, spelled.0, spelled.1, length-drop used b)) (IsBytes-drop used b bytes) in
    let len : length (take used b) ≡ used = length-take-le used b spelled.1 in
    let cut : AreCutAs place (take used b ∷ others.0) (item.One place r ∷ items (advanced place used) (drop used b)) = (refl, spelled.2, rw len others.1.cut) in
    (take used b ∷ others.0, made_of_more place (advanced place used) b used (item.One place r) others.0 spelled.1 step.items_of step.rests others.1 cut)
made_step n place b few bytes behind (found.Skipped t used) e spelled =
    let step = steps place b (item.Skipped place t (used - 4)) (found.Skipped t used) e refl in
    let others = behind (advanced place used) (drop used b) (omega (arith, spelled.0, spelled.1, length-drop used b)) (IsBytes-drop used b bytes) in
    let len : length (take used b) ≡ used = length-take-le used b spelled.1 in
    let long : length (take used b) ≡ 4 + (used - 4) = omega (arith, spelled.0) in
    let cut : AreCutAs place (take used b ∷ others.0) (item.Skipped place t (used - 4) ∷ items (advanced place used) (drop used b)) = (refl, spelled.2, long, rw len others.1.cut) in
    (take used b ∷ others.0, made_of_more place (advanced place used) b used (item.Skipped place t (used - 4)) others.0 spelled.1 step.items_of step.rests others.1 cut)
made_step n place b few bytes behind found.More e spelled = ([], made_of_none place b (rw e refl) (rw e refl))
made_step n place b few bytes behind (found.Bad why) e spelled = ([], made_of_none place b (rw e refl) (rw e refl))

made_in : (n place : ℕ) (b : List ℕ) → length b ≤ n → IsBytes b → (parts : List (List ℕ)) × IsMadeOf place b parts
made_in zero place b few bytes =
    made_step zero place b (omega arith) bytes (λ place' b' few' bytes'. ([], empty_made place' b' (omega arith))) (found_in b) refl (found_sound b bytes)
made_in (suc n) place b few bytes =
    made_step n place b few bytes (λ place' b' few' bytes'. made_in n place' b' few' bytes') (found_in b) refl (found_sound b bytes)

pub made_of : (place : ℕ) (b : List ℕ) → ((i : ℕ) → slice_index b i < 256) → (parts : List (List ℕ)) × IsMadeOf place b parts
made_of place b bytes = made_in (length b) place b (omega arith) bytes
