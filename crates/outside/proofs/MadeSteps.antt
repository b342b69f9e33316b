-- Which calls of a disk a run makes, one call or one run more at a time.
use Rattle.std.proofs.Common.{◌≡◌, ℕ, zero, suc, ◌+◌, ◌≤◌, List, [], ◌∷◌, ◌++◌, length, length-append, append-nil, append_assoc, replicate, Option, None, Some, Result, Ok, Err, refl, sym, ap, ◌∙◌, inl, inr, subst, arith}
use Rattle.std.proofs.lemmas.List.{length-replicate}
use Rattle.std.proofs.lemmas.List.Concat.{flat_map-append}
use Rattle.std.specs.Option.{option_to_list}
use Rattle.outside.specs.Calls.{Calls, ChangesNone, NoCall, more_calls}
use Rattle.outside.specs.Changes.{Change, of_disk, on_disk}
use Rattle.outside.specs.Disk.{RelatesTold}
use Rattle.outside.specs.Made.{BreaksIn, BrokeOff, DoesAll, DoesCalls, IsTrace, MadeAll, changes_of}
use Rattle.outside.specs.MemDisk.{MakesChange, MemDiskValue, calls_of}
use Rattle.outside.specs.Outside.{LinkCall, MakesAtMost, MakesCalls, MakesJust, Moment, OnlyReads, Outside}
use Rattle.outside.proofs.CallCounts.{more_calls-add, just_most}
use Rattle.outside.proofs.CallSteps.{becomes_map, becomes_none, becomes_then}

-- ---- where they are told

all_none : (a : Calls) → MadeAll [] a a
all_none a = record { more = []; grown = sym (append-nil a.changes); are = refl; made = refl }

all_then : (xs ys : List (Option Change)) (a b c : Calls) → MadeAll xs a b → MadeAll ys b c → MadeAll (xs ++ ys) a c
all_then xs ys a b c first second = record {
  more = first.more ++ second.more;
  grown = second.grown ∙ ap (λ (l : List Change). l ++ second.more) first.grown ∙ append_assoc a.changes first.more second.more;
  are =
      flat_map-append on_disk first.more second.more
      ∙ ap (λ (l : List Change). l ++ of_disk second.more) first.are
      ∙ ap (λ (l : List Change). changes_of xs ++ l) second.are
      ∙ sym (flat_map-append option_to_list xs ys);
  made =
      second.made ∙ ap (more_calls (length ys)) first.made ∙ sym (more_calls-add (length xs) (length ys) a.made)
      ∙ ap (λ (n : ℕ). more_calls n a.made) (sym (length-append xs ys));
}

broke_then : (xs ys : List (Option Change)) (a b c : Calls) → MadeAll xs a b → BrokeOff ys b c → BrokeOff (xs ++ ys) a c
broke_then xs ys a b c first second =
    let long : length xs + suc (length second.front) ≡ suc (length (xs ++ second.front)) =
    omega (arith, length-append xs second.front) in
    record {
      front = xs ++ second.front;
      failed = second.failed;
      rest = second.rest;
      parts = ap (λ (l : List (Option Change)). xs ++ l) second.parts ∙ sym (append_assoc xs second.front (second.failed ∷ second.rest));
      trace = second.trace;
      left = second.left;
      more = first.more ++ second.more;
      grown = second.grown ∙ ap (λ (l : List Change). l ++ second.more) first.grown ∙ append_assoc a.changes first.more second.more;
      are =
          flat_map-append on_disk first.more second.more
          ∙ ap (λ (l : List Change). l ++ of_disk second.more) first.are
          ∙ ap (λ (l : List Change). changes_of xs ++ l) second.are
          ∙ sym (append_assoc (changes_of xs) (changes_of second.front) second.trace)
          ∙ ap (λ (l : List Change). l ++ second.trace) (sym (flat_map-append option_to_list xs second.front));
      made =
          second.made ∙ ap (more_calls (suc (length second.front))) first.made
          ∙ sym (more_calls-add (length xs) (suc (length second.front)) a.made)
          ∙ ap (λ (n : ℕ). more_calls n a.made) long;
    }

-- others were to be made behind them
broke_wide : (xs ys : List (Option Change)) (a b : Calls) → BrokeOff xs a b → BrokeOff (xs ++ ys) a b
broke_wide xs ys a b broke = record {
  front = broke.front;
  failed = broke.failed;
  rest = broke.rest ++ ys;
  parts = ap (λ (l : List (Option Change)). l ++ ys) broke.parts ∙ append_assoc broke.front (broke.failed ∷ broke.rest) ys;
  trace = broke.trace;
  left = broke.left;
  more = broke.more;
  grown = broke.grown;
  are = broke.are;
  made = broke.made;
}

-- one that only looks
look_left : (front : List (Option Change)) (failed : Option Change) (rest : List (Option Change)) (trace : List Change) → None ∷ [] ≡ front ++ failed ∷ rest
    → IsTrace failed trace → changes_of front ++ trace ≡ []
look_left [] None rest trace parts left = left
look_left [] (Some c) rest trace parts left = cc
look_left (x ∷ []) failed rest trace parts left = cc
look_left (x ∷ y ∷ front) failed rest trace parts left = cc

look_broke : (a b : Calls) (broke : BrokeOff (None ∷ []) a b) → of_disk broke.more ≡ []
look_broke a b broke = broke.are ∙ look_left broke.front broke.failed broke.rest broke.trace broke.parts broke.left

looks_change : (n : ℕ) → changes_of (replicate n None) ≡ []
looks_change zero = refl
looks_change (suc n) = looks_change n

all_looked : (n : ℕ) (a b : Option Calls) → RelatesTold ChangesNone a b → RelatesTold (λ (x y : Calls). y.made ≡ more_calls n x.made) a b
    → RelatesTold (MadeAll (replicate n None)) a b
all_looked n None None none just = tt
all_looked n None (Some b) none just = absurd none
all_looked n (Some a) None none just = absurd none
all_looked n (Some a) (Some b) none just = record {
  more = none.more;
  grown = none.grown;
  are = none.none ∙ sym (looks_change n);
  made = just ∙ ap (λ (k : ℕ). more_calls k a.made) (sym (length-replicate n None));
}

-- ---- runs

pub does_none : (o : Outside) → DoesAll [] o o
does_none o = record { done = becomes_none (MadeAll []) o.calls all_none }

pub does_then : (xs ys : List (Option Change)) (o0 o1 o2 : Outside) → DoesAll xs o0 o1 → DoesAll ys o1 o2 → DoesAll (xs ++ ys) o0 o2
does_then xs ys o0 o1 o2 first second = record {
  done = becomes_then (MadeAll xs) (MadeAll ys) (MadeAll (xs ++ ys)) o0.calls o1.calls o2.calls (all_then xs ys) first.done second.done;
}

pub breaks_then : (xs ys : List (Option Change)) (o0 o1 o2 : Outside) → DoesAll xs o0 o1 → BreaksIn ys o1 o2 → BreaksIn (xs ++ ys) o0 o2
breaks_then xs ys o0 o1 o2 first second = record {
  broken = becomes_then (MadeAll xs) (BrokeOff ys) (BrokeOff (xs ++ ys)) o0.calls o1.calls o2.calls (broke_then xs ys) first.done second.broken;
}

pub breaks_wide : (xs ys : List (Option Change)) (o o' : Outside) → BreaksIn xs o o' → BreaksIn (xs ++ ys) o o'
breaks_wide xs ys o o' breaks =
    record { broken = becomes_map (BrokeOff xs) (BrokeOff (xs ++ ys)) o.calls o'.calls (broke_wide xs ys) breaks.broken }

-- the calls of one function, and of another behind it
pub does_both : {T E : Type 0} (xs ys : List (Option Change)) (result : Result T E) (o0 o1 o2 : Outside) → DoesAll xs o0 o1 → DoesCalls ys result o1 o2
    → DoesCalls (xs ++ ys) result o0 o2
does_both xs ys (Ok _) o0 o1 o2 first second = does_then xs ys o0 o1 o2 first second
does_both xs ys (Err _) o0 o1 o2 first second = breaks_then xs ys o0 o1 o2 first second

-- calls of links and of the clock are none of the disk
pub does_no_call : (o o' : Outside) → RelatesTold NoCall o.calls o'.calls → DoesAll [] o o'
does_no_call o o' none = record {
  done =
      becomes_map NoCall (MadeAll []) o.calls o'.calls
      (λ a b n. record { more = n.unchanged.more; grown = n.unchanged.grown; are = n.unchanged.none; made = n.made }) none;
}

pub does_link : (during : Moment → Type 0) (o o' : Outside) → LinkCall during o o' → DoesAll [] o o'
does_link during o o' call = does_no_call o o' call.calls

-- a call that only looks changes nothing
pub look_changes : {T E : Type 0} (result : Result T E) (o o' : Outside) → DoesCalls (None ∷ []) result o o' → RelatesTold ChangesNone o.calls o'.calls
look_changes (Ok _) o o' does =
    becomes_map (MadeAll (None ∷ [])) ChangesNone o.calls o'.calls (λ a b m. record { more = m.more; grown = m.grown; none = m.are }) does.done
look_changes (Err _) o o' does =
    becomes_map (BrokeOff (None ∷ [])) ChangesNone o.calls o'.calls (λ a b broke. record { more = broke.more; grown = broke.grown; none = look_broke a b broke }) does.broken

-- runs that only look, and how many calls they made
pub looks_do : (n : ℕ) (o o' : Outside) → OnlyReads o o' → MakesJust n o o' → DoesAll (replicate n None) o o'
looks_do n o o' looks just = record { done = all_looked n o.calls o'.calls looks.unchanged just.made }

-- ---- how many they are

pub does_just : (xs : List (Option Change)) (o o' : Outside) → DoesAll xs o o' → MakesJust (length xs) o o'
does_just xs o o' all =
    record { made = becomes_map (MadeAll xs) (λ (a b : Calls). b.made ≡ more_calls (length xs) a.made) o.calls o'.calls (λ a b m. m.made) all.done }

few_more : (n made : ℕ) → more_calls n made ≤ made + n
few_more zero made = omega arith
few_more (suc n) made = omega (arith, few_more n made)

pub breaks_most : (xs : List (Option Change)) (o o' : Outside) → BreaksIn xs o o' → MakesAtMost (length xs) o o'
breaks_most xs o o' breaks = record {
  made =
      becomes_map (BrokeOff xs) (λ (a b : Calls). b.made ≤ a.made + length xs) o.calls o'.calls
      (λ a b broke.
      let parts : length xs ≡ length (broke.front ++ broke.failed ∷ broke.rest) = ap length broke.parts in
      let all : length (broke.front ++ broke.failed ∷ broke.rest) ≡ length broke.front + suc (length broke.rest) =
      length-append broke.front (broke.failed ∷ broke.rest) in
      omega (arith, parts, all, broke.made, few_more (suc (length broke.front)) a.made))
      breaks.broken;
}

pub does_makes : {T E : Type 0} (xs : List (Option Change)) (result : Result T E) (o o' : Outside) → DoesCalls xs result o o' → MakesCalls (length xs) result o o'
does_makes xs (Ok _) o o' does = record { just = does_just xs o o' does; most = just_most (length xs) o o' (does_just xs o o' does) }
does_makes xs (Err _) o o' does = record { just = tt; most = breaks_most xs o o' does }

-- ---- one call of a disk in memory

-- a change of a disk, and the trace that its failure leaves
pub record Traces (fine failed : Option Change) : Type 0 where
  pub fine_is : of_disk (option_to_list fine) ≡ option_to_list fine
  pub failed_is : of_disk (option_to_list failed) ≡ option_to_list failed
  pub left : IsTrace fine (option_to_list failed)
  pub none : IsTrace fine []

pub makes_told_calls : {T E : Type 0} (fine failed : Option Change) (result : Result T E) (old new : MemDiskValue) (o o' : Outside) → Traces fine failed
    → MakesChange fine failed result old new → o.calls ≡ Some (calls_of old) → o'.calls ≡ Some (calls_of new) → DoesCalls (fine ∷ []) result o o'
makes_told_calls fine failed (Ok _) old new o o' traces makes before after = record {
  done =
      subst (λ (t : Option Calls). RelatesTold (MadeAll (fine ∷ [])) t o'.calls) (sym before)
      (subst (λ (t : Option Calls). RelatesTold (MadeAll (fine ∷ [])) (Some (calls_of old)) t) (sym after)
      (record {
        more = option_to_list fine;
        grown = makes.outcome.calls;
        are = traces.fine_is ∙ sym (append-nil (option_to_list fine));
        made = makes.counts.made;
      }));
}
makes_told_calls fine failed (Err _) old new o o' traces makes before after = record {
  broken =
      subst (λ (t : Option Calls). RelatesTold (BrokeOff (fine ∷ [])) t o'.calls) (sym before)
      (subst (λ (t : Option Calls). RelatesTold (BrokeOff (fine ∷ [])) (Some (calls_of old)) t) (sym after)
      (elim makes.outcome.outcome [
        | inl listed ↦ record {
          front = [];
          failed = fine;
          rest = [];
          parts = refl;
          trace = option_to_list failed;
          left = traces.left;
          more = option_to_list failed;
          grown = listed.calls;
          are = traces.failed_is;
          made = makes.counts.made;
        }
        | inr untraced ↦ record {
          front = [];
          failed = fine;
          rest = [];
          parts = refl;
          trace = [];
          left = traces.none;
          more = [];
          grown = untraced.calls ∙ sym (append-nil old.calls);
          are = refl;
          made = makes.counts.made;
        }
      ]));
}

-- of a disk that a host has
pub does_as : {T E : Type 0} (calls : List (Option Change)) (result : Result T E) (o o' p p' : Outside) → DoesCalls calls result o o' → p.calls ≡ o.calls → p'.calls ≡ o'.calls
    → DoesCalls calls result p p'
does_as calls (Ok _) o o' p p' does before after = record {
  done =
      subst (λ (t : Option Calls). RelatesTold (MadeAll calls) t p'.calls) (sym before)
      (subst (λ (t : Option Calls). RelatesTold (MadeAll calls) o.calls t) (sym after) does.done);
}
does_as calls (Err _) o o' p p' does before after = record {
  broken =
      subst (λ (t : Option Calls). RelatesTold (BrokeOff calls) t p'.calls) (sym before)
      (subst (λ (t : Option Calls). RelatesTold (BrokeOff calls) o.calls t) (sym after) does.broken);
}

pub look_traces : Traces None None
look_traces = record { fine_is = refl; failed_is = refl; left = refl; none = refl }
