-- How many calls of a disk a run makes, one call or one run more at a time.
use Rattle.std.proofs.Common.{◌≡◌, ℕ, zero, suc, ◌+◌, ◌≤◌, Result, Ok, Err, refl, sym, ap, ◌∙◌, arith, add-zero}
use Rattle.outside.specs.Faults.{one_more}
use Rattle.outside.specs.Calls.{Calls, CallsGoOn, OneCall, NoCall, more_calls}
use Rattle.outside.specs.Disk.{RelatesTold}
use Rattle.outside.specs.Outside.{Outside, Moment, DiskCall, LinkCall, MakesJust, MakesAtMost, MakesCalls}
use Rattle.outside.proofs.CallSteps.{becomes_none, becomes_map, becomes_then, change_none, change_then, go_on_none, go_on_then}

-- ---- just so many

pub just_none : (o : Outside) → MakesJust 0 o o
just_none o = record { made = becomes_none (λ (a b : Calls). b.made ≡ a.made) o.calls (λ a. refl) }

pub just_call : (n : ℕ) (o0 o o' : Outside) → MakesJust n o0 o → DiskCall o o' → MakesJust (suc n) o0 o'
just_call n o0 o o' run call = record {
  made =
      becomes_then (λ (a b : Calls). b.made ≡ more_calls n a.made) OneCall (λ (a b : Calls). b.made ≡ more_calls (suc n) a.made) o0.calls o.calls o'.calls
      (λ a b c first one. one.made ∙ ap one_more first) run.made call.calls;
}

pub more_calls-add : (m n made : ℕ) → more_calls (m + n) made ≡ more_calls n (more_calls m made)
more_calls-add m zero made = ap (λ (k : ℕ). more_calls k made) (add-zero m)
more_calls-add m (suc n) made =
    let one : m + suc n ≡ suc (m + n) = omega arith in
    ap (λ (k : ℕ). more_calls k made) one ∙ ap one_more (more_calls-add m n made)

pub just_then : (m n : ℕ) (o0 o1 o2 : Outside) → MakesJust m o0 o1 → MakesJust n o1 o2 → MakesJust (m + n) o0 o2
just_then m n o0 o1 o2 first second = record {
  made =
      becomes_then (λ (a b : Calls). b.made ≡ more_calls m a.made) (λ (a b : Calls). b.made ≡ more_calls n a.made) (λ (a b : Calls). b.made ≡ more_calls (m + n) a.made)
      o0.calls o1.calls o2.calls (λ a b c f s. s ∙ ap (more_calls n) f ∙ sym (more_calls-add m n a.made)) first.made second.made;
}

-- ---- no more than so many

more_calls-most : (n made : ℕ) → more_calls n made ≤ made + n
more_calls-most zero made = omega arith
more_calls-most (suc n) made = omega (arith, more_calls-most n made)

pub just_most : (n : ℕ) (o o' : Outside) → MakesJust n o o' → MakesAtMost n o o'
just_most n o o' just = record {
  made =
      becomes_map (λ (a b : Calls). b.made ≡ more_calls n a.made) (λ (a b : Calls). b.made ≤ a.made + n) o.calls o'.calls
      (λ a b same. omega (arith, same, more_calls-most n a.made)) just.made;
}

pub most_none : (n : ℕ) (o : Outside) → MakesAtMost n o o
most_none n o = record { made = becomes_none (λ (a b : Calls). b.made ≤ a.made + n) o.calls (λ a. omega arith) }

pub most_link : (n : ℕ) (during : Moment → Type 0) (o0 o o' : Outside) → MakesAtMost n o0 o → LinkCall during o o' → MakesAtMost n o0 o'
most_link n during o0 o o' run call = record {
  made =
      becomes_then (λ (a b : Calls). b.made ≤ a.made + n) NoCall (λ (a b : Calls). b.made ≤ a.made + n) o0.calls o.calls o'.calls
      (λ a b c first none. omega (arith, first, none.made)) run.made call.calls;
}

pub most_then : (m n : ℕ) (o0 o1 o2 : Outside) → MakesAtMost m o0 o1 → MakesAtMost n o1 o2 → MakesAtMost (m + n) o0 o2
most_then m n o0 o1 o2 first second = record {
  made =
      becomes_then (λ (a b : Calls). b.made ≤ a.made + m) (λ (a b : Calls). b.made ≤ a.made + n) (λ (a b : Calls). b.made ≤ a.made + (m + n))
      o0.calls o1.calls o2.calls (λ a b c f s. omega (arith, f, s)) first.made second.made;
}

-- no more than fewer
pub most_more : (m n : ℕ) (o o' : Outside) → m ≤ n → MakesAtMost m o o' → MakesAtMost n o o'
most_more m n o o' fewer most = record {
  made =
      becomes_map (λ (a b : Calls). b.made ≤ a.made + m) (λ (a b : Calls). b.made ≤ a.made + n) o.calls o'.calls
      (λ a b within. omega (arith, within, fewer)) most.made;
}

-- ---- a few calls, and one function behind another

pub once : (o o' : Outside) → DiskCall o o' → MakesJust 1 o o'
once o o' call = just_call 0 o o o' (just_none o) call

pub twice : (o0 o1 o2 : Outside) → DiskCall o0 o1 → DiskCall o1 o2 → MakesJust 2 o0 o2
twice o0 o1 o2 first second = just_call 1 o0 o1 o2 (once o0 o1 first) second

pub within : (m n : ℕ) (o o' : Outside) → m ≤ n → MakesJust m o o' → MakesAtMost n o o'
within m n o o' fewer just = most_more m n o o' fewer (just_most m o o' just)

pub calls_then : {T E : Type 0} (m n : ℕ) (result : Result T E) (o0 o1 o2 : Outside) → MakesJust m o0 o1 → MakesCalls n result o1 o2 → MakesCalls (m + n) result o0 o2
calls_then m n (Ok _) o0 o1 o2 first second = record {
  just = just_then m n o0 o1 o2 first second.just;
  most = most_then m n o0 o1 o2 (just_most m o0 o1 first) second.most;
}
calls_then m n (Err _) o0 o1 o2 first second = record { just = tt; most = most_then m n o0 o1 o2 (just_most m o0 o1 first) second.most }

-- ---- no call

pub no_call_same : (a : Calls) → NoCall a a
no_call_same a = record { goes_on = go_on_none a; made = refl; unchanged = change_none a }

pub no_call_none : (o : Outside) → RelatesTold NoCall o.calls o.calls
no_call_none o = becomes_none NoCall o.calls (λ a. no_call_same a)

pub no_call_then : (o0 o1 o2 : Outside) → RelatesTold NoCall o0.calls o1.calls → RelatesTold NoCall o1.calls o2.calls → RelatesTold NoCall o0.calls o2.calls
no_call_then o0 o1 o2 first second =
    becomes_then NoCall NoCall NoCall o0.calls o1.calls o2.calls
    (λ a b c f s. record {
      goes_on = go_on_then a b c f.goes_on s.goes_on;
      made = s.made ∙ f.made;
      unchanged = change_then a b c f.unchanged s.unchanged;
    }) first second

pub no_call_goes_on : (o o' : Outside) → RelatesTold NoCall o.calls o'.calls → RelatesTold CallsGoOn o.calls o'.calls
no_call_goes_on o o' none = becomes_map NoCall CallsGoOn o.calls o'.calls (λ a b n. n.goes_on) none
