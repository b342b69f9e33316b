-- Appends to a file, one behind the other.
use Rattle.std.proofs.Common.{◌≡◌, ℕ, ◌+◌, List, [], ◌∷◌, ◌++◌, length, append_assoc, refl, sym, ap, ◌∙◌, subst, Option, Result, Ok, Err}
use Rattle.std.specs.Prelude.{IsErrAnd}
use Rattle.std.specs.List.{AllByRecursion}
use Rattle.outside.specs.Changes.{Change}
use Rattle.outside.specs.Made.{BreaksIn, DoesAll, DoesCalls}
use Rattle.outside.specs.Outside.{Outside}
use Rattle.outside.proofs.MadeSteps.{breaks_then, does_none, does_then}
use Rattle.frame_journal.specs.Append.{IsFramed}
use Rattle.frame_journal.specs.Appends.{Appends, AreFrames, BreaksAppends, append_calls, appends, end_behind}
use Rattle.frame_journal.proofs.GroupSteps.{joined_more, joined_none}

-- a call that failed, by its answer
pub breaks_as : {T E : Type 0} (P : E → Type 0) (calls : List (Option Change)) (result : Result T E) (o o' : Outside) → IsErrAnd result P → BreaksIn calls o o'
    → DoesCalls calls result o o'
breaks_as P calls (Ok _) o o' is breaks = absurd is
breaks_as P calls (Err _) o o' is breaks = breaks

-- ---- the calls of several appends

appends-append : (file end : ℕ) (xs ys : List (List ℕ)) → appends file end (xs ++ ys) ≡ appends file end xs ++ appends file (end_behind end xs) ys
appends-append file end [] ys = refl
appends-append file end (x ∷ xs) ys =
    ap (λ (l : List (Option Change)). append_calls file end x ++ l) (appends-append file (end + length x) xs ys)
    ∙ sym (append_assoc (append_calls file end x) (appends file (end + length x) xs) (appends file (end_behind (end + length x) xs) ys))

end_behind-append : (end : ℕ) (xs ys : List (List ℕ)) → end_behind end (xs ++ ys) ≡ end_behind (end_behind end xs) ys
end_behind-append end [] ys = refl
end_behind-append end (x ∷ xs) ys = end_behind-append (end + length x) xs ys

each-append : (xs ys : List (List ℕ)) → AllByRecursion AreFrames xs → AllByRecursion AreFrames ys → AllByRecursion AreFrames (xs ++ ys)
each-append [] ys first second = second
each-append (x ∷ xs) ys first second = (first.0, each-append xs ys first.1 second)

-- ---- runs

pub appends_none : (file end : ℕ) (o : Outside) → Appends file end end o o
appends_none file end o = record { added = []; frames = tt; ends = refl; does = does_none o }

pub appends_then : (file end end1 end2 : ℕ) (o0 o1 o2 : Outside) → Appends file end end1 o0 o1 → Appends file end1 end2 o1 o2 → Appends file end end2 o0 o2
appends_then file end end1 end2 o0 o1 o2 first second =
    let xs = first.added in
    let ys = second.added in
    let behind : DoesAll (appends file (end_behind end xs) ys) o1 o2 =
    subst (λ (n : ℕ). DoesAll (appends file n ys) o1 o2) first.ends second.does in
    record {
      added = xs ++ ys;
      frames = each-append xs ys first.frames second.frames;
      ends = second.ends ∙ ap (λ (n : ℕ). end_behind n ys) first.ends ∙ sym (end_behind-append end xs ys);
      does =
          subst (λ (l : List (Option Change)). DoesAll l o0 o2) (sym (appends-append file end xs ys))
          (does_then (appends file end xs) (appends file (end_behind end xs) ys) o0 o1 o2 first.does behind);
    }

pub breaks_behind : (file end end1 : ℕ) (o0 o1 o2 : Outside) → Appends file end end1 o0 o1 → BreaksAppends file end1 o1 o2 → BreaksAppends file end o0 o2
breaks_behind file end end1 o0 o1 o2 first second =
    let xs = first.added in
    let ys = second.added in
    let behind : BreaksIn (appends file (end_behind end xs) ys) o1 o2 =
    subst (λ (n : ℕ). BreaksIn (appends file n ys) o1 o2) first.ends second.breaks in
    record {
      added = xs ++ ys;
      frames = each-append xs ys first.frames second.frames;
      breaks =
          subst (λ (l : List (Option Change)). BreaksIn l o0 o2) (sym (appends-append file end xs ys))
          (breaks_then (appends file end xs) (appends file (end_behind end xs) ys) o0 o1 o2 first.does behind);
    }

-- ---- one append

pub frames_of_one : (framed : List ℕ) → IsFramed framed → AreFrames framed
frames_of_one framed is_framed =
    record { group = record { payloads = _; joined = joined_more [] (0 ∷ []) framed is_framed joined_none } }

pub appends_one : (file end : ℕ) (bytes : List ℕ) (o o' : Outside) → AreFrames bytes → DoesAll (append_calls file end bytes) o o' → Appends file end (end + length bytes) o o'
appends_one file end bytes o o' frames does =
    record { added = bytes ∷ []; frames = (frames, tt); ends = refl; does = does }

pub breaks_one : (file end : ℕ) (bytes : List ℕ) (o o' : Outside) → AreFrames bytes → BreaksIn (append_calls file end bytes) o o' → BreaksAppends file end o o'
breaks_one file end bytes o o' frames breaks = record { added = bytes ∷ []; frames = (frames, tt); breaks = breaks }
