-- How many dependencies are not delivered, after news of one of them.
use Rattle.std.proofs.Common.{◌≡◌, ℕ, zero, suc, ◌+◌, Bool, true, false, if◌then◌else◌, List, [], ◌∷◌, Option, None, Some, refl, sym, ap, ◌∙◌, arith}
use Rattle.message_graph.specs.declared.nodes.Node.{Node}
use Rattle.message_graph.specs.declared.nodes.Judged.{Judged}
use Rattle.message_graph.specs.declared.nodes.Judged.TheVariants as judged
use Rattle.message_graph.specs.declared.nodes.Ending.{Ending}
use Rattle.message_graph.specs.declared.states.Waiting.TheVariants as waiting
use Rattle.message_graph.specs.declared.states.News.{News}
use Rattle.message_graph.specs.declared.states.News.TheVariants as news
use Rattle.message_graph.specs.Nodes.{same_name, fails, serves}
use Rattle.message_graph.specs.Waits.{one_more, with_dependency, missing, from_missing, waiting_open, waiting_by, missing_after, told, told_times}
use Rattle.message_graph.specs.Whole.{occurrences, dependencies}

-- that many more
abbrev pub raised : ℕ → Option ℕ → Option ℕ
raised more None = None
raised more (Some count) = Some (more + count)

pub raised-zero : (o : Option ℕ) → raised 0 o ≡ o
raised-zero None = refl
raised-zero (Some count) = ap Some (omega arith)

one_more-raised : (more : ℕ) (o : Option ℕ) → one_more (raised more o) ≡ raised (1 + more) o
one_more-raised more None = refl
one_more-raised more (Some count) = ap Some (omega arith)

raised-dependency : (more : ℕ) (f s : Bool) (o : Option ℕ) → with_dependency f s (raised more o) ≡ raised (0 + more) (with_dependency f s o)
raised-dependency more true s o = refl
raised-dependency more false true None = refl
raised-dependency more false true (Some count) = ap Some (omega arith)
raised-dependency more false false None = refl
raised-dependency more false false (Some count) = ap Some (omega arith)

-- the news, for a count
abbrev pub lack_told : News → ℕ → Option ℕ → Option ℕ
lack_told what group None = None
lack_told what group (Some count) = missing_after what group count

abbrev pub lack_times : News → ℕ → ℕ → Option ℕ → Option ℕ
lack_times what group zero o = o
lack_times what group (suc times) o = lack_times what group times (lack_told what group o)

told-from : (what : News) (group : ℕ) (o : Option ℕ) → told what group (from_missing o) ≡ from_missing (lack_told what group o)
told-from what group None = refl
told-from what group (Some count) = refl

pub told_times-from : (what : News) (group times : ℕ) (o : Option ℕ) → told_times what group times (from_missing o) ≡ from_missing (lack_times what group times o)
told_times-from what group zero o = refl
told_times-from what group (suc times) o = ap (told_times what group times) (told-from what group o) ∙ told_times-from what group times (lack_told what group o)

pub told_times-ended : (what : News) (group times : ℕ) → told_times what group times waiting.Ended ≡ waiting.Ended
told_times-ended what group zero = refl
told_times-ended what group (suc times) = told_times-ended what group times

lack_times-none : (what : News) (group times : ℕ) → lack_times what group times None ≡ None
lack_times-none what group zero = refl
lack_times-none what group (suc times) = lack_times-none what group times

lack_times-raised : (group times : ℕ) (o : Option ℕ) → lack_times news.Delivered group times (raised times o) ≡ o
lack_times-raised group zero o = raised-zero o
lack_times-raised group (suc times) None = lack_times-none news.Delivered group times
lack_times-raised group (suc times) (Some count) = ap (λ k. lack_times news.Delivered group times (Some k)) (omega arith) ∙ lack_times-raised group times (Some count)

-- what holds a name, before and after: only for the name x it is another
pub record Differs (held after : List ℕ → Option Node) (x : List ℕ) (before : Option Node) (now : Node) : Type 0 where
  pub there : (name : List ℕ) → same_name x name ≡ true → held name ≡ before
  pub shows : (name : List ℕ) → same_name x name ≡ true → after name ≡ Some now
  pub others : (name : List ℕ) → same_name x name ≡ false → after name ≡ held name

module _ (held after : List ℕ → Option Node) (x : List ℕ) (before : Option Node) (now : Node) (d : Differs held after x before now) (group : ℕ) where
  -- at any other name nothing changes
  elsewhere : (name : List ℕ) (o : Option ℕ) → same_name x name ≡ false → with_dependency (fails group (after name)) (serves group (after name)) o ≡ with_dependency (fails group (held name)) (serves group (held name)) o
  elsewhere name o e = ap (λ h. with_dependency (fails group h) (serves group h) o) (d.others name e)

  -- news by which a dependency fails
  module _ (what : News) (dooms : (count : ℕ) → missing_after what group count ≡ None) (bad : fails group (Some now) ≡ true) where
    doomed : (times : ℕ) (o : Option ℕ) → lack_times what group (suc times) o ≡ None
    doomed times None = lack_times-none what group times
    doomed times (Some count) = ap (lack_times what group times) (dooms count) ∙ lack_times-none what group times

    under : (times : ℕ) (f s : Bool) (o : Option ℕ) → with_dependency f s (lack_times what group times o) ≡ lack_times what group times (with_dependency f s o)
    under zero f s o = refl
    under (suc times) f s o = ap (with_dependency f s) (doomed times o) ∙ none f s ∙ sym (doomed times (with_dependency f s o))
      where
        none : (f s : Bool) → with_dependency f s None ≡ None
        none true s = refl
        none false true = refl
        none false false = refl

    pub missing_doomed : (names : List (List ℕ)) → missing after group names ≡ lack_times what group (occurrences x names) (missing held group names)
    missing_doomed [] = refl
    missing_doomed (name ∷ names) =
        elim (same_name x name) as (λ b. same_name x name ≡ b → missing after group (name ∷ names) ≡ lack_times what group ((if b then 1 else 0) + occurrences x names) (missing held group (name ∷ names))) [
          | true ↦ λ e.
              ap (λ h. with_dependency (fails group h) (serves group h) (missing after group names)) (d.shows name e) ∙ ap (λ b. with_dependency b (serves group (Some now)) (missing after group names)) bad
              ∙ sym (let n : 1 + occurrences x names ≡ suc (occurrences x names) = omega arith in ap (λ k. lack_times what group k (missing held group (name ∷ names))) n ∙ doomed (occurrences x names) (missing held group (name ∷ names)))
          | false ↦ λ e.
              elsewhere name (missing after group names) e ∙ ap (with_dependency (fails group (held name)) (serves group (held name))) (missing_doomed names)
              ∙ under (occurrences x names) (fails group (held name)) (serves group (held name)) (missing held group names)
              ∙ sym (let n : 0 + occurrences x names ≡ occurrences x names = omega arith in ap (λ k. lack_times what group k (missing held group (name ∷ names))) n)
        ] refl

  -- a change that neither fails nor serves otherwise
  pub missing_same : fails group (Some now) ≡ fails group before → serves group (Some now) ≡ serves group before → (names : List (List ℕ)) → missing after group names ≡ missing held group names
  missing_same f s [] = refl
  missing_same f s (name ∷ names) =
      elim (same_name x name) as (λ b. same_name x name ≡ b → missing after group (name ∷ names) ≡ missing held group (name ∷ names)) [
        | true ↦ λ e. ap (λ h. with_dependency (fails group h) (serves group h) (missing after group names)) (d.shows name e)
            ∙ (λ i. with_dependency (f i) (s i) (missing_same f s names i))
            ∙ ap (λ h. with_dependency (fails group h) (serves group h) (missing held group names)) (sym (d.there name e))
        | false ↦ λ e. elsewhere name (missing after group names) e ∙ ap (with_dependency (fails group (held name)) (serves group (held name))) (missing_same f s names)
      ] refl

  -- a change by which one that was missing is missing no more, or by which one that failed still fails
  module _ (fewer : (more : ℕ) (o : Option ℕ) → with_dependency (fails group before) (serves group before) (raised more o) ≡ raised (1 + more) (with_dependency (fails group (Some now)) (serves group (Some now)) o)) where
    missing_raised : (names : List (List ℕ)) → missing held group names ≡ raised (occurrences x names) (missing after group names)
    missing_raised [] = refl
    missing_raised (name ∷ names) =
        elim (same_name x name) as (λ b. same_name x name ≡ b → missing held group (name ∷ names) ≡ raised ((if b then 1 else 0) + occurrences x names) (missing after group (name ∷ names))) [
          | true ↦ λ e.
              ap (λ h. with_dependency (fails group h) (serves group h) (missing held group names)) (d.there name e)
              ∙ ap (with_dependency (fails group before) (serves group before)) (missing_raised names)
              ∙ fewer (occurrences x names) (missing after group names)
              ∙ sym (ap (λ h. raised (1 + occurrences x names) (with_dependency (fails group h) (serves group h) (missing after group names))) (d.shows name e))
          | false ↦ λ e.
              ap (with_dependency (fails group (held name)) (serves group (held name))) (missing_raised names)
              ∙ raised-dependency (occurrences x names) (fails group (held name)) (serves group (held name)) (missing after group names)
              ∙ sym (ap (raised (0 + occurrences x names)) (elsewhere name (missing after group names) e))
        ] refl

    pub missing_served : (names : List (List ℕ)) → missing after group names ≡ lack_times news.Delivered group (occurrences x names) (missing held group names)
    missing_served names = sym (ap (lack_times news.Delivered group (occurrences x names)) (missing_raised names) ∙ lack_times-raised group (occurrences x names) (missing after group names))

  -- a delivery in the group, and one elsewhere
  pub fewer_served : fails group before ≡ false → serves group before ≡ false → fails group (Some now) ≡ false → serves group (Some now) ≡ true → (more : ℕ) (o : Option ℕ) → with_dependency (fails group before) (serves group before) (raised more o) ≡ raised (1 + more) (with_dependency (fails group (Some now)) (serves group (Some now)) o)
  fewer_served fb sb fn sn more o = (λ i. with_dependency (fb i) (sb i) (raised more o)) ∙ one_more-raised more o ∙ sym (λ i. raised (1 + more) (with_dependency (fn i) (sn i) o))

  pub fewer_failed : fails group before ≡ true → fails group (Some now) ≡ true → (more : ℕ) (o : Option ℕ) → with_dependency (fails group before) (serves group before) (raised more o) ≡ raised (1 + more) (with_dependency (fails group (Some now)) (serves group (Some now)) o)
  fewer_failed fb fn more o = (λ i. with_dependency (fb i) (serves group before) (raised more o)) ∙ sym (λ i. raised (1 + more) (with_dependency (fn i) (serves group (Some now)) o))

-- what a node waits for, by what it misses
pub waits_told : (held after : List ℕ → Option Node) (x : List ℕ) (what : News) (group : ℕ) → ((names : List (List ℕ)) → missing after group names ≡ lack_times what group (occurrences x names) (missing held group names))
    → (answer : Option Judged) (end : Option Ending) → waiting_by after group answer end ≡ told_times what group (occurrences x (dependencies answer)) (waiting_by held group answer end)
waits_told held after x what group h None end = refl
waits_told held after x what group h (Some judged.Refused) None = refl
waits_told held after x what group h (Some (judged.Accepted names)) None = ap from_missing (h names) ∙ sym (told_times-from what group (occurrences x names) (missing held group names))
waits_told held after x what group h (Some judged.Refused) (Some end) = refl
waits_told held after x what group h (Some (judged.Accepted names)) (Some end) = sym (told_times-ended what group (occurrences x names))

pub told_times-unjudged : (what : News) (group times : ℕ) → told_times what group times waiting.Unjudged ≡ waiting.Unjudged
told_times-unjudged what group zero = refl
told_times-unjudged what group (suc times) = told_times-unjudged what group times

-- what a node waits for where the counts stay
pub waits_same : (held after : List ℕ → Option Node) (group : ℕ) → ((names : List (List ℕ)) → missing after group names ≡ missing held group names) → (answer : Option Judged) (end : Option Ending) → waiting_by after group answer end ≡ waiting_by held group answer end
waits_same held after group h None end = refl
waits_same held after group h (Some judged.Refused) None = refl
waits_same held after group h (Some (judged.Accepted names)) None = ap from_missing (h names)
waits_same held after group h (Some answer) (Some end) = refl

pub waits_open_same : (held after : List ℕ → Option Node) (group : ℕ) → ((names : List (List ℕ)) → missing after group names ≡ missing held group names) → (answer : Judged) → waiting_open after group answer ≡ waiting_open held group answer
waits_open_same held after group h judged.Refused = refl
waits_open_same held after group h (judged.Accepted names) = ap from_missing (h names)
