-- The tree of a group's delivered messages, message by message.
use Rattle.std.proofs.Common.{◌≡◌, ℕ, suc, zero, ◌+◌, ◌<◌, Bool, true, false, cond, ◌||◌, List, []}
use Rattle.std.proofs.Common.{◌∷◌, ◌++◌, length, map, take, append-nil, Option, None, Some, get_or}
use Rattle.std.proofs.Common.{slice_get, refl, sym, ap, ◌∙◌, subst, arith}
use Rattle.std.specs.Prelude.{IfSome, OnOk, Result, Ok, Err}
use Rattle.std.specs.FinSet as fin_set
use Rattle.std.specs.List.{AllByRecursion, filter}
use Rattle.std.specs.Option.{option_map}
use Rattle.std.proofs.lemmas.Bool.{false≢true}
use Rattle.std.proofs.lemmas.List.{get_or_default, map-append, take_all}
use Rattle.std.proofs.lemmas.List.Elements.{filter_more}
use Rattle.std.proofs.lemmas.Option.{slice_get-get_or}
use Rattle.sync_ids.specs.Values.{MessageValue}
use Rattle.sync_rules.specs.declared.answers.Judgement.{Judgement}
use Rattle.sync_rules.specs.declared.answers.Judgement.TheVariants as judgement
use Rattle.sync_rules.specs.Clients.{Meaning}
use Rattle.sync_rules.specs.Facts.{Facts, Held, Id, held_at}
use Rattle.sync_rules.specs.Lists.{is_among, same_id}
use Rattle.sync_rules.specs.Steps.{answer_of, is_beside, verdict_in}
use Rattle.sync_rules.specs.Views.{IsFound, IsPlace, place_of}
use Rattle.journal_state.specs.Firsts.{first_dependency, firsts_of, number_held}
use Rattle.journal_state.specs.Sound.{AreApart, DeliversJudged}
use Rattle.journal_state.specs.Whole.{KnowsJudgements, StateValue, id_at}
use Rattle.sync_rules.proofs.Elements.{same_id_itself}
use Rattle.sync_rules.proofs.PlaceLaws.{place_found}
use Rattle.tree_commands.specs.Gathered.{IsThreadOf, StandsAt, with_delivered}
use Rattle.tree_commands.specs.Threads.{ThreadValue, parent_among, with_number}
use Rattle.tree_commands.specs.Trees.{delivered_in, first_dependency_of, parents_of, place_if}
use Rattle.tree_commands.specs.Trees.{replied_by}
use Rattle.tree_commands.proofs.Parents.{parent_behind, parents_push}
use Rattle.tree_commands.proofs.Places.{id_there, reply_same}

-- ---- what was made

-- what holds of what was made
pub on_made : {T E : Type 0} (r : Result T E) (P : ThreadValue → Type 0) (new next : ThreadValue)
    → P next → OnOk r (new ≡ next) → OnOk r (P new)
on_made (Ok _) P new next holds made = subst P (sym made) holds
on_made (Err _) P new next holds made = made

-- ---- one message

-- the message of a place
message_is : (held : List Held) (id : Id) (n : ℕ) (m : MessageValue) (at : IsPlace held id n)
    → option_map (λ (h : Held). h.message) (slice_get held n) ≡ Some m → at.message.message ≡ m
message_is held id n m at said =
    let both : Some at.message.message ≡ Some m =
    sym (ap (option_map (λ (h : Held). h.message)) at.stands) ∙ said in
    cc

pub beside_is : (held : List Held) (group id : Id) (n : ℕ) (m : MessageValue) (b : Bool)
    → IsPlace held id n → option_map (λ (h : Held). h.message) (slice_get held n) ≡ Some m
    → same_id m.group group ≡ b → is_beside group (held_at held id) ≡ b
beside_is held group id n m b at said is =
    ap (is_beside group) at.first ∙ ap (λ (x : MessageValue). same_id x.group group)
    (message_is held id n m at said) ∙ is

all_push : (P : ℕ → Type 0) (ns : List ℕ) (n : ℕ) → AllByRecursion P ns → P n
    → AllByRecursion P (ns ++ n ∷ [])
all_push P [] n all one = (one, tt)
all_push P (m ∷ ns) n all one = (all.0, all_push P ns n all.1 one)

module _ (clients : Meaning) (f : Facts) (group : Id) where
  pub left_out : (ids : List Id) (id : Id) (t : ThreadValue) → IsThreadOf clients f ids t
      → is_beside group (held_at f.held id) ≡ false
      → IsThreadOf clients f (with_delivered f group ids id) t
  left_out ids id t of not =
      let same : with_delivered f group ids id ≡ ids = ap (λ (b : Bool). ids ++ cond b (id ∷ []) [])
      not ∙ append-nil ids in
      subst (λ (xs : List Id). IsThreadOf clients f xs t) (sym same) of

  module _ (id : Id) (n : ℕ) (at : IsPlace f.held id n) (m : MessageValue)
      (said : option_map (λ (h : Held). h.message) (slice_get f.held n) ≡ Some m)
      (same : same_id m.group group ≡ true) where
    parent_is : (ids : List Id) (t : ThreadValue) (replied : Option ℕ)
        → AreApart (map (λ (h : Held). h.id) f.held) → IsThreadOf clients f ids t
        → StandsAt f.held (replied_by clients f (held_at f.held id)) replied
        → parent_behind clients f ids id ≡ parent_among t.numbers replied
    parent_is ids t replied apart of stands =
        let o : Option Id = replied_by clients f (held_at f.held id) in
        ap (λ (xs : List Id). place_if xs o) (sym of.numbered)
        ∙ reply_same f.held apart t.numbers of.within o replied stands

    -- the tree with one more message
    pub put_in : (ids : List Id) (t : ThreadValue) (replied : Option ℕ)
        → AreApart (map (λ (h : Held). h.id) f.held) → IsThreadOf clients f ids t
        → StandsAt f.held (replied_by clients f (held_at f.held id)) replied
        → IsThreadOf clients f (with_delivered f group ids id) (with_number t n replied)
    put_in ids t replied apart of stands =
        let in_group : is_beside group (held_at f.held id) ≡ true =
        beside_is f.held group id n m true at said same in
        let there : with_delivered f group ids id ≡ ids ++ id ∷ [] =
        ap (λ (b : Bool). ids ++ cond b (id ∷ []) []) in_group in
        let named : id_at f.held n ≡ id = id_there f.held n at.message at.stands ∙ at.named in
        subst (λ (xs : List Id). IsThreadOf clients f xs (with_number t n replied)) (sym there)
        (record {
          numbered = map-append (id_at f.held) t.numbers (n ∷ [])
              ∙ ap (λ (xs : List Id). xs ++ id_at f.held n ∷ []) of.numbered
              ∙ ap (λ (x : Id). ids ++ x ∷ []) named;
          parents =
              ap (λ (ps : List (Option ℕ)). ps ++ parent_among t.numbers replied ∷ []) of.parents
              ∙ ap (λ (p : Option ℕ). parents_of clients f ids ++ p ∷ [])
              (sym (parent_is ids t replied apart of stands))
              ∙ sym (parents_push clients f [] ids id);
          sized = of.sized;
          within = all_push (λ k. k < length f.held) t.numbers n of.within at.within;
        })

  -- ---- message by message

  abbrev in_group : Id → Bool
  in_group id = is_beside group (held_at f.held id)

  pub none_yet : (t : ThreadValue) → t ≡ record { numbers = []; parents = []; held = length f.held }
      → IsThreadOf clients f (filter in_group (take 0 f.delivered)) t
  none_yet t is = subst (λ (x : ThreadValue). IsThreadOf clients f [] x) (sym is)
      (record { numbered = refl; parents = refl; sized = refl; within = tt })

  pub one_more : (k : ℕ) (old new : ThreadValue) → k < length f.delivered
      → IsThreadOf clients f (filter in_group (take k f.delivered)) old
      → ((ids : List Id) (id : Id) → slice_get f.delivered k ≡ Some id
      → IsThreadOf clients f ids old → IsThreadOf clients f (with_delivered f group ids id) new)
      → IsThreadOf clients f (filter in_group (take (k + 1) f.delivered)) new
  one_more k old new within of added =
      subst (λ (xs : List Id). IsThreadOf clients f xs new)
      (sym (filter_more in_group f.delivered k [] within))
      (added (filter in_group (take k f.delivered)) (get_or f.delivered k [])
      (slice_get-get_or f.delivered k [] within) of)

  pub all_in : (t : ThreadValue)
      → IsThreadOf clients f (filter in_group (take (length f.delivered) f.delivered)) t
      → IsThreadOf clients f (delivered_in f group) t
  all_in t of = subst (λ (xs : List Id). IsThreadOf clients f (filter in_group xs) t)
      (take_all (length f.delivered) f.delivered (omega arith)) of

-- ---- what the state keeps of the first dependencies

first_at : (held : List Held) (answers : List (Option Judgement)) (n : ℕ)
    (answer : Option Judgement)
    (d : Option ℕ) → slice_get answers n ≡ Some answer
    → get_or (map (λ a. number_held held (first_dependency a)) answers) n d ≡ number_held held
    (first_dependency answer)
first_at held [] n answer d at = absurd (let none : None ≡ Some answer = at in cc)
first_at held (a ∷ answers) zero answer d at =
    ap (λ (x : Option Judgement). number_held held (first_dependency x))
    (let is : a ≡ answer = cc in is)
first_at held (a ∷ answers) (suc n) answer d at = first_at held answers n answer d at

-- it is the number of a held message
held_within : (held : List Held) (o : Option Id) → IfSome (number_held held o)
    (λ m. m < length held)
held_within held None = tt
held_within held (Some id) = found_within (place_of held id) (place_found held id)
  where
    found_within : (found : Option ℕ) → IsFound held id found → IfSome found (λ m. m < length held)
    found_within None none = tt
    found_within (Some m) at = at.within

all_within : (held : List Held) (answers : List (Option Judgement)) (n : ℕ) → IfSome
    (get_or (map (λ a. number_held held (first_dependency a)) answers) n None) (λ m.
    m < length held)
all_within held [] n = tt
all_within held (a ∷ answers) zero = held_within held (first_dependency a)
all_within held (a ∷ answers) (suc n) = all_within held answers n

pub first_within : (s : StateValue) (firsts : List (Option ℕ)) (n : ℕ) (d : Option ℕ)
    → firsts ≡ firsts_of s → n < length firsts
    → IfSome (get_or firsts n d) (λ m. m < length s.facts.held)
first_within s firsts n d are within =
    subst (λ (o : Option ℕ). IfSome o (λ m. m < length s.facts.held))
    (sym (get_or_default firsts n d None within
    ∙ ap (λ (xs : List (Option ℕ)). get_or xs n None) are))
    (all_within s.facts.held s.answers n)

-- it stands where the first dependency of the verdict does
stands_held : (held : List Held) (o : Option Id) → StandsAt held o (number_held held o)
stands_held held None = refl
stands_held held (Some id) = place_found held id

map_at : {X Y : Type 0} (g : X → Y) (xs : List X) (n : ℕ) (x : X) → slice_get xs n ≡ Some x
    → slice_get (map g xs) n ≡ Some (g x)
map_at g [] n x at = absurd (let none : None ≡ Some x = at in cc)
map_at g (y ∷ xs) zero x at = let is : y ≡ x = cc in ap (λ z. Some (g z)) is
map_at g (y ∷ xs) (suc n) x at = map_at g xs n x at

among_at : (ids : List Id) (k : ℕ) (id : Id) → slice_get ids k ≡ Some id → is_among ids id ≡ true
among_at [] k id at = absurd (let none : None ≡ Some id = at in cc)
among_at (x ∷ ids) zero id at =
    let is : x ≡ id = cc in
    ap (λ (b : Bool). b || is_among ids id) (ap (λ (y : Id). same_id y id) is ∙ same_id_itself id)
among_at (x ∷ ids) (suc k) id at = or_true (same_id x id) (is_among ids id) (among_at ids k id at)
  where
    or_true : (b c : Bool) → c ≡ true → (b || c) ≡ true
    or_true true c t = refl
    or_true false c t = t

module _ (clients : Meaning) (s : StateValue) (knows : KnowsJudgements clients s) where
  judged_there : DeliversJudged s.facts → (k : ℕ) (id : Id) → slice_get s.facts.delivered k ≡ Some
      id → fin_set.contains s.facts.judged id ≡ true
  judged_there ended k id at =
      elim (fin_set.contains s.facts.judged id) as
      (λ b. fin_set.contains s.facts.judged id ≡ b → b ≡ true) [
        | true ↦ λ e. refl
        | false ↦ λ e. absurd (false≢true (sym (ended id e) ∙ among_at s.facts.delivered k id at))
      ] refl

  pub first_stands : DeliversJudged s.facts → (k n : ℕ) (id : Id) (firsts : List (Option ℕ))
      (d : Option ℕ) → firsts ≡ firsts_of s → slice_get s.facts.delivered k ≡ Some id
      → IsPlace s.facts.held id n
      → StandsAt s.facts.held (replied_by clients s.facts (held_at s.facts.held id))
      (get_or firsts n d)
  first_stands ended k n id firsts d are delivered at =
      let f : Facts = s.facts in
      let h : Held = at.message in
      let judged : fin_set.contains f.judged h.id ≡ true =
      ap (fin_set.contains f.judged) at.named ∙ judged_there ended k id delivered in
      let answer : answer_of clients f h ≡ Some (verdict_in clients f.groups h.message) =
      ap (λ (b : Bool). cond b (Some (verdict_in clients f.groups h.message)) None) judged in
      let there : slice_get s.answers n ≡ Some (answer_of clients f h) =
      ap (λ (xs : List (Option Judgement)). slice_get xs n) knows
      ∙ map_at (answer_of clients f) f.held n h at.stands in
      let first : get_or firsts n d ≡ number_held f.held
      (first_dependency_of (verdict_in clients f.groups h.message)) =
      ap (λ (xs : List (Option ℕ)). get_or xs n d) are
      ∙ first_at f.held s.answers n (answer_of clients f h) d there
      ∙ ap (λ (a : Option Judgement). number_held f.held (first_dependency a)) answer
      ∙ ap (number_held f.held) (first_is (verdict_in clients f.groups h.message)) in
      let replied : replied_by clients f (held_at f.held id) ≡ first_dependency_of
      (verdict_in clients f.groups h.message) = ap (replied_by clients f) at.first in
      subst (λ (o : Option Id). StandsAt f.held o (get_or firsts n d)) (sym replied)
      (subst (StandsAt f.held (first_dependency_of (verdict_in clients f.groups h.message)))
      (sym first)
      (stands_held f.held (first_dependency_of (verdict_in clients f.groups h.message))))
    where
      first_is : (j : Judgement) → first_dependency (Some j) ≡ first_dependency_of j
      first_is judgement.Refuse = refl
      first_is (judgement.Accept deps share) = refl
