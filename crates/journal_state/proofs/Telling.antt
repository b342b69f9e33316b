-- What is told of the held messages: one more step, and one more message with its steps.
use Rattle.std.proofs.Common.{◌≡◌, ℕ, zero, suc, ◌+◌, ◌<◌, ◌≤◌, Bool, true, false, cond, List, [], ◌∷◌, ◌++◌, length, map, take, drop, None, Some, is_some, refl, sym, ◌∙◌, ap, subst, arith, append_assoc, length-append}
use Rattle.std.specs.Prelude.{slice_get, slice_index_or}
use Rattle.std.specs.List.{AllByRecursion, list_all}
use Rattle.std.specs.Option.{option_map}
use Rattle.std.proofs.lemmas.Bool.{and_parts, or_parts}
use Rattle.std.proofs.lemmas.List.{map-append, take-append-drop, length-take}
use Rattle.sync_ids.specs.Ids.{message_id_of}
use Rattle.sync_rules.specs.declared.entries.Entry.{Entry}
use Rattle.sync_rules.specs.declared.entries.Entry.TheVariants as entry
use Rattle.sync_rules.specs.Clients.{Meaning}
use Rattle.sync_rules.specs.Facts.{Facts, Held, Id, Known, after, after_all, group_at, held_at, kept_as}
use Rattle.sync_rules.specs.Growth.{OnlySettles}
use Rattle.sync_rules.specs.Lists.{is_among, same_id}
use Rattle.sync_rules.specs.Steps.{IsSettled, next}
use Rattle.sync_rules.proofs.StepKinds.{settling_only}
use Rattle.brief_account.specs.Account.{account, settling_of, told_of}
use Rattle.brief_account.proofs.Cascades.{settling_more, settling_none}
use Rattle.message_graph.specs.declared.nodes.Step.{Step}
use Rattle.message_graph.specs.declared.nodes.Step.TheVariants as step
use Rattle.message_graph.specs.Nodes.{step_number}
use Rattle.journal_state.specs.declared.account.Told.{Told}
use Rattle.journal_state.specs.declared.account.Told.TheVariants as told
use Rattle.journal_state.specs.Holding.{IsOwnId}
use Rattle.journal_state.specs.Sound.{AreApart, IsSound}
use Rattle.journal_state.specs.Stepping.{entry_of}
use Rattle.journal_state.specs.Taking.{CanHold}
use Rattle.journal_state.specs.Telling.{TellsSteps, TellsTo, TellsWithin, kept_entry, no_message, told_entries, told_entry, told_number, told_step}
use Rattle.journal_state.specs.Whole.{StateValue, id_at}
use Rattle.sync_rules.proofs.Elements.{same_id_swap}

-- ---- a step

pub step_told : (held : List Held) (s : Step) → told_entry held (told_step s) ≡ entry_of (id_at held) s
step_told held (step.Judge n) = refl
step_told held (step.Invalid n) = refl
step_told held (step.Deliver n) = refl

pub step_number_told : (s : Step) → told_number (told_step s) ≡ step_number s
step_number_told (step.Judge n) = refl
step_number_told (step.Invalid n) = refl
step_number_told (step.Deliver n) = refl

-- ---- lists

append_none : {A : Type 0} (xs : List A) → xs ++ [] ≡ xs
append_none [] = refl
append_none (x ∷ xs) = ap (λ (ys : List _). x ∷ ys) (append_none xs)

within_push : (most : ℕ) (ts : List Told) (t : Told) → TellsWithin most ts → told_number t < most → TellsWithin most (ts ++ t ∷ [])
within_push most [] t all own = (own, tt)
within_push most (x ∷ ts) t all own = (all.0, within_push most ts t all.1 own)

within_append : (most : ℕ) (ts us : List Told) → TellsWithin most ts → TellsWithin most us → TellsWithin most (ts ++ us)
within_append most [] us a b = b
within_append most (t ∷ ts) us a b = (a.0, within_append most ts us a.1 b)

within_wider : (most more : ℕ) → most ≤ more → (ts : List Told) → TellsWithin most ts → TellsWithin more ts
within_wider most more le [] all = tt
within_wider most more le (t ∷ ts) all = ((let own : told_number t < most = all.0 in omega (arith, own, le)), within_wider most more le ts all.1)

-- ---- steps, one after the other

-- some of the steps that were open are made and told
pub record IsTelling (clients : Meaning) (old now : Facts) (before ts : List Told) : Type 0 where
  pub more : List Told
  pub parts : ts ≡ before ++ more
  pub steps : told_entries old.held more ++ settling_of clients now ≡ settling_of clients old
  pub facts : after_all now (settling_of clients now) ≡ after_all old (settling_of clients old)
  pub within : TellsWithin (length old.held) more
  pub groups : now.groups ≡ old.groups
  pub held : now.held ≡ old.held

pub telling_none : (clients : Meaning) (f : Facts) (ts : List Told) → IsTelling clients f f ts ts
telling_none clients f ts = record { more = []; parts = sym (append_none ts); steps = refl; facts = refl; within = tt; groups = refl; held = refl }

-- an entry in the middle of a list
between : (xs : List Entry) (e : Entry) (ys : List Entry) → (xs ++ e ∷ []) ++ ys ≡ xs ++ e ∷ ys
between xs e ys = append_assoc xs (e ∷ []) ys

pub telling_more : (clients : Meaning) (old now new : Facts) (before ts later : List Told) (t : Told) → IsTelling clients old now before ts
    → Some (told_entry now.held t) ≡ next clients now → told_number t < length now.held → new ≡ after now (told_entry now.held t) → later ≡ ts ++ t ∷ []
    → IsTelling clients old new before later
telling_more clients old now new before ts later t k is_next within made pushed =
    let e : Entry = told_entry now.held t in
    let only : OnlySettles now (after now e) = settling_only clients now (e ∷ []) (sym is_next, tt) in
    let as_told : told_entry old.held t ≡ e = ap (λ (hs : List Held). told_entry hs t) (sym k.held) in
    let rest : settling_of clients now ≡ e ∷ settling_of clients (after now e) = settling_more clients now e (sym is_next) in
    record {
      more = k.more ++ t ∷ [];
      parts = pushed ∙ (ap (λ (us : List Told). us ++ t ∷ []) k.parts ∙ append_assoc before k.more (t ∷ []));
      steps =
          (λ i. map-append (told_entry old.held) k.more (t ∷ []) i ++ settling_of clients (made i))
          ∙ (ap (λ (x : Entry). (told_entries old.held k.more ++ x ∷ []) ++ settling_of clients (after now e)) as_told
          ∙ (between (told_entries old.held k.more) e (settling_of clients (after now e))
          ∙ (ap (λ (es : List Entry). told_entries old.held k.more ++ es) (sym rest) ∙ k.steps)));
      facts =
          ap (λ (f : Facts). after_all f (settling_of clients f)) made
          ∙ (ap (after_all now) (sym rest) ∙ k.facts);
      within = within_push (length old.held) k.more t k.within (let long = ap (λ (hs : List Held). length hs) k.held in omega (arith, within, long));
      groups = ap (λ (f : Facts). f.groups) made ∙ (only.groups ∙ k.groups);
      held = ap (λ (f : Facts). f.held) made ∙ (only.held ∙ k.held);
    }

pub telling_done : (clients : Meaning) (old now : Facts) (before ts : List Told) → IsTelling clients old now before ts → IsSettled clients now
    → TellsSteps clients old now before ts
telling_done clients old now before ts k settled =
    let none : settling_of clients now ≡ [] = settling_none clients now settled in
    record {
      more = k.more;
      parts = k.parts;
      steps = sym (append_none (told_entries old.held k.more)) ∙ (ap (λ (es : List Entry). told_entries old.held k.more ++ es) (sym none) ∙ k.steps);
      facts = sym (ap (after_all now) none) ∙ k.facts;
      within = k.within;
      groups = k.groups;
      held = k.held;
    }

-- ---- held messages by number

pub held_there : (hs : List Held) (n : ℕ) → n < length hs → (h : Held) × (slice_get hs n ≡ Some h)
held_there [] n within = absurd (omega arith)
held_there (h ∷ hs) zero within = (h, refl)
held_there (h ∷ hs) (suc n) within = held_there hs n (omega arith)

-- what is shown of a message is so of it
pub shown_there : {A : Type 0} (f : Held → A) (hs : List Held) (n : ℕ) (h : Held) (x : A) → slice_get hs n ≡ Some h → option_map f (slice_get hs n) ≡ Some x → f h ≡ x
shown_there f hs n h x at shows = let both : Some (f h) ≡ Some x = sym (ap (option_map f) at) ∙ shows in let same : f h ≡ x = cc in same

all_there : (P : Held → Type 0) (hs : List Held) (n : ℕ) (h : Held) → slice_get hs n ≡ Some h → AllByRecursion P hs → P h
all_there P [] n h at all = absurd (let e : None ≡ Some h = at in cc)
all_there P (x ∷ hs) zero h at all = let is : x ≡ h = cc in subst P is all.0
all_there P (x ∷ hs) (suc n) h at all = all_there P hs n h at all.1

passes_there : (test : Held → Bool) (hs : List Held) (n : ℕ) (h : Held) → slice_get hs n ≡ Some h → list_all test hs ≡ true → test h ≡ true
passes_there test [] n h at all = absurd (let e : None ≡ Some h = at in cc)
passes_there test (x ∷ hs) zero h at all = let is : x ≡ h = cc in ap test (sym is) ∙ (and_parts (test x) (list_all test hs) all).0
passes_there test (x ∷ hs) (suc n) h at all = passes_there test hs n h at (and_parts (test x) (list_all test hs) all).1

abbrev ids : List Held → List Id
ids hs = map (λ (h : Held). h.id) hs

another_id : (hs : List Held) (n : ℕ) (h : Held) (id : Id) → slice_get hs n ≡ Some h → is_among (ids hs) id ≡ false → same_id h.id id ≡ false
another_id [] n h id at none = absurd (let e : None ≡ Some h = at in cc)
another_id (x ∷ hs) zero h id at none = let is : x ≡ h = cc in ap (λ (w : Held). same_id w.id id) (sym is) ∙ (or_parts (same_id x.id id) (is_among (ids hs) id) none).0
another_id (x ∷ hs) (suc n) h id at none = another_id hs n h id at (or_parts (same_id x.id id) (is_among (ids hs) id) none).1

-- a message is none of those before it
not_before : (hs : List Held) (n : ℕ) (h : Held) → slice_get hs n ≡ Some h → AreApart (ids hs) → held_at (take n hs) h.id ≡ None
not_before [] n h at apart = absurd (let e : None ≡ Some h = at in cc)
not_before (x ∷ hs) zero h at apart = refl
not_before (x ∷ hs) (suc n) h at apart =
    let away : same_id x.id h.id ≡ false = same_id_swap x.id h.id
    ∙ another_id hs n h x.id at apart.0 in
    ap (λ b. cond b (Some x) (held_at (take n hs) h.id)) away ∙ not_before hs n h at apart.1

one_taken : (hs : List Held) (n : ℕ) (h : Held) → slice_get hs n ≡ Some h → take (n + 1) hs ≡ take n hs ++ h ∷ []
one_taken [] n h at = absurd (let e : None ≡ Some h = at in cc)
one_taken (x ∷ hs) zero h at = let is : x ≡ h = cc in ap (λ (w : Held). w ∷ []) is
one_taken (x ∷ hs) (suc n) h at =
    let next_number : suc n + 1 ≡ suc (n + 1) = omega arith in
    ap (λ m. take m (x ∷ hs)) next_number ∙ ap (λ (ks : List Held). x ∷ ks) (one_taken hs n h at)

one_dropped : (hs : List Held) (n : ℕ) (h : Held) → slice_get hs n ≡ Some h → drop n hs ≡ h ∷ drop (n + 1) hs
one_dropped [] n h at = absurd (let e : None ≡ Some h = at in cc)
one_dropped (x ∷ hs) zero h at = let is : x ≡ h = cc in ap (λ (w : Held). w ∷ hs) is
one_dropped (x ∷ hs) (suc n) h at =
    let next_number : suc (n + 1) ≡ suc n + 1 = omega arith in
    one_dropped hs n h at ∙ ap (λ m. h ∷ drop m (x ∷ hs)) next_number

-- the message of a number may be held behind those before it
pub can_keep : (v : StateValue) → IsSound v → (other : Facts) (n : ℕ) (h : Held) → slice_get v.facts.held n ≡ Some h → n < length v.facts.held
    → other.groups ≡ v.facts.groups → other.held ≡ take n v.facts.held → CanHold other h.message
can_keep v s other n h at within groups held = record {
  known =
      ap (λ (gs : List Known). is_some (group_at gs h.message.group)) groups
      ∙ passes_there (λ (x : Held). is_some (group_at v.facts.groups x.message.group)) v.facts.held n h at s.known;
  new =
      ap (λ (hs : List Held). held_at hs (message_id_of h.message)) held
      ∙ (ap (held_at (take n v.facts.held)) (sym (own_there v s n h at)) ∙ not_before v.facts.held n h at s.distinct);
  few =
      let long = ap (λ (hs : List Held). length hs) held in
      let front = length-take n v.facts.held in
      let few = s.few in
      omega (arith, long, front, within, few);
}
  where
    own_there : (v : StateValue) → IsSound v → (n : ℕ) (h : Held) → slice_get v.facts.held n ≡ Some h → h.id ≡ message_id_of h.message
    own_there v s n h at = all_there IsOwnId v.facts.held n h at s.named

pub own_id : (v : StateValue) → IsSound v → (n : ℕ) (h : Held) → slice_get v.facts.held n ≡ Some h → h.id ≡ message_id_of h.message
own_id v s n h at = all_there IsOwnId v.facts.held n h at s.named

-- ---- what is told of fewer messages is told of more

at_front : {A : Type 0} (xs ys : List A) (n : ℕ) (d : A) → n < length xs → slice_index_or (xs ++ ys) n d ≡ slice_index_or xs n d
at_front [] ys n d within = absurd (omega arith)
at_front (x ∷ xs) ys zero d within = refl
at_front (x ∷ xs) ys (suc n) d within = at_front xs ys n d (omega arith)

many_ids : (hs : List Held) → length (ids hs) ≡ length hs
many_ids [] = refl
many_ids (h ∷ hs) = ap suc (many_ids hs)

id_front : (hs more : List Held) (n : ℕ) → n < length hs → id_at (hs ++ more) n ≡ id_at hs n
id_front hs more n within =
    ap (λ (is : List Id). slice_index_or is n []) (map-append (λ (h : Held). h.id) hs more)
    ∙ at_front (ids hs) (ids more) n [] (let many = many_ids hs in omega (arith, many, within))

told_front : (hs more : List Held) (t : Told) → told_number t < length hs → told_entry (hs ++ more) t ≡ told_entry hs t
told_front hs more (told.Kept n) within = ap kept_entry (at_front hs more n no_message within)
told_front hs more (told.Judged n) within = ap entry.Judged (id_front hs more n within)
told_front hs more (told.Deliver n) within = ap entry.Deliver (id_front hs more n within)
told_front hs more (told.Invalid n) within = ap entry.Invalid (id_front hs more n within)

all_front : (hs more : List Held) (ts : List Told) → TellsWithin (length hs) ts → told_entries (hs ++ more) ts ≡ told_entries hs ts
all_front hs more [] all = refl
all_front hs more (t ∷ ts) all = λ i. told_front hs more t all.0 i ∷ all_front hs more ts all.1 i

kept_at_number : (hs : List Held) (n : ℕ) (h : Held) → slice_get hs n ≡ Some h → slice_index_or hs n no_message ≡ h
kept_at_number [] n h at = absurd (let e : None ≡ Some h = at in cc)
kept_at_number (x ∷ hs) zero h at = let is : x ≡ h = cc in is
kept_at_number (x ∷ hs) (suc n) h at = kept_at_number hs n h at

-- ---- messages, one after the other

pub tells_none : (clients : Meaning) (f other : Facts) → account clients other f.held ≡ told_of clients f → other.groups ≡ f.groups → other.held ≡ []
    → TellsTo clients f other 0 []
tells_none clients f other same groups held = record { told = same; within = tt; groups = groups; held = held }

pub tells_all : (clients : Meaning) (f other : Facts) (count : ℕ) (ts : List Told) → TellsTo clients f other count ts → drop count f.held ≡ []
    → told_entries f.held ts ≡ told_of clients f
tells_all clients f other count ts k none =
    sym (append_none (told_entries f.held ts)) ∙ (ap (λ (hs : List Held). told_entries f.held ts ++ account clients other hs) (sym none) ∙ k.told)

module _ (clients : Meaning) (f other mid new : Facts) (n : ℕ) (h : Held) (ts pushed later : List Told) (k : TellsTo clients f other n ts)
    (at : slice_get f.held n ≡ Some h) (within : n < length f.held) (own : h.id ≡ message_id_of h.message) (kept : mid ≡ after other (kept_entry h))
    (push : pushed ≡ ts ++ told.Kept n ∷ []) (s : TellsSteps clients mid new pushed later) where
  mid_held : mid.held ≡ take (n + 1) f.held
  mid_held =
      let is : kept_as h.origin h.message ≡ h = (λ i. record { id = sym own i; message = h.message; origin = h.origin }) in
      ap (λ (g : Facts). g.held) kept
      ∙ ((λ i. k.held i ++ is i ∷ []) ∙ sym (one_taken f.held n h at))

  all_held : f.held ≡ mid.held ++ drop (n + 1) f.held
  all_held = sym (take-append-drop (n + 1) f.held) ∙ ap (λ (hs : List Held). hs ++ drop (n + 1) f.held) (sym mid_held)

  fewer : length mid.held ≤ length f.held
  fewer = let long = ap (λ (hs : List Held). length hs) all_held in let sum = length-append mid.held (drop (n + 1) f.held) in omega (arith, long, sum)

  steps_told : told_entries f.held s.more ≡ settling_of clients mid
  steps_told =
      ap (λ (hs : List Held). told_entries hs s.more) all_held
      ∙ (all_front mid.held (drop (n + 1) f.held) s.more s.within ∙ s.steps)

  parts_told : told_entries f.held later ≡ (told_entries f.held ts ++ kept_entry h ∷ []) ++ settling_of clients mid
  parts_told =
      ap (told_entries f.held) (s.parts ∙ ap (λ (us : List Told). us ++ s.more) push)
      ∙ (map-append (told_entry f.held) (ts ++ told.Kept n ∷ []) s.more
      ∙ ((λ i. map-append (told_entry f.held) ts (told.Kept n ∷ []) i ++ steps_told i)
      ∙ ap (λ (x : Held). (told_entries f.held ts ++ kept_entry x ∷ []) ++ settling_of clients mid) (kept_at_number f.held n h at)))

  -- what is left to tell begins with the message and its steps
  left_told : account clients other (drop n f.held) ≡ kept_entry h ∷ (settling_of clients mid ++ account clients new (drop (n + 1) f.held))
  left_told =
      ap (account clients other) (one_dropped f.held n h at)
      ∙ ((λ i. kept_entry h ∷ (settling_of clients (sym kept i) ++ account clients (after_all (sym kept i) (settling_of clients (sym kept i))) (drop (n + 1) f.held)))
      ∙ ap (λ (g : Facts). kept_entry h ∷ (settling_of clients mid ++ account clients g (drop (n + 1) f.held))) (sym s.facts))

  regrouped : (xs : List Entry) (e : Entry) (ys zs : List Entry) → ((xs ++ e ∷ []) ++ ys) ++ zs ≡ xs ++ e ∷ (ys ++ zs)
  regrouped xs e ys zs = append_assoc (xs ++ e ∷ []) ys zs ∙ between xs e (ys ++ zs)

  pub tells_more : TellsTo clients f new (n + 1) later
  tells_more = record {
    told =
        ap (λ (es : List Entry). es ++ account clients new (drop (n + 1) f.held)) parts_told
        ∙ (regrouped (told_entries f.held ts) (kept_entry h) (settling_of clients mid) (account clients new (drop (n + 1) f.held))
        ∙ (ap (λ (es : List Entry). told_entries f.held ts ++ es) (sym left_told) ∙ k.told));
    within =
        subst (TellsWithin (length f.held)) (sym (s.parts ∙ ap (λ (us : List Told). us ++ s.more) push))
        (within_append (length f.held) (ts ++ told.Kept n ∷ []) s.more (within_push (length f.held) ts (told.Kept n) k.within within)
        (within_wider (length mid.held) (length f.held) fewer s.more s.within));
    groups = s.groups ∙ (ap (λ (g : Facts). g.groups) kept ∙ k.groups);
    held = s.held ∙ mid_held;
  }
