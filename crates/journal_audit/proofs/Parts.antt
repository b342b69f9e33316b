-- What a change of a part of plain facts makes of the facts, and of what is known of the clients.
use Rattle.std.proofs.Common.{◌≡◌, ℕ, false, List, [], ◌∷◌, ◌++◌, map, Option, Some, None}
use Rattle.std.proofs.Common.{refl, sym, ◌∙◌, ap, subst, is_some}
use Rattle.std.specs.FinSet as fin_set
use Rattle.std.specs.List.{AllByRecursion, slice_get}
use Rattle.std.proofs.lemmas.Bool.{and_parts, false≢true}
use Rattle.sync_ids.specs.Values.{MessageValue}
use Rattle.sync_rules.specs.declared.states.Origin.{Origin}
use Rattle.sync_rules.specs.Clients.{Meaning}
use Rattle.sync_rules.specs.Facts.{Facts, Held, Id, Ids, Known, Wants, group_at, is_held, wanted_by_none}
use Rattle.sync_rules.specs.Steps.{verdict_in}
use Rattle.sync_rules.specs.Views.{IsFound, place_of}
use Rattle.sync_rules.proofs.Sound.{verdict_stays}
use Rattle.journal_audit.specs.declared.facts.PlainFacts.{PlainFacts}
use Rattle.journal_audit.specs.declared.messages.Line.{Line}
use Rattle.journal_audit.specs.Lines.{AreLines, Kept, delivered_in, delivered_line, held_in}
use Rattle.journal_audit.specs.Lines.{held_of, id_at, invalid_in, invalid_line, judged_in}
use Rattle.journal_audit.specs.Lines.{judged_line, line_changed}
use Rattle.journal_audit.specs.Plain.{AreGrouped, facts_of}
use Rattle.journal_audit.proofs.Lines.{delivered_push, delivered_same, flagged_push, id_at-get, invalid_more, judged_more, map_push, same_each, same_flagged, same_held, same_ids}
use Rattle.sync_rules.proofs.PlaceLaws.{place_found}
use Rattle.journal_audit.proofs.Places.{held_push}

-- an id that is not held has no place
pub no_place : (hs : List Held) (id : Id) → is_held hs id ≡ false → place_of hs id ≡ None
no_place hs id none = by (place_of hs id) refl where
  by : (o : Option ℕ) → place_of hs id ≡ o → place_of hs id ≡ None
  by None e = e
  by (Some n) e =
      let P : Option ℕ → Type 0 = λ o. IsFound hs id o in
      let place = subst P e (place_found hs id) in
      absurd (false≢true (sym none ∙ ap is_some place.first))

-- ---- messages

-- the facts by what messages give them
abbrev with_held : Facts → List Held → Ids → Ids → List Id → Facts
with_held f held judged invalid delivered = record f { held = held; judged = judged; invalid = invalid; delivered = delivered }

parts : (p : PlainFacts) (k : Kept) (held : List Held) (judged invalid : Ids) (delivered : List Id) → held_in k.lines ≡ held → judged_in k.lines ≡ judged → invalid_in k.lines ≡ invalid
    → delivered_in k ≡ delivered → facts_of (record p { messages = k }) ≡ with_held (facts_of p) held judged invalid delivered
parts p k held judged invalid delivered h j i d = λ x. with_held (facts_of p) (h x) (j x) (i x) (d x)

-- the delivered ids by the lines and the numbers
delivered_by : (k : Kept) (ls : List Line) (ns : List ℕ) → k.lines ≡ ls → k.delivered ≡ ns → delivered_in k ≡ map (id_at ls) ns
delivered_by k ls ns lines numbers = λ i. map (id_at (lines i)) (numbers i)

pub held_facts : (p : PlainFacts) (k : Kept) (w : Wants) (l : Line) → AreLines p.messages → k.lines ≡ p.messages.lines ++ l ∷ [] → k.delivered ≡ p.messages.delivered
    → l.judged ≡ false → l.invalid ≡ false → w ≡ wanted_by_none p.wants l.id
    → facts_of (record p { messages = k; wants = w }) ≡ record (facts_of p) { held = held_in p.messages.lines ++ held_of l ∷ []; wanted = wanted_by_none p.wants l.id }
held_facts p k w l are more same unjudged valid wanted =
    let ls = p.messages.lines in
    parts (record p { wants = w }) k (held_in ls ++ held_of l ∷ []) (judged_in ls) (invalid_in ls) (delivered_in p.messages)
    (ap held_in more ∙ held_push ls l)
    (ap judged_in more ∙ ap (λ ids. fin_set.from_list ids) (flagged_push (λ x. x.judged) ls l unjudged))
    (ap invalid_in more ∙ ap (λ ids. fin_set.from_list ids) (flagged_push (λ x. x.invalid) ls l valid))
    (delivered_by k (ls ++ l ∷ []) p.messages.delivered more same ∙ delivered_push ls l p.messages.delivered are.within)
    ∙ ap (λ (t : Wants). record (facts_of p) { held = held_in ls ++ held_of l ∷ []; wanted = t }) wanted

pub judged_facts : (p : PlainFacts) (k : Kept) (n : ℕ) (l : Line) → slice_get p.messages.lines n ≡ Some l → k.lines ≡ line_changed judged_line n p.messages.lines
    → k.delivered ≡ p.messages.delivered → facts_of (record p { messages = k }) ≡ record (facts_of p) { judged = fin_set.insert (judged_in p.messages.lines) l.id }
judged_facts p k n l at changed same =
    let ls = p.messages.lines in
    parts p k (held_in ls) (fin_set.insert (judged_in ls) l.id) (invalid_in ls) (delivered_in p.messages)
    (ap held_in changed ∙ same_held judged_line (λ x. refl) n ls)
    (ap judged_in changed ∙ judged_more n ls l at)
    (ap invalid_in changed ∙ ap (λ ids. fin_set.from_list ids) (same_flagged judged_line (λ x. x.invalid) (λ x. refl) (λ x. refl) n ls))
    (delivered_by k (line_changed judged_line n ls) p.messages.delivered changed same ∙ delivered_same (line_changed judged_line n ls) ls p.messages.delivered (same_ids judged_line (λ x. refl) n ls))

pub invalid_facts : (p : PlainFacts) (k : Kept) (n : ℕ) (l : Line) → slice_get p.messages.lines n ≡ Some l → k.lines ≡ line_changed invalid_line n p.messages.lines
    → k.delivered ≡ p.messages.delivered → facts_of (record p { messages = k }) ≡ record (facts_of p) { invalid = fin_set.insert (invalid_in p.messages.lines) l.id }
invalid_facts p k n l at changed same =
    let ls = p.messages.lines in
    parts p k (held_in ls) (judged_in ls) (fin_set.insert (invalid_in ls) l.id) (delivered_in p.messages)
    (ap held_in changed ∙ same_held invalid_line (λ x. refl) n ls)
    (ap judged_in changed ∙ ap (λ ids. fin_set.from_list ids) (same_flagged invalid_line (λ x. x.judged) (λ x. refl) (λ x. refl) n ls))
    (ap invalid_in changed ∙ invalid_more n ls l at)
    (delivered_by k (line_changed invalid_line n ls) p.messages.delivered changed same ∙ delivered_same (line_changed invalid_line n ls) ls p.messages.delivered (same_ids invalid_line (λ x. refl) n ls))

pub delivered_facts : (p : PlainFacts) (k : Kept) (n : ℕ) (l : Line) → slice_get p.messages.lines n ≡ Some l → k.lines ≡ line_changed delivered_line n p.messages.lines
    → k.delivered ≡ p.messages.delivered ++ n ∷ [] → facts_of (record p { messages = k }) ≡ record (facts_of p) { delivered = delivered_in p.messages ++ l.id ∷ [] }
delivered_facts p k n l at changed pushed =
    let ls = p.messages.lines in
    let ns = p.messages.delivered in
    parts p k (held_in ls) (judged_in ls) (invalid_in ls) (delivered_in p.messages ++ l.id ∷ [])
    (ap held_in changed ∙ same_held delivered_line (λ x. refl) n ls)
    (ap judged_in changed ∙ ap (λ ids. fin_set.from_list ids) (same_flagged delivered_line (λ x. x.judged) (λ x. refl) (λ x. refl) n ls))
    (ap invalid_in changed ∙ ap (λ ids. fin_set.from_list ids) (same_flagged delivered_line (λ x. x.invalid) (λ x. refl) (λ x. refl) n ls))
    (delivered_by k (line_changed delivered_line n ls) (ns ++ n ∷ []) changed pushed
    ∙ (delivered_same (line_changed delivered_line n ls) ls (ns ++ n ∷ []) (same_ids delivered_line (λ x. refl) n ls)
    ∙ (map_push ls ns n ∙ ap (λ (i : Id). map (id_at ls) ns ++ i ∷ []) (id_at-get ls n l at))))

-- ---- what clients say

abbrev IsAnswer : Meaning → List Known → Line → Type 0
IsAnswer clients groups l = l.answer ≡ verdict_in clients groups l.message

-- one group more
pub knows_group : (clients : Meaning) (groups groups' : List Known) (x : Known) (ls : List Line) → groups' ≡ groups ++ x ∷ [] → AreGrouped groups (held_in ls)
    → AllByRecursion (IsAnswer clients groups) ls → AllByRecursion (IsAnswer clients groups') ls
knows_group clients groups groups' x [] more grouped all = tt
knows_group clients groups groups' x (l ∷ ls) more grouped all =
    let parts = and_parts (is_some (group_at groups l.message.group)) _ grouped in (
      all.0 ∙ sym (ap (λ (gs : List Known). verdict_in clients gs l.message) more ∙ verdict_stays clients groups x l.message parts.0),
      knows_group clients groups groups' x ls more parts.1 all.1,
    )

all_push : (clients : Meaning) (groups : List Known) (ls : List Line) (l : Line) → AllByRecursion (IsAnswer clients groups) ls → IsAnswer clients groups l
    → AllByRecursion (IsAnswer clients groups) (ls ++ l ∷ [])
all_push clients groups [] l all is = (is, tt)
all_push clients groups (x ∷ ls) l all is = (all.0, all_push clients groups ls l all.1 is)

-- one message more
pub knows_push : (clients : Meaning) (groups : List Known) (ls ls' : List Line) (l : Line) → ls' ≡ ls ++ l ∷ [] → AllByRecursion (IsAnswer clients groups) ls → IsAnswer clients groups l
    → AllByRecursion (IsAnswer clients groups) ls'
knows_push clients groups ls ls' l more all is = subst (λ t. AllByRecursion (IsAnswer clients groups) t) (sym more) (all_push clients groups ls l all is)

-- a message of which something became
pub knows_changed : (clients : Meaning) (groups : List Known) (change : Line → Line) → ((l : Line) → (change l).answer ≡ l.answer) → ((l : Line) → (change l).message ≡ l.message)
    → (n : ℕ) (ls ls' : List Line) → ls' ≡ line_changed change n ls → AllByRecursion (IsAnswer clients groups) ls → AllByRecursion (IsAnswer clients groups) ls'
knows_changed clients groups change answer message n ls ls' changed all =
    subst (λ t. AllByRecursion (IsAnswer clients groups) t) (sym changed)
    (same_each change (IsAnswer clients groups) (λ l is. answer l ∙ is ∙ ap (verdict_in clients groups) (sym (message l))) n ls all)

-- ---- a message held

-- the facts with one message more under this id
abbrev pub with_message : PlainFacts → Id → Origin → MessageValue → Facts
with_message p id from m = record (facts_of p) { held = held_in p.messages.lines ++ record { id = id; message = m; origin = from } ∷ []; wanted = wanted_by_none p.wants id }
