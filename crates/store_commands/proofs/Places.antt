-- The lines of `inbox` stay at their places.
use Rattle.std.proofs.Common.{◌≡◌, ℕ, zero, suc, ◌+◌, ◌≤◌, true, false, ◌||◌, List, [], ◌∷◌, ◌++◌}
use Rattle.std.proofs.Common.{Option, Some, None, is_some, length, take, drop, refl, sym, subst, ap, ◌∙◌}
use Rattle.std.proofs.Common.{arith}
use Rattle.std.specs.List.{AllByRecursion, flat_map}
use Rattle.std.proofs.Math.Bool.{or-true}
use Rattle.sync_rules.specs.Clients.{Meaning}
use Rattle.sync_rules.specs.Facts.{ExtendsJournal, Facts, Held, Id, Journal, facts, held_at, is_held}
use Rattle.sync_rules.specs.Growth.{ContinuesFacts}
use Rattle.sync_rules.specs.Legal.{Legal}
use Rattle.sync_rules.specs.Lists.{is_among, same_id}
use Rattle.sync_rules.specs.Steps.{IsSettled}
use Rattle.sync_rules.proofs.Continuing.{continues_journals, legal-front}
use Rattle.sync_rules.proofs.ConsistencyLaws.{legal_consistent}
use Rattle.sync_rules.proofs.Elements.{same_id_itself}
use Rattle.brief_account.specs.Brief.{brief}
use Rattle.brief_account.proofs.BriefLaws.{brief_keeps}
use Rattle.store_commands.specs.Shown.{delivered_line, inbox_from}

-- the line of a delivered message, by the held ones
abbrev line : Facts → Id → List ℕ
line f id = delivered_line (held_at f.held id)

-- these messages are held
abbrev AreHeld : Facts → List Id → Type 0
AreHeld f ids = AllByRecursion (λ id. is_held f.held id ≡ true) ids

abbrev KeepsHeld : Facts → Facts → Type 0
KeepsHeld f g = (id : Id) (h : Held) → held_at f.held id ≡ Some h → held_at g.held id ≡ Some h

-- ---- which are held

first_among : (x : Id) (ids : List Id) → is_among (x ∷ ids) x ≡ true
first_among x ids = ap (λ b. b || is_among ids x) (same_id_itself x)

later_among : (x : Id) (ids : List Id) (id : Id) → is_among ids id ≡ true
    → is_among (x ∷ ids) id ≡ true
later_among x ids id e = ap (λ b. same_id x id || b) e ∙ or-true (same_id x id)

all_held : (f : Facts) (ids : List Id)
    → ((id : Id) → is_among ids id ≡ true → is_held f.held id ≡ true) → AreHeld f ids
all_held f [] each = tt
all_held f (x ∷ ids) each =
    (each x (first_among x ids), all_held f ids (λ id e. each id (later_among x ids id e)))

held_behind : (f : Facts) (n : ℕ) (ids : List Id) → AreHeld f ids → AreHeld f (drop n ids)
held_behind f zero ids all = all
held_behind f (suc n) [] all = tt
held_behind f (suc n) (x ∷ ids) all = held_behind f n ids all.1

held_front : (f : Facts) (n : ℕ) (ids : List Id) → AreHeld f ids → AreHeld f (take n ids)
held_front f zero ids all = tt
held_front f (suc n) [] all = tt
held_front f (suc n) (x ∷ ids) all = (all.0, held_front f n ids all.1)

-- ---- their lines

line_same : (f g : Facts) → KeepsHeld f g → (id : Id) → is_held f.held id ≡ true
    → (o : Option Held) → held_at f.held id ≡ o → line g id ≡ line f id
line_same f g keeps id held None e = absurd (let it : false ≡ true = sym (ap is_some e) ∙ held in cc)
line_same f g keeps id held (Some h) e =
    ap delivered_line (keeps id h e ∙ sym e)

lines_same : (f g : Facts) → KeepsHeld f g → (ids : List Id) → AreHeld f ids
    → flat_map (line g) ids ≡ flat_map (line f) ids
lines_same f g keeps [] all = refl
lines_same f g keeps (id ∷ ids) all =
    ap (λ z. z ++ flat_map (line g) ids) (line_same f g keeps id all.0 _ refl)
    ∙ ap (λ z. line f id ++ z) (lines_same f g keeps ids all.1)

-- ---- a part of a list that goes on

part_of : (from count : ℕ) (xs more : List Id) → from + count ≤ length xs
    → take count (drop from (xs ++ more)) ≡ take count (drop from xs)
part_of zero zero xs more within = refl
part_of zero (suc count) [] more within = absurd (omega arith)
part_of zero (suc count) (x ∷ xs) more within =
    ap (λ z. x ∷ z) (part_of zero count xs more (omega arith))
part_of (suc from) zero [] more within = absurd (omega arith)
part_of (suc from) (suc count) [] more within = absurd (omega arith)
part_of (suc from) count (x ∷ xs) more within = part_of from count xs more (omega arith)

pub lines_stay : (clients : Meaning) (j before : Journal) (from count : ℕ)
    → ExtendsJournal j before → Legal clients j → from + count ≤ length (facts before).delivered
    → inbox_from (facts j) from count ≡ inbox_from (facts before) from count
lines_stay clients j before from count extends legal within =
    let f = facts before in
    let g = facts j in
    let goes : ContinuesFacts f g = continues_journals j before extends in
    let front = legal-front clients before extends.0
    (subst (λ (k : Journal). Legal clients k) extends.1 legal) in
    let fits = legal_consistent clients before front in
    let all : AreHeld f f.delivered =
    all_held f f.delivered
    (λ id e. fits.ends.judged_held id (fits.ends.delivered_judged id e)) in
    ap (λ ids. flat_map (line g) (take count (drop from ids))) goes.delivered.goes_on
    ∙ ap (flat_map (line g)) (part_of from count f.delivered goes.delivered.more within)
    ∙ lines_same f g goes.same_held (take count (drop from f.delivered))
    (held_front f count (drop from f.delivered) (held_behind f from f.delivered all))

-- a brief account has the same messages, and has delivered the same
pub account_keeps_lines : (clients : Meaning) (j : Journal) (from count : ℕ) → Legal clients j
    → IsSettled clients (facts j)
    → inbox_from (facts (brief j)) from count ≡ inbox_from (facts j) from count
account_keeps_lines clients j from count legal settled =
    let same = (brief_keeps clients j legal settled).same in
    ap (λ (f : Facts). inbox_from f from count) same
