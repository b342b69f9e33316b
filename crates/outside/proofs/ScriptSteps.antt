-- One more answer in a script, and one heard.
use Rattle.std.proofs.Common.{◌≡◌, ℕ, ◌+◌, ◌<◌, ◌≤◌, List, [], ◌∷◌, ◌++◌, length, drop, get_or, refl, sym, ap, ◌∙◌, subst, arith, length-drop, append_assoc, append-nil, zero, suc}
use Rattle.std.specs.Prelude.{All}
use Rattle.std.proofs.lemmas.List.{drop-drop, drop_all, drop_more, drop-append-le}
use Rattle.std.proofs.lemmas.List.Elements.{All-head, All-tail}
use Rattle.outside.specs.declared.answer.Answer.{Answer}
use Rattle.outside.specs.declared.answer.Answer.TheVariants as code
use Rattle.outside.specs.Script.{planned_from, planned_of, plan, plan_from, left_in, BringsBytes, IsPlaceIn, IsAnswerReady}
use Rattle.outside.specs.Links.{Planned, piece}
use Rattle.outside.specs.Planned.{pieces, plan_after}

pieces_full : (bytes : List ℕ) → 0 < length bytes → pieces bytes ≡ piece bytes ∷ []
pieces_full [] some = absurd (omega arith)
pieces_full (b ∷ bytes) some = refl

-- what is left of a piece where there are bytes at a place
piece_after : (at room : ℕ) (bytes : List ℕ) (rest : List Planned) → at < length bytes → plan_after room (pieces (drop at bytes) ++ rest) ≡ pieces (drop (at + room) bytes) ++ rest
piece_after at room bytes rest some =
    let full : 0 < length (drop at bytes) = omega (arith, length-drop at bytes) in
    ap (λ l. plan_after room (l ++ rest)) (pieces_full (drop at bytes) full) ∙ ap (λ l. pieces l ++ rest) (drop-drop room at bytes)

-- a part of the first answer is heard
part_heard : (at room : ℕ) (answer : Answer) (more : List Answer) → IsPlaceIn at (answer ∷ more) → room < left_in at answer
    → (plan_from (at + room) (answer ∷ more) ≡ plan_after room (plan_from at (answer ∷ more))) × IsPlaceIn (at + room) (answer ∷ more)
part_heard at room (code.Bytes bytes) more place part = (sym (piece_after at room bytes.items (plan more) place), omega (arith, part))
part_heard at room code.Idle more place part = absurd (omega (arith, part))
part_heard at room code.End more place part = absurd (omega (arith, part))
part_heard at room code.Fail more place part = absurd (omega (arith, part))

-- all that is left of it is heard
all_heard : (at room : ℕ) (answer : Answer) (more : List Answer) → IsPlaceIn at (answer ∷ more) → left_in at answer ≤ room
    → plan more ≡ plan_after room (plan_from at (answer ∷ more))
all_heard at room (code.Bytes bytes) more place all =
    let none : drop (at + room) bytes.items ≡ [] = drop_all (at + room) bytes.items (omega (arith, all)) in
    sym (piece_after at room bytes.items (plan more) place ∙ ap (λ l. pieces l ++ plan more) none)
all_heard at room code.Idle more place all = refl
all_heard at room code.End more place all = refl
all_heard at room code.Fail more place all = refl

plan_begins : (answers : List Answer) → plan_from 0 answers ≡ plan answers
plan_begins [] = refl
plan_begins (a ∷ answers) = refl

full_place : (answers : List Answer) → All BringsBytes answers → IsPlaceIn 0 answers
full_place [] full = refl
full_place (code.Bytes bytes ∷ rest) full = All-head BringsBytes (code.Bytes bytes) rest full
full_place (code.Idle ∷ rest) full = refl
full_place (code.End ∷ rest) full = refl
full_place (code.Fail ∷ rest) full = refl

full_from : (n : ℕ) (answers : List Answer) → All BringsBytes answers → All BringsBytes (drop n answers)
full_from zero answers full = full
full_from (suc n) [] full = full
full_from (suc n) (a ∷ answers) full = full_from n answers (All-tail BringsBytes a answers full)

-- the answers from a place on begin with the one there
opened : (answers : List Answer) (next : ℕ) (answer : Answer) → next < length answers → answer ≡ get_or answers next answer → drop next answers ≡ answer ∷ drop (next + 1) answers
opened answers next answer within is_there = drop_more answers next answer within ∙ ap (λ a. a ∷ drop (next + 1) answers) (sym is_there)

-- what is kept after an answer was heard
pub record IsBehind (answers : List Answer) (next at room next' at' : ℕ) : Type 0 where
  pub ready : IsAnswerReady next' at' answers
  pub script : plan_from at' (drop next' answers) ≡ plan_after room (plan_from at (drop next answers))

pub behind_part : (answers : List Answer) (next at room : ℕ) (answer : Answer) → IsAnswerReady next at answers → next < length answers → answer ≡ get_or answers next answer → room < left_in at answer
    → IsBehind answers next at room next (at + room)
behind_part answers next at room answer ready within is_there part =
    let open_is = opened answers next answer within is_there in
    let heard = part_heard at room answer (drop (next + 1) answers) (subst (IsPlaceIn at) open_is ready.place) part in
    record {
      ready = record { within = ready.within; place = subst (IsPlaceIn (at + room)) (sym open_is) heard.1; full = ready.full };
      script = ap (plan_from (at + room)) open_is ∙ heard.0 ∙ ap (λ l. plan_after room (plan_from at l)) (sym open_is);
    }

pub behind_all : (answers : List Answer) (next at room : ℕ) (answer : Answer) → IsAnswerReady next at answers → next < length answers → answer ≡ get_or answers next answer → left_in at answer ≤ room
    → IsBehind answers next at room (next + 1) 0
behind_all answers next at room answer ready within is_there all =
    let open_is = opened answers next answer within is_there in
    let heard = all_heard at room answer (drop (next + 1) answers) (subst (IsPlaceIn at) open_is ready.place) all in
    record {
      ready = record { within = omega (arith, within); place = full_place (drop (next + 1) answers) (full_from (next + 1) answers ready.full); full = ready.full };
      script = plan_begins (drop (next + 1) answers) ∙ heard ∙ ap (λ l. plan_after room (plan_from at l)) (sym open_is);
    }

pub behind_none : (answers : List Answer) (next at room : ℕ) → IsAnswerReady next at answers → length answers ≤ next → IsBehind answers next at room next at
behind_none answers next at room ready end =
    let none : drop next answers ≡ [] = drop_all next answers end in
    record { ready = ready; script = ap (plan_from at) none ∙ ap (λ l. plan_after room (plan_from at l)) (sym none) }

-- an answer more at the end
plan-push : (answers : List Answer) (answer : Answer) → plan (answers ++ answer ∷ []) ≡ plan answers ++ planned_of answer
plan-push [] answer = append-nil (planned_of answer)
plan-push (a ∷ answers) answer = ap (λ l. planned_of a ++ l) (plan-push answers answer) ∙ sym (append_assoc (planned_of a) (plan answers) (planned_of answer))

plan_from-push : (at : ℕ) (answers : List Answer) (answer : Answer) → IsPlaceIn at answers → plan_from at (answers ++ answer ∷ []) ≡ plan_from at answers ++ planned_of answer
plan_from-push at [] answer place = ap (λ n. planned_from n answer ++ []) place ∙ append-nil (planned_of answer)
plan_from-push at (a ∷ answers) answer place =
    ap (λ l. planned_from at a ++ l) (plan-push answers answer) ∙ sym (append_assoc (planned_from at a) (plan answers) (planned_of answer))

pub added : (answers answers' : List Answer) (next at : ℕ) (answer : Answer) (script : List Planned) → IsAnswerReady next at answers → answers' ≡ answers ++ answer ∷ []
    → plan_from at (drop next answers) ≡ script → plan_from at (drop next answers') ≡ script ++ planned_of answer
added answers answers' next at answer script ready more is_script =
    ap (λ l. plan_from at (drop next l)) more
    ∙ ap (plan_from at) (drop-append-le next answers (answer ∷ []) ready.within)
    ∙ plan_from-push at (drop next answers) answer ready.place
    ∙ ap (λ l. l ++ planned_of answer) is_script
