-- What the calls leave, over plain variables.
use Rattle.std.proofs.Common.{◌≡◌, ℕ, zero, suc, ◌+◌, List, [], ◌∷◌, ◌++◌, sym, ◌∙◌, ap, arith, Option, Some, None, Result, Ok, Err, OnOk, OnErr, slice_get, drop, append_assoc}
use Rattle.std.specs.Option.{option_map}
use Rattle.sync_rules.specs.declared.states.Fate as state
use Rattle.sync_rules.specs.Clients.{Meaning}
use Rattle.message_graph.specs.declared.nodes.Node.{Node}
use Rattle.message_graph.specs.declared.nodes.Judged.{Judged}
use Rattle.message_graph.specs.declared.nodes.Fate.{Fate}
use Rattle.message_graph.specs.declared.nodes.Step.{Step}
use Rattle.message_graph.specs.Nodes.{after_step, with_answer, fate_of}
use Rattle.journal_play.specs.declared.kept.Head.{Head}
use Rattle.journal_play.specs.declared.kept.Fresh.{Fresh}
use Rattle.journal_play.specs.Holding.{HeldHeads}
use Rattle.journal_play.specs.Playing.{Played, judged_of}
use Rattle.journal_play.specs.Keeping.{ended_as, head_line, IsJudged, open_line, open_text}

-- ---- results

pub on_ok : {T E A B : Type 0} (r : Result T E) → (A → B) → OnOk r A → OnOk r B
on_ok (Ok x) f a = f a
on_ok (Err e) f a = tt

pub on_both : {T E A B D : Type 0} (r : Result T E) → (A → B → D) → OnOk r A → OnOk r B → OnOk r D
on_both (Ok x) f a b = f a b
on_both (Err e) f a b = tt

pub either_way : {T E A B D : Type 0} (r : Result T E) → (A → D) → (B → D) → OnOk r A → OnErr r B → D
either_way (Ok x) f g a b = f a
either_way (Err e) f g a b = g b

-- ---- one step

pub end_is : (inside old : Played) (read h : Head) (new : HeldHeads) (text : List ℕ) (s : Step)
    (n : ℕ) (said : state.Fate) → inside ≡ old
    → new ≡ record { heads = inside.heads; nodes = after_step s inside.nodes } → text ≡ inside.text ++ head_line said read
    → slice_get old.heads n ≡ Some h → slice_get inside.heads n ≡ Some read
    → record inside { heads = new.heads; nodes = new.nodes; text = text } ≡ ended_as s said h old
end_is inside old read h new text s n said same is_new is_text at is_read =
    let both : Some read ≡ Some h = sym is_read ∙ ap (λ (p : Played). slice_get p.heads n) same ∙ at in
    let read_is : read ≡ h = cc in
    (λ i. record inside { heads = (is_new i).heads; nodes = (is_new i).nodes; text = is_text i })
    ∙ ap (ended_as s said read) same
    ∙ ap (λ (q : Head). ended_as s said q old) read_is

pub judge_is : (clients : Meaning) (inside old : Played) (just : Option Fresh) (one : Fresh)
    (answer : Judged) (new : HeldHeads) (n : ℕ) → inside ≡ old
    → just ≡ Some one → one.number ≡ n → new ≡ record { heads = inside.heads; nodes = with_answer n answer inside.nodes }
    → answer ≡ judged_of (clients.verdict inside.kind one.message)
    → IsJudged clients just n old (record inside { heads = new.heads; nodes = new.nodes })
judge_is clients inside old just one answer new n same held number is_new is_answer =
    let answer_path : answer ≡ judged_of (clients.verdict old.kind one.message) =
    is_answer ∙ ap (λ (p : Played). judged_of (clients.verdict p.kind one.message)) same in
    record {
      one = one;
      held = held;
      number = number;
      judged =
          (λ i. record inside { heads = (is_new i).heads; nodes = (is_new i).nodes })
          ∙ ap (λ (p : Played). record p { nodes = with_answer n answer p.nodes }) same
          ∙ ap (λ (a : Judged). record old { nodes = with_answer n a old.nodes }) answer_path;
    }

-- ---- the lines at the end

pending_at : (ms : List Head) (ns : List Node) (n : ℕ) (m : Head) (fate : Fate) → slice_get ms n ≡ Some m
    → option_map fate_of (slice_get ns n) ≡ Some fate
    → open_text (drop n ms) (drop n ns) ≡ open_line fate m ++ open_text (drop (suc n) ms) (drop (suc n) ns)
pending_at [] ns n m fate is at = absurd (let e : None ≡ Some m = is in cc)
pending_at (x ∷ ms) [] n m fate is at = absurd (let e : None ≡ Some fate = at in cc)
pending_at (x ∷ ms) (y ∷ ns) zero m fate is at =
    let e : fate_of y ≡ fate = cc in
    let here : x ≡ m = cc in
    (λ i. open_line (e i) (here i) ++ open_text ms ns)
pending_at (x ∷ ms) (y ∷ ns) (suc n) m fate is at = pending_at ms ns n m fate is at

pub pending_more : (start text more : List ℕ) (ms : List Head) (ns : List Node) (n : ℕ) (m : Head) (fate : Fate) → slice_get ms n ≡ Some m
    → option_map fate_of (slice_get ns n) ≡ Some fate → more ≡ text ++ open_line fate m
    → text ++ open_text (drop n ms) (drop n ns) ≡ start
    → more ++ open_text (drop (n + 1) ms) (drop (n + 1) ns) ≡ start
pending_more start text more ms ns n m fate is at add was =
    let next : n + 1 ≡ suc n = omega arith in
    (λ i. add i ++ open_text (drop (next i) ms) (drop (next i) ns))
    ∙ append_assoc text (open_line fate m) (open_text (drop (suc n) ms) (drop (suc n) ns))
    ∙ ap (λ t. text ++ t) (sym (pending_at ms ns n m fate is at))
    ∙ was
