use Rattle.std.proofs.Common.{◌≡◌, List, ℕ, drop, sym, ap, ◌∙◌}
use Rattle.std.specs.Prelude.{Some, None}
use Rattle.std.proofs.lemmas.List.{take_rest}
use Rattle.client_sharing.specs.declared.bodies.Saying.{Saying}
use Rattle.client_sharing.specs.Bodies.{def_of, stance_of}
use Rattle.client_sharing.proofs.Spelled.{saying_first, saying_no_def, saying_no_stance, saying_none, saying_short}
use Rattle.client_sharing.proofs.bodies.read_saying.Goals as goal

pub returns-in_default : goal.returns-in_default
returns-in_default c = saying_none c.args.body.now c.in_default.ensures.cases

pub returns-in_default-stance_of : goal.returns-in_default-stance_of
returns-in_default-stance_of c =
    saying_no_stance c.args.body.now c.in-Some.first.now c.in-Some.rest.now c.in-Some.ensures.cases.0 (sym c.stance_of.ensures ∙ c.in_default-stance_of.is)

pub returns-then-rest-lt-ID_LEN : goal.returns-then-rest-lt-ID_LEN
returns-then-rest-lt-ID_LEN c =
    saying_short c.args.body.now c.in-Some.first.now c.in-Some.rest.now c.in-Some.ensures.cases.0 c.if-rest-lt-ID_LEN.true

pub returns-in-Some-2 : goal.returns-in-Some-2
returns-in-Some-2 c =
    let rest : List ℕ = c.in-Some.rest.now in
    let join = c.in-Some-stance_of.join in
    let def = c.in-Some-2.def in
    let stance : stance_of c.in-Some.first.now ≡ Some join = sym c.stance_of.ensures ∙ c.in-Some-stance_of.is in
    let read : def_of (drop 32 rest) ≡ Some def = ap def_of (sym (take_rest rest 32)) ∙ (sym c.in_ok-def.ensures ∙ c.in-Some-2.is) in
    let said : List ℕ → Saying = λ id. record { join = join; previous = id; def = def } in
    ap (λ (id : List ℕ). Some (said id)) c.front_id.ensures
    ∙ saying_first c.args.body.now c.in-Some.first.now rest (Some join) (Some def) c.in-Some.ensures.cases.0 stance read

pub returns-in-None : goal.returns-in-None
returns-in-None c =
    let rest : List ℕ = c.in-Some.rest.now in
    let none : def_of (drop 32 rest) ≡ None = ap def_of (sym (take_rest rest 32)) ∙ (sym c.in_ok-def.ensures ∙ c.in-None.is) in
    saying_no_def c.args.body.now c.in-Some.first.now rest c.in-Some.ensures.cases.0 none
