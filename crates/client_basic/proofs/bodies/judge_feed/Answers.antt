-- What is left of the body after the id is the text.
use Rattle.std.proofs.Common.{◌≡◌, true, false, List, ℕ, take, drop, sym, ◌∙◌, ap}
use Rattle.std.specs.Str.{is_utf8}
use Rattle.std.proofs.lemmas.List.{take_rest}
use Rattle.client_basic.specs.Bodies.{previous_of}
use Rattle.client_basic.proofs.BodyLaws.{feed_refused, feed_accepted}
use Rattle.client_basic.proofs.bodies.judge_feed.Goals as goal

pub returns-then-not-is_text : goal.returns-then-not-is_text
returns-then-not-is_text c =
    let body : List ℕ = c.args.body.now in
    let text : is_utf8 (drop 32 body) ≡ false = ap is_utf8 (sym (take_rest body 32)) ∙ (sym c.is_text.ensures ∙ c.if-not-is_text.true) in
    feed_refused body c.if-body-lt-ID_LEN.false text

pub returns : goal.returns
returns c =
    let body : List ℕ = c.args.body.now in
    let text : is_utf8 (drop 32 body) ≡ true = ap is_utf8 (sym (take_rest body 32)) ∙ (sym c.is_text.ensures ∙ c.if-not-is_text.false) in
    let deps : c.in_ok-deps.deps ≡ previous_of (take 32 body) = c.in_ok-deps.ensures ∙ ap previous_of c.id_at.ensures in
    feed_accepted body c.in_ok-deps.deps c.if-body-lt-ID_LEN.false text deps
