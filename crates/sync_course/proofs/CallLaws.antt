-- What each call of a link's turn does, as a step of the course: one law for each, for any journal before and after.
use Rattle.std.proofs.Common.{◌≡◌, ℕ, ◌+◌, ◌*◌, true, List, [], ◌∷◌, ◌++◌, length, length-append, refl, sym, ◌∙◌, ap, subst, arith}
use Rattle.outside.specs.declared.host.Heard.{Heard}
use Rattle.outside.specs.declared.host.Heard.TheVariants as answer
use Rattle.sync_rules.specs.declared.entries.Entry.{Entry}
use Rattle.sync_rules.specs.Clients.{Meaning}
use Rattle.sync_course.specs.Events.{Event, asked_event, batches_of}
use Rattle.sync_course.specs.Links.{is_going}
use Rattle.sync_course.specs.LinkTurns.{Asks, Spot, LinkStep, StepOf, answered_spot}

-- the batches of a front, and the others
pub calls_parts : (bs front others : List (List Entry)) → bs ≡ front ++ others → 4 * length bs ≡ 4 * length (others ++ front)
calls_parts bs front others parts =
    let all : length bs ≡ length front + length others = ap (λ l. length l) parts ∙ length-append front others in
    let turned = length-append others front in
    omega (arith, all, turned)

module _ (clients : Meaning) (n session : ℕ) where
  -- a step at a place where this is done
  pub step_at : (p q : Spot) (e : Event) (doing : _) → p.doing ≡ doing → StepOf clients n session doing e p q → LinkStep clients n session p e q
  step_at p q e doing is s = subst (λ d. StepOf clients n session d e p q) (sym is) s

  -- ---- it asks

  pub asked_step : (given : Heard) (buf : List ℕ) (p : Spot) → is_going p.link.stands ≡ true
      → StepOf clients n session Asks (asked_event n given buf) p (answered_spot given buf p)
  asked_step (answer.Got k) buf p going = (refl, going, refl)
  asked_step _ buf p going = (refl, going, refl)

  pub asked_commits : (given : Heard) (buf : List ℕ) → batches_of (asked_event n given buf ∷ []) ≡ []
  asked_commits (answer.Got k) buf = refl
  asked_commits _ buf = refl
