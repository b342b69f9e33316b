-- The steps of a link, case by case: what a property of them owes in each.
use Rattle.std.proofs.Common.{◌≡◌, ℕ, zero, suc, true, false, List, [], ◌∷◌, ◌∙◌, sym, ap, subst}
use Rattle.std.proofs.Common.{inl, inr}
use Rattle.outside.specs.Links.{got, idle, ended}
use Rattle.record_grammar.specs.declared.stream.Item.{Item}
use Rattle.record_grammar.specs.declared.stream.Item.TheVariants as item
use Rattle.sync_ids.specs.declared.records.Record.{Record}
use Rattle.sync_rules.specs.declared.entries.Entry.{Entry}
use Rattle.sync_rules.specs.declared.entries.Out.{Out}
use Rattle.sync_rules.specs.Clients.{Meaning}
use Rattle.sync_rules.specs.Facts.{after_all, session_at}
use Rattle.sync_rules.specs.Legal.{Allowed, IsDue, IsSettlingBatch}
use Rattle.sync_rules.specs.Steps.{IsSettled}
use Rattle.sync_course.specs.declared.TheConstants.{MAX_OUTPUTS}
use Rattle.sync_course.specs.Events.{Event, Commit, Hear, Miss, Read, Break, Pass}
use Rattle.sync_course.specs.Links.{is_going, is_sent_to}
use Rattle.sync_course.specs.LinkTurns.{Asks, Takes, Waits, Sends, Puts, Done, Doing, IsEnough}
use Rattle.sync_course.specs.LinkTurns.{LinkStep, PassesItem, SendsNext, Spot, StepOf, TakesNext}
use Rattle.sync_course.specs.LinkTurns.{all_taken_spot, failed_spot, heard_spot, next_take}
use Rattle.sync_course.specs.LinkTurns.{out_batch, out_spot, taken_spot}

-- a spot at which the link does this
abbrev pub does : Doing → Spot → Spot
does doing p = record p { doing = doing }

module _ (clients : Meaning) (n session : ℕ) (p : Spot) (T : Doing → Event → Spot → Type 0) where
  -- a property of what was done, the event, and the spot behind it, for each step of a link
  pub record LinkCases : Type 0 where
    pub hears : (bytes : List ℕ) → is_going p.link.stands ≡ true
        → T Asks (Hear n (got bytes)) (heard_spot (got bytes) p)
    pub idles : is_going p.link.stands ≡ true → T Asks (Hear n idle) (does Waits p)
    pub ends : is_going p.link.stands ≡ true → T Asks (Hear n ended) (heard_spot ended p)
    pub misses : is_going p.link.stands ≡ true → T Asks (Miss n) (failed_spot p)
    pub unasked : is_going p.link.stands ≡ false → T Asks Pass (does Waits p)
    pub settles : (its : List Item) (b : List Entry) → IsSettlingBatch clients p.facts b
        → T (Takes its) (Commit b) (record (does (Takes its) p) { facts = after_all p.facts b })
    pub takes : (place : ℕ) (r : Record) (its : List Item)
        → Allowed clients p.facts (next_take p.facts session r)
        → T (Takes (item.One place r ∷ its)) (Commit (next_take p.facts session r))
        (taken_spot place r its (next_take p.facts session r) p)
    pub skips : (place type_byte len : ℕ) (its : List Item)
        → T (Takes (item.Skipped place type_byte len ∷ its)) Pass (does (Takes its) p)
    pub all_taken : IsSettled clients p.facts → T (Takes []) Pass (all_taken_spot p)
    pub reads : (now : ℕ) → is_sent_to p.link.stands ≡ true
        → T Waits (Read n now) (does (Sends now MAX_OUTPUTS) p)
    pub closed : is_sent_to p.link.stands ≡ false → T Waits Pass (does Done p)
    pub puts : (now room : ℕ) (what : Out)
        → IsDue clients p.facts (session_at p.facts.sessions session) now what
        → Allowed clients p.facts (out_batch session now what)
        → T (Sends now (suc room)) (Commit (out_batch session now what))
        (out_spot now room (out_batch session now what) p)
    pub enough : (now room : ℕ) → IsEnough clients p.facts session now room
        → T (Sends now room) Pass (does Done p)
    pub put : (now room : ℕ) → T (Puts now room) Pass (does (Sends now room) p)
    pub breaks : (now room : ℕ) → T (Puts now room) (Break n) (failed_spot p)

  module _ (cases : LinkCases) where
    to : {doing : Doing} {e : Event} {q r : Spot} → q ≡ r → T doing e r → T doing e q
    to {doing = doing} {e = e} same t = subst (T doing e) (sym same) t

    on_it : {doing : Doing} {on : ℕ} {q r : Spot} (e : ℕ → Event) → on ≡ n → q ≡ r
        → T doing (e n) r → T doing (e on) q
    on_it {doing = doing} {q = q} e here same t =
        subst (λ k. T doing (e k) q) (sym here) (to same t)

    by_batch : {doing : Doing} {b c : List Entry} {q : Spot} (r : List Entry → Spot) → b ≡ c
        → q ≡ r b → T doing (Commit c) (r c) → T doing (Commit b) q
    by_batch {doing = doing} {q = q} r is same t =
        subst (λ x. T doing (Commit x) q) (sym is) (to (same ∙ ap r is) t)

    by_take : (its : List Item) (b : List Entry) (q : Spot)
        → TakesNext clients session its b (does (Takes its) p) q → T (Takes its) (Commit b) q
    by_take [] b q s = absurd s
    by_take (item.Skipped place type_byte len ∷ its) b q s = absurd s
    by_take (item.One place r ∷ its) b q s =
        by_batch (λ x. taken_spot place r its x p) s.0 s.2
        (cases.takes place r its (subst (Allowed clients p.facts) s.0 s.1))

    by_pass : (its : List Item) (q : Spot) → IsSettled clients p.facts
        → PassesItem its (does (Takes its) p) q → T (Takes its) Pass q
    by_pass [] q settled s = to s (cases.all_taken settled)
    by_pass (item.One place r ∷ its) q settled s = absurd s
    by_pass (item.Skipped place type_byte len ∷ its) q settled s =
        to s (cases.skips place type_byte len its)

    by_send : (now room : ℕ) (b : List Entry) (q : Spot)
        → SendsNext clients session now room b (does (Sends now room) p) q
        → T (Sends now room) (Commit b) q
    by_send now zero b q s = absurd s
    by_send now (suc room) b q s =
        by_batch (λ x. out_spot now room x p) s.is s.leads
        (cases.puts now room s.what s.is_due (subst (Allowed clients p.facts) s.is s.allowed))

    by_case : (doing : Doing) (e : Event) (q : Spot) → StepOf clients n session doing e
        (does doing p) q
        → T doing e q
    by_case Asks (Hear on (got bytes)) q s =
        on_it (λ k. Hear k (got bytes)) s.0 s.2 (cases.hears bytes s.1)
    by_case Asks (Hear on idle) q s = on_it (λ k. Hear k idle) s.0 s.2 (cases.idles s.1)
    by_case Asks (Hear on ended) q s = on_it (λ k. Hear k ended) s.0 s.2 (cases.ends s.1)
    by_case Asks (Miss on) q s = on_it Miss s.0 s.2 (cases.misses s.1)
    by_case Asks Pass q s = to s.1 (cases.unasked s.0)
    by_case (Takes its) (Commit b) q s =
        elim s [
          | inl settles ↦ to settles.1 (cases.settles its b settles.0)
          | inr takes ↦ by_take its b q takes
        ]
    by_case (Takes its) Pass q s = by_pass its q s.0 s.1
    by_case Waits (Read on now) q s = on_it (λ k. Read k now) s.0 s.2 (cases.reads now s.1)
    by_case Waits Pass q s = to s.1 (cases.closed s.0)
    by_case (Sends now room) (Commit b) q s = by_send now room b q s
    by_case (Sends now room) Pass q s = to s.1 (cases.enough now room s.0)
    by_case (Puts now room) Pass q s = to s (cases.put now room)
    by_case (Puts now room) (Break on) q s = on_it Break s.0 s.1 (cases.breaks now room)
    by_case _ _ q s = absurd s

    pub link_by_cases : (q : Spot) (e : Event) → LinkStep clients n session p e q → T p.doing e q
    link_by_cases q e s = by_case p.doing e q s

-- an event that is of no call of the link of this number
abbrev pub Spares : ℕ → Event → Type 0
Spares i (Hear on reply) = on ≡ i → ⊥
Spares i (Miss on) = on ≡ i → ⊥
Spares i (Read on now) = on ≡ i → ⊥
Spares i (Break on) = on ≡ i → ⊥
Spares i _ = Unit {0}

-- a step of a link is of no call of another one
pub link_spares : (clients : Meaning) (n session i : ℕ) (p q : Spot) (e : Event) → (i ≡ n → ⊥)
    → LinkStep clients n session p e q → Spares i e
link_spares clients n session i p q e other s = by_doing p.doing e s
  where
    by_doing : (doing : Doing) (e : Event) → StepOf clients n session doing e p q → Spares i e
    by_doing Asks (Hear on reply) s = λ same. other (sym same ∙ s.0)
    by_doing Asks (Miss on) s = λ same. other (sym same ∙ s.0)
    by_doing Waits (Read on now) s = λ same. other (sym same ∙ s.0)
    by_doing (Puts now room) (Break on) s = λ same. other (sym same ∙ s.0)
    by_doing _ (Commit b) s = tt
    by_doing _ Pass s = tt
    by_doing _ _ s = absurd s
