-- Where the tests hold, a session may begin.
use Rattle.std.proofs.Common.{◌≡◌, ℕ, ◌<◌, true, false, List, refl, ap, ◌∙◌, arith, Some, None}
use Rattle.std.specs.Prelude.{if◌then◌else◌, nat_lt}
use Rattle.outside.specs.Outside.{Outside}
use Rattle.sync_rules.specs.declared.entries.Entry.{Entry}
use borrow.Author.Tests.{ltb-true}
use Rattle.sync_rules.specs.declared.limits.TheConstants.{MAX_SESSIONS}
use Rattle.sync_rules.specs.declared.states.Refused.TheVariants as refused
use Rattle.sync_rules.specs.Facts.{Facts}
use Rattle.sync_rules.specs.Clients.{Meaning}
use Rattle.sync_rules.proofs.StepKinds.{all_settling_only}
use Rattle.sync_store.specs.Store.{StoreValue}
use Rattle.store_commands.specs.Commit.{ComesAnew}
use Rattle.mailbox_commands.specs.Tests.{MayBeginWith, mailbox_test}

few_when : (f : Facts)
    → (if nat_lt f.begun MAX_SESSIONS then None else Some refused.TooManySessions) ≡ None
    → f.begun < MAX_SESSIONS
few_when f is =
    elim (nat_lt f.begun MAX_SESSIONS) as (λ b. nat_lt f.begun MAX_SESSIONS ≡ b
    → (if b then None else Some refused.TooManySessions) ≡ None → f.begun < MAX_SESSIONS) [
      | true ↦ λ less w. ltb-true f.begun MAX_SESSIONS less
      | false ↦ λ less w. absurd (let no : Some refused.TooManySessions ≡ None = w in cc)
    ] refl is

-- where the tests hold, a session may begin
pub tested_begins : (f : Facts) (contact : ℕ) → mailbox_test f contact ≡ None
    → MayBeginWith f contact
tested_begins f contact is =
    elim (nat_lt contact f.contacts) as (λ b. nat_lt contact f.contacts ≡ b
    → (if b then (if nat_lt f.begun MAX_SESSIONS then None else Some refused.TooManySessions)
    else Some refused.UnknownContact) ≡ None → MayBeginWith f contact) [
      | true ↦ λ known w. record { known = ltb-true contact f.contacts known; few = few_when f w }
      | false ↦ λ known w. absurd (let no : Some refused.UnknownContact ≡ None = w in cc)
    ] refl is

-- what the tests say of a session stays so while a journal is settled
pub still_begins : (clients : Meaning) (contact : ℕ) (s s1 : StoreValue) (o o1 : Outside)
    (more : List (List Entry))
    → MayBeginWith s.state.facts contact → ComesAnew clients s s1 o o1 more
    → MayBeginWith s1.state.facts contact
still_begins clients contact s s1 o o1 more may comes =
    let stay = all_settling_only clients s.state.facts more comes.settling in
    let same : s1.state.facts.contacts ≡ s.state.facts.contacts =
    ap (λ (f : Facts). f.contacts) comes.facts ∙ stay.contacts in
    let begun : s1.state.facts.begun ≡ s.state.facts.begun = ap (λ (f : Facts). f.begun) comes.facts
    ∙ stay.begun in
    record { known = omega (arith, may.known, same); few = omega (arith, may.few, begun) }
