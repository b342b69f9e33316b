-- A store that is migrated, and then settled.
use Rattle.std.proofs.Common.{◌≡◌, false, [], sym, ap, ◌∙◌, subst, inl}
use Rattle.std.proofs.Common.{inr, arith, Result, Ok, Err, IsErrOf}
use Rattle.outside.specs.Outside.{DiskRun, Outside}
use Rattle.sync_rules.specs.Clients.{Meaning}
use Rattle.sync_rules.specs.Facts.{Facts, after_batches}
use Rattle.sync_rules.specs.Legal.{AllSettling}
use Rattle.entry_codec.specs.declared.naming.Format.{Format}
use Rattle.entry_codec.specs.declared.naming.Format.TheVariants as kind
use Rattle.sync_store.specs.Migrations.{HasMigrated, IsSpent, AnswersMigrate}
use Rattle.sync_store.specs.Store.{StoreValue, format_meant, written_in}
use Rattle.sync_store.specs.declared.fault.StoreFault.{StoreFault}
use Rattle.sync_store.specs.declared.fault.StoreFault.TheVariants as fault
use Rattle.sync_store.proofs.Runs.{leads_both}
use Rattle.sync_words.specs.declared.outcome.Outcome.{Outcome}
use Rattle.sync_words.specs.declared.outcome.Outcome.TheVariants as outcome
use Rattle.store_commands.specs.Commit.{ComesAnew, MigratedBy, MigratesAs, SettledAnew, SettledBy}
use Rattle.store_commands.specs.Commit.{SettlesAs, short_file, short_generation}

-- ---- a migration

same_facts : (s s' : StoreValue) (result : Result (Unit {0}) StoreFault)
    → AnswersMigrate s s' result → s'.state.facts ≡ s.state.facts
same_facts s s' (Ok u) (inl stays) = ap (λ (v : StoreValue). v.state.facts) stays.1
same_facts s s' (Ok u) (inr moves) = ap (λ v. v.facts) moves.state
same_facts s s' (Err fault.Closed) so = absurd so
same_facts s s' (Err fault.Full) so = ap (λ (v : StoreValue). v.state.facts) so.1
same_facts s s' (Err fault.Memory) so = ap (λ (v : StoreValue). v.state.facts) so.1
same_facts s s' (Err fault.DiskFault) so = ap (λ (v : StoreValue). v.state.facts) so.1

same_limit : (s s' : StoreValue) (result : Result (Unit {0}) StoreFault)
    → AnswersMigrate s s' result → s'.limit ≡ s.limit
same_limit s s' (Ok u) (inl stays) = ap (λ (v : StoreValue). v.limit) stays.1
same_limit s s' (Ok u) (inr moves) = moves.limit
same_limit s s' (Err fault.Closed) so = absurd so
same_limit s s' (Err fault.Full) so = ap (λ (v : StoreValue). v.limit) so.1
same_limit s s' (Err fault.Memory) so = ap (λ (v : StoreValue). v.limit) so.1
same_limit s s' (Err fault.DiskFault) so = ap (λ (v : StoreValue). v.limit) so.1

-- a journal in format 2 stays in it
stays_short : (s s' : StoreValue) (result : Result (Unit {0}) StoreFault)
    → AnswersMigrate s s' result → written_in s ≡ kind.Short → written_in s' ≡ kind.Short
stays_short s s' (Ok u) (inl stays) short = ap written_in stays.1 ∙ short
stays_short s s' (Ok u) (inr moves) short = ap format_meant moves.format
stays_short s s' (Err fault.Closed) so short = absurd so
stays_short s s' (Err fault.Full) so short = ap written_in so.1 ∙ short
stays_short s s' (Err fault.Memory) so short = ap written_in so.1 ∙ short
stays_short s s' (Err fault.DiskFault) so short = ap written_in so.1 ∙ short

pub comes_migrated : (clients : Meaning) (s s' : StoreValue) (result : Result (Unit {0}) StoreFault)
    (o o' : Outside) → HasMigrated clients s s' result o o' → ComesAnew clients s s' o o' []
comes_migrated clients s s' result o o' has = record {
  settling = tt;
  facts = same_facts s s' result has.answer;
  limit = same_limit s s' result has.answer;
  short = stays_short s s' result has.answer;
  leads = has.leads;
}

-- a journal in format 2 is not one in format 1
not_spent : (s : StoreValue) → written_in s ≡ kind.Short → IsSpent s → ⊥
not_spent s short spent = let both : kind.Short ≡ kind.Whole = sym short ∙ spent.whole in cc

pub migrated_ok : (s s' : StoreValue) (u : Unit {0}) → s.closed ≡ false → AnswersMigrate s s' (Ok u)
    → MigratedBy s s' (Ok u)
migrated_ok s s' u still (inl stays) = (
  ap (λ (v : StoreValue). v.closed) stays.1 ∙ still,
  ap (λ (v : StoreValue). written_in v) stays.1 ∙ stays.0,
  not_spent s stays.0,
  ap (λ (v : StoreValue). v.generation) stays.1
      ∙ ap (λ (f : Format). short_generation f s.generation) (sym stays.0),
  ap (λ (v : StoreValue). v.file) stays.1 ∙ ap (λ (f : Format). short_file f s.file) (sym stays.0),
)
migrated_ok s s' u still (inr moves) = (
  moves.closed,
  ap format_meant moves.format,
  λ spent. omega (arith, moves.was.generation, spent.last),
  moves.generation ∙ ap (λ (f : Format). short_generation f s.generation) (sym moves.was.whole),
  moves.file ∙ ap (λ (f : Format). short_file f s.file) (sym moves.was.whole),
)

-- ---- and settling behind it

pub comes_settled : (clients : Meaning) (s s1 s2 : StoreValue) (o o1 o2 : Outside)
    (r1 r2 : Result (Unit {0}) Outcome) → s1.closed ≡ false → DiskRun o o1
    → MigratesAs clients s s1 o o1 r1
    → (settles : SettlesAs clients s1 s2 o1 o2 r2) → ComesAnew clients s s2 o o2 settles.more
comes_settled clients s s1 s2 o o1 o2 r1 r2 still run migrates settles = record {
  settling =
      subst (λ (f : Facts). AllSettling clients f settles.more) migrates.comes.facts
      settles.comes.settling;
  facts =
      settles.comes.facts ∙ ap (λ (f : Facts). after_batches f settles.more) migrates.comes.facts;
  limit = settles.comes.limit ∙ migrates.comes.limit;
  short = λ short. ap format_meant settles.comes.format ∙ migrates.comes.short short;
  leads =
      leads_both clients s s1 s2 o o1 o2 [] settles.more still run migrates.comes.leads
      settles.comes.leads;
}

pub settled_anew : (clients : Meaning) (s s1 s2 : StoreValue) (u : Unit {0})
    (r : Result (Unit {0}) Outcome) → MigratedBy s s1 (Ok u) → s2.format ≡ s1.format
    → s2.generation ≡ s1.generation → s2.file ≡ s1.file → SettledBy clients s2 r
    → SettledAnew clients s s2 r
settled_anew clients s s1 s2 u (Ok v) migrated format generation file settled = (
  settled.0,
  settled.1,
  ap format_meant format ∙ migrated.1,
  migrated.2,
  generation ∙ migrated.3,
  file ∙ migrated.4,
)
settled_anew clients s s1 s2 u (Err outcome.Memory) migrated format generation file settled = tt
settled_anew clients s s1 s2 u (Err outcome.DiskFault) migrated format generation file settled = tt
settled_anew clients s s1 s2 u (Err _) migrated format generation file settled = absurd settled

-- settling is never full
pub settled_unfull : (clients : Meaning) (s : StoreValue) (r : Result (Unit {0}) Outcome)
    → SettledBy clients s r → IsErrOf r outcome.Full → ⊥
settled_unfull clients s (Ok u) settled full = cc
settled_unfull clients s (Err outcome.Memory) settled full = cc
settled_unfull clients s (Err outcome.DiskFault) settled full = cc
settled_unfull clients s (Err _) settled full = absurd settled

pub migrated_anew_err : (clients : Meaning) (s s1 : StoreValue) (came : Outcome) → MigratedBy s s1
    (Err came) → SettledAnew clients s s1 (Err came)
migrated_anew_err clients s s1 outcome.Full migrated = migrated
migrated_anew_err clients s s1 outcome.Memory migrated = tt
migrated_anew_err clients s s1 outcome.DiskFault migrated = tt
migrated_anew_err clients s s1 _ migrated = absurd migrated
