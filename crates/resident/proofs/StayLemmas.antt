-- What stands behind the calls of a node that stays.
use Rattle.std.proofs.Common.{◌≡◌, ℕ, List, true, false, refl, sym, ap, ◌∙◌, subst, inl, inr}
use Rattle.std.proofs.Common.{Option, None, Some}
use Rattle.std.specs.Prelude.{◌⊎◌, IfSome}
use Rattle.outside.specs.Files.{File, Two}
use Rattle.outside.specs.Links.{Links}
use Rattle.outside.specs.Outside.{Outside}
use Rattle.sync_rules.specs.Clients.{Meaning}
use Rattle.sync_store.specs.Ready.{IsReady}
use Rattle.sync_store.specs.Store.{StoreValue}
use Rattle.sync_words.specs.declared.outcome.Outcome.{Outcome}
use Rattle.sync_words.specs.declared.outcome.Outcome.TheVariants as outcome
use Rattle.store_commands.specs.Serving.{IsReadyToServe, IsServed, LeavesSessions}
use Rattle.store_commands.specs.Serving.{LeavesSessionsBy}
use Rattle.store_commands.proofs.Serving.{ready_now}
use Rattle.sync_node.specs.Node.{AsideValue}
use Rattle.sync_node.proofs.AsideLaws.{aside_over}
use Rattle.node_service.specs.declared.node.Reply.{Reply}
use Rattle.node_life.specs.Leaving.{WordsLeave}
use Rattle.node_life.specs.Requests.{StaysReady}
use Rattle.resident.specs.declared.resident.Resident.{Resident}
use Rattle.resident.specs.Staying.{EndsBefore, MayStay, RunsBeside, Stays, era_behind}

-- a node that goes on holds a store that is ready
pub ready_after : (clients : Meaning) (s : StoreValue) (o : Outside) (reply : Reply)
    → StaysReady clients s o reply → reply.ends ≡ false → IsReadyToServe clients s o
ready_after clients s o reply (inl failed) goes_on =
    absurd (let both : true ≡ false = sym failed.1 ∙ goes_on in cc)
ready_after clients s o reply (inr ready) goes_on = ready

-- ---- calls of the host that leave the disk as it is

-- leave the store ready
pub ready_over : (clients : Meaning) (s : StoreValue) (o o' : Outside) → o'.files ≡ o.files
    → IsReadyToServe clients s o → IsReadyToServe clients s o'
ready_over clients s o o' files ready =
    ready_now clients s o'
    (subst (λ (fs : Option (Two File)). IsReady clients s fs) (sym files) ready.loaded.opened.ready)
    ready.loaded.opened.limited ready.short

pub served_over : (clients : Meaning) (s : StoreValue) (o o' : Outside) → o'.files ≡ o.files
    → IsServed clients s o → IsServed clients s o'
served_over clients s o o' files served = record {
  ready = ready_over clients s o o' files served.ready;
  settled = served.settled;
}

-- and, where they leave the number of links too, the node as it was
pub era_over : (era : Option AsideValue) (s : StoreValue) (o o' : Outside)
    → o'.links.dialled ≡ o.links.dialled → IfSome era (λ a. RunsBeside a s o)
    → IfSome era (λ a. RunsBeside a s o')
era_over None s o o' dialled runs = tt
era_over (Some a) s o o' dialled runs = record {
  still_open = runs.still_open;
  sessions = runs.sessions;
  dialled = dialled ∙ runs.dialled;
}

pub may_stay_over : (clients : Meaning) (r : Resident) (o o' : Outside) → o'.files ≡ o.files
    → o'.links.dialled ≡ o.links.dialled → MayStay clients r o → MayStay clients r o'
may_stay_over clients r o o' files dialled may = λ still_open.
    let stays = may still_open in
    record {
      ready = ready_over clients r.store o o' files stays.ready;
      era = era_over r.aside r.store o o' dialled stays.era;
    }

-- ---- behind a request

-- the store that its words left to it
pub ends_store : (words : List ℕ) (r r' : Resident) → EndsBefore words r r' → r'.store ≡ r.store
ends_store words r r' (inl ends) = ap (λ (x : Resident). x.store) ends
ends_store words r r' (inr goes_on) = ap (λ (x : Resident). x.store) goes_on.0

-- the era over a store whose sessions were left as they were
era_left : (e : Option AsideValue) (s s' : StoreValue) (o o' : Outside)
    → IfSome e (λ a. RunsBeside a s o) → LeavesSessions s s' → o'.links ≡ o.links
    → IfSome e (λ a. RunsBeside a s' o')
era_left None s s' o o' runs leaves links = tt
era_left (Some a) s s' o o' runs leaves links = record {
  still_open = runs.still_open;
  sessions = aside_over a s s' leaves.sessions leaves.begun runs.sessions;
  dialled = ap (λ (l : Links). l.dialled) links ∙ runs.dialled;
}

era_came : (came : Outcome) (e : Option AsideValue) (s s' : StoreValue) (o o' : Outside)
    → IfSome e (λ a. RunsBeside a s o) → LeavesSessionsBy s s' came → o'.links ≡ o.links
    → IfSome (era_behind came e) (λ a. RunsBeside a s' o')
era_came outcome.DiskFault e s s' o o' runs leaves links = tt
era_came _ e s s' o o' runs leaves links = era_left e s s' o o' runs leaves links

none_behind : (came : Outcome) → era_behind came None ≡ None
none_behind outcome.DiskFault = refl
none_behind _ = refl

module _ (clients : Meaning) (words : List ℕ) (r r1 : Resident) (s' : StoreValue) (o o' : Outside)
    (reply : Reply) where
  era_answered : Stays clients r o → EndsBefore words r r1
      → (WordsLeave words → LeavesSessionsBy r1.store s' reply.came)
      → (WordsLeave words → o'.links ≡ o.links)
      → IfSome (era_behind reply.came r1.aside) (λ a. RunsBeside a s' o')
  era_answered stays (inl ends) leaves links =
      let none : era_behind reply.came r1.aside ≡ None =
      ap (λ (x : Resident). era_behind reply.came x.aside) ends ∙ none_behind reply.came in
      subst (λ (e : Option AsideValue). IfSome e (λ a. RunsBeside a s' o')) (sym none) tt
  era_answered stays (inr goes_on) leaves links =
      let same = sym goes_on.0 in
      era_came reply.came r1.aside r1.store s' o o'
      (subst (λ (x : Resident). IfSome x.aside (λ a. RunsBeside a x.store o)) same stays.era)
      (leaves goes_on.1) (links goes_on.1)

  -- the node behind a request that was answered so
  stays_answered : (r' : Resident) → Stays clients r o → EndsBefore words r r1
      → StaysReady clients s' o' reply
      → (WordsLeave words → LeavesSessionsBy r1.store s' reply.came)
      → (WordsLeave words → o'.links ≡ o.links) → r'.store ≡ s'
      → r'.aside ≡ era_behind reply.came r1.aside → r'.ended ≡ reply.ends
      → MayStay clients r' o'
  stays_answered r' stays ends ready leaves links store aside ended = λ still_open. record {
    ready =
        subst (λ (s : StoreValue). IsReadyToServe clients s o') (sym store)
        (ready_after clients s' o' reply ready (sym ended ∙ still_open));
    era =
        subst (λ (e : Option AsideValue). IfSome e (λ a. RunsBeside a r'.store o')) (sym aside)
        (subst (λ (s : StoreValue). IfSome (era_behind reply.came r1.aside)
        (λ a. RunsBeside a s o')) (sym store) (era_answered stays ends leaves links));
  }

  pub stays_noted : (r' : Resident) → Stays clients r o → EndsBefore words r r1
      → StaysReady clients s' o' reply
      → (WordsLeave words → LeavesSessionsBy r1.store s' reply.came)
      → (WordsLeave words → o'.links ≡ o.links)
      → r' ≡ record r1 { store = s'; aside = era_behind reply.came r1.aside; ended = reply.ends }
      → MayStay clients r' o'
  stays_noted r' stays ends ready leaves links noted =
      stays_answered r' stays ends ready leaves links (ap (λ (x : Resident). x.store) noted)
      (ap (λ (x : Resident). x.aside) noted) (ap (λ (x : Resident). x.ended) noted)
