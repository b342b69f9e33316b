-- The dependencies of each delivered message stand before it among the delivered.
use Rattle.std.proofs.Common.{◌≡◌, true, ◌&&◌, List, [], ◌∷◌, ◌++◌, append_assoc, append-nil, refl, sym, ◌∙◌, ap, subst, Option, Some, None, is_some}
use Rattle.std.proofs.lemmas.Bool.{and_parts, and_from, false≢true}
use Rattle.sync_rules.specs.declared.entries.Entry.{Entry}
use Rattle.sync_rules.specs.declared.entries.Entry.TheVariants as entry
use Rattle.sync_rules.specs.Clients.{Meaning}
use Rattle.sync_rules.specs.Lists.{is_among, In}
use Rattle.sync_rules.specs.Facts.{Facts, Held, Id, Known, after, after_all, arrived, kept_as, authored, contact_of, entries_of, facts, group_at, held_at, known_of, nothing}
use Rattle.sync_rules.specs.Steps.{is_beside, next}
use Rattle.sync_rules.specs.Legal.{Legal}
use Rattle.sync_rules.specs.Knowing.{AreServed, DeliversInOrder, IsServedBehind}
use Rattle.sync_rules.proofs.Elements.{all_weaker}
use Rattle.sync_rules.proofs.Sound.{SoundFacts, held_at-In, held_at-push, verdict_stays}
use Rattle.sync_rules.proofs.Kept.{AllFit, Fits, after_batches-is, delivery, sound_after}
use Rattle.sync_rules.proofs.Runs.{legal_fits, sound_nothing}

-- ---- what each of some messages keeps, all keep

served_kept : (clients : Meaning) (groups groups' : List Known) (held held' : List Held)
    → ((before : List Id) (id : Id) → IsServedBehind clients groups held before id → IsServedBehind clients groups' held' before id)
    → (before ids : List Id) → AreServed clients groups held before ids → AreServed clients groups' held' before ids
served_kept clients groups groups' held held' each before [] s = tt
served_kept clients groups groups' held held' each before (id ∷ ids) s =
    (each before id s.0, served_kept clients groups groups' held held' each (before ++ id ∷ []) ids s.1)

-- one more at the end
served_push : (clients : Meaning) (groups : List Known) (held : List Held) (before ids : List Id) (id : Id) → AreServed clients groups held before ids
    → IsServedBehind clients groups held (before ++ ids) id → AreServed clients groups held before (ids ++ id ∷ [])
served_push clients groups held before [] id s last = (subst (λ (l : List Id). IsServedBehind clients groups held l id) (append-nil before) last, tt)
served_push clients groups held before (x ∷ ids) id s last = (
  s.0,
  served_push clients groups held (before ++ x ∷ []) ids id s.1
      (subst (λ (l : List Id). IsServedBehind clients groups held l id) (sym (append_assoc before (x ∷ []) ids)) last),
)

-- ---- longer lists of groups and of held messages

group_keeps : (clients : Meaning) (groups : List Known) (held : List Held) (x : Known)
    → ((h : Held) → In h held → is_some (group_at groups h.message.group) ≡ true) → (before : List Id) (id : Id)
    → IsServedBehind clients groups held before id → IsServedBehind clients (groups ++ x ∷ []) held before id
group_keeps clients groups held x known before id s = record {
  message = s.message;
  found = s.found;
  deps = s.deps;
  share = s.share;
  accepted = verdict_stays clients groups x s.message.message (known s.message (held_at-In held id s.message s.found)) ∙ s.accepted;
  served = s.served;
}

beside_stays : (held : List Held) (x : Held) (group d : Id) (o : Option Held) → held_at held d ≡ o → is_beside group o ≡ true
    → is_beside group (held_at (held ++ x ∷ []) d) ≡ true
beside_stays held x group d None e b = absurd (false≢true b)
beside_stays held x group d (Some h) e b = ap (is_beside group) (held_at-push held x d h e) ∙ b

held_keeps : (clients : Meaning) (groups : List Known) (held : List Held) (x : Held) (before : List Id) (id : Id)
    → IsServedBehind clients groups held before id → IsServedBehind clients groups (held ++ x ∷ []) before id
held_keeps clients groups held x before id s = record {
  message = s.message;
  found = held_at-push held x id s.message s.found;
  deps = s.deps;
  share = s.share;
  accepted = s.accepted;
  served =
      let group : Id = s.message.message.group in
      all_weaker (λ d. is_beside group (held_at held d) && is_among before d) (λ d. is_beside group (held_at (held ++ x ∷ []) d) && is_among before d)
      (λ d t. let both = and_parts (is_beside group (held_at held d)) (is_among before d) t in
      and_from (is_beside group (held_at (held ++ x ∷ []) d)) (is_among before d) (beside_stays held x group d (held_at held d) refl both.0) both.1)
      s.deps s.served;
}

-- ---- one more delivery

delivered_last : (clients : Meaning) (f : Facts) (id : Id) → SoundFacts clients f → next clients f ≡ Some (entry.Deliver id)
    → IsServedBehind clients f.groups f.held f.delivered id
delivered_last clients f id sound e =
    let d = delivery clients f id e in
    let at : IsServedBehind clients f.groups f.held f.delivered d.of.id = record {
      message = d.of;
      found = sound.names d.of d.inside;
      deps = d.delivers.accepted.deps;
      share = d.delivers.accepted.share;
      accepted = d.delivers.accepted.verdict;
      served = d.delivers.served;
    } in
    subst (IsServedBehind clients f.groups f.held f.delivered) (sym d.same) at

-- ---- entries

order_after : (clients : Meaning) (f : Facts) (e : Entry) → Fits clients f e → SoundFacts clients f → DeliversInOrder clients f → DeliversInOrder clients (after f e)
order_after clients f (entry.Group def) fits sound o =
    served_kept clients f.groups (f.groups ++ known_of def ∷ []) f.held f.held (group_keeps clients f.groups f.held (known_of def) sound.known) [] f.delivered o
order_after clients f (entry.Author m) fits sound o =
    served_kept clients f.groups f.groups f.held (f.held ++ authored m ∷ []) (held_keeps clients f.groups f.held (authored m)) [] f.delivered o
order_after clients f (entry.Arrive s m) fits sound o =
    served_kept clients f.groups f.groups f.held (f.held ++ arrived (contact_of f.sessions s) m ∷ [])
    (held_keeps clients f.groups f.held (arrived (contact_of f.sessions s) m)) [] f.delivered o
order_after clients f (entry.Kept from m) fits sound o =
    served_kept clients f.groups f.groups f.held (f.held ++ kept_as from m ∷ []) (held_keeps clients f.groups f.held (kept_as from m)) [] f.delivered o
order_after clients f (entry.Deliver id) fits sound o =
    served_push clients f.groups f.held [] f.delivered id o (delivered_last clients f id sound fits)
order_after clients f _ fits sound o = o

pub order_all : (clients : Meaning) (f : Facts) (es : List Entry) → AllFit clients f es → SoundFacts clients f → DeliversInOrder clients f
    → DeliversInOrder clients (after_all f es)
order_all clients f [] fit sound o = o
order_all clients f (e ∷ es) fit sound o =
    order_all clients (after f e) es fit.1 (sound_after clients f e fit.0 sound) (order_after clients f e fit.0 sound o)

pub delivers_in_order : (clients : Meaning) (j : List (List Entry)) → Legal clients j → DeliversInOrder clients (facts j)
delivers_in_order clients j l =
    subst (DeliversInOrder clients) (sym (after_batches-is nothing j))
    (order_all clients nothing (entries_of j) (legal_fits clients j l) (sound_nothing clients) tt)
