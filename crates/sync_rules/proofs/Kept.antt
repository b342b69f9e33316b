-- What each entry of a legal journal meets, and that every such entry keeps the invariant.
use Rattle.std.proofs.Common.{◌≡◌, ℕ, true, false, List, [], ◌∷◌, ◌++◌, refl, sym, ◌∙◌, subst, Some, is_some}
use Rattle.sync_ids.specs.Values.{MessageValue}
use Rattle.sync_ids.specs.Ids.{message_id_of}
use Rattle.sync_rules.specs.declared.entries.Entry.{Entry}
use Rattle.sync_rules.specs.declared.entries.Entry.TheVariants as entry
use Rattle.sync_rules.specs.Clients.{Meaning}
use Rattle.sync_rules.specs.Facts.{Facts, Held, Id, after, after_all, after_batches, entries_of, group_at, is_held, session_at, contact_of, level_at, is_invisible, known_of, authored, arrived, kept_as}
use Rattle.sync_rules.specs.Steps.{next}
use Rattle.sync_rules.specs.Legal.{IsDue}
use Rattle.sync_rules.specs.Lists.{In}
use Rattle.sync_rules.proofs.StepLaws.{Delivers, Invalidates, first_step_some, told_some}
use Rattle.sync_rules.proofs.Sound.{SoundFacts, Sound-group, Sound-held, delivered_stays_good, invalid_stays_bad}

-- a message that may come to be held: its group is known and its id is new
pub record IsNew (f : Facts) (m : MessageValue) : Type 0 where
  pub known : is_some (group_at f.groups m.group) ≡ true
  pub new : is_held f.held (message_id_of m) ≡ false

-- a message that arrives: also its session is known and its group is not Invisible to the session's contact
pub record MayArrive (f : Facts) (session : ℕ) (m : MessageValue) : Type 0 where
  pub is_new : IsNew f m
  pub shown : is_invisible (level_at f.levels (contact_of f.sessions session) m.group) ≡ false
  pub known_session : is_some (session_at f.sessions session) ≡ true

abbrev pub Fits : Meaning → Facts → Entry → Type 0
Fits clients f (entry.Level c g l) = is_some (group_at f.groups g) ≡ true
Fits clients f (entry.Author m) = IsNew f m
Fits clients f (entry.Arrive s m) = MayArrive f s m
Fits clients f (entry.Judged id) = next clients f ≡ Some (entry.Judged id)
Fits clients f (entry.Deliver id) = next clients f ≡ Some (entry.Deliver id)
Fits clients f (entry.Invalid id) = next clients f ≡ Some (entry.Invalid id)
Fits clients f (entry.Out s now what) = IsDue clients f (session_at f.sessions s) now what
Fits clients f (entry.Kept from m) = IsNew f m
Fits clients f _ = Unit {0}

abbrev pub AllFit : Meaning → Facts → List Entry → Type 0
AllFit clients f [] = Unit {0}
AllFit clients f (e ∷ es) = Fits clients f e × AllFit clients (after f e) es

-- ---- the message whose step is next

pub record IsDelivery (clients : Meaning) (f : Facts) (id : Id) : Type 0 where
  pub of : Held
  pub inside : In of f.held
  pub same : id ≡ of.id
  pub delivers : Delivers clients f of of.id

pub delivery : (clients : Meaning) (f : Facts) (id : Id) → next clients f ≡ Some (entry.Deliver id) → IsDelivery clients f id
delivery clients f id e =
    let s = first_step_some clients f f.held (entry.Deliver id) e in
    let d : Delivers clients f s.of id = told_some clients f s.of (Some (entry.Deliver id)) s.steps in
    record {
      of = s.of;
      inside = s.inside;
      same = d.same;
      delivers = record { same = refl; still_open = d.still_open; accepted = d.accepted; served = d.served };
    }

pub record IsRefusal (clients : Meaning) (f : Facts) (id : Id) : Type 0 where
  pub of : Held
  pub inside : In of f.held
  pub same : id ≡ of.id
  pub invalidates : Invalidates clients f of of.id

pub refusal : (clients : Meaning) (f : Facts) (id : Id) → next clients f ≡ Some (entry.Invalid id) → IsRefusal clients f id
refusal clients f id e =
    let s = first_step_some clients f f.held (entry.Invalid id) e in
    let d : Invalidates clients f s.of id = told_some clients f s.of (Some (entry.Invalid id)) s.steps in
    record {
      of = s.of;
      inside = s.inside;
      same = d.same;
      invalidates = record { same = refl; still_open = d.still_open; cause = d.cause };
    }

-- ---- one entry keeps the invariant

sound_delivered : (clients : Meaning) (f : Facts) (id : Id) → next clients f ≡ Some (entry.Deliver id) → SoundFacts clients f
    → SoundFacts clients (after f (entry.Deliver id))
sound_delivered clients f id e s =
    let d = delivery clients f id e in
    let P : Id → Type 0 = λ x. SoundFacts clients (after f (entry.Deliver x)) in
    let at : P d.of.id = record {
      names = s.names;
      known = s.known;
      delivered_good = delivered_stays_good clients f d.of s d.inside d.delivers;
      invalid_bad = s.invalid_bad;
    } in
    subst P (sym d.same) at

sound_refused : (clients : Meaning) (f : Facts) (id : Id) → next clients f ≡ Some (entry.Invalid id) → SoundFacts clients f
    → SoundFacts clients (after f (entry.Invalid id))
sound_refused clients f id e s =
    let d = refusal clients f id e in
    let P : Id → Type 0 = λ x. SoundFacts clients (after f (entry.Invalid x)) in
    let at : P d.of.id = record {
      names = s.names;
      known = s.known;
      delivered_good = s.delivered_good;
      invalid_bad = invalid_stays_bad clients f d.of s d.inside d.invalidates;
    } in
    subst P (sym d.same) at

pub sound_after : (clients : Meaning) (f : Facts) (e : Entry) → Fits clients f e → SoundFacts clients f → SoundFacts clients (after f e)
sound_after clients f (entry.Group def) fits s = Sound-group clients f.groups f.held f.invalid f.delivered (known_of def) s
sound_after clients f (entry.Author m) fits s =
    Sound-held clients f.groups f.held f.invalid f.delivered (authored m) fits.known fits.new s
sound_after clients f (entry.Arrive x m) fits s =
    Sound-held clients f.groups f.held f.invalid f.delivered (arrived (contact_of f.sessions x) m) fits.is_new.known fits.is_new.new s
sound_after clients f (entry.Kept from m) fits s =
    Sound-held clients f.groups f.held f.invalid f.delivered (kept_as from m) fits.known fits.new s
sound_after clients f (entry.Deliver id) fits s = sound_delivered clients f id fits s
sound_after clients f (entry.Invalid id) fits s = sound_refused clients f id fits s
sound_after clients f _ fits s = s

pub sound_all : (clients : Meaning) (f : Facts) (es : List Entry) → AllFit clients f es → SoundFacts clients f → SoundFacts clients (after_all f es)
sound_all clients f [] fit s = s
sound_all clients f (e ∷ es) fit s = sound_all clients (after f e) es fit.1 (sound_after clients f e fit.0 s)

-- ---- entries one after the other

pub after_all-append : (f : Facts) (es fs : List Entry) → after_all f (es ++ fs) ≡ after_all (after_all f es) fs
after_all-append f [] fs = refl
after_all-append f (e ∷ es) fs = after_all-append (after f e) es fs

pub AllFit-append : (clients : Meaning) (f : Facts) (es fs : List Entry) → AllFit clients f es → AllFit clients (after_all f es) fs → AllFit clients f (es ++ fs)
AllFit-append clients f [] fs a b = b
AllFit-append clients f (e ∷ es) fs a b = (a.0, AllFit-append clients (after f e) es fs a.1 b)

pub AllFit_front : (clients : Meaning) (f : Facts) (es fs : List Entry) → AllFit clients f (es ++ fs) → AllFit clients f es
AllFit_front clients f [] fs a = tt
AllFit_front clients f (e ∷ es) fs a = (a.0, AllFit_front clients (after f e) es fs a.1)

pub AllFit_back : (clients : Meaning) (f : Facts) (es fs : List Entry) → AllFit clients f (es ++ fs) → AllFit clients (after_all f es) fs
AllFit_back clients f [] fs a = a
AllFit_back clients f (e ∷ es) fs a = AllFit_back clients (after f e) es fs a.1

-- batch by batch, or entry by entry
pub after_batches-is : (f : Facts) (bs : List (List Entry)) → after_batches f bs ≡ after_all f (entries_of bs)
after_batches-is f [] = refl
after_batches-is f (b ∷ bs) = after_batches-is (after_all f b) bs ∙ sym (after_all-append f b (entries_of bs))
