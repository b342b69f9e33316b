-- A journal and what is told of its messages, side by side: what is told may be told, and the same is held and has ended
-- behind it. All contacts and groups of the journal are there from the beginning, so those at a place of it are fewer.
use Rattle.std.proofs.Common.{◌≡◌, ◌≤◌, true, cond, ◌&&◌, List, [], ◌∷◌, ◌++◌, refl, sym, ◌∙◌, ap, subst, arith, inl, inr, Option, Some, None, is_some}
use Rattle.std.specs.Option.{option_or}
use Rattle.std.specs.List.{list_all}
use Rattle.std.specs.FinSet as fin_set
use Rattle.std.proofs.lemmas.Bool.{false≢true}
use Rattle.sync_ids.specs.Ids.{message_id_of}
use Rattle.sync_ids.specs.Values.{MessageValue}
use Rattle.sync_rules.specs.declared.answers.Judgement.{Judgement}
use Rattle.sync_rules.specs.declared.answers.Judgement.TheVariants as judgement
use Rattle.sync_rules.specs.declared.entries.Entry.{Entry}
use Rattle.sync_rules.specs.declared.entries.Entry.TheVariants as entry
use Rattle.sync_rules.specs.declared.states.Origin.{Origin}
use Rattle.sync_rules.specs.declared.states.Origin.TheVariants as origin
use Rattle.sync_rules.specs.declared.states.Start.{Start}
use Rattle.sync_rules.specs.declared.states.Start.TheVariants as start
use Rattle.sync_rules.specs.Clients.{Meaning}
use Rattle.sync_rules.specs.Consistency.{HasSessions}
use Rattle.sync_rules.specs.Facts.{Facts, Held, Id, Ids, Known, after, after_all, group_at, held_at, is_held, session_at, contact_of, kept_as, start_after}
use Rattle.sync_rules.specs.Growth.{ContinuesFacts}
use Rattle.sync_rules.specs.Legal.{accepts_served, IsKeptFrom, MayKeep}
use Rattle.sync_rules.specs.Lists.{In, is_among}
use Rattle.sync_rules.specs.Meeting.{AllMeet, MeetsNoStep}
use Rattle.sync_rules.specs.Steps.{first_step, IsSettled, is_beside, next, step, step_by}
use Rattle.sync_rules.specs.Steps.{verdict_for, verdict_in}
use Rattle.sync_rules.proofs.Continuing.{continues_all}
use Rattle.sync_rules.proofs.Kept.{after_all-append, sound_after}
use Rattle.sync_rules.proofs.MeetingLaws.{meets_fits}
use Rattle.sync_rules.proofs.SessionLaws.{session_contact_known, sessions_after_one}
use Rattle.sync_rules.proofs.Sound.{SoundFacts}
use Rattle.sync_rules.proofs.StepKinds.{same_next}
use Rattle.brief_account.specs.Brief.{retold, told}
use Rattle.brief_account.proofs.Accounts.{AllTell, AllTell-append, Tells}

-- what is the same, for a journal at a place and what is told of its messages up to there
pub record IsAlong (f g : Facts) : Type 0 where
  pub opening : g.start ≡ start.Opening
  pub held : g.held ≡ f.held
  pub judged : g.judged ≡ f.judged
  pub invalid : g.invalid ≡ f.invalid
  pub delivered : g.delivered ≡ f.delivered

-- the contacts and groups are those of the whole journal
pub record HasWhole (whole g : Facts) : Type 0 where
  pub contacts : g.contacts ≡ whole.contacts
  pub groups : g.groups ≡ whole.groups

-- at a place of the journal no contact and no group is known that the whole has not
pub record IsWithin (f g : Facts) : Type 0 where
  pub contacts : f.contacts ≤ g.contacts
  pub groups : (id : Id) (x : Known) → group_at f.groups id ≡ Some x → group_at g.groups id ≡ Some x

pub within_whole : (f whole g : Facts) → ContinuesFacts f whole → HasWhole whole g → IsWithin f g
within_whole f whole g c w = record {
  contacts =
      let up : f.contacts ≤ whole.contacts = c.contacts in
      let same : g.contacts ≡ whole.contacts = w.contacts in
      omega (arith, up, same);
  groups = λ id x at. ap (λ (gs : List Known). group_at gs id) w.groups ∙ c.same_group id x at;
}

-- ---- verdicts and steps

module _ (clients : Meaning) (f g : Facts) (w : IsWithin f g) where
  group_there : (id : Id) (o : Option Known) → group_at f.groups id ≡ o → is_some o ≡ true
      → group_at g.groups id ≡ group_at f.groups id
  group_there id None at known = absurd (false≢true known)
  group_there id (Some x) at known = w.groups id x at ∙ sym at

  -- where a group is known, a verdict is what it was
  same_verdict : (m : MessageValue) → is_some (group_at f.groups m.group) ≡ true
      → verdict_in clients g.groups m ≡ verdict_in clients f.groups m
  same_verdict m known = ap (λ o. verdict_for clients o m) (group_there m.group (group_at f.groups m.group) refl known)

  abbrev with_groups_of : Facts
  with_groups_of = record f { groups = g.groups }

  same_step : (h : Held) → is_some (group_at f.groups h.message.group) ≡ true
      → step clients with_groups_of h ≡ step clients f h
  same_step h known =
      ap (λ (v : Judgement). step_by f h (cond (fin_set.contains f.judged h.id) (Some v) None))
      (same_verdict h.message known)

  same_first : (hs : List Held) → ((h : Held) → In h hs → is_some (group_at f.groups h.message.group) ≡ true)
      → first_step clients with_groups_of hs ≡ first_step clients f hs
  same_first [] known = refl
  same_first (h ∷ hs) known =
      λ i. option_or (same_step h (known h (inl refl)) i)
      (same_first hs (λ x inside. known x (inr inside)) i)

  pub next_along : SoundFacts clients f → IsAlong f g → next clients g ≡ next clients f
  next_along sound a =
      same_next clients with_groups_of g (record {
        groups = refl;
        held = a.held;
        judged = a.judged;
        invalid = a.invalid;
        delivered = a.delivered;
      })
      ∙ same_first f.held sound.known

  -- ---- what may be kept

  accepts_along : IsAlong f g → (group : Id) (v : Judgement) → accepts_served g group v ≡ accepts_served f group v
  accepts_along a group judgement.Refuse = refl
  accepts_along a group (judgement.Accept deps share) =
      λ i. list_all (λ d. is_beside group (held_at (a.held i) d) && is_among (a.delivered i) d) deps

  accepted_along : IsAlong f g → (m : MessageValue) → is_some (group_at f.groups m.group) ≡ true
      → accepts_served f m.group (verdict_in clients f.groups m) ≡ true
      → accepts_served g m.group (verdict_in clients g.groups m) ≡ true
  accepted_along a m known accepted =
      ap (accepts_served g m.group) (same_verdict m known)
      ∙ (accepts_along a m.group (verdict_in clients f.groups m) ∙ accepted)

  kept_from_along : IsAlong f g → (from : Origin) (m : MessageValue) → is_some (group_at f.groups m.group) ≡ true
      → IsKeptFrom clients f from m → IsKeptFrom clients g from m
  kept_from_along a origin.Author m known k = accepted_along a m known k
  kept_from_along a (origin.From contact) m known k =
      let up : f.contacts ≤ g.contacts = w.contacts in
      omega (arith, up, k)

  -- a message that comes to be held in the journal is told
  kept_along : SoundFacts clients f → IsAlong f g → (from : Origin) (m : MessageValue) → IsSettled clients f
      → MayKeep clients f from m
      → Tells clients g (entry.Kept from m)
  kept_along sound a from m settled k = (
    next_along sound a ∙ settled,
    a.opening,
    record {
      known_group = ap is_some (group_there m.group (group_at f.groups m.group) refl k.known_group) ∙ k.known_group;
      new = ap (λ (hs : List Held). is_held hs (message_id_of m)) a.held ∙ k.new;
      kept_from = kept_from_along a from m k.known_group k.kept_from;
    },
  )

-- ---- one entry

still_opening : (g : Facts) (e : Entry) → g.start ≡ start.Opening → start_after start.Opening e ≡ start.Opening
    → (after g e).start ≡ start.Opening
still_opening g e opening stays = ap (λ (s : Start). start_after s e) opening ∙ stays

held_more : (f g : Facts) (from : Origin) (m : MessageValue) → IsAlong f g → (later : Facts)
    → later.held ≡ f.held ++ kept_as from m ∷ []
    → later.judged ≡ f.judged → later.invalid ≡ f.invalid → later.delivered ≡ f.delivered
    → IsAlong later (after g (entry.Kept from m))
held_more f g from m a later held judged invalid delivered = record {
  opening = still_opening g (entry.Kept from m) a.opening refl;
  held = ap (λ (hs : List Held). hs ++ kept_as from m ∷ []) a.held ∙ sym held;
  judged = a.judged ∙ sym judged;
  invalid = a.invalid ∙ sym invalid;
  delivered = a.delivered ∙ sym delivered;
}

-- what holds behind what is told of an entry, or of entries
pub record GoesAlong (clients : Meaning) (f whole g : Facts) (es : List Entry) : Type 0 where
  pub tells : AllTell clients g es
  pub along : IsAlong f (after_all g es)
  pub has_whole : HasWhole whole (after_all g es)

module _ (clients : Meaning) (whole : Facts) where
  quiet : (f g later : Facts) → IsAlong f g → HasWhole whole g → later.held ≡ f.held → later.judged ≡ f.judged
      → later.invalid ≡ f.invalid
      → later.delivered ≡ f.delivered → GoesAlong clients later whole g []
  quiet f g later a w held judged invalid delivered = record {
    tells = tt;
    along = record {
      opening = a.opening;
      held = a.held ∙ sym held;
      judged = a.judged ∙ sym judged;
      invalid = a.invalid ∙ sym invalid;
      delivered = a.delivered ∙ sym delivered;
    };
    has_whole = w;
  }

  kept_one : (f g : Facts) (from : Origin) (m : MessageValue) → ContinuesFacts f whole → SoundFacts clients f
      → IsAlong f g → HasWhole whole g
      → IsSettled clients f → MayKeep clients f from m → (later : Facts) → later.held ≡ f.held ++ kept_as from m ∷ []
      → later.judged ≡ f.judged → later.invalid ≡ f.invalid → later.delivered ≡ f.delivered
      → GoesAlong clients later whole g (entry.Kept from m ∷ [])
  kept_one f g from m c sound a w settled may later held judged invalid delivered = record {
    tells = (kept_along clients f g (within_whole f whole g c w) sound a from m settled may, tt);
    along = held_more f g from m a later held judged invalid delivered;
    has_whole = record { contacts = w.contacts; groups = w.groups };
  }

  pub told_one : (f g : Facts) (e : Entry) → MeetsNoStep clients f e → SoundFacts clients f → HasSessions f → ContinuesFacts f whole
      → IsAlong f g → HasWhole whole g → GoesAlong clients (after f e) whole g (told f e)
  told_one f g (entry.Author m) met sound sessions c a w =
      kept_one f g origin.Author m c sound a w met.0
      (record { known_group = met.1.known_group; new = met.1.new; kept_from = met.1.accepted })
      (after f (entry.Author m)) refl refl refl refl
  told_one f g (entry.Arrive s m) met sound sessions c a w =
      kept_one f g (origin.From (contact_of f.sessions s)) m c sound a w met.0
      (record {
        known_group = met.1.known_group;
        new = met.1.new;
        kept_from = session_contact_known f sessions s (session_at f.sessions s) refl met.1.known_session;
      }) (after f (entry.Arrive s m)) refl refl refl refl
  told_one f g (entry.Kept from m) met sound sessions c a w =
      kept_one f g from m c sound a w met.0 met.1.1
      (after f (entry.Kept from m)) refl refl refl refl
  told_one f g (entry.Judged id) met sound sessions c a w = record {
    tells = (next_along clients f g (within_whole f whole g c w) sound a ∙ met, tt);
    along = record {
      opening = still_opening g (entry.Judged id) a.opening refl;
      held = a.held;
      judged = ap (λ (ids : Ids). fin_set.insert ids id) a.judged;
      invalid = a.invalid;
      delivered = a.delivered;
    };
    has_whole = record { contacts = w.contacts; groups = w.groups };
  }
  told_one f g (entry.Deliver id) met sound sessions c a w = record {
    tells = (next_along clients f g (within_whole f whole g c w) sound a ∙ met, tt);
    along = record {
      opening = still_opening g (entry.Deliver id) a.opening refl;
      held = a.held;
      judged = a.judged;
      invalid = a.invalid;
      delivered = ap (λ (ids : List Id). ids ++ id ∷ []) a.delivered;
    };
    has_whole = record { contacts = w.contacts; groups = w.groups };
  }
  told_one f g (entry.Invalid id) met sound sessions c a w = record {
    tells = (next_along clients f g (within_whole f whole g c w) sound a ∙ met, tt);
    along = record {
      opening = still_opening g (entry.Invalid id) a.opening refl;
      held = a.held;
      judged = a.judged;
      invalid = ap (λ (ids : Ids). fin_set.insert ids id) a.invalid;
      delivered = a.delivered;
    };
    has_whole = record { contacts = w.contacts; groups = w.groups };
  }
  told_one f g e met sound sessions c a w = quiet f g (after f e) a w refl refl refl refl

  -- ---- all entries

  goes_then : (f g : Facts) (es fs : List Entry) (later : Facts) → GoesAlong clients f whole g es
      → GoesAlong clients later whole (after_all g es) fs → GoesAlong clients later whole g (es ++ fs)
  goes_then f g es fs later a b = record {
    tells = AllTell-append clients g es fs a.tells b.tells;
    along = subst (IsAlong later) (sym (after_all-append g es fs)) b.along;
    has_whole = subst (HasWhole whole) (sym (after_all-append g es fs)) b.has_whole;
  }

  pub told_along : (es : List Entry) (f g : Facts) → AllMeet clients f es → SoundFacts clients f → HasSessions f
      → after_all f es ≡ whole → IsAlong f g → HasWhole whole g → GoesAlong clients whole whole g (retold f es)
  told_along [] f g met sound sessions last a w = quiet f g whole a w
      (ap (λ (x : Facts). x.held) (sym last)) (ap (λ (x : Facts). x.judged) (sym last))
      (ap (λ (x : Facts). x.invalid) (sym last))
      (ap (λ (x : Facts). x.delivered) (sym last))
  told_along (e ∷ es) f g met sound sessions last a w =
      let one : GoesAlong clients (after f e) whole g (told f e) =
      told_one f g e met.0 sound sessions (subst (ContinuesFacts f) last (continues_all f (e ∷ es))) a w in
      goes_then (after f e) g (told f e) (retold (after f e) es) whole one
      (told_along es (after f e) (after_all g (told f e)) met.1
      (sound_after clients f e (meets_fits clients f e met.0) sound)
      (sessions_after_one clients f e met.0 sessions) last one.along one.has_whole)
