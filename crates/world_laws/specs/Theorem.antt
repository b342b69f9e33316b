-- What holds in a world after every list of steps.
use Rattle.std.specs.Prelude.{◌≡◌, ℕ, ◌≤◌, Bool, true, ◌||◌, [], Some, None}
use Rattle.sync_rules.specs.declared.entries.Session.{Session}
use Rattle.sync_ids.specs.declared.records.Record.{Record}
use Rattle.sync_rules.specs.Clients.{Meaning}
use Rattle.sync_rules.specs.Lists.{In, is_among}
use Rattle.sync_rules.specs.Facts.{Facts, Held, Id, entries_of, facts, held_at, is_held, is_level_shared, level_at, row_at, session_at}
use Rattle.sync_rules.specs.Laws.{IsAuthored}
use Rattle.sync_rules.specs.Legal.{Legal}
use Rattle.sync_rules.specs.Sessions.{due, is_author, shared_ids}
use Rattle.world_laws.specs.Worlds.{HasNoBrief, HasSession, IsSent, Way, World, contact_for, journal_at, way_at}

-- what a device counts as seen by another one is held by that other device
abbrev pub SeenIsHeld : World → Type 0
SeenIsHeld w = (a b : ℕ) (id : Id) → (a ≡ b → ⊥)
    → (row_at (facts (journal_at w a)).rows (contact_for a b) id).seen ≡ true
    → is_held (facts (journal_at w b)).held id ≡ true

-- a message that some device wrote
pub record IsWritten (w : World) (h : Held) : Type 0 where
  pub device : ℕ
  pub by : IsAuthored (entries_of (journal_at w device)) h.message

-- each held message was written by some device
abbrev pub HeldIsWritten : World → Type 0
HeldIsWritten w = (d : ℕ) (id : Id) (h : Held) → held_at (facts (journal_at w d)).held id ≡ Some h → IsWritten w h

-- a session of a device with another at which nothing is due, and no message waits for a later time
pub record IsSessionAtRest (clients : Meaning) (f : Facts) (contact number now : ℕ) : Type 0 where
  pub session : Session
  pub known : session_at f.sessions number ≡ Some session
  pub same_contact : session.contact ≡ contact
  pub nothing_due : due clients f session now ≡ None
  pub none_waits : (h : Held) → In h f.held → (row_at f.rows contact h.id).expiry ≤ now

-- a message that is to reach a contact: it is held and delivered, its group is Shared with the contact, and it was written
-- here or its judgement lets it be sent on
pub record IsForContact (clients : Meaning) (f : Facts) (contact : ℕ) (id : Id) : Type 0 where
  pub message : Held
  pub held : held_at f.held id ≡ Some message
  pub delivered : is_among f.delivered id ≡ true
  pub shared : is_level_shared (level_at f.levels contact message.message.group) ≡ true
  pub may_go : (is_author message.origin || is_among (shared_ids clients f) id) ≡ true

-- where a session of a device with another is at rest, the other holds every message that is to reach it
abbrev pub RestIsDone : Meaning → World → Type 0
RestIsDone clients w = (a b number now : ℕ) (id : Id) → (a ≡ b → ⊥)
    → IsSessionAtRest clients (facts (journal_at w a)) (contact_for a b) number now
    → IsForContact clients (facts (journal_at w a)) (contact_for a b) id
    → is_held (facts (journal_at w b)).held id ≡ true

-- what every step keeps. Each record that is in flight or was given is one that the sender's session sends
pub record IsSoundWorld (clients : Meaning) (w : World) : Type 0 where
  pub legal : (d : ℕ) → Legal clients (journal_at w d)
  pub plain : (d : ℕ) → HasNoBrief (journal_at w d)
  pub apart : (i : ℕ) (near : Bool) (way : Way) → way_at w i near ≡ Some way → way.sender.device ≡ way.receiver.device → ⊥
  pub sessions : (i : ℕ) (near : Bool) (way : Way) (number : ℕ) → way_at w i near ≡ Some way → way.sender.session ≡ Some number
      → HasSession (journal_at w way.sender.device) number (contact_for way.sender.device way.receiver.device)
  pub flight : (i : ℕ) (near : Bool) (way : Way) (r : Record) → way_at w i near ≡ Some way → In r way.sender.flight
      → IsSent (journal_at w way.sender.device) way.sender.session r
  pub given : (i : ℕ) (near : Bool) (way : Way) (r : Record) → way_at w i near ≡ Some way → In r way.receiver.given
      → IsSent (journal_at w way.sender.device) way.sender.session r
  pub seen : SeenIsHeld w
  pub written : HeldIsWritten w

-- a world with no link, whose devices have legal journals, of which none begins a brief account, and hold no message
pub record IsNewWorld (clients : Meaning) (w : World) : Type 0 where
  pub legal : (d : ℕ) → Legal clients (journal_at w d)
  pub plain : (d : ℕ) → HasNoBrief (journal_at w d)
  pub empty : (d : ℕ) → (facts (journal_at w d)).held ≡ []
  pub unlinked : w.links ≡ []
