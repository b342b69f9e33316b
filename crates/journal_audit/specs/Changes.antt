-- When an entry may be taken into plain facts, and what taking it does beside the facts.
use Rattle.std.specs.Prelude.{◌≡◌, ◌<◌, true, false, List, is_some}
use Rattle.std.specs.List.{list_all}
use Rattle.sync_ids.specs.Values.{MessageValue}
use Rattle.sync_ids.specs.Ids.{message_id_of}
use Rattle.sync_rules.specs.declared.entries.Entry.{Entry}
use Rattle.sync_rules.specs.declared.entries.Entry.TheVariants as entry
use Rattle.sync_rules.specs.declared.entries.Out.{Out}
use Rattle.sync_rules.specs.declared.entries.Out.TheVariants as out
use Rattle.sync_rules.specs.Clients.{Meaning}
use Rattle.sync_rules.specs.Facts.{Facts, Id, Rows, Wants, group_at, is_held}
use Rattle.sync_rules.specs.Lists.{has_repeat}
use Rattle.journal_audit.specs.declared.facts.PlainFacts.{PlainFacts}
use Rattle.journal_audit.specs.Plain.{IsPlainSound, KnowsMeanings, facts_of}

-- a message may be held: its group is known, and its id is not held
pub record MayHoldMessage (f : Facts) (m : MessageValue) : Type 0 where
  pub known_group : is_some (group_at f.groups m.group) ≡ true
  pub new : is_held f.held (message_id_of m) ≡ false

-- ids of held messages, no two the same
pub record AreNamed (f : Facts) (ids : List Id) : Type 0 where
  pub distinct : has_repeat ids ≡ false
  pub held : list_all (is_held f.held) ids ≡ true

abbrev pub FitsOut : Facts → Out → Type 0
FitsOut f (out.Acks ids) = AreNamed f ids
FitsOut f (out.Requests ids) = Unit {0}
FitsOut f (out.Offers ids) = AreNamed f ids
FitsOut f (out.Send id) = is_held f.held id ≡ true

-- an entry may be taken: less than what an entry of a legal journal meets at its place
abbrev pub MayTakeEntry : Facts → Entry → Type 0
MayTakeEntry f (entry.Contact c) = (c ≡ f.contacts) × (c < 256)
MayTakeEntry f (entry.Level c g l) = (c < f.contacts) × (is_some (group_at f.groups g) ≡ true)
MayTakeEntry f (entry.Author m) = MayHoldMessage f m
MayTakeEntry f (entry.Arrive s m) = MayHoldMessage f m
MayTakeEntry f (entry.Kept from m) = MayHoldMessage f m
MayTakeEntry f (entry.Judged id) = is_held f.held id ≡ true
MayTakeEntry f (entry.Deliver id) = is_held f.held id ≡ true
MayTakeEntry f (entry.Invalid id) = is_held f.held id ≡ true
MayTakeEntry f (entry.Again s id) = is_held f.held id ≡ true
MayTakeEntry f (entry.Seen s id) = is_held f.held id ≡ true
MayTakeEntry f (entry.Asked s id) = is_held f.held id ≡ true
MayTakeEntry f (entry.Tried t) = is_held f.held t.id ≡ true
MayTakeEntry f (entry.Out s now what) = FitsOut f what
MayTakeEntry f _ = Unit {0}

-- ---- what taking an entry does

-- the facts with other rows
abbrev pub with_rows : Facts → Rows → Facts
with_rows f rows = record f { rows = rows }

-- the facts with other wanted ids
abbrev pub with_wanted : Facts → Wants → Facts
with_wanted f wanted = record f { wanted = wanted }

-- the facts became these, what holds of plain facts holds, and what clients say of each message is known as before
pub record BecomesFacts (old new : PlainFacts) (f : Facts) : Type 0 where
  pub facts : facts_of new ≡ f
  pub sound : IsPlainSound new
  pub knows : (clients : Meaning) → KnowsMeanings clients old → KnowsMeanings clients new

-- the same where what these clients say is known
pub record BecomesKnown (clients : Meaning) (new : PlainFacts) (f : Facts) : Type 0 where
  pub facts : facts_of new ≡ f
  pub sound : IsPlainSound new
  pub knows : KnowsMeanings clients new
