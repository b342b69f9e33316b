-- A message that its client accepts is of a group that is known.
use Rattle.std.proofs.Common.{◌≡◌, ◌&&◌, Option, None, Some, refl}
use Rattle.std.specs.Prelude.{is_none, is_some}
use Rattle.sync_ids.specs.Values.{MessageValue}
use Rattle.sync_ids.specs.Ids.{message_id_of}
use Rattle.sync_rules.specs.Clients.{Meaning}
use Rattle.sync_rules.specs.Facts.{Facts, Held, Known, group_at, held_at}
use Rattle.sync_rules.specs.Legal.{accepts_served}
use Rattle.sync_rules.specs.Steps.{verdict_for, verdict_in}
use Rattle.sync_rules.specs.Allows.{may_author}

by_parts : (clients : Meaning) (f : Facts) (m : MessageValue) (known : Option Known) (held : Option Held)
    → (is_some known && (is_none held && accepts_served f m.group (verdict_for clients known m))) ≡ (is_none held && accepts_served f m.group (verdict_for clients known m))
by_parts clients f m (Some g) held = refl
by_parts clients f m None (Some h) = refl
by_parts clients f m None None = refl

pub authored : (clients : Meaning) (f : Facts) (m : MessageValue)
    → may_author clients f m ≡ (is_none (held_at f.held (message_id_of m)) && accepts_served f m.group (verdict_in clients f.groups m))
authored clients f m = by_parts clients f m (group_at f.groups m.group) (held_at f.held (message_id_of m))
