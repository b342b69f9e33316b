-- What this device and a contact said in a `sharing` group, by the facts of a journal.
use Rattle.std.specs.Prelude.{ℕ, Bool, true, false, cond, nat_eq, List, [], ◌∷◌, Option, Some, None}
use Rattle.std.specs.List.{flat_map}
use Rattle.sync_ids.specs.Values.{MessageValue}
use Rattle.sync_rules.specs.declared.states.Origin.{Origin}
use Rattle.sync_rules.specs.declared.states.Origin.TheVariants as origin
use Rattle.sync_rules.specs.Facts.{Facts, Held, Id, held_at}
use Rattle.sync_rules.specs.Lists.{same_id}
use Rattle.client_sharing.specs.declared.agreement.Said.{Said}
use Rattle.client_sharing.specs.declared.bodies.Saying.{Saying}
use Rattle.client_sharing.specs.Bodies.{saying_of}

-- whose word a message is: one of this device, or of the contact; that of another contact is
-- neither's
abbrev pub speaker_of : ℕ → Origin → Option Bool
speaker_of contact origin.Author = Some true
speaker_of contact (origin.From c) = cond (nat_eq c contact) (Some false) None

-- what a side says; what is no saying is passed over
abbrev pub said_as : Option Bool → Option Saying → Option Said
said_as (Some own) (Some s) = Some (record { own = own; join = s.join; def = s.def })
said_as side saying = None

-- a message of this origin
abbrev pub said_by : ℕ → Id → Origin → MessageValue → Option Said
said_by contact group from m =
    cond (same_id m.group group) (said_as (speaker_of contact from) (saying_of m.body)) None

abbrev pub words_of : Option Said → List Said
words_of None = []
words_of (Some said) = said ∷ []

abbrev pub said_of : ℕ → Id → Option Held → List Said
said_of contact group None = []
said_of contact group (Some h) = words_of (said_by contact group h.origin h.message)

-- all that was said in a group by this device and by a contact, in the order of delivery
abbrev pub said_by_both : Facts → ℕ → Id → List Said
said_by_both f contact group = flat_map (λ id. said_of contact group (held_at f.held id))
    f.delivered
