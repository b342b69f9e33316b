-- Where the rules of worlds refuse a step.
use Rattle.std.specs.Prelude.{◌≡◌, ℕ, ◌+◌, ◌≤◌, ◌==◌, ◌||◌, not, Bool, true, false, nat_lt, is_none}
use Rattle.std.specs.Prelude.{List, length, Option, Some, None, option_and_then, slice_get}
use Rattle.outside.specs.declared.limits.TheConstants.{LINKS}
use Rattle.sync_ids.specs.Values.{GroupValue}
use Rattle.sync_ids.specs.Ids.{group_id_of}
use Rattle.sync_rules.specs.Facts.{group_at}
use Rattle.sync_node.specs.Node.{NodeValue}
use Rattle.world_devices.specs.Devices.{DeviceValue}
use Rattle.world_devices.specs.Refusals.{by_facts, refuses_group, refuses_link}
use Rattle.world_devices.specs.Refusals.{refuses_message}
use Rattle.world_scripts.specs.Labels.{KindAndDescriptor}
use Rattle.world_scripts.specs.declared.step.WorldStep.{WorldStep}
use Rattle.world_scripts.specs.declared.step.WorldStep.TheVariants as step
use Rattle.world_scripts.specs.declared.step.TheConstants.{MAX_ROUNDS}
use Rattle.sync_world.specs.declared.stage.Stage.{Stage}
use Rattle.sync_world.specs.Moving.{link_after_step}
use Rattle.sync_world.specs.Naming.{group_of}
use Rattle.sync_world.specs.Posting.{message_for}

-- there is no such value, or no such device, or the device refuses the value
abbrev pub refuses_with : {A : Type 0} → (A → DeviceValue → Bool) → Option A → Option DeviceValue
    → Bool
refuses_with refuses None device = true
refuses_with refuses (Some value) None = true
refuses_with refuses (Some value) (Some d) = refuses value d

-- a device that runs does not know the group
abbrev pub lacks : GroupValue → DeviceValue → Bool
lacks def d = by_facts (λ f. is_none (group_at f.groups (group_id_of def))) d.node

-- the group of a label that is there
abbrev pub group_labelled : Option KindAndDescriptor → Option GroupValue
group_labelled group = option_and_then (λ g. group_of g.0 g.1) group

-- a device that is there, and may have a further link
abbrev pub has_room : Option DeviceValue → Bool
has_room None = false
has_room (Some d) = nat_lt d.links LINKS

-- a device that is there, and has had a link since it was started
abbrev pub has_links : Option DeviceValue → Bool
has_links None = false
has_links (Some d) = nat_lt 0 d.links

-- there is no such device, or it refuses a further link with this contact
abbrev pub refuses_to_attach : ℕ → Option DeviceValue → Bool
refuses_to_attach contact device =
    refuses_with (λ c d. refuses_link d.node d.links c) (Some contact) device

-- each device that runs knows a contact for each other one
abbrev pub KnowContacts : List DeviceValue → Type 0
KnowContacts ds =
    (device : ℕ) (d : DeviceValue) (n : NodeValue) → slice_get ds device ≡ Some d → d.node ≡ Some n
    → length ds ≤ n.store.state.facts.contacts + 1

-- the rules refuse a step
abbrev pub refuses : WorldStep → Stage → Bool
refuses (step.Group d kind descriptor) w =
    refuses_with (λ def x. refuses_group x.node def) (group_of kind descriptor)
    (slice_get w.devices.items d)
refuses (step.Share d e group level) w =
    (d == e)
    || (is_none (slice_get w.devices.items e)
    || refuses_with lacks (group_labelled (slice_get w.groups group))
    (slice_get w.devices.items d))
refuses (step.Post d group time parents text) w =
    refuses_with (λ m x. refuses_message x.node m)
    (message_for w.groups w.posts.items group time parents text) (slice_get w.devices.items d)
refuses (step.Link d e mode latency) w =
    (d == e)
    || ((latency == 0)
    || (not (has_room (slice_get w.devices.items d))
    || not (has_room (slice_get w.devices.items e))))
refuses (step.Turn d) w = is_none (slice_get w.devices.items d)
refuses (step.Clock at) w = false
refuses (step.Stop d calls pick) w = is_none (slice_get w.devices.items d)
refuses (step.Restart d) w = is_none (slice_get w.devices.items d)
refuses (step.Rest rounds) w = (rounds == 0) || nat_lt MAX_ROUNDS rounds
refuses made w = is_none (link_after_step made w.links.items).1
