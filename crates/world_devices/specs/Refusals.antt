-- When a call of a device is refused: exactly where the rules of its store refuse it. Want of memory alone is free.
use Rattle.std.specs.Prelude.{ℕ, Bool, true, false, ◌||◌, nat_le, Option, Some, None, Result, Err}
use Rattle.std.specs.Prelude.{is_err}
use Rattle.client_basic.specs.Bodies.{bundle_meaning}
use Rattle.outside.specs.declared.limits.TheConstants.{LINKS}
use Rattle.sync_ids.specs.Values.{GroupValue, MessageValue}
use Rattle.sync_rules.specs.Facts.{Facts, Id}
use Rattle.sync_store.specs.Refusals.{group_answer, level_answer, post_answer}
use Rattle.sync_node.specs.Node.{NodeValue}
use Rattle.world_devices.specs.declared.stop.StepFault.{StepFault}
use Rattle.world_devices.specs.declared.stop.StepFault.TheVariants as fault

-- a call answers Refused exactly where the rules refuse it, but for want of memory
abbrev pub RefusedBy : {A : Type 0} → Bool → Result A StepFault → Type 0
RefusedBy true (Err fault.Refused) = Unit {0}
RefusedBy true (Err fault.Memory) = Unit {0}
RefusedBy true _ = ⊥
RefusedBy false (Err fault.Refused) = ⊥
RefusedBy false _ = Unit {0}

-- by the rules, over the facts of a device's journal, while it runs; a device that does not run
-- answers that there is no memory
abbrev pub by_facts : (Facts → Bool) → Option NodeValue → Bool
by_facts refuses None = false
by_facts refuses (Some n) = refuses n.store.state.facts

abbrev pub refuses_group : Option NodeValue → GroupValue → Bool
refuses_group node def = by_facts (λ f. is_err (group_answer bundle_meaning f def)) node

abbrev pub refuses_level : Option NodeValue → ℕ → Id → Bool
refuses_level node contact group = by_facts (λ f. is_err (level_answer f contact group)) node

abbrev pub refuses_message : Option NodeValue → MessageValue → Bool
refuses_message node m = by_facts (λ f. is_err (post_answer bundle_meaning f m)) node

-- it has had as many links as a device may have, or the contact is not known
abbrev pub refuses_link : Option NodeValue → ℕ → ℕ → Bool
refuses_link node links contact =
    by_facts (λ f. nat_le LINKS links || nat_le f.contacts contact) node

-- it is not refused
abbrev pub IsNotRefused : {A : Type 0} → Result A StepFault → Type 0
IsNotRefused r = RefusedBy false r
