-- What the store of a device that runs has, and what is printed of it, by its journal.
use Rattle.std.proofs.Common.{◌≡◌, ℕ, zero, suc, ◌+◌, ◌<◌, Bool, List, ◌++◌, refl, sym, ◌∙◌, ap}
use Rattle.std.proofs.Common.{subst, inl, inr, arith, Option, Some, None}
use Rattle.std.proofs.lemmas.Bool.{cases_eq}
use Rattle.std.specs.Prelude.{slice_get}
use Rattle.outside.specs.Files.{Two, File, read_files}
use Rattle.outside.specs.HostTold.{host_told}
use Rattle.outside.specs.MemDisk.{disk_files, files_of}
use Rattle.outside.specs.MemHost.{MemHostValue}
use Rattle.client_basic.specs.Bodies.{bundle_meaning}
use Rattle.entry_codec.specs.Standing.{Standing, journal}
use Rattle.file_standing.specs.Standing.{stands}
use Rattle.sync_rules.specs.Facts.{Facts, Journal, facts}
use Rattle.sync_node.specs.Node.{NodeValue}
use Rattle.world_laws.specs.Worlds.{journal_in}
use Rattle.world_devices.specs.Devices.{DeviceValue}
use Rattle.world_devices.specs.Linking.{DeviceLinksStand}
use Rattle.world_devices.specs.Running.{HoldsAfterCrash, ReadsAsJournal}
use Rattle.sync_world.specs.Replay.{WritesWorld}
use Rattle.sync_world.specs.Showing.{Runs, device_lines, facts_of, facts_of_node, is_marked}
use Rattle.sync_world.specs.Showing.{journal_lines, lines_below, lines_then, player_lines}
use Rattle.sync_world.specs.Standing.{AllLinksStand, AreRead, AreTold, IsManyDevices}
use Rattle.sync_world.specs.declared.player.Player.{Player}

-- ---- stores

journal_same : (j k : Journal) → ◌≡◌ {A = Standing} (journal j) (journal k) → j ≡ k
journal_same j k same = cc

-- files that hold a journal read as it
read_held : (h : MemHostValue) (j k : Journal) → HoldsAfterCrash j h → ReadsAsJournal k h → j ≡ k
read_held h j k holds reads =
    let two : Two File = files_of (disk_files h.disk) in
    let first : stands bundle_meaning (read_files two) ≡ journal j =
    holds.each two refl (read_files two) ((host_told h).reads two refl) in
    journal_same j k (sym first ∙ reads.each two refl)

pub told_of : (js : List Journal) (devices : List DeviceValue) → AreRead js devices
    → AllLinksStand devices → AreTold js devices
told_of js devices read all = λ d device n there runs.
    let stand = all d device there in
    let has = stand.holds n runs in
    let same : has.0 ≡ journal_in js d =
    read_held device.host has.0 (journal_in js d) has.1 (read.each d device there) in
    (stand.each n runs has.0 has.1).facts_are ∙ ap facts same

-- what stands on the links of devices, one by one
pub stand_more : (devices : List DeviceValue) (i : ℕ) (x : DeviceValue)
    → slice_get devices i ≡ Some x → DeviceLinksStand x
    → ((d : ℕ) (device : DeviceValue) → d < i → slice_get devices d ≡ Some device
    → DeviceLinksStand device)
    → (d : ℕ) (device : DeviceValue) → d < i + 1 → slice_get devices d ≡ Some device
    → DeviceLinksStand device
stand_more devices i x here one before d device below there =
    elim (cases_eq d i) [
      | inl same ↦
          let at : slice_get devices i ≡ Some device =
          subst (λ (k : ℕ). slice_get devices k ≡ Some device) same there in
          let both : ◌≡◌ {A = Option DeviceValue} (Some x) (Some device) = sym here ∙ at in
          let is : x ≡ device = cc in
          subst DeviceLinksStand is one
      | inr other ↦ before d device (omega (arith, below, other)) there
    ]

-- ---- lines

record LinesThen (lines : Option (List ℕ)) (number : ℕ) (shown : Bool) (f : Option Facts)
    (text : List ℕ) : Type 0 where
  before : List ℕ
  known : Facts
  lines_are : lines ≡ Some before
  facts_are : f ≡ Some known
  is : text ≡ before ++ device_lines number shown known

lines_parts : (lines : Option (List ℕ)) (number : ℕ) (shown : Bool) (f : Option Facts)
    (text : List ℕ) → lines_then lines number shown f ≡ Some text
    → LinesThen lines number shown f text
lines_parts None number shown f text is = absurd cc
lines_parts (Some before) number shown None text is = absurd cc
lines_parts (Some before) number shown (Some f) text is =
    record { before = before; known = f; lines_are = refl; facts_are = refl; is = cc }

record FactsOf (o : Option DeviceValue) (f : Facts) : Type 0 where
  device : DeviceValue
  node : NodeValue
  stands : o ≡ Some device
  runs : device.node ≡ Some node
  is : node.store.state.facts ≡ f

node_parts : (o : Option NodeValue) (device : DeviceValue) (f : Facts) → device.node ≡ o
    → facts_of_node o ≡ Some f → FactsOf (Some device) f
node_parts None device f node is = absurd cc
node_parts (Some n) device f node is =
    record { device = device; node = n; stands = refl; runs = node; is = cc }

device_parts : (o : Option DeviceValue) (f : Facts) → facts_of o ≡ Some f → FactsOf o f
device_parts None f is = absurd cc
device_parts (Some device) f is = node_parts device.node device f refl is

told_lines : (shown : List Bool) (js : List Journal) (devices : List DeviceValue)
    → AreTold js devices → (number : ℕ) (text : List ℕ)
    → lines_below shown devices number ≡ Some text → text ≡ journal_lines shown js number
told_lines shown js devices told zero text is = cc
told_lines shown js devices told (suc number) text is =
    let mark : Bool = is_marked (slice_get shown number) in
    let parts = lines_parts (lines_below shown devices number) number mark
    (facts_of (slice_get devices number)) text is in
    let before : parts.before ≡ journal_lines shown js number =
    told_lines shown js devices told number parts.before parts.lines_are in
    let has = device_parts (slice_get devices number) parts.known parts.facts_are in
    let same : parts.known ≡ facts (journal_in js number) =
    sym has.is ∙ told number has.device has.node has.stands has.runs in
    parts.is ∙ (ap (λ (t : List ℕ). t ++ device_lines number mark parts.known) before
    ∙ ap (λ (f : Facts). journal_lines shown js number ++ device_lines number mark f) same)

-- each of the devices whose lines stand there runs
runs_below : (shown : List Bool) (devices : List DeviceValue) (number : ℕ) (text : List ℕ)
    → lines_below shown devices number ≡ Some text → (d : ℕ) → d < number
    → Runs (slice_get devices d)
runs_below shown devices zero text is d below = absurd (omega (arith, below))
runs_below shown devices (suc number) text is d below =
    let parts = lines_parts (lines_below shown devices number) number
    (is_marked (slice_get shown number)) (facts_of (slice_get devices number)) text is in
    elim (cases_eq d number) [
      | inl same ↦
          let has = device_parts (slice_get devices number) parts.known parts.facts_are in
          let runs : Runs (slice_get devices number) =
          (has.device, has.node, has.stands, has.runs) in
          subst (λ (k : ℕ). Runs (slice_get devices k)) (sym same) runs
      | inr other ↦
          runs_below shown devices number parts.before parts.lines_are d
          (omega (arith, below, other))
    ]

-- ---- what is printed

-- what was written of the text that the devices make is so of that of their journals
pub prints_text : (p : Player) (Written : List ℕ → Type 0) (text given : List ℕ)
    → IsManyDevices p.world.devices.items → player_lines p ≡ Some text → given ≡ text
    → Written given → WritesWorld p Written
prints_text p Written text given are run same written = record {
  journals = are.journals;
  many = are.many;
  run = runs_below p.shown p.world.devices.items p.devices text run;
  written =
      subst Written (same
      ∙ told_lines p.shown are.journals p.world.devices.items are.many.told p.devices text run)
      written;
}
