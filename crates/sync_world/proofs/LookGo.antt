-- A look at what a device sent, as a step; and moves of links.
use Rattle.std.proofs.Common.{◌≡◌, ℕ, true, false, List, map, length, refl, sym, ◌∙◌, ap, subst}
use Rattle.std.proofs.Common.{inl, inr, Option, Some, None, is_some}
use Rattle.std.proofs.lemmas.Bool.{cases_eq}
use Rattle.std.specs.Prelude.{slice_get}
use Rattle.sync_node.specs.Node.{NodeValue}
use Rattle.world_devices.specs.Devices.{DeviceValue}
use Rattle.world_devices.specs.Linking.{DeviceLinksStand}
use Rattle.world_laws.specs.Worlds.{World, journal_at, journal_in}
use Rattle.world_links.specs.declared.link.Link.{Link}
use Rattle.sync_world.specs.Cited.{RecordLaws}
use Rattle.sync_world.specs.Shown.{world_of}
use Rattle.sync_world.specs.Standing.{AreWired, IsShown, LeadsOn}
use Rattle.sync_world.specs.Turning.{look_link}
use Rattle.sync_world.proofs.GoLaws.{up_read}
use Rattle.sync_world.proofs.LinkLaws.{ran_links}
use Rattle.sync_world.proofs.TurnLaws.{looks_others, looks_placed, looks_run, looks_wired}
use Rattle.sync_world.proofs.WireLaws.{all_wired}

looked_with : RecordLaws → (w : World) (devices : List DeviceValue) (links : List Link) (d : ℕ)
    (device : DeviceValue) (o : Option NodeValue) → IsShown w devices links
    → slice_get devices d ≡ Some device → DeviceLinksStand device → device.node ≡ o
    → LeadsOn w false devices (map (look_link d device) links)
looked_with laws w devices links d device None s is stand node =
    let no : true ≡ false = sym (s.up.each d device is).runs ∙ ap is_some node in
    cc
looked_with laws w devices links d device (Some n) s is stand node =
    let up = s.up.each d device is in
    let stands = stand.each n node (journal_at w d) up.holds in
    let runs = looks_run laws d (journal_at w d) n device node stands links w.links
    (s.wired d device is) s.shown in
    record {
      after = world_of w.journals runs.after;
      reached = ran_links d w.journals w.links runs.after runs.runs;
      read = up_read w.journals devices s.up;
      shown = λ same. record {
        up = s.up;
        shown = runs.shown;
        placed = looks_placed d (length devices) device links s.placed;
        wired = λ k other there.
            elim (cases_eq k d) [
              | inl own ↦
                  let here : slice_get devices d ≡ Some other =
                  subst (λ (i : ℕ). slice_get devices i ≡ Some other) own there in
                  let one : device ≡ other =
                  let e : ◌≡◌ {A = Option DeviceValue} (Some device) (Some other) =
                  sym is ∙ here in cc in
                  subst (λ (i : ℕ). AreWired (journal_in w.journals i) i other
                  (map (look_link d device) links)) (sym own)
                  (subst (λ (x : DeviceValue).
                  AreWired (journal_in w.journals d) d x (map (look_link d device) links)) one
                  (looks_wired laws d (journal_at w d) n device node stands links
                  (s.wired d device is)))
              | inr apart ↦
                  all_wired (journal_in w.journals k) k (length devices) other links
                  (map (look_link d device) links) (looks_others k d device links apart)
                  s.placed (s.wired k other there)
            ];
      };
    }

pub looked_leads : RecordLaws → (w : World) (devices : List DeviceValue) (links : List Link) (d : ℕ)
    (device : DeviceValue) → IsShown w devices links
    → slice_get devices d ≡ Some device → DeviceLinksStand device
    → LeadsOn w false devices (map (look_link d device) links)
looked_leads laws w devices links d device s is stand =
    looked_with laws w devices links d device device.node s is stand refl
