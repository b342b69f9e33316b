-- What is promised of a run, at a host in memory: it tells all that the promise asks for.
use Rattle.std.proofs.Common.{◌≡◌, ℕ, refl, inl, inr}
use Rattle.outside.specs.Files.{IsImage}
use Rattle.outside.specs.HostTold.{host_told}
use Rattle.outside.specs.LinksTold as told
use Rattle.outside.specs.MemHost.{MemHostValue}
use Rattle.outside.specs.Runs.{TellsAll}
use Rattle.sync_rules.specs.Clients.{Meaning}
use Rattle.commands.specs.declared.command.Command.TheVariants as command
use Rattle.commands.specs.Reading.{Asked}
use Rattle.commands.specs.Reading.Asked.{Usage, Do}
use Rattle.sync_top.specs.Sound.{AlwaysOpens}
use Rattle.memory_run.specs.Opens.{OpensInMemory, files_by, first_calls}

-- a host in memory tells all
abbrev all_told : (host : MemHostValue) → TellsAll (host_told host)
all_told host = record {
  two = files_by host host.disk.calls;
  files_are = refl;
  links = _;
  links_are = refl;
  heard = _;
  heard_are = refl;
}

pub opens_in_memory : (clients : Meaning) (asked : Asked) (old new : MemHostValue)
    → AlwaysOpens clients asked (host_told old) (host_told new)
    → OpensInMemory clients asked old new
opens_in_memory clients (Usage place) old new opens = tt
opens_in_memory clients (Do (command.Sync turns quiet links)) old new opens =
    λ made since until left image.
    let all = opens.0 tt (files_by old old.disk.calls) refl (all_told new) in
    elim (all.moments.each (record { files = left; sent = told.sent_by (first_calls made new) })
    (record { made = made; since = since; until = until; image = image; sent = refl })) [
      | inl untouched ↦ inl (record {
        image = untouched.now.image;
        nothing_sent = untouched.nothing_sent;
      })
      | inr on ↦ inr on
    ]
opens_in_memory clients (Do command.Serve) old new opens =
    λ made since until left image.
    let all = opens.1 tt (files_by old old.disk.calls) refl in
    elim (all.each (record { files = left; sent = told.sent_by (first_calls made new) })
    (record { made = made; since = since; until = until; image = image; sent = refl })) [
      | inl now ↦ inl now.image
      | inr on ↦ inr on
    ]
opens_in_memory clients (Do _) old new opens = tt
