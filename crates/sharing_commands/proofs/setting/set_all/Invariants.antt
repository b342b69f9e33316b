use Rattle.std.proofs.Common.{◌≡◌, ◌++◌, Ok, take}
use Rattle.std.specs.String.{string_bytes}
use Rattle.sharing_commands.specs.Adding.{GathersFront, GathersFor}
use Rattle.sharing_commands.specs.Deeds.{all_batches, all_text}
use Rattle.sharing_commands.proofs.setting.set_all.Given as goal

abbrev pub invariant-targets : goal.invariant-targets
invariant-targets g l =
    let clients = g.C.Clients.meaning l.clients in
    let f = l.initial.store.state.facts in
    record {
      adds : GathersFront clients l.initial.store l.store (g.D.Disk.tells l.initial.disk)
          (g.D.Disk.tells l.disk) (all_batches clients l.contact f (take l.i l.targets)) (Ok tt);
      stands : GathersFor clients l.store (g.D.Disk.tells l.disk) l.contact;
      text : string_bytes l.to
          ≡ string_bytes l.initial.to ++ all_text clients l.contact f (take l.i l.targets);
    }
