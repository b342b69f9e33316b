use Rattle.std.proofs.Common.{◌≡◌, ◌++◌, take}
use Rattle.std.specs.List.{flat_map}
use Rattle.entry_codec.specs.Naming.{held_bytes}
use Rattle.entry_codec.proofs.writing.append_ids.Given as goal

-- the ids so far are written
abbrev pub invariant-ids : goal.invariant-ids
invariant-ids g l = l.to.items ≡ l.fn.to.items ++ flat_map (held_bytes l.format (g.N.Names.named l.names)) (take l.id-index l.ids)
