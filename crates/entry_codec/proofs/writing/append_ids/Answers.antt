use Rattle.std.proofs.Common.{rules, take}
use Rattle.std.specs.List.{flat_map}
use Rattle.entry_codec.specs.Naming.{held_bytes}
use Rattle.entry_codec.specs.Spelling.{AddsTo}
use Rattle.entry_codec.proofs.WriteSteps.{adds_more}
use Rattle.entry_codec.proofs.writing.append_ids.Goals as goal

pub returns-in_err-append_held-clause-err : goal.returns-in_err-append_held-clause-err
returns-in_err-append_held-clause-err g c =
    let adds : AddsTo c.args.to.now.items c.append_held.new.to.items =
    adds_more c.args.to.now.items (flat_map (held_bytes c.args.format (g.N.Names.named c.args.names.now)) (take c.ids.id-index c.args.ids.now)) c.ids.to.items c.append_held.new.to.items
    c.ids.invariant c.in_err-append_held.ensures.err in
    search rules
