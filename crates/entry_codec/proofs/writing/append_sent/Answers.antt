use Rattle.std.proofs.Common.{ℕ, List, ◌∷◌, ◌++◌, ap, ◌∙◌}
use Rattle.std.specs.Int.{w32, w64, to_be_bytes}
use Rattle.entry_codec.specs.Naming.{held_bytes}
use Rattle.entry_codec.specs.Spelling.{out_bytes}
use Rattle.entry_codec.proofs.WriteSteps.{three}
use Rattle.entry_codec.proofs.writing.append_sent.Goals as goal

pub returns-clause-ok : goal.returns-clause-ok
returns-clause-ok g c =
    three c.append_out.result c.args.to.now.items c.append_number.new.to.items c.extend_from_slice.new.self.items c.append_out.new.to.items
    (15 ∷ to_be_bytes w32 c.args.session) (to_be_bytes w64 c.args.now) (out_bytes (held_bytes c.args.format (g.N.Names.named c.args.names.now)) c.args.what.now)
    c.in_ok-append_number.ensures.ok (c.in_ok-extend_from_slice.ensures.items ∙ ap (λ (b : List ℕ). c.append_number.new.to.items ++ b) c.to_be_bytes.ensures) c.append_out.ensures.ok
