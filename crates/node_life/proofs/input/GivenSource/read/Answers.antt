use Rattle.std.proofs.Common.{refl, rules}
use Rattle.std.specs.Prelude.{replicate}
use Rattle.node_life.specs.declared.input.TheConstants.{NO_RECORD}
use Rattle.node_life.proofs.InputLemmas.{filling_read, front_read}
use Rattle.node_life.proofs.input.GivenSource.read.Goals as goal

pub returns-then-is_empty-clause-bytes : goal.returns-then-is_empty-clause-bytes
returns-then-is_empty-clause-bytes c =
    filling_read c.args.self.now.bytes.now c.args.buf.now c.fill.new.self
    c.args.self.now.filling c.min-n.result _ (search rules)
    (c.fill.ensures.after (λ y clone. search rules)) (search rules) c.min-n.ensures

pub returns-clause-bytes : goal.returns-clause-bytes
returns-clause-bytes c =
    front_read c.args.self.now.bytes.now c.args.buf.now c.copy_from_slice.new.self
    (replicate c.args.self.now.filling NO_RECORD) c.min-n-2.result _ c.copy_from_slice.ensures.after
    c.min-n-2.ensures refl (search rules)
