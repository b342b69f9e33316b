use Rattle.std.proofs.Common.{List, [], ◌∷◌, ◌++◌, ap, ◌∙◌}
use Rattle.sync_node.specs.declared.link.Link.{Link}
use Rattle.sync_node.proofs.StartActs.{starts_memory, starts_was}
use Rattle.sync_node.proofs.attaching.attach_on.Goals as goal

pub returns-in_err-reader-clause-work : goal.returns-in_err-reader-clause-work
returns-in_err-reader-clause-work g c =
    starts_memory _ c.from_residual.ensures.1 c.requires.ready

pub returns-in_err-reserve-clause-work : goal.returns-in_err-reserve-clause-work
returns-in_err-reserve-clause-work g c =
    starts_memory _ c.from_residual-in_err-reserve.ensures.1 c.requires.ready

pub returns-in_err-link-clause-work : goal.returns-in_err-link-clause-work
returns-in_err-link-clause-work g c =
    starts_was _ c.in_err-link.field-0.0 c.from_residual-in_err-link.ensures.1
    c.in_err-link.ensures.work

pub returns-clause-work : goal.returns-clause-work
returns-clause-work g c = c.in_ok-link.ensures.work

pub returns-clause-went : goal.returns-clause-went
returns-clause-went g c = record {
  link = c.in_ok-link.link;
  starts = c.in_ok-link.ensures.went;
  pushed = (rw c.unwrap.ensures at c.push.ensures.items) ∙ ap (λ (ls : List Link). ls ++ c.in_ok-link.link ∷ []) c.reserve.ensures.items;
}
