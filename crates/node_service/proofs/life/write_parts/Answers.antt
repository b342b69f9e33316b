use Rattle.node_service.proofs.TellLemmas.{front_behind, front_longer, parts_told, rose_later}
use Rattle.node_service.proofs.life.write_parts.Goals as goal

pub returns-in-Err-clause-told : goal.returns-in-Err-clause-told
returns-in-Err-clause-told g c = (
  c.in-Err.ensures.cause.failed,
  front_longer _ _ _ _ c.in-Err.ensures.gets.0,
)

pub returns-in-Err-write_all-clause-told : goal.returns-in-Err-write_all-clause-told
returns-in-Err-write_all-clause-told g c = (
  rose_later _ _ _ c.in-Ok.ensures.cause.later c.in-Err-write_all.ensures.cause.failed,
  front_behind _ _ _ _ _ c.in-Ok.ensures.ok
      (front_longer _ _ _ _ c.in-Err-write_all.ensures.gets.0),
)

pub returns-clause-told : goal.returns-clause-told
returns-clause-told g c =
    parts_told _ _ _ _ _ _ _ c.in-Ok.ensures.cause.later c.in-Ok-write_all.ensures.cause.later
    c.in-Ok.ensures.ok c.in-Ok-write_all.ensures.ok c.write_all-3.result c.write_all-3.ensures.gets
    c.write_all-3.ensures.ok c.write_all-3.ensures.cause.failed
