use Rattle.sync_rules.specs.Facts.{facts}
use Rattle.sync_course.specs.Events.{batches_of}
use Rattle.sync_course.specs.Suits.{heard_at_place}
use Rattle.sync_course.proofs.FreeSuits.{planned_suits, run_suits}
use Rattle.sync_course.proofs.laws.batches_suit.Goals as goal

pub returns : goal.returns
returns c = λ clients terms sessions j events last legal broken.
    planned_suits clients terms.first sessions (heard_at_place last) (facts j) (batches_of events)
    (run_suits c.streams_go_on.ensures c.records_join.ensures c.fronts_have_fronts.ensures clients terms sessions j events
    last legal broken)
