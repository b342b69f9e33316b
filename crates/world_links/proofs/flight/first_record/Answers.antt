use Rattle.std.proofs.Common.{sym, ap, ◌∙◌, ◌∷◌}
use Rattle.world_links.specs.Flights.{whole_records}
use Rattle.world_links.proofs.FlightLaws.{records_next, records_none}
use Rattle.world_links.proofs.flight.first_record.Goals as goal

pub returns-in-Some-clause-cut : goal.returns-in-Some-clause-cut
returns-in-Some-clause-cut c =
    records_next c.args.bytes.now c.in-Some.len (sym c.in-Some.ensures.value) c.in-Some.ensures.within.1
    ∙ (λ i. sym c.split_at.ensures.front i ∷ whole_records (sym c.split_at.ensures.back i))

pub returns-in-None-clause-cut : goal.returns-in-None-clause-cut
returns-in-None-clause-cut c = records_none c.args.bytes.now (sym c.in-None.ensures.value)
