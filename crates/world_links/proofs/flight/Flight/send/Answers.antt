use Rattle.std.proofs.Common.{◌++◌, sym, ap, ◌∙◌, append-nil}
use Rattle.world_links.specs.Flights.{whole_records}
use Rattle.world_links.proofs.FlightLaws.{sent_next}
use Rattle.world_links.proofs.flight.Flight.send.Goals as goal

pub records-preserved : goal.records-preserved
records-preserved c =
    ap (λ s. s ++ whole_records c.in-Some.behind.now) c.in_ok-push.ensures
    ∙ sent_next c.records.self (c.args.self.now ++ whole_records c.args.bytes.now)
    (whole_records c.in-Some.behind.now) c.in-Some.record.now c.records.rest.now
    c.in-Some.ensures.cut c.records.invariant

pub returns : goal.returns
returns c =
    sym (append-nil c.records.self) ∙ ap (λ l. c.records.self ++ l) (sym c.in_default.ensures.cut) ∙ c.records.invariant
