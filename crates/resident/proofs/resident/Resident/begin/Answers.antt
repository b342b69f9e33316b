use Rattle.resident.proofs.resident.Resident.begin.Goals as goal

pub returns-in-Ok-clause-may : goal.returns-in-Ok-clause-may
returns-in-Ok-clause-may g c = λ still_open.
    record { ready = c.in-Ok.ensures.served.ready; era = tt }
