use Rattle.std.proofs.Common.{Option, ap}
use Rattle.std.specs.Option.{option_or}
use Rattle.sync_rules.specs.declared.entries.Out.{Out}
use Rattle.sync_rules.specs.Facts.{expiry_after, one_more_try}
use Rattle.sync_rules.specs.Sessions.{sooner_due, sooner_of, sooner_offers_of}
use Rattle.sync_rules.proofs.SoonerLaws.{counted, few_tries, less_than, stays_not_sooner, tried_not_sooner}
use Rattle.sync_rules.proofs.laws.sooner.Goals as goal

pub returns-clause-last : goal.returns-clause-last
returns-clause-last c = λ f shared s now what is.
    ap (λ (o : Option Out). option_or o (sooner_due s.mode (sooner_of f shared s.contact s.latency now) (sooner_offers_of f shared s.contact s.latency now))) is

pub returns-clause-lower : goal.returns-clause-lower
returns-clause-lower c = λ latency now r is.
    let less = less_than (expiry_after now latency (one_more_try r.tries)) r.expiry is in
    (less, less)

pub returns-clause-once : goal.returns-clause-once
returns-clause-once c = λ latency longer now r l. (tried_not_sooner latency longer now r.tries l, tried_not_sooner latency longer now r.tries l)

pub returns-clause-ends : goal.returns-clause-ends
returns-clause-ends c = λ latency longer now later r l n isnt. stays_not_sooner latency longer now later r l n isnt

pub returns-clause-few : goal.returns-clause-few
returns-clause-few c = λ latency now r some small is.
    let few = few_tries latency now r some small is in
    (few, counted r.tries few, counted r.tries few)
