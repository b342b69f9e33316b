use Rattle.std.proofs.Common.{◌≡◌, ℕ, ◌+◌, arith, ap, ◌∙◌}
use Rattle.resident.proofs.EraLemmas.{attach_stops, dialled_pushed, era_may, era_stands}
use Rattle.resident.proofs.LinkLemmas.{drawn_suits}
use Rattle.resident.proofs.StayLemmas.{ready_over, served_over}
use Rattle.resident.proofs.working.begin_on.Goals as goal

pub take_up-link-requires : goal.take_up-link-requires
take_up-link-requires g c =
    let dialled = c.requires.runs.dialled in
    let few = c.requires.few in
    omega (arith, dialled, few)

pub draw_nonce-nonce-requires : goal.draw_nonce-nonce-requires
draw_nonce-nonce-requires g c =
    let is = c.take_up-link.ensures.links.made.0 in
    let more = c.take_up-link.ensures.links.made.1 in
    omega (arith, is, more)

pub attach-begun-requires-clause-aside : goal.attach-begun-requires-clause-aside
attach-begun-requires-clause-aside g c = c.requires.runs.sessions

pub attach-begun-requires-clause-may : goal.attach-begun-requires-clause-may
attach-begun-requires-clause-may g c =
    let dialled = c.requires.runs.dialled in
    let more = c.take_up-link.ensures.links.made.1 in
    let same = c.draw_nonce-nonce.ensures.dialled in
    let o' = g.H.Disk.tells c.draw_nonce-nonce.new.host in
    era_may (g.C.Clients.meaning c.args.clients.now) c.args.aside.now c.args.store.now o'
    (served_over (g.C.Clients.meaning c.args.clients.now) c.args.store.now
    (g.H.Disk.tells c.args.host.now) o'
    (c.draw_nonce-nonce.ensures.files ∙ c.take_up-link.ensures.call.same_files) c.requires.served)
    (omega (arith, dialled, more, same))

pub attach-begun-requires-clause-settled : goal.attach-begun-requires-clause-settled
attach-begun-requires-clause-settled g c = λ opened. c.requires.served.settled

pub attach-begun-requires-clause-nonce : goal.attach-begun-requires-clause-nonce
attach-begun-requires-clause-nonce g c =
    drawn_suits g.H.Disk.tells c.take_up-link.result c.args.plan.now.mode c.args.has_nonce
    c.take_up-link.new.self c.draw_nonce-nonce.new.host c.draw_nonce-nonce.result c.requires.mode
    c.draw_nonce-nonce.ensures.draws

pub attach-begun-requires-clause-next : goal.attach-begun-requires-clause-next
attach-begun-requires-clause-next g c =
    c.take_up-link.ensures.links.made.0 ∙ c.requires.runs.dialled

pub attach-begun-requires-clause-few : goal.attach-begun-requires-clause-few
attach-begun-requires-clause-few g c =
    let is = c.take_up-link.ensures.links.made.0 ∙ c.requires.runs.dialled in
    let few = c.requires.few in
    omega (arith, is, few)

pub attach-begun-requires-clause-dialled : goal.attach-begun-requires-clause-dialled
attach-begun-requires-clause-dialled g c =
    let is = c.take_up-link.ensures.links.made.0 in
    let more = c.take_up-link.ensures.links.made.1 in
    let same = c.draw_nonce-nonce.ensures.dialled in
    omega (arith, is, more, same)

pub returns-clause-stands : goal.returns-clause-stands
returns-clause-stands g c =
    let clients = g.C.Clients.meaning c.args.clients.now in
    let a = c.args.aside.now in
    let a' = c.attach-begun.new.self in
    let s = c.args.store.now in
    let s' = c.attach-begun.new.store in
    let host = c.draw_nonce-nonce.new.host in
    let o = g.H.Disk.tells host in
    let o' = g.H.Disk.tells c.attach-begun.new.host in
    let e = c.attach-begun.ensures in
    let result = c.attach-begun.result in
    let opened = c.requires.runs.still_open in
    era_stands clients a a' s s' host c.attach-begun.new.host o o' result
    (ready_over clients s (g.H.Disk.tells c.args.host.now) o
    (c.draw_nonce-nonce.ensures.files ∙ c.take_up-link.ensures.call.same_files)
    c.requires.served.ready) opened e.answers e.goes e.may
    (attach_stops clients a a' s s' host c.attach-begun.new.host o o' result (e.stops opened))
    (dialled_pushed a a' o o' e.goes.goes.same_dialled result
    (c.draw_nonce-nonce.ensures.dialled ∙ c.take_up-link.ensures.links.made.1
    ∙ ap (λ (n : ℕ). n + 1) c.requires.runs.dialled) e.links)

pub returns-clause-did : goal.returns-clause-did
returns-clause-did g c =
    let e = c.attach-begun.ensures in
    let opened = c.requires.runs.still_open in
    record {
      taken = c.take_up-link.new.self;
      quiet = c.take_up-link.ensures.call;
      takes = c.take_up-link.ensures.links;
      drawn = c.draw_nonce-nonce.new.host;
      nonce = c.draw_nonce-nonce.result;
      draws = c.draw_nonce-nonce.ensures.draws;
      begins = record {
        answers = e.answers;
        goes = e.goes;
        links = e.links;
        stops = e.stops opened;
        went = e.went opened;
        stopped = e.stopped opened;
      };
    }
