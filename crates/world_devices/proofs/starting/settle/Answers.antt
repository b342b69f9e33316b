use Rattle.std.proofs.Common.{◌∙◌}
use Rattle.world_devices.proofs.StartLaws.{settle_settles, settles_from}
use Rattle.world_devices.proofs.starting.settle.Goals as goal

pub returns-in-Ok-clause-settling : goal.returns-in-Ok-clause-settling
returns-in-Ok-clause-settling c =
    settle_settles c.args.store c.settle.new.self c.settle.result c.args.host.now c.settle.new.disk
    c.requires.ready (c.settle.ensures.settled c.requires.ready.still_open)
    c.settle.ensures.run.calls

pub returns-in-Err-DiskFault-clause-settling : goal.returns-in-Err-DiskFault-clause-settling
returns-in-Err-DiskFault-clause-settling c =
    settle_settles c.args.store c.settle.new.self c.settle.result c.args.host.now c.settle.new.disk
    c.requires.ready (c.settle.ensures.settled c.requires.ready.still_open)
    c.settle.ensures.run.calls

pub returns-clause-settling : goal.returns-clause-settling
returns-clause-settling c =
    settle_settles c.args.store c.settle.new.self c.settle.result c.args.host.now c.settle.new.disk
    c.requires.ready (c.settle.ensures.settled c.requires.ready.still_open)
    c.settle.ensures.run.calls

pub returns-in-Ok-clause-settles : goal.returns-in-Ok-clause-settles
returns-in-Ok-clause-settles c = λ j holds.
    settles_from j c.args.store c.settle.new.self _ c.args.host.now c.settle.new.disk c.requires.ready (c.in-Ok.ensures.settled c.requires.ready.still_open) holds

pub returns-in-Ok-clause-started : goal.returns-in-Ok-clause-started
returns-in-Ok-clause-started c =
    let settled = c.in-Ok.ensures.settled c.requires.ready.still_open in
    record { ready = c.settle.ensures.ready settled.answer.0; settled = settled.answer.1; limit = settled.comes.limit ∙ c.requires.limit }

pub returns-in-Err-DiskFault-clause-cut : goal.returns-in-Err-DiskFault-clause-cut
returns-in-Err-DiskFault-clause-cut c is =
    let has = rw c.in-Err-DiskFault.field-0-is at (c.in-Err-DiskFault.ensures.settled c.requires.ready.still_open) in
    has.comes.calls.appends.broken c.requires.ready.still_open has.answer
