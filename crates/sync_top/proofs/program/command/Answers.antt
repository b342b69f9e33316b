use Rattle.std.proofs.Common.{refl, subst, sym}
use Rattle.commands.specs.Reading.{asks}
use Rattle.sync_words.specs.Words.{texts}
use Rattle.sync_words.specs.declared.outcome.Outcome.{Outcome}
use Rattle.sync_top.specs.Lives.{ServesAs}
use Rattle.sync_top.specs.Run.{WordsComeTo}
use Rattle.sync_top.proofs.ServeLemmas.{words_serve}
use Rattle.sync_top.proofs.StateLemmas.{words_come}
use Rattle.sync_top.proofs.program.command.Goals as goal

pub returns-in-Err-clause-comes : goal.returns-in-Err-clause-comes
returns-in-Err-clause-comes g c =
    let clients = g.C.Clients.meaning c.args.clients.now in
    let asked = asks (texts c.args.words.now) in
    let o = g.H.Disk.tells c.args.host.now in
    let input = g.S.Source.tells c.args.input.now in
    let out = g.W.Sink.tells c.args.out.now in
    subst (λ (came : Outcome). WordsComeTo clients asked o o input input out out came)
    (sym c.from.ensures)
    (words_come clients asked o input input out out c.in-Err.fault c.in-Err.ensures.read
    (record { same = refl; same_faults = refl }) (record { same = refl; same_faults = refl }))

pub returns-in-Err-clause-serves : goal.returns-in-Err-clause-serves
returns-in-Err-clause-serves g c =
    let clients = g.C.Clients.meaning c.args.clients.now in
    let asked = asks (texts c.args.words.now) in
    let input = g.S.Source.tells c.args.input.now in
    let out = g.W.Sink.tells c.args.out.now in
    subst (λ (came : Outcome).
    ServesAs g.H.Disk.tells clients asked c.args.host.now c.args.host.now input input out out came)
    (sym c.from.ensures)
    (words_serve g.H.Disk.tells clients asked c.args.host.now input out c.in-Err.fault
    c.in-Err.ensures.read)
