use Rattle.commands.specs.Reading.{asks}
use Rattle.sync_words.specs.Words.{texts}
use Rattle.sync_top.proofs.CompleteLemmas.{complete}
use Rattle.sync_top.proofs.HeadlineLemmas.{covers}
use Rattle.sync_top.proofs.LookLemmas.{only_looks}
use Rattle.sync_top.proofs.ServeLemmas.{words_open}
use Rattle.sync_top.proofs.SoundLemmas.{always_opens}
use Rattle.sync_top.proofs.StateLemmas.{tells}
use Rattle.sync_top.proofs.UndamagedLemmas.{undamaged}
use Rattle.sync_top.proofs.program.run.Goals as goal

pub returns-clause-ran : goal.returns-clause-ran
returns-clause-ran g c = record {
  came = c.command-outcome.result;
  comes = c.command-outcome.ensures.comes;
  reports = c.report.ensures;
}

pub returns-clause-states : goal.returns-clause-states
returns-clause-states g c =
    tells c.play_says.ensures (g.C.Clients.meaning c.args.clients.now) _ _ _ _
    (asks (texts c.args.words.now)) _ _ _ _ c.command-outcome.result _
    c.command-outcome.ensures.comes c.report.ensures

pub returns-clause-undamaged : goal.returns-clause-undamaged
returns-clause-undamaged g c =
    undamaged g.H.Disk.tells (g.C.Clients.meaning c.args.clients.now) c.args.host.now
    c.command-outcome.new.host _ _ _ _ c.command-outcome.result
    (asks (texts c.args.words.now)) c.command-outcome.ensures.comes c.command-outcome.ensures.host
    (covers (g.C.Clients.meaning c.args.clients.now) (asks (texts c.args.words.now))
    (g.H.Disk.tells c.args.host.now)
    (g.H.Disk.tells c.command-outcome.new.host) _ _ _ _ c.command-outcome.result c.requires.unused
    c.command-outcome.ensures.comes)
    (words_open g.H.Disk.tells c.lives_are_sound.ensures (g.C.Clients.meaning c.args.clients.now)
    (asks (texts c.args.words.now)) c.args.host.now c.command-outcome.new.host _ _ _ _
    c.command-outcome.result c.command-outcome.ensures.serves)

pub returns-clause-headline : goal.returns-clause-headline
returns-clause-headline g c =
    covers (g.C.Clients.meaning c.args.clients.now) (asks (texts c.args.words.now))
    (g.H.Disk.tells c.args.host.now)
    (g.H.Disk.tells c.command-outcome.new.host) _ _ _ _ c.command-outcome.result c.requires.unused
    c.command-outcome.ensures.comes

pub returns-clause-complete : goal.returns-clause-complete
returns-clause-complete g c =
    complete (g.C.Clients.meaning c.args.clients.now) (asks (texts c.args.words.now)) _ _ _ _ _ _ _
    _ c.command-outcome.result _ c.command-outcome.ensures.comes
    c.report.ensures

pub returns-clause-looks : goal.returns-clause-looks
returns-clause-looks g c =
    only_looks g.H.Disk.tells (g.C.Clients.meaning c.args.clients.now) c.args.host.now
    c.command-outcome.new.host _ _ _ _ c.command-outcome.result
    (asks (texts c.args.words.now)) c.command-outcome.ensures.comes c.command-outcome.ensures.host

pub returns-clause-opens : goal.returns-clause-opens
returns-clause-opens g c =
    always_opens c.runs_are_sound.ensures (g.C.Clients.meaning c.args.clients.now)
    (asks (texts c.args.words.now)) (g.H.Disk.tells c.args.host.now)
    (g.H.Disk.tells c.command-outcome.new.host)
    (covers (g.C.Clients.meaning c.args.clients.now) (asks (texts c.args.words.now))
    (g.H.Disk.tells c.args.host.now)
    (g.H.Disk.tells c.command-outcome.new.host) _ _ _ _ c.command-outcome.result c.requires.unused
    c.command-outcome.ensures.comes)
    (words_open g.H.Disk.tells c.lives_are_sound.ensures (g.C.Clients.meaning c.args.clients.now)
    (asks (texts c.args.words.now)) c.args.host.now c.command-outcome.new.host _ _ _ _
    c.command-outcome.result c.command-outcome.ensures.serves)

pub returns-clause-serves : goal.returns-clause-serves
returns-clause-serves g c = record {
  came = c.command-outcome.result;
  lived = c.command-outcome.ensures.serves;
  reports = c.report.ensures;
}
