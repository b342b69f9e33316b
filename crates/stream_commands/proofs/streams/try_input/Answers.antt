use Rattle.std.proofs.Common.{[], take, refl}
use Rattle.record_grammar.specs.Stream.{items, records_of}
use Rattle.journal_play.specs.Playing.{IsTextOf}
use Rattle.sync_words.specs.declared.outcome.Outcome.TheVariants as outcome
use Rattle.stream_commands.specs.declared.input.TheConstants.{MAX_INPUT}
use Rattle.stream_commands.proofs.PlayLemmas.{played_all, plays_nothing}
use Rattle.stream_commands.proofs.AnswerLemmas.{streams_on}
use Rattle.stream_commands.proofs.StreamLemmas.{play_streams}
use Rattle.stream_commands.proofs.streams.try_input.Goals as goal

pub returns-in_err-play : goal.returns-in_err-play
returns-in_err-play g c =
    streams_on c.from_residual.result outcome.Memory c.from_residual.ensures.1
    (λ some text. IsTextOf (g.C.Clients.meaning c.args.clients.now) c.args.def (records_of some)
    text) _ _ _ _ (record { same = refl; same_faults = refl })

pub returns-in_err-heard : goal.returns-in_err-heard
returns-in_err-heard g c =
    streams_on c.from_residual-in_err-heard.result outcome.Memory
    c.from_residual-in_err-heard.ensures.1
    (λ some text. IsTextOf (g.C.Clients.meaning c.args.clients.now) c.args.def (records_of some)
    text) _ _ _ _ (record { same = refl; same_faults = refl })

pub returns : goal.returns
returns g c =
    let clients = g.C.Clients.meaning c.args.clients.now in
    let heard = c.in_ok-heard.ensures in
    let plays = heard.hears (record { clients = c.args.clients; play = c.in_ok-play.play }) []
    (plays_nothing clients c.in_ok-play.play) in
    play_streams clients c.args.def _ _ _ _ _ heard.read _ _ _ heard.consumed
    (played_all clients _ _ _ (items 0 (take MAX_INPUT heard.read)) c.args.def plays
    (c.in_ok-play.ensures clients c.requires)) heard.ends heard.stops c.print_play.ensures
