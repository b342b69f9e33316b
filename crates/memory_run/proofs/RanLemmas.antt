-- A command that ran over a host in memory, whose outputs were made empty.
use Rattle.std.proofs.Common.{◌≡◌, subst}
use Rattle.outside.specs.HostTold.{host_told}
use Rattle.outside.specs.MemHost.{MemHostValue}
use Rattle.outside.specs.MemStreams.{SinkValue, SourceValue, sink_told, source_told}
use Rattle.outside.specs.Streams.{Stream}
use Rattle.sync_rules.specs.Clients.{Meaning}
use Rattle.commands.specs.Reading.{Asked}
use Rattle.sync_words.specs.declared.status.Status.{Status}
use Rattle.sync_top.specs.Run.{RanCommand}
use Rattle.memory_run.specs.Ran.{RanInMemory, no_text}

pub ran_in_memory : (clients : Meaning) (asked : Asked) (old was new : MemHostValue)
    (input input' : SourceValue) (empty out blank err : SinkValue) (given : Status) → was ≡ old
    → sink_told empty ≡ no_text
    → sink_told blank ≡ no_text
    → RanCommand clients asked (host_told was) (host_told new) (source_told input)
    (source_told input')
    (sink_told empty) (sink_told out) (sink_told blank) (sink_told err) given
    → RanInMemory clients asked old new input input' out err given
ran_in_memory clients asked old was new input input' empty out blank err given same first second
    ran =
    subst (λ (h : MemHostValue). RanInMemory clients asked h new input input' out err given) same
    (subst (λ (w : Stream).
    RanCommand clients asked (host_told was) (host_told new) (source_told input)
    (source_told input') w
    (sink_told out) no_text (sink_told err) given) first
    (subst (λ (w : Stream).
    RanCommand clients asked (host_told was) (host_told new) (source_told input)
    (source_told input')
    (sink_told empty) (sink_told out) w (sink_told err) given) second ran))
