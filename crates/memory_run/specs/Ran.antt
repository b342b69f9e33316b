-- What a command over a host in memory comes to.
use Rattle.std.specs.Prelude.{[], Some}
use Rattle.outside.specs.HostTold.{host_told}
use Rattle.outside.specs.MemHost.{MemHostValue}
use Rattle.outside.specs.MemStreams.{SinkValue, SourceValue, sink_told, source_told}
use Rattle.outside.specs.Streams.{Stream}
use Rattle.sync_rules.specs.Clients.{Meaning}
use Rattle.commands.specs.Reading.{Asked}
use Rattle.sync_words.specs.declared.status.Status.{Status}
use Rattle.sync_top.specs.Run.{RanCommand}

-- an output to which nothing was written
abbrev pub no_text : Stream
no_text = record { bytes = Some []; faults = 0 }

-- From this host and this source the command came to what its words ask for, and gave this status;
-- both outputs were empty before.
abbrev pub RanInMemory : Meaning → Asked → (old new : MemHostValue) → (input input' : SourceValue)
    → (out err : SinkValue) → Status → Type 0
RanInMemory clients asked old new input input' out err given =
    RanCommand clients asked (host_told old) (host_told new) (source_told input)
    (source_told input')
    no_text
    (sink_told out) no_text (sink_told err) given
