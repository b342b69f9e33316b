-- Streams in memory.
use Rattle.std.specs.Prelude.{ℕ, List, Some}
use Rattle.outside.specs.Streams.{Stream}

-- a source in memory: its bytes left, the calls that are to fail, how many were made, how many failed
pub record SourceValue : Type 0 where
  pub left : List ℕ
  pub failing : List ℕ
  pub calls : ℕ
  pub faults : ℕ

abbrev pub source_told : SourceValue → Stream
source_told source = record { bytes = Some source.left; faults = source.faults }

-- a sink in memory: its bytes, the calls that are to fail, how many were made, how many failed, and of these for want of memory
pub record SinkValue : Type 0 where
  pub bytes : List ℕ
  pub failing : List ℕ
  pub calls : ℕ
  pub faults : ℕ
  pub starved : ℕ

abbrev pub sink_told : SinkValue → Stream
sink_told sink = record { bytes = Some sink.bytes; faults = sink.faults }
