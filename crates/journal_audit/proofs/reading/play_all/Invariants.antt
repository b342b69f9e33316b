-- How far the reader has come.
use Rattle.std.proofs.Common.{◌-◌}
use Rattle.outside.specs.declared.limits.TheConstants.{MAX_JOURNAL}
use Rattle.journal_audit.specs.Reading.{ReadSoFar}
use Rattle.journal_audit.proofs.reading.play_all.Given as goal

abbrev pub invariant-frames : goal.invariant-frames
invariant-frames g l = ReadSoFar (g.C.Clients.meaning l.clients) l.file l.format l.bytes l.played

abbrev pub decreases-frames : goal.decreases-frames
decreases-frames g l = MAX_JOURNAL - l.played.place
