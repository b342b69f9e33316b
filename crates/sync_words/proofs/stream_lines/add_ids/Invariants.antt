use Rattle.std.proofs.Common.{◌≡◌, ◌++◌, take}
use Rattle.std.specs.String.{string_bytes}
use Rattle.sync_words.specs.StreamTexts.{ids_text}
use Rattle.sync_words.proofs.stream_lines.add_ids.Given as goal

abbrev pub invariant-ids : goal.invariant-ids
invariant-ids l = string_bytes l.to ≡ string_bytes l.initial.to ++ ids_text (take l.id-index l.ids)
