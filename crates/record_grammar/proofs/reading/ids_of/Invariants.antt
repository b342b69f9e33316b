use Rattle.std.proofs.Common.{◌≡◌, ◌++◌, ◌-◌, ◌*◌, drop}
use Rattle.record_grammar.specs.Reading.{ids_in}
use Rattle.record_grammar.proofs.reading.ids_of.Given as goal

-- the ids so far, and those of what is left, are all
abbrev pub invariant-ids : goal.invariant-ids
invariant-ids l = l.ids.items ++ ids_in (l.count - l.i) (drop (32 * l.i) l.payload) ≡ ids_in l.count l.payload
