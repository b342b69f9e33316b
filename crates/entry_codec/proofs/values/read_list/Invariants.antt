use Rattle.std.proofs.Common.{◌≡◌, ◌++◌, ◌-◌, length}
use Rattle.entry_codec.specs.Reading.{held_in, list_in, made}
use Rattle.entry_codec.proofs.values.read_list.Given as goal

-- the ids so far, and those that are read from what is left, are all
abbrev pub invariant-ids : goal.invariant-ids
invariant-ids g l = record {
  len : length l.ids.items ≡ l.i;
  read : list_in (held_in l.format (g.N.Names.named l.names)) l.count l.fn.front.rest.now
      ≡ made (λ more. l.ids.items ++ more) (list_in (held_in l.format (g.N.Names.named l.names)) (l.count - l.i) l.front.rest.now);
}
