use Rattle.std.proofs.Common.{rules}
use Rattle.std.specs.Prelude.{Err}
use Rattle.entry_codec.specs.Answers.{ReadsPartFrom}
use Rattle.entry_codec.specs.Reading.{held_in, ids_in}
use Rattle.entry_codec.proofs.ReadSteps.{ids_stop}
use Rattle.entry_codec.proofs.values.read_ids.Goals as goal

pub returns-in_err-read_list : goal.returns-in_err-read_list
returns-in_err-read_list g c =
    let stops : ReadsPartFrom (ids_in (held_in c.args.format (g.N.Names.named c.args.names.now))) c.args.front.now.rest.now (Err c.in_err-read_list.field-0.0) c.read_list.new.front.rest.now =
    ids_stop (held_in c.args.format (g.N.Names.named c.args.names.now)) c.args.front.now.rest.now c.read_count.new.self.rest.now c.read_list.new.front.rest.now c.in_ok-count.count c.in_err-read_list.field-0.0
    c.in_ok-count.ensures.read c.in_err-read_list.ensures.read in
    search rules
