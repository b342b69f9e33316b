use Rattle.std.proofs.Common.{rules}
use Rattle.std.specs.Prelude.{Err}
use Rattle.entry_codec.specs.Answers.{ReadsPartFrom}
use Rattle.entry_codec.specs.Reading.{held_in, moved_of}
use Rattle.entry_codec.proofs.ReadSteps.{moved_stop}
use Rattle.entry_codec.proofs.reading.read_moved.Goals as goal

pub returns-in_err-read_out-in-15 : goal.returns-in_err-read_out-in-15
returns-in_err-read_out-in-15 g c =
    let stops : ReadsPartFrom (moved_of (held_in c.args.format (g.N.Names.named c.args.names.now)) c.args.tag) c.args.front.now.rest.now (Err c.in_err-read_out-in-15.field-0.0) c.read_out.new.front.rest.now =
    moved_stop (held_in c.args.format (g.N.Names.named c.args.names.now)) c.args.front.now.rest.now c.read_u32-in-15.new.self.rest.now c.read_u64-in-15.new.self.rest.now c.read_out.new.front.rest.now
    c.args.tag c.in_ok-session-in-15.session c.in_ok-now-in-15.now c.in_err-read_out-in-15.field-0.0 c.in-15.is c.in_ok-session-in-15.ensures c.in_ok-now-in-15.ensures c.in_err-read_out-in-15.ensures in
    search rules
