use Rattle.std.proofs.Common.{refl}
use Rattle.entry_codec.specs.Reading.{held_in}
use Rattle.entry_codec.proofs.ReadSteps.{heard_by}
use Rattle.entry_codec.proofs.reading.read_tagged.Goals as goal

pub returns-in-11 : goal.returns-in-11
returns-in-11 g c =
    heard_by c.args.format (held_in c.args.format (g.N.Names.named c.args.names.now)) c.args.front.now.rest.now c.read_byte.new.self.rest.now c.read_heard.new.front.rest.now
    c.in_ok-tag.tag 11 c.read_heard.result c.in_ok-tag.ensures c.in-11.is (λ x. refl) c.read_heard.ensures

pub returns-in-13 : goal.returns-in-13
returns-in-13 g c =
    heard_by c.args.format (held_in c.args.format (g.N.Names.named c.args.names.now)) c.args.front.now.rest.now c.read_byte.new.self.rest.now c.read_heard-in-13.new.front.rest.now
    c.in_ok-tag.tag 13 c.read_heard-in-13.result c.in_ok-tag.ensures c.in-13.is (λ x. refl) c.read_heard-in-13.ensures

pub returns-in-14 : goal.returns-in-14
returns-in-14 g c =
    heard_by c.args.format (held_in c.args.format (g.N.Names.named c.args.names.now)) c.args.front.now.rest.now c.read_byte.new.self.rest.now c.read_heard-in-14.new.front.rest.now
    c.in_ok-tag.tag 14 c.read_heard-in-14.result c.in_ok-tag.ensures c.in-14.is (λ x. refl) c.read_heard-in-14.ensures
