use Rattle.std.proofs.Common.{refl, rules}
use Rattle.std.specs.Prelude.{Err}
use Rattle.sync_rules.specs.declared.entries.Out.TheVariants as out
use Rattle.entry_codec.specs.Answers.{ReadsPartFrom}
use Rattle.entry_codec.specs.Reading.{held_in, id_in, ids_in, out_in}
use Rattle.entry_codec.proofs.ReadSteps.{out_ok, out_stop}
use Rattle.entry_codec.proofs.values.read_out.Goals as goal

pub returns-in_err-read_ids-in-0 : goal.returns-in_err-read_ids-in-0
returns-in_err-read_ids-in-0 g c =
    let stops : ReadsPartFrom (out_in (held_in c.args.format (g.N.Names.named c.args.names.now))) c.args.front.now.rest.now (Err c.in_err-read_ids-in-0.field-0.0) c.read_ids.new.front.rest.now =
    out_stop (held_in c.args.format (g.N.Names.named c.args.names.now)) (ids_in (held_in c.args.format (g.N.Names.named c.args.names.now))) out.Acks c.args.front.now.rest.now c.read_byte.new.self.rest.now c.read_ids.new.front.rest.now
    c.in_ok-read_byte.field-0 0 c.in_err-read_ids-in-0.field-0.0 c.in_ok-read_byte.ensures c.in-0.is (λ x. refl) c.in_err-read_ids-in-0.ensures in
    search rules

pub returns-in_ok-read_ids-in-0 : goal.returns-in_ok-read_ids-in-0
returns-in_ok-read_ids-in-0 g c =
    out_ok (held_in c.args.format (g.N.Names.named c.args.names.now)) (ids_in (held_in c.args.format (g.N.Names.named c.args.names.now))) out.Acks c.args.front.now.rest.now c.read_byte.new.self.rest.now c.read_ids.new.front.rest.now
    c.in_ok-read_byte.field-0 0 c.in_ok-read_ids-in-0.field-0 c.in_ok-read_byte.ensures c.in-0.is (λ x. refl) c.in_ok-read_ids-in-0.ensures

pub returns-in_err-read_ids-in-1 : goal.returns-in_err-read_ids-in-1
returns-in_err-read_ids-in-1 g c =
    let stops : ReadsPartFrom (out_in (held_in c.args.format (g.N.Names.named c.args.names.now))) c.args.front.now.rest.now (Err c.in_err-read_ids-in-1.field-0.0) c.read_ids-in-1.new.front.rest.now =
    out_stop (held_in c.args.format (g.N.Names.named c.args.names.now)) (ids_in id_in) out.Requests c.args.front.now.rest.now c.read_byte.new.self.rest.now c.read_ids-in-1.new.front.rest.now
    c.in_ok-read_byte.field-0 1 c.in_err-read_ids-in-1.field-0.0 c.in_ok-read_byte.ensures c.in-1.is (λ x. refl) c.in_err-read_ids-in-1.ensures in
    search rules

pub returns-in_ok-read_ids-in-1 : goal.returns-in_ok-read_ids-in-1
returns-in_ok-read_ids-in-1 g c =
    out_ok (held_in c.args.format (g.N.Names.named c.args.names.now)) (ids_in id_in) out.Requests c.args.front.now.rest.now c.read_byte.new.self.rest.now c.read_ids-in-1.new.front.rest.now
    c.in_ok-read_byte.field-0 1 c.in_ok-read_ids-in-1.field-0 c.in_ok-read_byte.ensures c.in-1.is (λ x. refl) c.in_ok-read_ids-in-1.ensures

pub returns-in_err-read_ids-in-2 : goal.returns-in_err-read_ids-in-2
returns-in_err-read_ids-in-2 g c =
    let stops : ReadsPartFrom (out_in (held_in c.args.format (g.N.Names.named c.args.names.now))) c.args.front.now.rest.now (Err c.in_err-read_ids-in-2.field-0.0) c.read_ids-in-2.new.front.rest.now =
    out_stop (held_in c.args.format (g.N.Names.named c.args.names.now)) (ids_in (held_in c.args.format (g.N.Names.named c.args.names.now))) out.Offers c.args.front.now.rest.now c.read_byte.new.self.rest.now c.read_ids-in-2.new.front.rest.now
    c.in_ok-read_byte.field-0 2 c.in_err-read_ids-in-2.field-0.0 c.in_ok-read_byte.ensures c.in-2.is (λ x. refl) c.in_err-read_ids-in-2.ensures in
    search rules

pub returns-in_ok-read_ids-in-2 : goal.returns-in_ok-read_ids-in-2
returns-in_ok-read_ids-in-2 g c =
    out_ok (held_in c.args.format (g.N.Names.named c.args.names.now)) (ids_in (held_in c.args.format (g.N.Names.named c.args.names.now))) out.Offers c.args.front.now.rest.now c.read_byte.new.self.rest.now c.read_ids-in-2.new.front.rest.now
    c.in_ok-read_byte.field-0 2 c.in_ok-read_ids-in-2.field-0 c.in_ok-read_byte.ensures c.in-2.is (λ x. refl) c.in_ok-read_ids-in-2.ensures
