use Rattle.std.proofs.Common.{◌≡◌, ◌<◌, length, arith}
use Rattle.std.proofs.lemmas.Bool.Decides.{nat_tests}
use Rattle.record_grammar.proofs.Streams.{ending_bad, ending_inside, ending_none, rest_ends}
use Rattle.record_grammar.proofs.stream.ending_of.Goals as goal

pub returns-then-is_empty-clause-ending : goal.returns-then-is_empty-clause-ending
returns-then-is_empty-clause-ending c =
    let none : length c.args.bytes.now ≡ 0 = grind (arith, nat_tests) in
    ending_none c.args.place c.args.bytes.now c.requires none

pub returns-then-is_empty-clause-nothing : goal.returns-then-is_empty-clause-nothing
returns-then-is_empty-clause-nothing c = (rest_ends c.args.place c.args.bytes.now c.requires).0

pub returns-in-Bad-clause-ending : goal.returns-in-Bad-clause-ending
returns-in-Bad-clause-ending c =
    let some : 0 < length c.args.bytes.now = grind (arith, nat_tests) in
    ending_bad c.args.place c.args.bytes.now c.in-Bad.reason c.requires some c.in-Bad.ensures.value

pub returns-in-Bad-clause-nothing : goal.returns-in-Bad-clause-nothing
returns-in-Bad-clause-nothing c = (rest_ends c.args.place c.args.bytes.now c.requires).0

pub returns-in_default : goal.returns-in_default
returns-in_default c =
    let some : 0 < length c.args.bytes.now = grind (arith, nat_tests) in
    record {
      ending = ending_inside c.args.place c.args.bytes.now c.front_of.result c.requires some c.front_of.ensures.value c.in_default.not-Bad;
      nothing = (rest_ends c.args.place c.args.bytes.now c.requires).0;
    }
