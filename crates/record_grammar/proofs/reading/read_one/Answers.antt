use Rattle.std.proofs.Common.{◌≡◌, ℕ, length, take, drop, ◌+◌, ◌-◌, arith, ap, length-drop}
use Rattle.std.proofs.lemmas.List.{length-take-le}
use Rattle.record_grammar.specs.declared.front.Front.{Front}
use Rattle.record_grammar.specs.Reading.{found_at, found_in, found_payload, front_in, kind_of}
use Rattle.std.specs.Prelude.{IfOk}
use Rattle.record_grammar.specs.declared.reading.Found.TheVariants as found
use Rattle.record_grammar.proofs.Streams.{GoesOn-IfOk, goes_on}
use Rattle.record_grammar.proofs.Sound.{IsSpelled-IfOk, IsSpelled-at}
use Rattle.record_grammar.proofs.reading.read_one.Goals as goal

pub record_of-requires-clause-decided : goal.record_of-requires-clause-decided
record_of-requires-clause-decided c =
    let len : ℕ = c.in-Whole.len in
    let back = c.in-Whole.ensures.backed in
    let width : 4 + len - 4 ≡ len = omega arith in
    let long : length (take len (drop 4 c.args.bytes.now)) ≡ len = length-take-le len (drop 4 c.args.bytes.now) (omega (arith, back.fits, length-drop 4 c.args.bytes.now)) in
    rw (width, long) back.decided

pub returns-in-More : goal.returns-in-More
unfolding found_in
returns-in-More c =
    let e = ap (λ (f : Front). found_at f c.args.bytes.now) c.in-More.ensures.value in
    record { exact = e; spelled = IsSpelled-at c.args.bytes.now found.More (λ i. omega (arith, c.type_inv.bytes i)) e; goes_on = goes_on c.args.bytes.now found.More e }

pub returns-in-Bad : goal.returns-in-Bad
unfolding found_in
returns-in-Bad c =
    let e = ap (λ (f : Front). found_at f c.args.bytes.now) c.in-Bad.ensures.value in
    record { exact = e; spelled = tt; goes_on = goes_on c.args.bytes.now (found.Bad c.in-Bad.reason) e }

pub returns-in-Whole : goal.returns-in-Whole
unfolding found_in
returns-in-Whole c =
    let len : ℕ = c.in-Whole.len in
    let t : ℕ = c.in-Whole.type_byte in
    let width : 4 + len - 4 ≡ len = omega arith in
    let e : found_payload (kind_of t) t (take (4 + len - 4) (drop 4 c.args.bytes.now)) ≡ found_at (front_in c.args.bytes.now) c.args.bytes.now =
    rw width (ap (λ (f : Front). found_at f c.args.bytes.now) c.in-Whole.ensures.value) in
    let exact : IfOk c.record_of.result (λ f. f ≡ found_in c.args.bytes.now) = rw (← e) c.record_of.ensures in
    record { exact = exact; spelled = IsSpelled-IfOk c.args.bytes.now c.record_of.result (λ i. omega (arith, c.type_inv.bytes i)) exact; goes_on = GoesOn-IfOk c.args.bytes.now c.record_of.result exact }
