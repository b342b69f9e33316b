use Rattle.std.proofs.Common.{◌++◌, ◌+◌, take, vec_len, ap, ◌∙◌, arith}
use Rattle.std.specs.Vec.{vec_capacity}
use Rattle.request_frames.specs.Reading.{ReaderState}
use Rattle.request_frames.proofs.Stages.{input_ends, input_heard, input_sound, input_state}
use Rattle.request_frames.proofs.reader.Reader.hear_input.Goals as goal

pub overflow_sub-len : goal.overflow_sub-len
overflow_sub-len c =
    let sound = input_sound c.self.inside.front.items (vec_len c.self.inside.front) (vec_len c.self.inside.kept) (vec_capacity c.self.inside.kept) c.self.inside.at c.args.size c.args.most c.args.came c.self.invariant.sound
    (ap (λ (s : ReaderState). s.at) c.self.view_is ∙ c.requires) in
    omega (arith, sound.0, c.len-2.ensures)

pub returns-then-came-count-clause-reads : goal.returns-then-came-count-clause-reads
returns-then-came-count-clause-reads c = λ held stands.
    let sound = input_sound c.self.inside.front.items (vec_len c.self.inside.front) (vec_len c.self.inside.kept) (vec_capacity c.self.inside.kept) c.self.inside.at c.args.size c.args.most c.args.came c.self.invariant.sound
    (ap (λ (s : ReaderState). s.at) c.self.view_is ∙ c.requires) in
    let s = input_state c.self.inside.front.items c.self.inside.kept.items held c.self.inside.at c.args.self.now c.args.size c.args.most c.args.came c.self.view_is c.requires stands in
    input_heard held c.self.inside.front.items c.self.inside.kept.items c.args.piece.now c.extend.new.to.items c.args.size c.args.most c.args.came c.min-count.result c.min-wanted.result s
    (omega (arith, c.min-count.ensures)) (omega (arith, c.min-count.ensures, c.len-2.ensures, sound.0)) (omega (arith, c.min-wanted.ensures, c.len.ensures, sound.1))
    (grind (arith, c.extend.ensures.items))

pub returns-clause-reads : goal.returns-clause-reads
returns-clause-reads c = λ held stands.
    let sound = input_sound c.self.inside.front.items (vec_len c.self.inside.front) (vec_len c.self.inside.kept) (vec_capacity c.self.inside.kept) c.self.inside.at c.args.size c.args.most c.args.came c.self.invariant.sound
    (ap (λ (s : ReaderState). s.at) c.self.view_is ∙ c.requires) in
    let s = input_state c.self.inside.front.items c.self.inside.kept.items held c.self.inside.at c.args.self.now c.args.size c.args.most c.args.came c.self.view_is c.requires stands in
    let heard = input_heard held c.self.inside.front.items c.self.inside.kept.items c.args.piece.now c.extend.new.to.items c.args.size c.args.most c.args.came c.min-count.result c.min-wanted.result s
    (omega (arith, c.min-count.ensures)) (omega (arith, c.min-count.ensures, c.len-2.ensures, sound.0)) (omega (arith, c.min-wanted.ensures, c.len.ensures, sound.1))
    (grind (arith, c.extend.ensures.items)) in
    input_ends (held ++ take c.min-count.result c.args.piece.now) c.self.inside.front.items c.extend.new.to.items c.args.size c.args.most (c.args.came + c.min-count.result) heard
    (omega (arith, c.min-count.ensures, c.len-2.ensures, c.len-3.ensures, c.if-came-count.false, sound.0))
