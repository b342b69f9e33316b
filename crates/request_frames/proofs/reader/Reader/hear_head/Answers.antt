use Rattle.std.proofs.Common.{◌≡◌, ◌++◌, ◌-◌, ◌≤◌, length, take, vec_len, sym, ap, ◌∙◌, arith, rules, length-drop, length-take-le}
use Rattle.std.proofs.lemmas.List.{take_rest}
use Rattle.std.specs.Vec.{vec_capacity}
use Rattle.request_frames.specs.Heads.{head_in}
use Rattle.request_frames.specs.Reading.{ReaderState}
use Rattle.request_frames.proofs.Heads.{more_short}
use Rattle.request_frames.proofs.Stages.{awaits_in_head, head_heard, head_open, head_refused, head_sound, head_state, head_used, leaves_on, sound_in_head, stands_in_head}
use Rattle.request_frames.specs.declared.head.FoundHead.TheVariants as found
use Rattle.request_frames.proofs.reader.Reader.hear_head.Goals as goal

pub overflow_sub-passed : goal.overflow_sub-passed
overflow_sub-passed c =
    let many : vec_len c.self.inside.front ≡ length c.self.inside.front.items = search rules in
    let open_at = head_sound c.self.inside.front.items (vec_len c.self.inside.front) (vec_len c.self.inside.kept) (vec_capacity c.self.inside.kept) c.self.inside.at c.self.invariant.sound (ap (λ (s : ReaderState). s.at) c.self.view_is ∙ c.requires) in
    let now : c.extend.new.to.items ≡ c.self.inside.front.items ++ take c.min-count.result c.args.piece.now = grind (arith, c.extend.ensures.items) in
    let is : found.Whole c.in-Whole.head c.in-Whole.taken ≡ head_in c.extend.new.to.items = c.in-Whole.ensures ∙ ap head_in c.as_slice.ensures.value in
    let used = head_used c.self.inside.front.items c.args.piece.now c.extend.new.to.items c.min-count.result c.in-Whole.head c.in-Whole.taken open_at.0 now is in
    omega (arith, used.0, c.len-held.ensures)

pub invariant_of-self : goal.invariant_of-self
invariant_of-self c =
    let many : vec_len c.self.inside.front ≡ length c.self.inside.front.items = search rules in
    let open_at = head_sound c.self.inside.front.items (vec_len c.self.inside.front) (vec_len c.self.inside.kept) (vec_capacity c.self.inside.kept) c.self.inside.at c.self.invariant.sound (ap (λ (s : ReaderState). s.at) c.self.view_is ∙ c.requires) in
    let now : c.extend.new.to.items ≡ c.self.inside.front.items ++ take c.min-count.result c.args.piece.now = grind (arith, c.extend.ensures.items) in
    let is : found.Whole c.in-Whole.head c.in-Whole.taken ≡ head_in c.extend.new.to.items = c.in-Whole.ensures ∙ ap head_in c.as_slice.ensures.value in
    let used = head_used c.self.inside.front.items c.args.piece.now c.extend.new.to.items c.min-count.result c.in-Whole.head c.in-Whole.taken open_at.0 now is in
    record {
      sound = (omega (arith, c.clear.ensures.len), used.3.words, used.3.input);
      room = omega (arith, c.clear.ensures.capacity, c.extend.ensures.room, c.self.invariant.room);
    }

pub returns-in-Whole-clause-reads : goal.returns-in-Whole-clause-reads
returns-in-Whole-clause-reads c = λ held stands.
    let many : vec_len c.self.inside.front ≡ length c.self.inside.front.items = search rules in
    let s = head_state c.self.inside.front.items c.self.inside.kept.items held c.self.inside.at c.args.self.now c.self.view_is c.requires stands in
    let now : c.extend.new.to.items ≡ c.self.inside.front.items ++ take c.min-count.result c.args.piece.now = grind (arith, c.extend.ensures.items) in
    let is : found.Whole c.in-Whole.head c.in-Whole.taken ≡ head_in c.extend.new.to.items = c.in-Whole.ensures ∙ ap head_in c.as_slice.ensures.value in
    head_heard held c.self.inside.front.items c.args.piece.now c.extend.new.to.items _ c.min-count.result (c.in-Whole.taken - c.len-held.result) c.hear_words-behind.result.used c.in-Whole.head c.in-Whole.taken
    c.hear_words-behind.result.next c.hear_words-behind.new.self s.0 s.1 now is (omega (arith, c.len-held.ensures)) (take_rest c.args.piece.now (c.in-Whole.taken - c.len-held.result))
    (λ b words. c.hear_words-behind.ensures.reads b (rw c.clear.ensures.items words))

pub returns-in-More-clause-reads : goal.returns-in-More-clause-reads
returns-in-More-clause-reads c = λ held stands.
    let s = head_state c.self.inside.front.items c.self.inside.kept.items held c.self.inside.at c.args.self.now c.self.view_is c.requires stands in
    let now : c.extend.new.to.items ≡ c.self.inside.front.items ++ take c.min-count.result c.args.piece.now = grind (arith, c.extend.ensures.items) in
    let is : found.More ≡ head_in c.extend.new.to.items = c.in-More.ensures ∙ ap head_in c.as_slice.ensures.value in
    stands_in_head (held ++ take c.min-count.result c.args.piece.now) c.extend.new.to.items c.self.inside.kept.items c.self.inside.at (ap (λ (s : ReaderState). s.at) c.self.view_is ∙ c.requires)
    (head_open held c.self.inside.front.items c.args.piece.now c.extend.new.to.items c.min-count.result s.0 now is)

pub invariant_of-self-in-More : goal.invariant_of-self-in-More
invariant_of-self-in-More c =
    let many : vec_len c.extend.new.to ≡ length c.extend.new.to.items = search rules in
    let is : head_in c.extend.new.to.items ≡ found.More = sym (c.in-More.ensures ∙ ap head_in c.as_slice.ensures.value) in
    record {
      sound = sound_in_head c.extend.new.to.items (vec_len c.extend.new.to) (vec_len c.self.inside.kept) (vec_capacity c.self.inside.kept) c.self.inside.at (ap (λ (s : ReaderState). s.at) c.self.view_is ∙ c.requires)
          is (omega (arith, more_short c.extend.new.to.items is));
      room = omega (arith, c.extend.ensures.room, c.self.invariant.room);
    }

pub returns-in-More-clause-left : goal.returns-in-More-clause-left
returns-in-More-clause-left c =
    let many : vec_len c.extend.new.to ≡ length c.extend.new.to.items = search rules in
    let is : head_in c.extend.new.to.items ≡ found.More = sym (c.in-More.ensures ∙ ap head_in c.as_slice.ensures.value) in
    let part : length (take c.min-count.result c.args.piece.now) ≡ c.min-count.result = length-take-le c.min-count.result c.args.piece.now (omega (arith, c.min-count.ensures)) in (
      omega (arith, more_short c.extend.new.to.items is, c.extend.ensures.len, c.len-held.ensures, c.min-count.ensures),
      awaits_in_head c.self.inside.at (length c.extend.new.to.items) (ap (λ (s : ReaderState). s.at) c.self.view_is ∙ c.requires),
    )

pub prove-unreachable-requires : goal.prove-unreachable-requires
prove-unreachable-requires c =
    let many : vec_len c.self.inside.front ≡ length c.self.inside.front.items = search rules in
    let open_at = head_sound c.self.inside.front.items (vec_len c.self.inside.front) (vec_len c.self.inside.kept) (vec_capacity c.self.inside.kept) c.self.inside.at c.self.invariant.sound (ap (λ (s : ReaderState). s.at) c.self.view_is ∙ c.requires) in
    let now : c.extend.new.to.items ≡ c.self.inside.front.items ++ take c.min-count.result c.args.piece.now = grind (arith, c.extend.ensures.items) in
    let is : found.Whole c.in-Whole.head c.in-Whole.taken ≡ head_in c.extend.new.to.items = c.in-Whole.ensures ∙ ap head_in c.as_slice.ensures.value in
    let used = head_used c.self.inside.front.items c.args.piece.now c.extend.new.to.items c.min-count.result c.in-Whole.head c.in-Whole.taken open_at.0 now is in
    let fits : c.in-Whole.taken - c.len-held.result ≤ length c.args.piece.now = omega (arith, used.2, c.len-held.ensures) in
    search (rules, fits)

pub returns-in-Whole-clause-within : goal.returns-in-Whole-clause-within
returns-in-Whole-clause-within c =
    let rest = take_rest c.args.piece.now (c.in-Whole.taken - c.len-held.result) in
    omega (arith, c.hear_words-behind.ensures.within, ap length rest, length-drop (c.in-Whole.taken - c.len-held.result) c.args.piece.now)

pub returns-in-Whole-clause-left : goal.returns-in-Whole-clause-left
returns-in-Whole-clause-left c =
    let rest = take_rest c.args.piece.now (c.in-Whole.taken - c.len-held.result) in
    leaves_on c.hear_words-behind.result.next (c.in-Whole.taken - c.len-held.result) c.hear_words-behind.result.used _ (length c.args.piece.now) c.hear_words-behind.new.self
    (omega (arith, ap length rest, length-drop (c.in-Whole.taken - c.len-held.result) c.args.piece.now)) c.hear_words-behind.ensures.left

pub returns-in-Fault-clause-reads : goal.returns-in-Fault-clause-reads
returns-in-Fault-clause-reads c = λ held stands.
    let s = head_state c.self.inside.front.items c.self.inside.kept.items held c.self.inside.at c.args.self.now c.self.view_is c.requires stands in
    let now : c.extend.new.to.items ≡ c.self.inside.front.items ++ take c.min-count.result c.args.piece.now = grind (arith, c.extend.ensures.items) in
    let is : found.Fault ≡ head_in c.extend.new.to.items = c.in-Fault.ensures ∙ ap head_in c.as_slice.ensures.value in
    head_refused held c.self.inside.front.items c.args.piece.now c.extend.new.to.items c.min-count.result s.0 now is
