use Rattle.std.proofs.Common.{◌≡◌, ◌+◌, List, [], ◌∷◌, ◌++◌, take, get_or, length, sym, ap, ◌∙◌, subst, arith}
use Rattle.std.proofs.lemmas.List.{take_more, take_all}
use Rattle.sync_rules.specs.Facts.{Held, Id, is_held}
use Rattle.journal_state.specs.Marks.{marked}
use Rattle.journal_state.proofs.MarkedMore.{IsMarked, marked_none, marked_more, marked_held, all_at}
use Rattle.journal_state.proofs.state.State.mark_all.Goals as goal

pub loop-id-init : goal.loop-id-init
loop-id-init c = marked_none c.args.self.now c.args.contact (marked c.args.mark)

pub mark-requires-clause-held : goal.mark-requires-clause-held
mark-requires-clause-held c =
    let same = marked_held c.args.self.now c.loop-id.self c.args.contact (take c.loop-id.id-index c.args.ids.now) (marked c.args.mark) c.loop-id.invariant in
    ap (λ (x : Id). is_held c.loop-id.self.facts.held x) c.id-item.is
    ∙ (ap (λ (hs : List Held). is_held hs (get_or c.args.ids.now c.loop-id.id-index c.id-item.result)) same
    ∙ all_at (is_held c.args.self.now.facts.held) c.args.ids.now c.loop-id.id-index c.id-item.result c.loop-id-test.true c.requires.held)

pub mark-requires-clause-room : goal.mark-requires-clause-room
mark-requires-clause-room c =
    let same = marked_held c.args.self.now c.loop-id.self c.args.contact (take c.loop-id.id-index c.args.ids.now) (marked c.args.mark) c.loop-id.invariant in
    let long = ap (λ (hs : List Held). length hs) same in
    let more = c.loop-id.invariant.room.rows c.args.contact in
    omega (arith, long, more, c.requires.room)

pub loop-id-preserved : goal.loop-id-preserved
loop-id-preserved c =
    let xs = c.args.ids.now in
    let i = c.loop-id.id-index in
    let more : take (i + 1) xs ≡ take i xs ++ c.id-item.result ∷ [] =
    take_more xs i c.id-item.result c.loop-id-test.true ∙ ap (λ (x : Id). take i xs ++ x ∷ []) (sym c.id-item.is) in
    subst (λ (ys : List Id). IsMarked c.args.self.now c.mark.new.self c.args.contact ys (marked c.args.mark)) (sym more)
    (marked_more c.args.self.now c.loop-id.self c.mark.new.self c.args.contact (take i xs) c.id-item.result (marked c.args.mark) c.loop-id.invariant
    c.mark.ensures.facts c.mark.ensures.answers c.mark.ensures.room)

pub returns : goal.returns
returns c =
    let all : take c.loop-id.id-index c.args.ids.now ≡ c.args.ids.now = take_all c.loop-id.id-index c.args.ids.now c.loop-id-test.false in
    let m : IsMarked c.args.self.now c.loop-id.self c.args.contact c.args.ids.now (marked c.args.mark) =
    subst (λ (ys : List Id). IsMarked c.args.self.now c.loop-id.self c.args.contact ys (marked c.args.mark)) all c.loop-id.invariant in
    record { facts = m.facts; answers = m.answers; room = m.room }
