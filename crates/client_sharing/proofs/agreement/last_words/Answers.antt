use Rattle.std.proofs.Common.{◌≡◌, cond, List, ◌∷◌, ◌++◌, [], take, Option, Some, sym, ap, ◌∙◌, arith}
use Rattle.std.proofs.lemmas.List.{take_more}
use Rattle.sync_ids.specs.Values.{GroupValue}
use Rattle.client_sharing.specs.declared.agreement.Said.{Said}
use Rattle.client_sharing.specs.declared.agreement.Stances.{Stances}
use Rattle.client_sharing.specs.Targets.{same_def}
use Rattle.client_sharing.specs.Stances.{def_of_parts, last_words, spoken, words_at}
use Rattle.client_sharing.proofs.Naming.{last_more, words_is, words_then}
use Rattle.client_sharing.proofs.agreement.last_words.Goals as goal

pub said-preserved : goal.said-preserved
said-preserved c def =
    let said = c.args.said.now in
    let s = c.word-item.result in
    let before = take c.said.word-index said in
    let at : def_of_parts c.parts_of-parts.result ≡ s.def = c.parts_of-parts.ensures in
    let was : c.copied.result ≡ last_words before s.def =
    c.copied.ensures ∙ c.get.ensures.value ∙ words_is c.parts_of-parts.result c.said.words.entries
    ∙ ap (words_at c.said.words.entries) at ∙ c.said.invariant s.def in
    let now : c.spoken-stances.result ≡ spoken (last_words before s.def) s.own s.join =
    c.spoken-stances.ensures ∙ ap (λ (o : Option Stances). spoken o s.own s.join) was in
    words_then c.said.words.entries c.insert.new.self.entries c.parts_of-parts.result (Some c.spoken-stances.result) c.in_ok-insert.ensures.updates.0 def
    ∙ ap (λ (d : GroupValue). cond (same_def d def) (Some c.spoken-stances.result) (words_at c.said.words.entries def)) at
    ∙ ap (λ (x : Stances). cond (same_def s.def def) (Some x) (words_at c.said.words.entries def)) now
    ∙ ap (λ (o : Option Stances). cond (same_def s.def def) (Some (spoken (last_words before s.def) s.own s.join)) o) (c.said.invariant def)
    ∙ sym (last_more before s def)
    ∙ ap (λ (x : Said). last_words (before ++ x ∷ []) def) c.word-item.is
    ∙ sym (ap (λ (xs : List Said). last_words xs def) (take_more said c.said.word-index s (omega (arith, c.said-test.true))))
