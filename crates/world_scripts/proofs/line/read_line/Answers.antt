use Rattle.std.proofs.Common.{◌≡◌, ◌∙◌, ap, sym, subst, cond, true, false, Option, None}
use Rattle.std.proofs.lemmas.Bool.{false_from_ne_true}
use Rattle.std.proofs.lemmas.Str.{IsUtf8-from_is_utf8, is_utf8-from_IsUtf8}
use Rattle.std.specs.Str.{is_utf8}
use Rattle.world_scripts.specs.Answers.{IsValueRead}
use Rattle.world_scripts.specs.Forms.{line_in, words_in}
use Rattle.world_scripts.specs.declared.step.Line.{Line}
use Rattle.world_scripts.proofs.line.read_line.Goals as goal

pub returns-in_default : goal.returns-in_default
unfolding line_in
returns-in_default c =
    let no : is_utf8 c.args.line.now ≡ false =
    false_from_ne_true (is_utf8 c.args.line.now)
    (λ t. c.in_default.ensures.cases.0 (IsUtf8-from_is_utf8 c.args.line.now t)) in
    ap (λ t. cond t (words_in c.args.line.now) None) no

pub returns : goal.returns
unfolding line_in
returns c =
    let yes : is_utf8 c.args.line.now ≡ true =
    is_utf8-from_IsUtf8 c.args.line.now c.in-Ok.ensures.cases.1 in
    let same : words_in c.in-Ok.text.now ≡ line_in c.args.line.now =
    ap words_in c.in-Ok.ensures.cases.0 ∙ sym
    (ap (λ t. cond t (words_in c.args.line.now) None) yes) in
    subst (λ (o : Option Line). IsValueRead o c.read_words.result) same c.read_words.ensures
