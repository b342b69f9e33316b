-- The text of more lines, and of more held messages.
use Rattle.std.proofs.Common.{◌≡◌, true, List, [], ◌∷◌, ◌++◌, refl, sym, ◌∙◌, ap, Option, Some, None, is_some, append_assoc, append-nil}
use Rattle.std.specs.List.{list_all}
use Rattle.std.proofs.lemmas.Bool.{false≢true, and_parts, and_from}
use Rattle.sync_rules.specs.declared.entries.Entry.{Entry}
use Rattle.sync_rules.specs.Facts.{Held, Id, held_at, is_held}
use Rattle.sync_rules.proofs.Sound.{held_at-push}
use Rattle.journal_play.specs.Texts.{FateLine, told_by, ends_told, line_at, told_line, lines_text}

pub ends_told-append : (es fs : List Entry) → ends_told (es ++ fs) ≡ ends_told es ++ ends_told fs
ends_told-append [] fs = refl
ends_told-append (e ∷ es) fs = ap (λ ls. told_by e ++ ls) (ends_told-append es fs)
    ∙ sym (append_assoc (told_by e) (ends_told es) (ends_told fs))

pub ends_told-push : (es : List Entry) (e : Entry) → ends_told (es ++ e ∷ []) ≡ ends_told es
    ++ told_by e
ends_told-push es e = ends_told-append es (e ∷ [])
    ∙ ap (λ ls. ends_told es ++ ls) (append-nil (told_by e))

pub text-append : (held : List Held) (ls ms : List FateLine) → lines_text held (ls ++ ms)
    ≡ lines_text held ls ++ lines_text held ms
text-append held [] ms = refl
text-append held (l ∷ ls) ms =
    ap (λ t. told_line held l ++ t) (text-append held ls ms)
    ∙ sym (append_assoc (told_line held l) (lines_text held ls) (lines_text held ms))

-- the lines of held messages stay where one more is held
line-push : (held : List Held) (x : Held) (line : FateLine) (o : Option Held) → held_at held line.1
    ≡ o → is_some o ≡ true → told_line (held ++ x ∷ []) line ≡ told_line held line
line-push held x line None e is = absurd (false≢true is)
line-push held x line (Some h) e is = ap (line_at line.0 line.1) (held_at-push held x line.1 h e ∙ sym e)

pub text-push : (held : List Held) (x : Held) (lines : List FateLine)
    → list_all (λ line. is_held held line.1) lines ≡ true
    → lines_text (held ++ x ∷ []) lines ≡ lines_text held lines
text-push held x [] all = refl
text-push held x (line ∷ lines) all =
    let both = and_parts (is_held held line.1) (list_all (λ l. is_held held l.1) lines) all in
    (λ i. line-push held x line (held_at held line.1) refl both.0 i ++ text-push held x lines both.1 i)

held-push : (held : List Held) (x : Held) (id : Id) (o : Option Held) → held_at held id ≡ o → is_some o ≡ true → is_held (held ++ x ∷ []) id ≡ true
held-push held x id None e is = absurd (false≢true is)
held-push held x id (Some h) e is = ap is_some (held_at-push held x id h e)

pub stays_held : (held : List Held) (x : Held) (id : Id) → is_held held id ≡ true → is_held (held ++ x ∷ []) id ≡ true
stays_held held x id is = held-push held x id (held_at held id) refl is

pub all_stay : (held : List Held) (x : Held) (lines : List FateLine)
    → list_all (λ line. is_held held line.1) lines ≡ true
    → list_all (λ line. is_held (held ++ x ∷ []) line.1) lines ≡ true
all_stay held x [] all = refl
all_stay held x (line ∷ lines) all =
    let both = and_parts (is_held held line.1) (list_all (λ l. is_held held l.1) lines) all in
    and_from (is_held (held ++ x ∷ []) line.1) (list_all (λ l. is_held (held ++ x ∷ []) l.1) lines) (stays_held held x line.1 both.0) (all_stay held x lines both.1)

pub all-push : (held : List Held) (lines : List FateLine) (line : FateLine)
    → list_all (λ l. is_held held l.1) lines ≡ true → is_held held line.1 ≡ true
    → list_all (λ l. is_held held l.1) (lines ++ line ∷ []) ≡ true
all-push held [] line all one = and_from (is_held held line.1) true one refl
all-push held (x ∷ lines) line all one =
    let both = and_parts (is_held held x.1) (list_all (λ l. is_held held l.1) lines) all in
    and_from (is_held held x.1) (list_all (λ l. is_held held l.1) (lines ++ line ∷ [])) both.0 (all-push held lines line both.1 one)
