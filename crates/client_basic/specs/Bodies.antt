-- What the three bundled clients say of a message, by its body (this project's profile).
use Rattle.std.specs.Prelude.{ℕ, zero, suc, ◌*◌, true, false, cond, nat_eq, nat_lt, List, [], ◌∷◌, length, take, drop, replicate, Option, Some, None, codes}
use Rattle.std.specs.Str.{is_utf8}
use Rattle.std.specs.Cmp.Lexicographic.{pointwise}
use Rattle.sync_ids.specs.Values.{MessageValue}
use Rattle.sync_rules.specs.declared.answers.Judgement.{Judgement}
use Rattle.sync_rules.specs.declared.answers.Judgement.TheVariants as judgement
use Rattle.sync_rules.specs.Clients.{Meaning}
use Rattle.sync_rules.specs.Lists.{has_repeat, same_id}

-- ---- note: a text in UTF-8, with no dependencies

abbrev pub note_verdict : List ℕ → Judgement
note_verdict body = cond (is_utf8 body) (judgement.Accept [] true) judgement.Refuse

-- ---- thread: a count byte, so many parent ids of 32 bytes, and a text in UTF-8, perhaps empty

-- so many ids of 32 bytes from the front of a list
abbrev pub ids_from : ℕ → List ℕ → List (List ℕ)
ids_from zero bytes = []
ids_from (suc n) bytes = take 32 bytes ∷ ids_from n (drop 32 bytes)

-- the message of so many parents and this rest: refused where the ids are not whole, two are equal, or the text is not
-- UTF-8
abbrev pub thread_verdict_of : ℕ → List ℕ → Judgement
thread_verdict_of count rest =
    cond (nat_lt (length rest) (32 * count)) judgement.Refuse
    (cond (has_repeat (ids_from count rest)) judgement.Refuse
    (cond (is_utf8 (drop (32 * count) rest)) (judgement.Accept (ids_from count rest) true) judgement.Refuse))

abbrev pub thread_verdict : List ℕ → Judgement
thread_verdict [] = judgement.Refuse
thread_verdict (count ∷ rest) = thread_verdict_of count rest

-- ---- feed: the previous id of 32 bytes or 32 zero bytes, and a text in UTF-8, perhaps empty

-- no dependency for 32 zero bytes, and else the previous id
abbrev pub previous_of : List ℕ → List (List ℕ)
previous_of id = cond (same_id id (replicate 32 0)) [] (id ∷ [])

-- refused where there are fewer than 32 bytes or the text is not UTF-8. A feed message is passed on by its author alone
abbrev pub feed_verdict : List ℕ → Judgement
feed_verdict body =
    cond (nat_lt (length body) 32) judgement.Refuse
    (cond (is_utf8 (drop 32 body)) (judgement.Accept (previous_of (take 32 body)) false) judgement.Refuse)

-- ---- the three together

abbrev pub note_name : List ℕ
note_name = codes "note"

abbrev pub thread_name : List ℕ
thread_name = codes "thread"

abbrev pub feed_name : List ℕ
feed_name = codes "feed"

-- the kind of a name
abbrev pub kind_of_name : List ℕ → Option ℕ
kind_of_name name =
    cond (pointwise nat_eq name note_name) (Some 0)
    (cond (pointwise nat_eq name thread_name) (Some 1)
    (cond (pointwise nat_eq name feed_name) (Some 2) None))

-- the kind of a name and a major version: kinds 0, 1 and 2 of `note`, `thread` and `feed` with major version 0
abbrev pub bundle_kind : List ℕ → ℕ → Option ℕ
bundle_kind name major = cond (nat_eq major 0) (kind_of_name name) None

-- what a bundled client says of a body, by its kind; every other kind refuses
abbrev pub verdict_of : ℕ → List ℕ → Judgement
verdict_of kind body =
    cond (nat_eq kind 0) (note_verdict body)
    (cond (nat_eq kind 1) (thread_verdict body)
    (cond (nat_eq kind 2) (feed_verdict body) judgement.Refuse))

abbrev pub bundle_verdict : ℕ → MessageValue → Judgement
bundle_verdict kind m = verdict_of kind m.body

abbrev pub bundle_meaning : Meaning
bundle_meaning = record { kind_of = bundle_kind; verdict = bundle_verdict }

-- ---- each by itself

-- the client of this name and kind, with what it says of a body; every other kind refuses
abbrev pub single_meaning : List ℕ → ℕ → (List ℕ → Judgement) → Meaning
single_meaning own_name own_kind verdict = record {
  kind_of = λ name major. cond (nat_eq major 0) (cond (pointwise nat_eq name own_name) (Some own_kind) None) None;
  verdict = λ kind m. cond (nat_eq kind own_kind) (verdict m.body) judgement.Refuse;
}

abbrev pub note_meaning : Meaning
note_meaning = single_meaning note_name 0 note_verdict

abbrev pub thread_meaning : Meaning
thread_meaning = single_meaning thread_name 1 thread_verdict

abbrev pub feed_meaning : Meaning
feed_meaning = single_meaning feed_name 2 feed_verdict
