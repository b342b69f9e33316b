-- The ids of held messages as names.
use Rattle.std.proofs.Common.{◌≡◌, ℕ, zero, suc, ◌^◌, ◌<◌, true, false, cond, ◌||◌, List, [], ◌∷◌, length, Option, Some, None, refl, sym, ◌∙◌, ap, subst, arith, is_some}
use Rattle.std.specs.List.{slice_get}
use Rattle.std.specs.Option.{option_map}
use Rattle.std.proofs.lemmas.Bool.{or_right}
use Rattle.sync_ids.specs.Ids.{message_id_of}
use Rattle.sync_ids.specs.Values.{AreIds, MessageValue}
use Rattle.sync_rules.specs.Clients.{Meaning}
use Rattle.sync_rules.specs.Consistency.{HasHeld, ids_of_held}
use Rattle.sync_rules.specs.Facts.{Facts, Held, Id, held_at}
use Rattle.sync_rules.specs.Lists.{is_among, same_id}
use Rattle.sync_rules.specs.Views.{place_of}
use Rattle.sync_rules.proofs.ConsistencyLaws.{legal_consistent}
use Rattle.sync_rules.proofs.Elements.{same_id_itself}
use Rattle.entry_codec.specs.Naming.{AreNames, place_in}
use Rattle.entry_codec.specs.Payloads.{names_of}
use Rattle.journal_audit.specs.declared.facts.PlainFacts.{PlainFacts}
use Rattle.journal_audit.specs.declared.messages.Line.{Line}
use Rattle.journal_audit.specs.Lines.{held_in}
use Rattle.journal_audit.specs.Plain.{facts_of}
use Rattle.journal_audit.specs.Playing.{IsOfLegal}
use Rattle.journal_audit.proofs.Lines.{among-held}

-- ---- places

pub same_place : (hs : List Held) (id : Id) → place_of hs id ≡ place_in (ids_of_held hs) id
same_place [] id = refl
same_place (h ∷ hs) id = ap (λ (o : Option ℕ). cond (same_id h.id id) (Some 0) (option_map suc o)) (same_place hs id)

is_some_later : (o : Option ℕ) → is_some (option_map suc o) ≡ is_some o
is_some_later None = refl
is_some_later (Some n) = refl

pub placed_among : (ids : List Id) (id : Id) → is_some (place_in ids id) ≡ is_among ids id
placed_among [] id = refl
placed_among (x ∷ ids) id =
    elim (same_id x id) as (λ b. is_some (cond b (Some 0) (option_map suc (place_in ids id))) ≡ (b || is_among ids id)) [
      | true ↦ refl
      | false ↦ is_some_later (place_in ids id) ∙ placed_among ids id
    ]

pub id_there : (ls : List Line) (n : ℕ) (l : Line) → slice_get ls n ≡ Some l → Some l.id ≡ slice_get (ids_of_held (held_in ls)) n
id_there [] n l at = cc
id_there (x ∷ ls) zero l at = let same : x ≡ l = cc in ap (λ (y : Line). Some y.id) (sym same)
id_there (x ∷ ls) (suc n) l at = id_there ls n l at

pub none_there : (ls : List Line) (n : ℕ) → slice_get ls n ≡ None → None ≡ slice_get (ids_of_held (held_in ls)) n
none_there [] n at = refl
none_there (x ∷ ls) zero at = let wrong : Some x ≡ None = at in cc
none_there (x ∷ ls) (suc n) at = none_there ls n at

-- ---- names

ids_len : (ls : List Line) → length (ids_of_held (held_in ls)) ≡ length ls
ids_len [] = refl
ids_len (l ∷ ls) = omega (arith, ids_len ls)

-- each message of some that are held has an id of 32 bytes
each_whole : (law : (m : MessageValue) → length (message_id_of m) ≡ 32) (f : Facts) (ids : List Id) → HasHeld f → ((id : Id) → is_among ids id ≡ true → is_some (held_at f.held id) ≡ true) → AreIds ids
each_whole law f [] fit held = tt
each_whole law f (x ∷ ids) fit held = (
  by (held_at f.held x) refl (held x (ap (λ b. b || is_among ids x) (same_id_itself x))),
  each_whole law f ids fit (λ id among. held id (or_right (same_id x id) (is_among ids id) among)),
)
  where
    by : (o : Option Held) → held_at f.held x ≡ o → is_some o ≡ true → length x ≡ 32
    by None at some = cc
    by (Some h) at some = ap length (fit.each x h at).is_id ∙ law h.message

pub names_are : (law : (m : MessageValue) → length (message_id_of m) ≡ 32) (clients : Meaning) (p : PlainFacts) → IsOfLegal clients p → length p.messages.lines < 2 ^ 32
    → AreNames (names_of (facts_of p))
names_are law clients p of few =
    let fit = subst HasHeld (sym of.facts_are) (legal_consistent clients of.done of.legal).held in
    record {
      distinct = of.sound.lines.distinct;
      whole = each_whole law (facts_of p) (names_of (facts_of p)) fit (λ id among. sym (among-held (held_in p.messages.lines) id) ∙ among);
      few = omega (arith, few, ids_len p.messages.lines);
    }
