-- The places of held messages by their ids.
use Rattle.std.proofs.Common.{◌≡◌, ℕ, zero, suc, ◌<◌, Bool, true, false, cond, List, [], ◌∷◌}
use Rattle.std.proofs.Common.{◌++◌, length, Option, Some, None, refl, sym, ◌∙◌, ap, arith, get_or}
use Rattle.std.proofs.Common.{set}
use Rattle.std.specs.BTreeMap.{BTreeMap, get}
use Rattle.std.specs.Cmp.Lexicographic.{texts_ties}
use Rattle.std.specs.Option.{option_map}
use Rattle.std.specs.Ordering.{is_eq}
use Rattle.std.proofs.lemmas.List.{length-map}
use Rattle.sync_rules.specs.Lists.{same_id}
use Rattle.sync_rules.specs.Facts.{Held, Id, id_cmp}
use Rattle.sync_rules.specs.Views.{place_of}
use Rattle.sync_rules.proofs.Elements.{same_id-is}
use Rattle.journal_audit.specs.declared.messages.Line.{Line}
use Rattle.journal_audit.specs.Lines.{ArePlaces, held_in, held_of, line_changed}

-- ---- one message more

abbrev or_end : Option ℕ → Bool → ℕ → Option ℕ
or_end None b n = cond b (Some n) None
or_end (Some p) b n = Some p

suc_end : (o : Option ℕ) (b : Bool) (n : ℕ) → option_map suc (or_end o b n) ≡ or_end (option_map suc o) b (suc n)
suc_end None true n = refl
suc_end None false n = refl
suc_end (Some p) b n = refl

pub place_push : (hs : List Held) (h : Held) (id : Id) → place_of (hs ++ h ∷ []) id ≡ or_end (place_of hs id) (same_id h.id id) (length hs)
place_push [] h id = refl
place_push (x ∷ hs) h id =
    ap (λ o. cond (same_id x.id id) (Some 0) (option_map suc o)) (place_push hs h id)
    ∙ (ap (cond (same_id x.id id) (Some 0)) (suc_end (place_of hs id) (same_id h.id id) (length hs))
    ∙ by (same_id x.id id) (option_map suc (place_of hs id)))
  where
    by : (b : Bool) (o : Option ℕ) → cond b (Some 0) (or_end o (same_id h.id id) (suc (length hs))) ≡ or_end (cond b (Some 0) o) (same_id h.id id) (suc (length hs))
    by true o = refl
    by false o = refl

end_none : (o : Option ℕ) (n : ℕ) → or_end o false n ≡ o
end_none None n = refl
end_none (Some p) n = refl

-- a message of a new id stands at the end, and the others stand where they stood
pub place_new : (hs : List Held) (h : Held) (id : Id) → place_of hs h.id ≡ None → place_of (hs ++ h ∷ []) id ≡ cond (same_id h.id id) (Some (length hs)) (place_of hs id)
place_new hs h id none = place_push hs h id ∙ by (same_id h.id id) refl where
  by : (b : Bool) → same_id h.id id ≡ b → or_end (place_of hs id) (same_id h.id id) (length hs) ≡ cond (same_id h.id id) (Some (length hs)) (place_of hs id)
  by true e =
      let here : place_of hs id ≡ None = ap (place_of hs) (sym (same_id-is h.id id e)) ∙ none in
      ap (λ o. or_end o (same_id h.id id) (length hs)) here ∙ (ap (λ b. or_end None b (length hs)) e ∙ sym (ap (λ b. cond b (Some (length hs)) (place_of hs id)) e))
  by false e = ap (λ b. or_end (place_of hs id) b (length hs)) e ∙ (end_none (place_of hs id) (length hs) ∙ sym (ap (λ b. cond b (Some (length hs)) (place_of hs id)) e))

pub held_push : (ls : List Line) (l : Line) → held_in (ls ++ l ∷ []) ≡ held_in ls ++ held_of l ∷ []
held_push [] l = refl
held_push (x ∷ ls) l = ap (λ (t : List Held). held_of x ∷ t) (held_push ls l)

-- the map with one place more
pub places_push : (ls : List Line) (l : Line) (m n : BTreeMap Id ℕ) → ArePlaces (held_in ls) m → place_of (held_in ls) l.id ≡ None
    → ((q : Id) → get id_cmp n q ≡ cond (is_eq (id_cmp l.id q)) (Some (length ls)) (get id_cmp m q)) → ArePlaces (held_in (ls ++ l ∷ [])) n
places_push ls l m n are new put q =
    put q
    ∙ ((λ i. cond (sym (texts_ties l.id q) i) (Some (length ls)) (are q i))
    ∙ (ap (λ k. cond (same_id l.id q) (Some k) (place_of (held_in ls) q)) (sym (length-map ls held_of))
    ∙ (sym (place_new (held_in ls) (held_of l) q new) ∙ ap (λ hs. place_of hs q) (sym (held_push ls l)))))

-- ---- a line changed

pub held_set : (ls : List Line) (n : ℕ) (old new : Line) → n < length ls → old ≡ get_or ls n old → held_of new ≡ held_of old → held_in (set ls n new) ≡ held_in ls
held_set [] n old new within at same = absurd (omega arith)
held_set (l ∷ ls) zero old new within at same = ap (λ (h : Held). h ∷ held_in ls) (same ∙ ap held_of at)
held_set (l ∷ ls) (suc n) old new within at same = ap (λ (t : List Held). held_of l ∷ t) (held_set ls n old new (omega (arith, within)) at same)

pub line_set : (change : Line → Line) (ls : List Line) (n : ℕ) (old : Line) → n < length ls → old ≡ get_or ls n old → set ls n (change old) ≡ line_changed change n ls
line_set change [] n old within at = absurd (omega arith)
line_set change (l ∷ ls) zero old within at = ap (λ (x : Line). change x ∷ ls) at
line_set change (l ∷ ls) (suc n) old within at = ap (λ (t : List Line). l ∷ t) (line_set change ls n old (omega (arith, within)) at)
