-- The lines of a plain view are those of the held messages.
use Rattle.std.proofs.Common.{◌≡◌, ℕ, zero, suc, ◌<◌, Bool, true, false, cond, List, [], ◌∷◌, ◌++◌, take, get_or, length, refl, sym, ◌∙◌, ap, arith, append_assoc, append-nil, Option, Some, None}
use Rattle.std.specs.List.{slice_get}
use Rattle.std.specs.Option.{option_map}
use Rattle.sync_ids.specs.declared.lists.TheConstants.{MAX_IDS}
use Rattle.sync_rules.specs.declared.entries.Entry.{Entry}
use Rattle.sync_rules.specs.declared.entries.Entry.TheVariants as entry
use Rattle.sync_rules.specs.declared.entries.Mode.{Mode}
use Rattle.plain_rules.specs.declared.lines.HeldLine.{HeldLine}
use Rattle.sync_rules.specs.Lists.{same_id}
use Rattle.sync_rules.specs.Facts.{Facts, Held, Id, after, after_all, after_batches, nothing, facts, held_at, contact_of, row_at, authored, arrived, kept_as}
use Rattle.sync_rules.specs.Sessions.{ids_where, first_id, owed_to, offers_of, send_of, sooner_of, sooner_offers_of}
use Rattle.plain_rules.specs.Lines.{line_of, lines_of, line_by, lines_in, lines_among, line_ids, line_place, is_line_owed, is_line_offered, is_line_sent, is_line_sooner}
use Rattle.sync_rules.specs.Views.{place_of, IsPlace, IsFound, group_in, is_seen_in}
use Rattle.sync_rules.proofs.Elements.{same_id-is}

lines_of-push : (hs : List Held) (h : Held) → lines_of (hs ++ h ∷ []) ≡ lines_of hs ++ line_of h ∷ []
lines_of-push [] h = refl
lines_of-push (x ∷ hs) h = ap (λ t. line_of x ∷ t) (lines_of-push hs h)

lines_after_one : (f : Facts) (e : Entry) → lines_of (after f e).held ≡ lines_of f.held ++ line_by e
lines_after_one f (entry.Author m) = lines_of-push f.held (authored m)
lines_after_one f (entry.Arrive s m) = lines_of-push f.held (arrived (contact_of f.sessions s) m)
lines_after_one f (entry.Kept from m) = lines_of-push f.held (kept_as from m)
lines_after_one f _ = sym (append-nil (lines_of f.held))

lines_after_all : (f : Facts) (es : List Entry) → lines_of (after_all f es).held ≡ lines_of f.held ++ lines_in es
lines_after_all f [] = sym (append-nil (lines_of f.held))
lines_after_all f (e ∷ es) =
    lines_after_all (after f e) es
    ∙ (ap (λ t. t ++ lines_in es) (lines_after_one f e) ∙ append_assoc (lines_of f.held) (line_by e) (lines_in es))

lines_after_batches : (f : Facts) (bs : List (List Entry)) → lines_of (after_batches f bs).held ≡ lines_of f.held ++ lines_among bs
lines_after_batches f [] = sym (append-nil (lines_of f.held))
lines_after_batches f (b ∷ bs) =
    lines_after_batches (after_all f b) bs
    ∙ (ap (λ t. t ++ lines_among bs) (lines_after_all f b) ∙ append_assoc (lines_of f.held) (lines_in b) (lines_among bs))

pub lines_found : (j : List (List Entry)) → lines_among j ≡ lines_of (facts j).held
lines_found j = sym (lines_after_batches nothing j)

pub line_ids-is : (test : HeldLine → Bool) (hs : List Held) → line_ids test (lines_of hs) ≡ ids_where (λ h. test (line_of h)) hs
line_ids-is test [] = refl
line_ids-is test (h ∷ hs) =
    let rest = line_ids-is test hs in
    λ i. cond (test (line_of h)) (h.id ∷ rest i) (rest i)

pub line_place-is : (hs : List Held) (id : Id) → line_place (lines_of hs) id ≡ place_of hs id
line_place-is [] id = refl
line_place-is (h ∷ hs) id = ap (λ o. cond (same_id h.id id) (Some 0) (option_map suc o)) (line_place-is hs id)

pub lines-length : (hs : List Held) → length (lines_of hs) ≡ length hs
lines-length [] = refl
lines-length (h ∷ hs) = ap suc (lines-length hs)

-- the line at a place is that of the message at that place
pub line_at : (hs : List Held) (n : ℕ) (l : HeldLine) → n < length hs → l ≡ get_or (lines_of hs) n l
    → ((h : Held) × (slice_get hs n ≡ Some h) × (l ≡ line_of h))
line_at [] n l within at = absurd (omega arith)
line_at (h ∷ hs) zero l within at = (h, refl, at)
line_at (h ∷ hs) (suc n) l within at = line_at hs n l (omega (arith, within)) at

-- what a place tells
found_here : (h : Held) (hs : List Held) (id : Id) → same_id h.id id ≡ true → IsPlace (h ∷ hs) id 0
found_here h hs id e = record {
  message = h;
  named = same_id-is h.id id e;
  first = ap (λ b. cond b (Some h) (held_at hs id)) e;
  stands = refl;
  within = omega arith;
}

found_next : (h : Held) (hs : List Held) (id : Id) (o : Option ℕ) → same_id h.id id ≡ false → IsFound hs id o → IsFound (h ∷ hs) id (option_map suc o)
found_next h hs id None e is = ap (λ b. cond b (Some h) (held_at hs id)) e ∙ is
found_next h hs id (Some n) e is =
    let within : n < length hs = is.within in
    record {
      message = is.message;
      named = is.named;
      first = ap (λ b. cond b (Some h) (held_at hs id)) e ∙ is.first;
      stands = is.stands;
      within = omega (arith, within);
    }

pub place_tells : (hs : List Held) (id : Id) → IsFound hs id (place_of hs id)
place_tells [] id = refl
place_tells (h ∷ hs) id =
    elim (same_id h.id id) as (λ b. same_id h.id id ≡ b → IsFound (h ∷ hs) id (cond b (Some 0) (option_map suc (place_of hs id)))) [
      | true ↦ λ e. found_here h hs id e
      | false ↦ λ e. found_next h hs id (place_of hs id) e (place_tells hs id)
    ] refl

-- ---- what the view says

pub line_group : (hs : List Held) (ls : List HeldLine) (n : ℕ) (l : HeldLine) → ls ≡ lines_of hs → n < length hs → l ≡ get_or ls n l
    → l.group ≡ group_in (slice_get hs n)
line_group hs ls n l lines within at =
    let x = line_at hs n l within (at ∙ ap (λ k. get_or k n l) lines) in
    ap (λ (k : HeldLine). k.group) x.2 ∙ sym (ap group_in x.1)

pub line_seen : (f : Facts) (contact : ℕ) (ls : List HeldLine) (n : ℕ) (l : HeldLine) → ls ≡ lines_of f.held → n < length f.held → l ≡ get_or ls n l
    → (row_at f.rows contact l.id).seen ≡ is_seen_in f contact (slice_get f.held n)
line_seen f contact ls n l lines within at =
    let x = line_at f.held n l within (at ∙ ap (λ k. get_or k n l) lines) in
    ap (λ (k : HeldLine). (row_at f.rows contact k.id).seen) x.2 ∙ sym (ap (is_seen_in f contact) x.1)

pub lines_within : (hs : List Held) (ls : List HeldLine) (n : ℕ) → ls ≡ lines_of hs → n < length hs → n < length ls
lines_within hs ls n lines within =
    let e : length ls ≡ length hs = ap length lines ∙ lines-length hs in omega (arith, e, within)

pub found_is : (hs : List Held) (ls : List HeldLine) (id : Id) → ls ≡ lines_of hs → line_place ls id ≡ place_of hs id
found_is hs ls id lines = ap (λ k. line_place k id) lines ∙ line_place-is hs id

pub owed_is : (f : Facts) (ls : List HeldLine) (contact : ℕ) → ls ≡ lines_of f.held → take MAX_IDS (line_ids (is_line_owed f contact) ls) ≡ owed_to f contact
owed_is f ls contact lines =
    ap (take MAX_IDS) (ap (line_ids (is_line_owed f contact)) lines ∙ line_ids-is (is_line_owed f contact) f.held)

pub offers_is : (f : Facts) (shared : List Id) (ls : List HeldLine) (contact now : ℕ) → ls ≡ lines_of f.held
    → take MAX_IDS (line_ids (is_line_offered f shared contact now) ls) ≡ offers_of f shared contact now
offers_is f shared ls contact now lines =
    ap (take MAX_IDS) (ap (line_ids (is_line_offered f shared contact now)) lines ∙ line_ids-is (is_line_offered f shared contact now) f.held)

pub send_is : (f : Facts) (shared : List Id) (ls : List HeldLine) (contact : ℕ) (mode : Mode) (now : ℕ) → ls ≡ lines_of f.held
    → first_id (line_ids (is_line_sent f shared contact mode now) ls) ≡ send_of f shared contact mode now
send_is f shared ls contact mode now lines =
    ap first_id (ap (line_ids (is_line_sent f shared contact mode now)) lines ∙ line_ids-is (is_line_sent f shared contact mode now) f.held)

pub sooner_offers_is : (f : Facts) (shared : List Id) (ls : List HeldLine) (contact latency now : ℕ) → ls ≡ lines_of f.held
    → take MAX_IDS (line_ids (is_line_sooner f shared contact latency now) ls) ≡ sooner_offers_of f shared contact latency now
sooner_offers_is f shared ls contact latency now lines =
    ap (take MAX_IDS) (ap (line_ids (is_line_sooner f shared contact latency now)) lines ∙ line_ids-is (is_line_sooner f shared contact latency now) f.held)

pub sooner_is : (f : Facts) (shared : List Id) (ls : List HeldLine) (contact latency now : ℕ) → ls ≡ lines_of f.held
    → first_id (line_ids (is_line_sooner f shared contact latency now) ls) ≡ sooner_of f shared contact latency now
sooner_is f shared ls contact latency now lines =
    ap first_id (ap (line_ids (is_line_sooner f shared contact latency now)) lines ∙ line_ids-is (is_line_sooner f shared contact latency now) f.held)
