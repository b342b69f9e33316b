-- The wanted ids of a plain view are those of the facts.
use Rattle.std.proofs.Common.{◌≡◌, ℕ, ◌+◌, ◌<◌, Bool, true, false, cond, ◌&&◌, ◌||◌, nat_eq}
use Rattle.std.proofs.Common.{eqb-true, List, [], ◌∷◌, ◌++◌, take, get_or, length, refl, sym, ◌∙◌}
use Rattle.std.proofs.Common.{ap, subst, Option, Some, None, is_some, unwrap_or}
use Rattle.std.specs.FinMap as fin_map
use Rattle.std.specs.Ordering.{nat_cmp}
use Rattle.sync_ids.specs.Ids.{message_id_of}
use Rattle.sync_rules.specs.declared.entries.Entry.{Entry}
use Rattle.sync_rules.specs.declared.entries.Entry.TheVariants as entry
use Rattle.sync_rules.specs.declared.entries.Out.TheVariants as out
use Rattle.plain_rules.specs.declared.wants.WantedLine.{WantedLine}
use Rattle.sync_rules.specs.Lists.{same_id, is_among, without}
use Rattle.sync_rules.specs.Facts.{Facts, Held, Id, after, after_all, nothing, facts, held_at}
use Rattle.sync_rules.specs.Facts.{is_held, contact_of, wanted_from, with_want, without_each}
use Rattle.sync_rules.specs.Scans.{first_of_two, first_message, message_at}
use Rattle.plain_rules.specs.Wants.{wanted_in, WantsAre, lines_without, want_then, with_line}
use Rattle.sync_rules.proofs.Elements.{same_id_swap}
use Rattle.sync_rules.proofs.PeerFacts.{want_changed, want_dropped}
use Rattle.sync_rules.proofs.ScanLaws.{held_after_all}
use Rattle.plain_rules.proofs.Loops.{batches_more, entries_more, same_conds}

some_message : (o : Option Held) → is_some (message_at o) ≡ is_some o
some_message None = refl
some_message (Some h) = refl

pub held_before : (j : List (List Entry)) (es : List Entry) (id : Id)
    → is_held (after_all (facts j) es).held id ≡ is_some (first_of_two (message_at (held_at (facts j).held id)) (first_message id es))
held_before j es id =
    sym (some_message (held_at (after_all (facts j) es).held id)) ∙ ap is_some (held_after_all (facts j) es id)

-- ---- wanted ids

wanted_in-push : (c : ℕ) (ws : List WantedLine) (w : WantedLine) → wanted_in c (ws ++ w ∷ []) ≡ cond (nat_eq c w.contact) (wanted_in c ws ++ w.id ∷ []) (wanted_in c ws)
wanted_in-push c [] w = refl
wanted_in-push c (x ∷ ws) w =
    ap (λ t. cond (nat_eq c x.contact) (x.id ∷ t) t) (wanted_in-push c ws w)
    ∙ both (nat_eq c x.contact) (nat_eq c w.contact)
  where
    both : (a b : Bool) → cond a (x.id ∷ cond b (wanted_in c ws ++ w.id ∷ []) (wanted_in c ws)) (cond b (wanted_in c ws ++ w.id ∷ []) (wanted_in c ws))
        ≡ cond b (cond a (x.id ∷ wanted_in c ws) (wanted_in c ws) ++ w.id ∷ []) (cond a (x.id ∷ wanted_in c ws) (wanted_in c ws))
    both true true = refl
    both true false = refl
    both false true = refl
    both false false = refl

-- a line that is dropped or kept
one_line : (c : ℕ) (w : WantedLine) (rest : List WantedLine) (b : Bool)
    → wanted_in c (cond b rest (w ∷ rest)) ≡ cond b (wanted_in c rest) (cond (nat_eq c w.contact) (w.id ∷ wanted_in c rest) (wanted_in c rest))
one_line c w rest true = refl
one_line c w rest false = refl

held_line : (s a : Bool) (i : Id) (R : List Id) → cond s R (cond a (i ∷ R) R) ≡ cond a (cond s R (i ∷ R)) R
held_line true true i R = refl
held_line true false i R = refl
held_line false true i R = refl
held_line false false i R = refl

without_one : (x i : Id) (a : Bool) (X : List Id) → without x (cond a (i ∷ X) X) ≡ cond a (cond (same_id i x) (without x X) (i ∷ without x X)) (without x X)
without_one x i true X = refl
without_one x i false X = refl

wanted_without_held : (c : ℕ) (ws : List WantedLine) (x : Id) → wanted_in c (lines_without (λ w. same_id w.id x) ws) ≡ without x (wanted_in c ws)
wanted_without_held c [] x = refl
wanted_without_held c (w ∷ ws) x =
    one_line c w (lines_without (λ w. same_id w.id x) ws) (same_id w.id x)
    ∙ (ap (λ t. cond (same_id w.id x) t (cond (nat_eq c w.contact) (w.id ∷ t) t)) (wanted_without_held c ws x)
    ∙ (held_line (same_id w.id x) (nat_eq c w.contact) w.id (without x (wanted_in c ws))
    ∙ sym (without_one x w.id (nat_eq c w.contact) (wanted_in c ws))))

without_each-none : (xs : List Id) → without_each xs [] ≡ []
without_each-none [] = refl
without_each-none (x ∷ xs) = without_each-none xs

without_each-more : (xs : List Id) (y : Id) (ys : List Id) → without_each xs (y ∷ ys) ≡ cond (is_among xs y) (without_each xs ys) (y ∷ without_each xs ys)
without_each-more [] y ys = refl
without_each-more (x ∷ xs) y ys =
    elim (same_id y x) as (λ b. same_id x y ≡ b → without_each xs (cond b (without x ys) (y ∷ without x ys))
    ≡ cond (same_id x y || is_among xs y) (without_each xs (without x ys)) (y ∷ without_each xs (without x ys))) [
      | true ↦ λ e. sym (ap (λ b. cond (b || is_among xs y) (without_each xs (without x ys)) (y ∷ without_each xs (without x ys))) e)
      | false ↦ λ e.
          without_each-more xs y (without x ys)
          ∙ sym (ap (λ b. cond (b || is_among xs y) (without_each xs (without x ys)) (y ∷ without_each xs (without x ys))) e)
    ] (same_id_swap x y)

without_each_one : (xs : List Id) (i : Id) (a : Bool) (X : List Id)
    → without_each xs (cond a (i ∷ X) X) ≡ cond a (cond (is_among xs i) (without_each xs X) (i ∷ without_each xs X)) (without_each xs X)
without_each_one xs i true X = without_each-more xs i X
without_each_one xs i false X = refl

-- k: the line is of the contact that requests; m: its id is requested; a: it is of the contact asked for; b: that is the
-- contact that requests
request_line : (k m a b : Bool) (i : Id) (L R X : List Id) → (a ≡ true → k ≡ b) → L ≡ cond b R X
    → cond (k && m) L (cond a (i ∷ L) L) ≡ cond b (cond a (cond m R (i ∷ R)) R) (cond a (i ∷ X) X)
request_line k m false b i L R X same e = unchanged (k && m) ∙ e
  where
    unchanged : (t : Bool) → cond t L L ≡ L
    unchanged true = refl
    unchanged false = refl
request_line k m true true i L R X same e = (λ j. cond (same refl j && m) (e j) (i ∷ e j))
request_line k m true false i L R X same e = (λ j. cond (same refl j && m) (e j) (i ∷ e j))

same_contact : (c d x : ℕ) → nat_eq c d ≡ true → nat_eq d x ≡ nat_eq c x
same_contact c d x e = ap (λ y. nat_eq y x) (sym (eqb-true c d e))

wanted_without_requested : (c : ℕ) (ws : List WantedLine) (cs : ℕ) (ids : List Id)
    → wanted_in c (lines_without (λ w. nat_eq w.contact cs && is_among ids w.id) ws) ≡ cond (nat_eq c cs) (without_each ids (wanted_in c ws)) (wanted_in c ws)
wanted_without_requested c [] cs ids =
    elim (nat_eq c cs) as (λ b. [] ≡ cond b (without_each ids []) []) [ true ↦ sym (without_each-none ids) | false ↦ refl ]
wanted_without_requested c (w ∷ ws) cs ids =
    let rest : List WantedLine = lines_without (λ w. nat_eq w.contact cs && is_among ids w.id) ws in
    one_line c w rest (nat_eq w.contact cs && is_among ids w.id)
    ∙ (request_line (nat_eq w.contact cs) (is_among ids w.id) (nat_eq c w.contact) (nat_eq c cs) w.id (wanted_in c rest)
    (without_each ids (wanted_in c ws)) (wanted_in c ws) (same_contact c w.contact cs) (wanted_without_requested c ws cs ids)
    ∙ ap (λ t. cond (nat_eq c cs) t (cond (nat_eq c w.contact) (w.id ∷ wanted_in c ws) (wanted_in c ws)))
    (sym (without_each_one ids w.id (nat_eq c w.contact) (wanted_in c ws))))

-- an id that is offered: b: the contact; t: it is held, or wanted already; l: what is wanted from the contact
offer_line : (b t : Bool) (l : List Id) (x : Id) (u : Bool) → (b ≡ true → u ≡ t)
    → cond t l (cond b (l ++ x ∷ []) l) ≡ cond b (cond u l (l ++ x ∷ [])) l
offer_line true true l x u e = sym (ap (λ v. cond v l (l ++ x ∷ [])) (e refl))
offer_line true false l x u e = sym (ap (λ v. cond v l (l ++ x ∷ [])) (e refl))
offer_line false true l x u e = refl
offer_line false false l x u e = refl

-- the lines where an id is offered by this contact, or stated as wanted from it
wants_more : (f : Facts) (ws : List WantedLine) (cs : ℕ) (x : Id) → WantsAre f ws → (c : ℕ)
    → wanted_in c (with_line (is_held f.held x) cs x ws)
    ≡ wanted_from (fin_map.insert f.wanted cs (with_want (is_held f.held x) (wanted_from f.wanted cs) x)) c
wants_more f ws cs x h c =
    let held : Bool = is_held f.held x in
    let t : Bool = held || is_among (wanted_in cs ws) x in
    let line : WantedLine = record { contact = cs; id = x } in
    chosen t (ws ++ line ∷ [])
    ∙ (ap (λ l. cond t (wanted_in c ws) l) (wanted_in-push c ws line)
    ∙ (offer_line (nat_eq c cs) t (wanted_in c ws) x (held || is_among (wanted_in c ws) x)
    (λ e. ap (λ d. held || is_among (wanted_in d ws) x) (eqb-true c cs e))
    ∙ (ap (λ l. cond (nat_eq c cs) (cond (held || is_among l x) l (l ++ x ∷ [])) l) (h c)
    ∙ sym (want_changed f.wanted c cs (λ l. with_want held l x)))))
  where
    chosen : (t : Bool) (more : List WantedLine) → wanted_in c (cond t ws more) ≡ cond t (wanted_in c ws) (wanted_in c more)
    chosen true more = refl
    chosen false more = refl

pub wants_after : (f : Facts) (ws : List WantedLine) (e : Entry) → WantsAre f ws → WantsAre (after f e) (want_then f ws e)
wants_after f ws (entry.Contact x) h c =
    h c ∙ sym (want_changed f.wanted c x (λ l. l) ∙ sym (same_conds (nat_eq c x) (wanted_from f.wanted c)))
wants_after f ws (entry.Author m) h c =
    wanted_without_held c ws (message_id_of m) ∙ (ap (without (message_id_of m)) (h c) ∙ sym (want_dropped f.wanted (message_id_of m) c))
wants_after f ws (entry.Arrive s m) h c =
    wanted_without_held c ws (message_id_of m) ∙ (ap (without (message_id_of m)) (h c) ∙ sym (want_dropped f.wanted (message_id_of m) c))
wants_after f ws (entry.Offered s x) h c = wants_more f ws (contact_of f.sessions s) x h c
wants_after f ws (entry.Out s now (out.Acks ids)) h c = h c
wants_after f ws (entry.Out s now (out.Requests ids)) h c =
    wanted_without_requested c ws (contact_of f.sessions s) ids
    ∙ (ap (λ l. cond (nat_eq c (contact_of f.sessions s)) (without_each ids l) l) (h c)
    ∙ sym (want_changed f.wanted c (contact_of f.sessions s) (without_each ids)))
wants_after f ws (entry.Out s now (out.Offers ids)) h c = h c
wants_after f ws (entry.Out s now (out.Send x)) h c = h c
wants_after f ws (entry.Kept from m) h c =
    wanted_without_held c ws (message_id_of m) ∙ (ap (without (message_id_of m)) (h c) ∙ sym (want_dropped f.wanted (message_id_of m) c))
wants_after f ws (entry.Want contact x) h c = wants_more f ws contact x h c
wants_after f ws _ h c = h c

pub wants_go_on : (f : Facts) (es : List Entry) (k : ℕ) (e : Entry) (was now : List WantedLine) → k < length es → e ≡ get_or es k e
    → WantsAre (after_all f (take k es)) was → now ≡ want_then (after_all f (take k es)) was e → WantsAre (after_all f (take (k + 1) es)) now
wants_go_on f es k e was now within at before is =
    subst (WantsAre (after_all f (take (k + 1) es))) (sym is)
    (subst (λ (g : Facts). WantsAre g (want_then (after_all f (take k es)) was e)) (sym (entries_more f es k e within at))
    (wants_after (after_all f (take k es)) was e before))

pub wants_batch : (bs : List (List Entry)) (k : ℕ) (b : List Entry) (now : List WantedLine) → k < length bs → b ≡ get_or bs k b
    → WantsAre (after_all (facts (take k bs)) b) now → WantsAre (facts (take (k + 1) bs)) now
wants_batch bs k b now within at h = subst (λ (g : Facts). WantsAre g now) (sym (batches_more bs k b within at)) h

pub wants_nothing : WantsAre nothing []
wants_nothing c = sym (ap (λ (o : Option (List Id)). unwrap_or o []) (fin_map.get-empty nat_cmp c))
