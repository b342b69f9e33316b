-- The facts about a contact are what the words of entries say.
use Rattle.std.proofs.Common.{◌≡◌, ℕ, ◌+◌, min, Bool, true, false, not, cond, ◌&&◌, ◌||◌, ◌⊎◌, ◌↔◌}
use Rattle.std.proofs.Common.{List, [], ◌∷◌, ◌++◌, refl, sym, ◌∙◌, ap, subst, inl, inr, arith}
use Rattle.std.proofs.Common.{Option, Some, None, nat_eq, eqb-true, unwrap_or}
use Rattle.std.specs.FinMap as fin_map
use Rattle.std.specs.Cmp.{nat_cmp_total, unsigned_tied}
use Rattle.std.specs.Ordering.{nat_cmp, eq_by_cmp}
use Rattle.std.proofs.lemmas.Bool.{false≢true, and_parts, and_from, not-true}
use Rattle.sync_ids.specs.Ids.{message_id_of}
use Rattle.sync_rules.specs.declared.entries.Entry.{Entry}
use Rattle.sync_rules.specs.declared.entries.Entry.TheVariants as entry
use Rattle.sync_rules.specs.declared.entries.Out.TheVariants as out
use Rattle.sync_rules.specs.Lists.{same_id, is_among, without}
use Rattle.sync_rules.specs.Facts.{Facts, Id, Row, Wants, pair_cmp, row_at, one_more_try}
use Rattle.sync_rules.specs.Facts.{expiry_after, contact_of, latency_of, nothing, after, after_all}
use Rattle.sync_rules.specs.Facts.{wanted_from, change_each, wanted_by_none, with_want}
use Rattle.sync_rules.specs.Facts.{without_each, is_held, authored, arrived, kept_as, no_row}
use Rattle.sync_rules.specs.PeerLaws.{Test, is_with, is_heard, is_shown_seen, is_asked, is_counted_from, is_offered, requests, tries, is_out, is_acked, is_answered, tries_stated, expiry_stated, last_stated, never, NonePasses, IsLast, count_at, EndsWithPassing, SeenLaw, OwedLaw, AskedLaw, WantedLaw, TriesLaw, NoExpiryLaw, ExpiryLaw, CutLaw}
use Rattle.sync_rules.proofs.Elements.{same_id-is, same_id_swap, among-push}
use Rattle.sync_rules.proofs.Kept.{after_all-append}
use Rattle.sync_rules.proofs.Flags.{is_held-push}
use Rattle.sync_rules.proofs.RowLaws.{seen_step, owed_step, asked_step, tries_step, expiry_step, expiry_by}

-- ---- no entry passes, place by place

abbrev Fails : Test → Facts → List Entry → Type 0
Fails test f [] = Unit {0}
Fails test f (e ∷ es) = (test f e ≡ false) × Fails test (after f e) es

fails_from : (test : Test) (f : Facts) (es : List Entry) → NonePasses test f es → Fails test f es
fails_from test f [] h = tt
fails_from test f (e ∷ es) h = (h [] es e refl, fails_from test (after f e) es (λ before behind x s. h (e ∷ before) behind x (ap (λ (t : List Entry). e ∷ t) s)))

none_is_split : (before behind : List Entry) (e : Entry) → [] ≡ before ++ e ∷ behind → ⊥
none_is_split [] behind e s = cc
none_is_split (x ∷ before) behind e s = cc

none_from : (test : Test) (f : Facts) (es : List Entry) → Fails test f es → NonePasses test f es
none_from test f [] h before behind e s = absurd (none_is_split before behind e s)
none_from test f (x ∷ es) h [] behind e s =
    let same : x ≡ e = cc in
    subst (λ (w : Entry). test f w ≡ false) same h.0
none_from test f (x ∷ es) h (y ∷ before) behind e s =
    let same : x ≡ y = cc in
    let rest : es ≡ before ++ e ∷ behind = cc in
    subst (λ (w : Entry). test (after_all (after f w) before) e ≡ false) same (none_from test (after f x) es h.1 before behind e rest)

fails_front : (test : Test) (f : Facts) (es fs : List Entry) → Fails test f (es ++ fs) → Fails test f es
fails_front test f [] fs h = tt
fails_front test f (e ∷ es) fs h = (h.0, fails_front test (after f e) es fs h.1)

fails_back : (test : Test) (f : Facts) (es fs : List Entry) → Fails test f (es ++ fs) → Fails test (after_all f es) fs
fails_back test f [] fs h = h
fails_back test f (e ∷ es) fs h = fails_back test (after f e) es fs h.1

-- ---- the last entry that passes one of two tests

module _ (first second : Test) where
  abbrev turned : Bool → Facts → Entry → Bool
  turned b f e = cond (first f e) true (cond (second f e) false b)

  -- set by the first test, else cleared by the second
  abbrev toggled : Bool → Facts → List Entry → Bool
  toggled b f [] = b
  toggled b f (e ∷ es) = toggled (turned b f e) (after f e) es

  stays_set : (f : Facts) (es : List Entry) → Fails second f es → toggled true f es ≡ true
  stays_set f [] h = refl
  stays_set f (e ∷ es) h =
      let set : turned true f e ≡ true =
      ap (λ b. cond (first f e) true (cond b false true)) h.0
      ∙ elim (first f e) as (λ b. cond b true true ≡ true) [ true ↦ refl | false ↦ refl ] in
      ap (λ b. toggled b (after f e) es) set ∙ stays_set (after f e) es h.1

  toggled-append : (b : Bool) (f : Facts) (es fs : List Entry) → toggled b f (es ++ fs) ≡ toggled (toggled b f es) (after_all f es) fs
  toggled-append b f [] fs = refl
  toggled-append b f (e ∷ es) fs = toggled-append (turned b f e) (after f e) es fs

  last_sets : (b : Bool) (f : Facts) (es : List Entry) → IsLast first second f es → toggled b f es ≡ true
  last_sets b f es l =
      let g : Facts = after_all f l.before in
      let was : Bool = toggled b f l.before in
      let set : turned was g l.of ≡ true = ap (λ t. cond t true (cond (second g l.of) false was)) l.passes in
      ap (toggled b f) l.stands
      ∙ (toggled-append b f l.before (l.of ∷ l.behind)
      ∙ (ap (λ t. toggled t (after g l.of) l.behind) set
      ∙ stays_set (after g l.of) l.behind (fails_from second (after g l.of) l.behind l.then)))

  -- how it came to be set
  abbrev Came : Bool → Facts → List Entry → Type 0
  Came b f es = IsLast first second f es ⊎ ((b ≡ true) × Fails second f es)

  came_later : (f : Facts) (e : Entry) (es : List Entry) → IsLast first second (after f e) es → IsLast first second f (e ∷ es)
  came_later f e es l = record {
    before = e ∷ l.before;
    of = l.of;
    behind = l.behind;
    stands = ap (λ (t : List Entry). e ∷ t) l.stands;
    passes = l.passes;
    then = l.then;
  }

  came_here : (b : Bool) (f : Facts) (e : Entry) (es : List Entry) → turned b f e ≡ true → Fails second (after f e) es → Came b f (e ∷ es)
  came_here b f e es set none =
      elim (first f e) as (λ t. first f e ≡ t → cond t true (cond (second f e) false b) ≡ true → Came b f (e ∷ es)) [
        | true ↦ λ p s. inl (record {
          before = [];
          of = e;
          behind = es;
          stands = refl;
          passes = p;
          then = none_from second (after f e) es none;
        })
        | false ↦ λ p s.
            elim (second f e) as (λ t. second f e ≡ t → cond t false b ≡ true → Came b f (e ∷ es)) [
              | true ↦ λ q s. absurd (false≢true s)
              | false ↦ λ q s. inr (s, (q, none))
            ] refl s
      ] refl set

  came : (b : Bool) (f : Facts) (es : List Entry) → toggled b f es ≡ true → Came b f es
  came b f [] h = inr (h, tt)
  came b f (e ∷ es) h =
      elim (came (turned b f e) (after f e) es h) [
        | inl l ↦ inl (came_later f e es l)
        | inr r ↦ came_here b f e es r.0 r.1
      ]

  pub toggled-is : (es : List Entry) → (toggled false nothing es ≡ true) ↔ IsLast first second nothing es
  toggled-is es = (
    λ h. elim (came false nothing es h) [ inl l ↦ l | inr r ↦ absurd (false≢true r.0) ],
    λ l. last_sets false nothing es l,
  )

  -- a flag that each entry turns
  flag_toggled : (flag : Facts → Bool) → ((f : Facts) (e : Entry) → flag (after f e) ≡ turned (flag f) f e)
      → (f : Facts) (es : List Entry) → flag (after_all f es) ≡ toggled (flag f) f es
  flag_toggled flag one f [] = refl
  flag_toggled flag one f (e ∷ es) = flag_toggled flag one (after f e) es ∙ ap (λ b. toggled b (after f e) es) (one f e)

  pub flag_law : (flag : Facts → Bool) → ((f : Facts) (e : Entry) → flag (after f e) ≡ turned (flag f) f e) → flag nothing ≡ false
      → (es : List Entry) → (flag (after_all nothing es) ≡ true) ↔ IsLast first second nothing es
  flag_law flag one none es =
      let same : flag (after_all nothing es) ≡ toggled false nothing es = flag_toggled flag one nothing es ∙ ap (λ b. toggled b nothing es) none in
      let law = toggled-is es in
      (λ h. law.0 (sym same ∙ h), λ l. same ∙ law.1 l)

no_row_yet : (contact : ℕ) (id : Id) → row_at nothing.rows contact id ≡ unwrap_or None no_row
no_row_yet contact id = ap (λ (o : Option Row). unwrap_or o no_row)
    (fin_map.get-empty pair_cmp (contact, id))

pub seen_law : (es : List Entry) → SeenLaw es
seen_law es contact id =
    flag_law (is_shown_seen contact id) never (λ f. (row_at f.rows contact id).seen) (λ f e. seen_step f contact id e)
    (ap (λ (r : Row). r.seen) (no_row_yet contact id)) es

pub owed_law : (es : List Entry) → OwedLaw es
owed_law es contact id =
    flag_law (is_heard contact id) (is_acked contact id) (λ f. (row_at f.rows contact id).owed) (λ f e. owed_step f contact id e)
    (ap (λ (r : Row). r.owed) (no_row_yet contact id)) es

pub asked_law : (es : List Entry) → AskedLaw es
asked_law es contact id =
    flag_law (is_asked contact id) (is_answered contact id) (λ f. (row_at f.rows contact id).asked) (λ f e. asked_step f contact id e)
    (ap (λ (r : Row). r.asked) (no_row_yet contact id)) es

-- ---- tries

tries_run : (contact : ℕ) (id : Id) (f : Facts) (es : List Entry) (n : ℕ) → Fails (is_counted_from contact id) f es
    → (row_at f.rows contact id).tries ≡ min 64 n
    → (row_at (after_all f es).rows contact id).tries ≡ min 64 (n + count_at (is_out contact (tries id)) f es)
tries_run contact id f [] n none h = h ∙ ap (min 64) (omega arith)
tries_run contact id f (e ∷ es) n none h =
    let one = tries_step f contact id e
    ∙ ap (λ b. cond b (min 64 (tries_stated e)) (cond (is_out contact (tries id) f e) (one_more_try (row_at f.rows contact id).tries) (row_at f.rows contact id).tries)) none.0 in
    elim (is_out contact (tries id) f e) as (λ b.
    (row_at (after f e).rows contact id).tries ≡ cond b (one_more_try (row_at f.rows contact id).tries) (row_at f.rows contact id).tries
    → (row_at (after_all (after f e) es).rows contact id).tries
    ≡ min 64 (n + cond b (1 + count_at (is_out contact (tries id)) (after f e) es) (count_at (is_out contact (tries id)) (after f e) es))) [
      | true ↦ λ is.
          let raised : min 64 (min 64 n + 1) ≡ min 64 (n + 1) = omega arith in
          let more : (row_at (after f e).rows contact id).tries ≡ min 64 (n + 1) = is ∙ (ap one_more_try h ∙ raised) in
          let count : n + 1 + count_at (is_out contact (tries id)) (after f e) es ≡ n + (1 + count_at (is_out contact (tries id)) (after f e) es) = omega arith in
          tries_run contact id (after f e) es (n + 1) none.1 more ∙ ap (min 64) count
      | false ↦ λ is. tries_run contact id (after f e) es n none.1 (is ∙ h)
    ] one

-- the last of some entries is the one that was added last
last_of : (stated : Entry → ℕ) (front : List Entry) (e : Entry) → last_stated stated (front ++ e ∷ []) ≡ stated e
last_of stated [] e = refl
last_of stated (x ∷ []) e = refl
last_of stated (x ∷ y ∷ front) e = last_of stated (y ∷ front) e

-- at the cut a row has the tries and the expiry that its last entry states
record IsAtCut (contact : ℕ) (id : Id) (before : List Entry) : Type 0 where
  tries : (row_at (after_all nothing before).rows contact id).tries ≡ min 64 (last_stated tries_stated before)
  expiry : (row_at (after_all nothing before).rows contact id).expiry ≡ last_stated expiry_stated before

at_cut : (contact : ℕ) (id : Id) (before : List Entry) → (before ≡ []) ⊎ EndsWithPassing (is_counted_from contact id) before → IsAtCut contact id before
at_cut contact id before starts =
    elim starts [
      | inl none ↦
          let at : IsAtCut contact id [] = record {
            tries = ap (λ (r : Row). r.tries) (no_row_yet contact id) ∙ omega arith;
            expiry = ap (λ (r : Row). r.expiry) (no_row_yet contact id);
          } in
          subst (IsAtCut contact id) (sym none) at
      | inr e ↦
          let g : Facts = after_all nothing e.before in
          let whole : after_all nothing (e.before ++ e.of ∷ []) ≡ after g e.of = after_all-append nothing e.before (e.of ∷ []) in
          let at : IsAtCut contact id (e.before ++ e.of ∷ []) = record {
            tries = ap (λ (h : Facts). (row_at h.rows contact id).tries) whole
                ∙ (tries_step g contact id e.of
                ∙ (ap (λ b. cond b (min 64 (tries_stated e.of)) (cond (is_out contact (tries id) g e.of) (one_more_try (row_at g.rows contact id).tries) (row_at g.rows contact id).tries)) e.passes
                ∙ ap (min 64) (sym (last_of tries_stated e.before e.of))));
            expiry = ap (λ (h : Facts). (row_at h.rows contact id).expiry) whole
                ∙ (expiry_step g contact id e.of
                ∙ (ap (λ b. cond b (expiry_stated e.of) (cond (is_out contact (tries id) g e.of) (expiry_by g contact id e.of) (row_at g.rows contact id).expiry)) e.passes
                ∙ sym (last_of expiry_stated e.before e.of)));
          } in
          subst (IsAtCut contact id) (sym e.stands) at
    ]

pub tries_law : (es : List Entry) → TriesLaw es
tries_law es contact id before behind c =
    let g : Facts = after_all nothing before in
    let none = fails_from (is_counted_from contact id) g behind c.then in
    let run = tries_run contact id g behind (last_stated tries_stated before) none (at_cut contact id before c.starts).tries in
    ap (λ (x : List Entry). (row_at (after_all nothing x).rows contact id).tries) c.stands
    ∙ (ap (λ (f : Facts). (row_at f.rows contact id).tries) (after_all-append nothing before behind) ∙ run)

-- ---- expiry

expiry_run : (contact : ℕ) (id : Id) (f : Facts) (es : List Entry) → Fails (is_counted_from contact id) f es → Fails (is_out contact (tries id)) f es
    → (row_at (after_all f es).rows contact id).expiry ≡ (row_at f.rows contact id).expiry
expiry_run contact id f [] a t = refl
expiry_run contact id f (e ∷ es) a t =
    expiry_run contact id (after f e) es a.1 t.1
    ∙ (expiry_step f contact id e
    ∙ (λ i. cond (a.0 i) (expiry_stated e) (cond (t.0 i) (expiry_by f contact id e) (row_at f.rows contact id).expiry)))

no_count : (test : Test) (f : Facts) (es : List Entry) → Fails test f es → count_at test f es ≡ 0
no_count test f [] h = refl
no_count test f (e ∷ es) h =
    ap (λ b. cond b (1 + count_at test (after f e) es) (count_at test (after f e) es)) h.0 ∙ no_count test (after f e) es h.1

count-append : (test : Test) (f : Facts) (es fs : List Entry) → count_at test f (es ++ fs) ≡ count_at test f es + count_at test (after_all f es) fs
count-append test f [] fs = omega arith
count-append test f (e ∷ es) fs =
    let h = count-append test (after f e) es fs in
    elim (test f e) as (λ b. cond b (1 + count_at test (after f e) (es ++ fs)) (count_at test (after f e) (es ++ fs))
    ≡ cond b (1 + count_at test (after f e) es) (count_at test (after f e) es) + count_at test (after_all (after f e) es) fs) [
      | true ↦ omega (arith, h)
      | false ↦ h
    ]

pub no_expiry_law : (es : List Entry) → NoExpiryLaw es
no_expiry_law es contact id before behind c none =
    let g : Facts = after_all nothing before in
    ap (λ (x : List Entry). (row_at (after_all nothing x).rows contact id).expiry) c.stands
    ∙ (ap (λ (f : Facts). (row_at f.rows contact id).expiry) (after_all-append nothing before behind)
    ∙ (expiry_run contact id g behind (fails_from (is_counted_from contact id) g behind c.then) (fails_from (is_out contact (tries id)) g behind none)
    ∙ (at_cut contact id before c.starts).expiry))

pub expiry_law : (es : List Entry) → ExpiryLaw es
expiry_law es contact id before behind c earlier later session now what stands passes none =
    let g : Facts = after_all nothing before in
    let h : Facts = after_all g earlier in
    let e : Entry = entry.Out session now what in
    let test : Test = is_out contact (tries id) in
    let from : Test = is_counted_from contact id in
    let stated : ℕ = last_stated tries_stated before in
    let quiet : Fails from g (earlier ++ e ∷ later) = subst (Fails from g) stands (fails_from from g behind c.then) in
    let front = fails_front from g earlier (e ∷ later) quiet in
    let back = fails_back from g earlier (e ∷ later) quiet in
    let still : Fails test (after h e) later = fails_from test (after h e) later none in
    let run : (row_at h.rows contact id).tries ≡ min 64 (stated + count_at test g earlier) =
    tries_run contact id g earlier stated front (at_cut contact id before c.starts).tries in
    let set : (row_at (after h e).rows contact id).expiry ≡ expiry_after now (latency_of h.sessions session) (one_more_try (row_at h.rows contact id).tries) =
    expiry_step h contact id e
    ∙ ap (λ b. cond b (expiry_by h contact id e) (row_at h.rows contact id).expiry) passes in
    let last : count_at test h (e ∷ later) ≡ 1 + 0 =
    ap (λ b. cond b (1 + count_at test (after h e) later) (count_at test (after h e) later)) passes
    ∙ ap (λ (n : ℕ). 1 + n) (no_count test (after h e) later still) in
    let count : count_at test g behind ≡ count_at test g earlier + count_at test h (e ∷ later) =
    ap (count_at test g) stands ∙ count-append test g earlier (e ∷ later) in
    let same : one_more_try (row_at h.rows contact id).tries ≡ min 64 (stated + count_at test g behind) =
    ap one_more_try run ∙ omega (arith, count, last) in
    ap (λ (x : List Entry). (row_at (after_all nothing x).rows contact id).expiry) (c.stands ∙ ap (λ (b : List Entry). before ++ b) stands)
    ∙ (ap (λ (f : Facts). (row_at f.rows contact id).expiry) (after_all-append nothing before (earlier ++ e ∷ later) ∙ after_all-append g earlier (e ∷ later))
    ∙ (expiry_run contact id (after h e) later back.1 still
    ∙ (set ∙ ap (expiry_after now (latency_of h.sessions session)) same)))

-- ---- wanted ids

pub want_put : (wanted : Wants) (c : ℕ) (ids : List Id) (contact : ℕ) → wanted_from (fin_map.insert wanted c ids) contact ≡ cond (nat_eq contact c) ids (wanted_from wanted contact)
want_put wanted c ids contact =
    ap (λ (o : Option (List Id)). unwrap_or o [])
    (fin_map.get-insert nat_cmp_total wanted c ids contact)
    ∙ (chosen (eq_by_cmp nat_cmp contact c) (fin_map.get wanted contact) ∙ ap (λ b. cond b ids (wanted_from wanted contact)) (unsigned_tied contact c))
  where
    chosen : (b : Bool) (o : Option (List Id)) → unwrap_or (cond b (Some ids) o) []
        ≡ cond b ids (unwrap_or o [])
    chosen true o = refl
    chosen false o = refl

same_want : (wanted : Wants) (contact c : ℕ) (g : List Id → List Id) (b : Bool) → nat_eq contact c ≡ b
    → cond b (g (wanted_from wanted c)) (wanted_from wanted contact) ≡ cond b (g (wanted_from wanted contact)) (wanted_from wanted contact)
same_want wanted contact c g true h = ap (λ (k : ℕ). g (wanted_from wanted k)) (sym (eqb-true contact c h))
same_want wanted contact c g false h = refl

pub want_changed : (wanted : Wants) (contact c : ℕ) (g : List Id → List Id)
    → wanted_from (fin_map.insert wanted c (g (wanted_from wanted c))) contact ≡ cond (nat_eq contact c) (g (wanted_from wanted contact)) (wanted_from wanted contact)
want_changed wanted contact c g = want_put wanted c (g (wanted_from wanted c)) contact ∙ same_want wanted contact c g (nat_eq contact c) refl

found_changed : (g : List Id → List Id) (es : List (ℕ × List Id)) (contact : ℕ) → g [] ≡ []
    → unwrap_or (fin_map.find nat_cmp contact (change_each g es)) []
    ≡ g (unwrap_or (fin_map.find nat_cmp contact es) [])
found_changed g [] contact none = sym none
found_changed g (e ∷ es) contact none =
    elim (eq_by_cmp nat_cmp contact e.0) as
    (λ b. unwrap_or (cond b (Some (g e.1)) (fin_map.find nat_cmp contact (change_each g es))) []
    ≡ g (unwrap_or (cond b (Some e.1) (fin_map.find nat_cmp contact es)) [])) [
      | true ↦ refl
      | false ↦ found_changed g es contact none
    ]

pub want_dropped : (wanted : Wants) (x : Id) (contact : ℕ) → wanted_from (wanted_by_none wanted x) contact ≡ without x (wanted_from wanted contact)
want_dropped wanted x contact =
    ap (λ (o : Option (List Id)). unwrap_or o [])
    (fin_map.get-from_entries nat_cmp_total (change_each (without x) (fin_map.entries wanted))
    contact)
    ∙ (found_changed (without x) (fin_map.entries wanted) contact refl
    ∙ ap (λ (o : Option (List Id)). without x (unwrap_or o []))
    (sym (fin_map.get-entries wanted contact)))

-- s: this id; t: the one that is dropped
drop_step : (s t a n : Bool) → (s ≡ true → t ≡ n) → cond t (a && not n) (s || (a && not n)) ≡ ((s || a) && not n)
drop_step true true a n h = from_true n (h refl) a
  where
    from_true : (n : Bool) → true ≡ n → (a : Bool) → (a && not n) ≡ not n
    from_true true e true = refl
    from_true true e false = refl
    from_true false e a = absurd (false≢true (sym e))
drop_step true false a n h = ap not (h refl)
drop_step false true a n h = refl
drop_step false false a n h = refl

pub among-without : (x : Id) (ids : List Id) (id : Id) → is_among (without x ids) id ≡ (is_among ids id && not (same_id x id))
among-without x [] id = refl
among-without x (y ∷ ids) id =
    let h = among-without x ids id in
    chosen (same_id y x)
    ∙ (ap (λ b. cond (same_id y x) b (same_id y id || b)) h
    ∙ drop_step (same_id y id) (same_id y x) (is_among ids id) (same_id x id)
    (λ s. ap (λ (w : Id). same_id w x) (same_id-is y id s) ∙ same_id_swap id x))
  where
    chosen : (b : Bool) → is_among (cond b (without x ids) (y ∷ without x ids)) id ≡ cond b (is_among (without x ids) id) (same_id y id || is_among (without x ids) id)
    chosen true = refl
    chosen false = refl

and_not_or : (a s t : Bool) → ((a && not s) && not t) ≡ (a && not (s || t))
and_not_or true true t = refl
and_not_or true false t = refl
and_not_or false s t = refl

and_not_none : (a : Bool) → a ≡ (a && true)
and_not_none true = refl
and_not_none false = refl

pub among-without_each : (xs : List Id) (ids : List Id) (id : Id) → is_among (without_each xs ids) id ≡ (is_among ids id && not (is_among xs id))
among-without_each [] ids id = and_not_none (is_among ids id)
among-without_each (x ∷ xs) ids id =
    among-without_each xs (without x ids) id
    ∙ (ap (λ b. b && not (is_among xs id)) (among-without x ids id)
    ∙ and_not_or (is_among ids id) (same_id x id) (is_among xs id))

-- ---- one more entry, at a contact and an id

module _ (contact : ℕ) (id : Id) where
  abbrev pub is_wanted : Facts → Bool
  is_wanted f = is_among (wanted_from f.wanted contact) id

  abbrev turn : Bool → Facts → Entry → Bool
  turn t f e = cond (is_offered contact id f e) true (cond (is_out contact (requests id) f e) false t)

  -- a message that comes to be held
  comes : (h t s w : Bool) → w ≡ (not h && t) → (w && not s) ≡ (not (s || h) && t)
  comes true t true w e = ap (λ b. b && false) e
  comes true t false w e = ap (λ b. b && true) e
  comes false t true w e = and_none w
    where
      and_none : (w : Bool) → (w && false) ≡ false
      and_none true = refl
      and_none false = refl
  comes false t false w e = sym (and_not_none w) ∙ e

  held_one : (f : Facts) (x : Id) (t : Bool) → is_wanted f ≡ (not (is_held f.held id) && t)
      → is_among (wanted_from (wanted_by_none f.wanted x) contact) id ≡ (not (same_id x id || is_held f.held id) && t)
  held_one f x t e =
      ap (λ (l : List Id). is_among l id) (want_dropped f.wanted x contact)
      ∙ (among-without x (wanted_from f.wanted contact) id
      ∙ comes (is_held f.held id) t (same_id x id) (is_wanted f) e)

  -- b: the contact; s: this id; hx: the offered id is held; ax: it is wanted already; h, w: this id is held, is wanted
  offer_step : (b s hx ax h w t : Bool) → (s ≡ true → hx ≡ h) → (s ≡ true → ax ≡ w) → w ≡ (not h && t)
      → cond b (cond (hx || ax) w (s || w)) w ≡ (not h && cond (b && s) true t)
  offer_step false s hx ax h w t eh ea e = e
  offer_step true false true ax h w t eh ea e = e
  offer_step true false false true h w t eh ea e = e
  offer_step true false false false h w t eh ea e = e
  offer_step true true hx ax true w t eh ea e = ap (λ b. cond (b || ax) w true) (eh refl) ∙ e
  offer_step true true hx ax false w t eh ea e =
      (λ i. cond (eh refl i || ea refl i) w true) ∙ elim w as (λ v. cond v v true ≡ true) [ true ↦ refl | false ↦ refl ]

  spread_more : (f : Facts) (x : Id) (b c : Bool)
      → is_among (cond b (cond c (wanted_from f.wanted contact) (wanted_from f.wanted contact ++ x ∷ [])) (wanted_from f.wanted contact)) id
      ≡ cond b (cond c (is_wanted f) (same_id x id || is_wanted f)) (is_wanted f)
  spread_more f x true true = refl
  spread_more f x true false = among-push (wanted_from f.wanted contact) x id
  spread_more f x false c = refl

  offered_one : (f : Facts) (s : ℕ) (x : Id) (t : Bool) → is_wanted f ≡ (not (is_held f.held id) && t)
      → is_wanted (after f (entry.Offered s x)) ≡ (not (is_held f.held id) && cond (is_with contact f s && same_id x id) true t)
  offered_one f s x t e =
      ap (λ (l : List Id). is_among l id) (want_changed f.wanted contact (contact_of f.sessions s) (λ l. with_want (is_held f.held x) l x))
      ∙ (spread_more f x (is_with contact f s) (is_held f.held x || is_among (wanted_from f.wanted contact) x)
      ∙ offer_step (is_with contact f s) (same_id x id) (is_held f.held x) (is_among (wanted_from f.wanted contact) x) (is_held f.held id) (is_wanted f) t
      (λ s. ap (is_held f.held) (same_id-is x id s)) (λ s. ap (is_among (wanted_from f.wanted contact)) (same_id-is x id s)) e)

  want_one : (f : Facts) (c : ℕ) (x : Id) (t : Bool) → is_wanted f ≡ (not (is_held f.held id) && t)
      → is_wanted (after f (entry.Want c x)) ≡ (not (is_held f.held id) && cond (nat_eq contact c && same_id x id) true t)
  want_one f c x t e =
      ap (λ (l : List Id). is_among l id) (want_changed f.wanted contact c (λ l. with_want (is_held f.held x) l x))
      ∙ (spread_more f x (nat_eq contact c) (is_held f.held x || is_among (wanted_from f.wanted contact) x)
      ∙ offer_step (nat_eq contact c) (same_id x id) (is_held f.held x) (is_among (wanted_from f.wanted contact) x) (is_held f.held id) (is_wanted f) t
      (λ s. ap (is_held f.held) (same_id-is x id s)) (λ s. ap (is_among (wanted_from f.wanted contact)) (same_id-is x id s)) e)

  -- b: the contact; n: the id is named
  request_step : (b n h w t : Bool) → w ≡ (not h && t) → cond b (w && not n) w ≡ (not h && cond (b && n) false t)
  request_step false n h w t e = e
  request_step true true true w t e = ap (λ x. x && false) e
  request_step true true false w t e = elim w as (λ v. (v && false) ≡ false) [ true ↦ refl | false ↦ refl ]
  request_step true false h w t e = sym (and_not_none w) ∙ e

  requested_one : (f : Facts) (s now : ℕ) (ids : List Id) (t : Bool) → is_wanted f ≡ (not (is_held f.held id) && t)
      → is_wanted (after f (entry.Out s now (out.Requests ids))) ≡ (not (is_held f.held id) && cond (is_with contact f s && is_among ids id) false t)
  requested_one f s now ids t e =
      ap (λ (l : List Id). is_among l id) (want_changed f.wanted contact (contact_of f.sessions s) (without_each ids))
      ∙ (spread (is_with contact f s)
      ∙ request_step (is_with contact f s) (is_among ids id) (is_held f.held id) (is_wanted f) t e)
    where
      spread : (b : Bool) → is_among (cond b (without_each ids (wanted_from f.wanted contact)) (wanted_from f.wanted contact)) id
          ≡ cond b (is_wanted f && not (is_among ids id)) (is_wanted f)
      spread true = among-without_each ids (wanted_from f.wanted contact) id
      spread false = refl

  other_out : (b : Bool) (h t w : Bool) → w ≡ (not h && t) → w ≡ (not h && cond (b && false) false t)
  other_out true h t w e = e
  other_out false h t w e = e

  contact_one : (f : Facts) (c : ℕ) (t : Bool) → is_wanted f ≡ (not (is_held f.held id) && t) → is_wanted (after f (entry.Contact c)) ≡ (not (is_held f.held id) && t)
  contact_one f c t e =
      ap (λ (l : List Id). is_among l id) (want_changed f.wanted contact c (λ l. l))
      ∙ (elim (nat_eq contact c) as (λ b. is_among (cond b (wanted_from f.wanted contact) (wanted_from f.wanted contact)) id ≡ is_wanted f) [ true ↦ refl | false ↦ refl ]
      ∙ e)

  wanted_one : (f : Facts) (e : Entry) (t : Bool) → is_wanted f ≡ (not (is_held f.held id) && t)
      → is_wanted (after f e) ≡ (not (is_held (after f e).held id) && turn t f e)
  wanted_one f (entry.Contact c) t h = contact_one f c t h
  wanted_one f (entry.Author m) t h =
      held_one f (message_id_of m) t h ∙ ap (λ b. not b && t) (sym (is_held-push f.held (authored m) id))
  wanted_one f (entry.Arrive s m) t h =
      held_one f (message_id_of m) t h ∙ ap (λ b. not b && t) (sym (is_held-push f.held (arrived (contact_of f.sessions s) m) id))
  wanted_one f (entry.Offered s x) t h = offered_one f s x t h
  wanted_one f (entry.Out s now (out.Acks ids)) t h = other_out (is_with contact f s) (is_held f.held id) t (is_wanted f) h
  wanted_one f (entry.Out s now (out.Requests ids)) t h = requested_one f s now ids t h
  wanted_one f (entry.Out s now (out.Offers ids)) t h = other_out (is_with contact f s) (is_held f.held id) t (is_wanted f) h
  wanted_one f (entry.Out s now (out.Send x)) t h = other_out (is_with contact f s) (is_held f.held id) t (is_wanted f) h
  wanted_one f (entry.Kept from m) t h =
      held_one f (message_id_of m) t h ∙ ap (λ b. not b && t) (sym (is_held-push f.held (kept_as from m) id))
  wanted_one f (entry.Want c x) t h = want_one f c x t h
  wanted_one f _ t h = h

  wanted_all : (f : Facts) (es : List Entry) (t : Bool) → is_wanted f ≡ (not (is_held f.held id) && t)
      → is_wanted (after_all f es) ≡ (not (is_held (after_all f es).held id) && toggled (is_offered contact id) (is_out contact (requests id)) t f es)
  wanted_all f [] t h = h
  wanted_all f (e ∷ es) t h = wanted_all (after f e) es (turn t f e) (wanted_one f e t h)

pub wanted_law : (es : List Entry) → WantedLaw es
wanted_law es contact id =
    let start : is_wanted contact id nothing ≡ false =
    ap (λ (o : Option (List Id)). is_among (unwrap_or o []) id)
    (fin_map.get-empty nat_cmp contact) in
    let held : Bool = is_held (after_all nothing es).held id in
    let t : Bool = toggled (is_offered contact id) (is_out contact (requests id)) false nothing es in
    let is : is_wanted contact id (after_all nothing es) ≡ (not held && t) = wanted_all contact id nothing es false start in
    let law = toggled-is (is_offered contact id) (is_out contact (requests id)) es in (
      λ w. let both = and_parts (not held) t (sym is ∙ w) in (not-true held both.0, law.0 both.1),
      λ p. is ∙ and_from (not held) t (ap not p.0) (law.1 p.1),
    )

-- ---- the cut

-- a cut of entries that follow others
record CutAfter (test : Test) (f : Facts) (es : List Entry) : Type 0 where
  before : List Entry
  behind : List Entry
  stands : es ≡ before ++ behind
  starts : (before ≡ []) ⊎ ((front : List Entry) × (of : Entry) × (before ≡ front ++ of ∷ []) × (test (after_all f front) of ≡ true))
  then : Fails test (after_all f before) behind

cut_here : (test : Test) (f : Facts) (e : Entry) (es : List Entry) → Fails test (after f e) es → CutAfter test f (e ∷ es)
cut_here test f e es none =
    elim (test f e) as (λ b. test f e ≡ b → CutAfter test f (e ∷ es)) [
      | true ↦ λ p. record { before = e ∷ []; behind = es; stands = refl; starts = inr ([], e, refl, p); then = none }
      | false ↦ λ p. record { before = []; behind = e ∷ es; stands = refl; starts = inl refl; then = (p, none) }
    ] refl

cut_after : (test : Test) (f : Facts) (es : List Entry) → CutAfter test f es
cut_after test f [] = record { before = []; behind = []; stands = refl; starts = inl refl; then = tt }
cut_after test f (e ∷ es) =
    let c : CutAfter test (after f e) es = cut_after test (after f e) es in
    elim c.starts [
      | inl none ↦
          let all : es ≡ c.behind = c.stands ∙ ap (λ (b : List Entry). b ++ c.behind) none in
          let quiet : Fails test (after f e) c.behind = subst (λ (b : List Entry). Fails test (after_all (after f e) b) c.behind) none c.then in
          cut_here test f e es (subst (Fails test (after f e)) (sym all) quiet)
      | inr s ↦ record {
        before = e ∷ c.before;
        behind = c.behind;
        stands = ap (λ (t : List Entry). e ∷ t) c.stands;
        starts = inr (e ∷ s.0, s.1, ap (λ (t : List Entry). e ∷ t) s.2, s.3);
        then = c.then;
      }
    ]

pub cut_law : (es : List Entry) → CutLaw es
cut_law es contact id =
    let c : CutAfter (is_counted_from contact id) nothing es = cut_after (is_counted_from contact id) nothing es in
    record {
      before = c.before;
      behind = c.behind;
      cut = record {
        stands = c.stands;
        starts = elim c.starts [
          | inl none ↦ inl none
          | inr s ↦ inr (record { before = s.0; of = s.1; stands = s.2; passes = s.3 })
        ];
        then = none_from (is_counted_from contact id) (after_all nothing c.before) c.behind c.then;
      };
    }
