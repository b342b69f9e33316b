-- The parts after a step that delivers a message.
use Rattle.std.proofs.Common.{◌≡◌, ◌≢◌, ℕ, zero, suc, ◌+◌, ◌<◌, Bool, true, false, cond, ◌&&◌, ◌||◌, List, [], ◌∷◌, ◌++◌, length, map, set, nat_eq, nat_lt, Option, None, Some, slice_get, slice_index_or, refl, sym, ◌∙◌, ap, subst, arith, eqb-true}
use Rattle.std.specs.List.{list_all}
use Rattle.std.specs.FinSet as fin_set
use Rattle.std.proofs.lemmas.Bool.{false≢true, and_parts, and_from}
use Rattle.std.proofs.lemmas.List.{map-append, length-append}
use Rattle.sync_rules.specs.declared.answers.Judgement.{Judgement}
use Rattle.sync_rules.specs.declared.entries.Entry.TheVariants as entry
use Rattle.sync_rules.specs.Lists.{same_id, is_among}
use Rattle.sync_rules.specs.Facts.{Held, Id, level_at, is_level_shared}
use Rattle.sync_rules.specs.Sessions.{is_author, may_share}
use Rattle.sync_rules.specs.Views.{place_of}
use Rattle.message_graph.specs.declared.nodes.Judged.TheVariants as judged
use Rattle.message_graph.specs.declared.nodes.Node.{Node}
use Rattle.message_graph.specs.declared.nodes.Ending.TheVariants as ending
use Rattle.message_graph.specs.Nodes as nodes
use Rattle.retry_table.specs.Table as retry
use Rattle.journal_state.specs.Left.{one_if_delivered, sum_of}
use Rattle.journal_state.specs.Parts.{Parts, answer_of_node, answers_of, facts_of, is_invalid, is_judged, name_at, ids_where, rows_in, shared_among, wants_in}
use Rattle.journal_state.specs.Whole.{IsState, is_delivered_in, left_in, may_go}
use Rattle.journal_state.specs.Changes.{delivered_parts}
use Rattle.journal_state.specs.Delivery.{goes_to, ReadiesMessage}
use Rattle.journal_state.specs.Taking.{moved}
use Rattle.sync_rules.proofs.Elements.{same_id-is, same_id_itself, same_id_swap}
use Rattle.journal_state.proofs.Listed.{id_there}
use Rattle.journal_state.specs.Sound.{AreApart}
use Rattle.journal_state.proofs.Apart.{first_apart}
use Rattle.journal_state.proofs.Changed.{names_of, own_found, names_kept, named_changed, names_same}
use Rattle.journal_state.proofs.Answered.{ids_of}
use Rattle.journal_state.proofs.Stepped.{answers_kept, kept_at, length_kept, name_there, ordered_end, within_list}
use Rattle.journal_state.proofs.Grown.{rows_same, wants_same}
use Rattle.journal_state.proofs.Limited.{readied_row}
use Rattle.journal_state.proofs.Sums.{sum_changed}
use Rattle.journal_state.proofs.Tables.{set_here, set_there}

-- ---- lists with one more

all_more : (test : ℕ → Bool) (xs : List ℕ) (x : ℕ) → list_all test xs ≡ true → test x ≡ true → list_all test (xs ++ x ∷ []) ≡ true
all_more test [] x all last = and_from (test x) true last refl
all_more test (y ∷ xs) x all last =
    let both = and_parts (test y) (list_all test xs) all in
    and_from (test y) (list_all test (xs ++ x ∷ [])) both.0 (all_more test xs x both.1 last)

or_none : (b : Bool) → (b || false) ≡ b
or_none true = refl
or_none false = refl

or_later : (a b c : Bool) → (a || (b || c)) ≡ ((a || b) || c)
or_later true b c = refl
or_later false b c = refl

among_more : (xs : List Id) (x d : Id) → is_among (xs ++ x ∷ []) d ≡ (is_among xs d || same_id x d)
among_more [] x d = or_none (same_id x d)
among_more (y ∷ xs) x d = ap (λ b. same_id y d || b) (among_more xs x d) ∙ or_later (same_id y d) (is_among xs d) (same_id x d)

or_true : (b : Bool) → (b || true) ≡ true
or_true true = refl
or_true false = refl

-- ---- the messages that may be sent on

answers_at : (ns : List Node) (shares : List Bool) (n : ℕ) (y : Node) (share : Bool) → slice_get ns n ≡ Some y → slice_get shares n ≡ Some share
    → slice_get (answers_of ns shares) n ≡ Some (answer_of_node y.answer share)
answers_at [] shares n y share at lets = absurd (let e : None ≡ Some y = at in cc)
answers_at (x ∷ ns) [] n y share at lets = absurd (let e : None ≡ Some share = lets in cc)
answers_at (x ∷ ns) (b ∷ shares) zero y share at lets =
    let one : x ≡ y = cc in
    let two : b ≡ share = cc in
    λ i. Some (answer_of_node (one i).answer (two i))
answers_at (x ∷ ns) (b ∷ shares) (suc n) y share at lets = answers_at ns shares n y share at lets

kept_out : (t : Bool) (x : Id) (xs : List Id) (d : Id) → same_id x d ≡ false → is_among xs d ≡ false → is_among (cond t (x ∷ xs) xs) d ≡ false
kept_out true x xs d away none = ap (λ b. b || is_among xs d) away ∙ none
kept_out false x xs d away none = none

not_shared : (hs : List Held) (answers : List (Option Judgement)) (d : Id) → is_among (ids_of hs) d ≡ false → is_among (shared_among hs answers) d ≡ false
not_shared [] answers d none = refl
not_shared (h ∷ hs) [] d none = refl
not_shared (h ∷ hs) (a ∷ answers) d none =
    let both = parts_of (same_id h.id d) (is_among (ids_of hs) d) none in
    kept_out (may_share a) h.id (shared_among hs answers) d both.0 (not_shared hs answers d both.1)
  where
    parts_of : (a b : Bool) → (a || b) ≡ false → (a ≡ false) × (b ≡ false)
    parts_of true b e = absurd (false≢true (sym e))
    parts_of false b e = (refl, e)

own_in : (t : Bool) (x : Id) (xs : List Id) → is_among xs x ≡ false → is_among (cond t (x ∷ xs) xs) x ≡ t
own_in true x xs none = ap (λ b. b || is_among xs x) (same_id_itself x)
own_in false x xs none = none

later_in : (t : Bool) (x : Id) (xs : List Id) (d : Id) → same_id x d ≡ false → is_among (cond t (x ∷ xs) xs) d ≡ is_among xs d
later_in true x xs d away = ap (λ b. b || is_among xs d) away
later_in false x xs d away = refl

away_from : (hs : List Held) (n : ℕ) (h : Held) (d : Id) → slice_get hs n ≡ Some h → is_among (ids_of hs) d ≡ false → same_id d h.id ≡ false
away_from [] n h d at none = absurd (let e : None ≡ Some h = at in cc)
away_from (x ∷ hs) zero h d at none =
    let is : x ≡ h = cc in
    same_id_swap d h.id
    ∙ (ap (λ (w : Held). same_id w.id d) (sym is)
    ∙ first (same_id x.id d) (is_among (ids_of hs) d) none)
  where
    first : (a b : Bool) → (a || b) ≡ false → a ≡ false
    first true b e = e
    first false b e = refl
away_from (x ∷ hs) (suc n) h d at none = away_from hs n h d at (rest (same_id x.id d) (is_among (ids_of hs) d) none)
  where
    rest : (a b : Bool) → (a || b) ≡ false → b ≡ false
    rest true b e = absurd (false≢true (sym e))
    rest false b e = e

-- a message may be sent on where its judgement says so
own_shared : (hs : List Held) (answers : List (Option Judgement)) (n : ℕ) (h : Held) (a : Option Judgement) → slice_get hs n ≡ Some h → slice_get answers n ≡ Some a → AreApart (ids_of hs)
    → is_among (shared_among hs answers) h.id ≡ may_share a
own_shared [] answers n h a at is apart = absurd (let e : None ≡ Some h = at in cc)
own_shared (x ∷ hs) [] n h a at is apart = absurd (let e : None ≡ Some a = is in cc)
own_shared (x ∷ hs) (b ∷ answers) zero h a at is apart =
    let one : x ≡ h = cc in
    let two : b ≡ a = cc in
    ap (λ (w : Held). is_among (cond (may_share b) (x.id ∷ shared_among hs answers) (shared_among hs answers)) w.id) (sym one)
    ∙ (own_in (may_share b) x.id (shared_among hs answers) (not_shared hs answers x.id apart.0) ∙ ap may_share two)
own_shared (x ∷ hs) (b ∷ answers) (suc n) h a at is apart =
    later_in (may_share b) x.id (shared_among hs answers) h.id (away_from hs n h x.id at apart.0) ∙ own_shared hs answers n h a at is apart.1

-- ---- ready

readied : (goes : Bool) (k : retry.KeptRow) → k.ready ≡ false → (cond goes (retry.with_ready true k) k).ready ≡ goes
readied true k e = refl
readied false k e = e

abbrev end_delivered : Node → Node
end_delivered x = record x { ending = Some ending.Delivered }

module _ (p : Parts) (s : IsState p) (n : ℕ) (y : Node) (h : Held) (at : slice_get p.nodes n ≡ Some y) (there : slice_get p.held n ≡ Some h)
    (names : List Id) (has : y.answer ≡ Some (judged.Accepted names)) (open_now : y.ending ≡ None) where
  whole : AreApart (names_of p.nodes)
  whole = subst AreApart (sym s.named) (first_apart p.held s.distinct)

  name_now : name_at p.nodes n ≡ h.id
  name_now = ap (λ (ids : List Id). slice_index_or ids n []) s.named ∙ id_there p.held n h there

  -- the delivered ids are one more
  pub ids_more : map (name_at (nodes.with_ending n ending.Delivered p.nodes)) (p.delivered ++ n ∷ []) ≡ map (name_at p.nodes) p.delivered ++ h.id ∷ []
  ids_more =
      ap (λ (ids : List Id). map (λ k. slice_index_or ids k []) (p.delivered ++ n ∷ [])) (names_kept end_delivered (λ x. refl) n p.nodes)
      ∙ (map-append (name_at p.nodes) p.delivered (n ∷ []) ∙ ap (λ (x : Id). map (name_at p.nodes) p.delivered ++ x ∷ []) name_now)

  among_now : (d : Id) → is_among (map (name_at (nodes.with_ending n ending.Delivered p.nodes)) (p.delivered ++ n ∷ [])) d
      ≡ (is_among (map (name_at p.nodes) p.delivered) d || same_id h.id d)
  among_now d = ap (λ (ids : List Id). is_among ids d) ids_more ∙ among_more (map (name_at p.nodes) p.delivered) h.id d

  not_before : is_among (map (name_at p.nodes) p.delivered) h.id ≡ false
  not_before =
      s.ended h.id
      ∙ (ap (λ (x : Id). is_delivered_in (nodes.node_named p.nodes x)) (sym (name_there p.nodes p.held s.named n y h at there))
      ∙ (ap is_delivered_in (own_found p.nodes n y at (subst AreApart (sym s.named) (first_apart p.held s.distinct)))
      ∙ ap nodes.is_delivered open_now))

  -- it was not released
  pub free_before : retry.group_at p.retry n ≡ None
  free_before =
      s.released n h y there at
      ∙ ap (λ b. cond (b && (is_author h.origin || is_among (shared_among p.held (answers_of p.nodes p.shares)) h.id)) (Some y.group) None) not_before

  ended_by : (b before : Bool) (d : Id) → same_id h.id d ≡ b → before ≡ is_delivered_in (nodes.node_named p.nodes d)
      → (before || b) ≡ is_delivered_in (cond b (Some (end_delivered y)) (nodes.node_named p.nodes d))
  ended_by true before d e f = or_true before
  ended_by false before d e f = or_none before ∙ f

  ended_now : (d : Id) → is_among (map (name_at (nodes.with_ending n ending.Delivered p.nodes)) (p.delivered ++ n ∷ [])) d
      ≡ is_delivered_in (nodes.node_named (nodes.with_ending n ending.Delivered p.nodes) d)
  ended_now d =
      let own : same_id d y.name ≡ same_id h.id d =
      ap (same_id d) (name_there p.nodes p.held s.named n y h at there) ∙ same_id_swap d h.id in
      let apart : AreApart (names_of p.nodes) = subst AreApart (sym s.named) (first_apart p.held s.distinct) in
      among_now d
      ∙ (ended_by (same_id h.id d) (is_among (map (name_at p.nodes) p.delivered) d) d refl (s.ended d)
      ∙ (ap (λ b. is_delivered_in (cond b (Some (end_delivered y)) (nodes.node_named p.nodes d))) (sym own)
      ∙ ap is_delivered_in (sym (named_changed end_delivered (λ x. refl) p.nodes n y at apart d))))

  module _ (share outgoing : Bool) (lets : slice_get p.shares n ≡ Some share) (opens : outgoing ≡ (is_author h.origin || share))
      (t : retry.Table) (r : ReadiesMessage p.retry t (goes_to p.table.levels h.message.group outgoing) p.table.contacts n)
      (groups : t.groups ≡ cond outgoing (set p.retry.groups n (Some y.group)) p.retry.groups) (long : n < length p.retry.groups) where
    shared_now : is_among (shared_among p.held (answers_of (nodes.with_ending n ending.Delivered p.nodes) p.shares)) h.id ≡ share
    shared_now =
        ap (λ (os : List (Option Judgement)). is_among (shared_among p.held os) h.id) (answers_kept p.nodes p.shares n ending.Delivered)
        ∙ (own_shared p.held (answers_of p.nodes p.shares) n h (answer_of_node y.answer share) there (answers_at p.nodes p.shares n y share at lets) (first_apart p.held s.distinct)
        ∙ ap (λ o. may_share (answer_of_node o share)) has)

    -- the message itself
    ready_by : (contact : ℕ) → contact < 256 → (b : Bool) → nat_lt contact p.table.contacts ≡ b → (retry.kept_at t contact n).ready
        ≡ may_go p.table.levels (map (name_at (nodes.with_ending n ending.Delivered p.nodes)) (p.delivered ++ n ∷ []))
        (shared_among p.held (answers_of (nodes.with_ending n ending.Delivered p.nodes) p.shares)) contact h
    ready_by contact known b e =
        let was : (retry.kept_at p.retry contact n).ready ≡ false =
        s.ready contact n h known there
        ∙ ap (λ b. b && (is_level_shared (level_at p.table.levels contact h.message.group) && (is_author h.origin || is_among (shared_among p.held (answers_of p.nodes p.shares)) h.id))) not_before in
        let is_now : is_among (map (name_at (nodes.with_ending n ending.Delivered p.nodes)) (p.delivered ++ n ∷ [])) h.id ≡ true =
        among_now h.id
        ∙ (ap (λ b. is_among (map (name_at p.nodes) p.delivered) h.id || b)
        (same_id_itself h.id) ∙ or_true (is_among (map (name_at p.nodes) p.delivered) h.id)) in
        by b e was is_now
      where
        by : (b : Bool) → nat_lt contact p.table.contacts ≡ b → (retry.kept_at p.retry contact n).ready ≡ false
            → is_among (map (name_at (nodes.with_ending n ending.Delivered p.nodes)) (p.delivered ++ n ∷ [])) h.id ≡ true
            → (retry.kept_at t contact n).ready
            ≡ may_go p.table.levels (map (name_at (nodes.with_ending n ending.Delivered p.nodes)) (p.delivered ++ n ∷ []))
            (shared_among p.held (answers_of (nodes.with_ending n ending.Delivered p.nodes) p.shares)) contact h
        by true e was is_now =
            ap (λ (k : retry.KeptRow). k.ready) (r.here contact (grind (arith, e)))
            ∙ (readied (goes_to p.table.levels h.message.group outgoing contact) (retry.kept_at p.retry contact n) was
            ∙ (ap (λ b. is_level_shared (level_at p.table.levels contact h.message.group) && b) opens
            ∙ (λ i. sym is_now i && (is_level_shared (level_at p.table.levels contact h.message.group) && (is_author h.origin || sym shared_now i)))))
        by false e was is_now =
            let hidden = s.hidden contact h.message.group (grind (arith, e)) in
            ap (λ (ks : List retry.KeptRow). (retry.kept_in ks n).ready) (r.beyond contact (grind (arith, e)))
            ∙ (was
            ∙ sym (λ i. is_now i && (is_level_shared (hidden i)
            && (is_author h.origin || is_among (shared_among p.held (answers_of (nodes.with_ending n ending.Delivered p.nodes) p.shares)) h.id))))

    -- another message
    ready_there : (contact k : ℕ) (x : Held) → contact < 256 → slice_get p.held k ≡ Some x → k ≢ n → (retry.kept_at t contact k).ready
        ≡ may_go p.table.levels (map (name_at (nodes.with_ending n ending.Delivered p.nodes)) (p.delivered ++ n ∷ []))
        (shared_among p.held (answers_of (nodes.with_ending n ending.Delivered p.nodes) p.shares)) contact x
    ready_there contact k x known here ne =
        let away : same_id h.id x.id ≡ false = by (same_id h.id x.id) refl in
        let among_same : is_among (map (name_at (nodes.with_ending n ending.Delivered p.nodes)) (p.delivered ++ n ∷ [])) x.id ≡ is_among (map (name_at p.nodes) p.delivered) x.id =
        among_now x.id ∙ (ap (λ b. is_among (map (name_at p.nodes) p.delivered) x.id || b) away ∙ or_none (is_among (map (name_at p.nodes) p.delivered) x.id)) in
        ap (λ (w : retry.KeptRow). w.ready) (r.apart contact k ne)
        ∙ (s.ready contact k x known here
        ∙ (λ i. sym among_same i && (is_level_shared (level_at p.table.levels contact x.message.group)
        && (is_author x.origin || is_among (shared_among p.held (sym (answers_kept p.nodes p.shares n ending.Delivered) i)) x.id))))
      where
        by : (b : Bool) → same_id h.id x.id ≡ b → b ≡ false
        by true q =
            absurd (ne
            (let places : Some k ≡ Some n = sym (s.distinct k x here)
            ∙ (ap (place_of p.held) (sym (same_id-is h.id x.id q)) ∙ s.distinct n h there) in
            let same : k ≡ n = cc in same))
        by false q = refl

    ready_now : (contact k : ℕ) (x : Held) → contact < 256 → slice_get p.held k ≡ Some x → (b : Bool) → nat_eq k n ≡ b → (retry.kept_at t contact k).ready
        ≡ may_go p.table.levels (map (name_at (nodes.with_ending n ending.Delivered p.nodes)) (p.delivered ++ n ∷ []))
        (shared_among p.held (answers_of (nodes.with_ending n ending.Delivered p.nodes) p.shares)) contact x
    ready_now contact k x known here true e =
        let number : k ≡ n = eqb-true k n e in
        let own : h ≡ x = (let both : Some h ≡ Some x = sym there ∙ (ap (slice_get p.held) (sym number) ∙ here) in cc) in
        ap (λ j. (retry.kept_at t contact j).ready) number
        ∙ (ready_by contact known (nat_lt contact p.table.contacts) refl
        ∙ ap (may_go p.table.levels (map (name_at (nodes.with_ending n ending.Delivered p.nodes)) (p.delivered ++ n ∷ []))
        (shared_among p.held (answers_of (nodes.with_ending n ending.Delivered p.nodes) p.shares)) contact) own)
    ready_now contact k x known here false e = ready_there contact k x known here (let ne : k ≢ n = (λ q. grind (arith, e, q)) in ne)

    -- ---- released

    released_other : (k : ℕ) → k ≢ n → retry.group_at t k ≡ retry.group_at p.retry k
    released_other k ne = ap (λ (gs : List (Option ℕ)). slice_index_or gs k None) groups ∙ by outgoing
      where
        by : (b : Bool) → slice_index_or (cond b (set p.retry.groups n (Some y.group)) p.retry.groups) k None ≡ slice_index_or p.retry.groups k None
        by true = set_there p.retry.groups n k (Some y.group) None ne
        by false = refl

    released_own : retry.group_at t n
        ≡ left_in (map (name_at (nodes.with_ending n ending.Delivered p.nodes)) (p.delivered ++ n ∷ []))
        (shared_among p.held (answers_of (nodes.with_ending n ending.Delivered p.nodes) p.shares)) h y.group
    released_own =
        let is_now : is_among (map (name_at (nodes.with_ending n ending.Delivered p.nodes)) (p.delivered ++ n ∷ [])) h.id ≡ true =
        among_now h.id
        ∙ (ap (λ b. is_among (map (name_at p.nodes) p.delivered) h.id || b)
        (same_id_itself h.id) ∙ or_true (is_among (map (name_at p.nodes) p.delivered) h.id)) in
        ap (λ (gs : List (Option ℕ)). slice_index_or gs n None) groups
        ∙ (by outgoing
        ∙ (ap (λ b. cond b (Some y.group) None) opens ∙ (λ i. cond (sym is_now i && (is_author h.origin || sym shared_now i)) (Some y.group) None)))
      where
        by : (b : Bool) → slice_index_or (cond b (set p.retry.groups n (Some y.group)) p.retry.groups) n None ≡ cond b (Some y.group) None
        by true = set_here p.retry.groups n (Some y.group) None long
        by false = free_before

    among_other : (k : ℕ) (x : Held) → slice_get p.held k ≡ Some x → k ≢ n
        → is_among (map (name_at (nodes.with_ending n ending.Delivered p.nodes)) (p.delivered ++ n ∷ [])) x.id ≡ is_among (map (name_at p.nodes) p.delivered) x.id
    among_other k x here ne =
        let away : same_id h.id x.id ≡ false = by (same_id h.id x.id) refl in
        among_now x.id ∙ (ap (λ b. is_among (map (name_at p.nodes) p.delivered) x.id || b) away ∙ or_none (is_among (map (name_at p.nodes) p.delivered) x.id))
      where
        by : (b : Bool) → same_id h.id x.id ≡ b → b ≡ false
        by true q =
            absurd (ne
            (let places : Some k ≡ Some n = sym (s.distinct k x here)
            ∙ (ap (place_of p.held) (sym (same_id-is h.id x.id q)) ∙ s.distinct n h there) in
            let same : k ≡ n = cc in same))
        by false q = refl

    released_now : (k : ℕ) (x : Held) (node : Node) → slice_get p.held k ≡ Some x → slice_get (nodes.with_ending n ending.Delivered p.nodes) k ≡ Some node → (b : Bool) → nat_eq k n ≡ b
        → retry.group_at t k
        ≡ left_in (map (name_at (nodes.with_ending n ending.Delivered p.nodes)) (p.delivered ++ n ∷ []))
        (shared_among p.held (answers_of (nodes.with_ending n ending.Delivered p.nodes) p.shares)) x node.group
    released_now k x node here stands true e =
        let number : k ≡ n = eqb-true k n e in
        let w = kept_at end_delivered (λ (w : Node). w.group) (λ w. refl) p.nodes n k node stands in
        let own : h ≡ x = (let both : Some h ≡ Some x = sym there ∙ (ap (slice_get p.held) (sym number) ∙ here) in cc) in
        let mine : y ≡ w.0 = (let both : Some y ≡ Some w.0 = sym at ∙ (ap (slice_get p.nodes) (sym number) ∙ w.1) in cc) in
        let group : y.group ≡ node.group = ap (λ (v : Node). v.group) mine ∙ sym w.2 in
        ap (λ j. retry.group_at t j) number
        ∙ (released_own
        ∙ (λ i. left_in (map (name_at (nodes.with_ending n ending.Delivered p.nodes)) (p.delivered ++ n ∷ []))
        (shared_among p.held (answers_of (nodes.with_ending n ending.Delivered p.nodes) p.shares)) (own i) (group i)))
    released_now k x node here stands false e =
        let ne : k ≢ n = (λ q. grind (arith, e, q)) in
        let w = kept_at end_delivered (λ (w : Node). w.group) (λ w. refl) p.nodes n k node stands in
        released_other k ne
        ∙ (s.released k x w.0 here w.1
        ∙ (λ i. cond (sym (among_other k x here ne) i && (is_author x.origin || is_among (shared_among p.held (sym (answers_kept p.nodes p.shares n ending.Delivered) i)) x.id)) (Some (sym w.2 i)) None))

    pub delivered_state : IsState (delivered_parts p n t)
    delivered_state = record {
      named = names_kept end_delivered (λ x. refl) n p.nodes ∙ s.named;
      grouped = λ k x node a b.
          let w = kept_at end_delivered (λ (w : Node). w.group) (λ w. refl) p.nodes n k node b in
          s.grouped k x w.0 a w.1 ∙ ap Some (sym w.2);
      distinct = s.distinct;
      each_share = s.each_share ∙ sym (length_kept end_delivered n p.nodes);
      order = ordered_end p s n y at (judged.Accepted names) has ending.Delivered;
      within =
          ap (λ m. list_all (λ k. nat_lt k m) (p.delivered ++ n ∷ [])) (length_kept end_delivered n p.nodes)
          ∙ all_more (λ k. nat_lt k (length p.nodes)) p.delivered n s.within (let below : n < length p.nodes = within_list p.nodes n y at in grind (arith, below));
      ended = ended_now;
      many =
          let more : length (p.delivered ++ n ∷ []) ≡ length p.delivered + 1 = length-append p.delivered (n ∷ []) in
          let was : one_if_delivered y ≡ 0 = ap (λ e. cond (nodes.is_delivered e) 1 0) open_now in
          let sums : sum_of one_if_delivered (nodes.with_ending n ending.Delivered p.nodes) + one_if_delivered y ≡ sum_of one_if_delivered p.nodes + 1 =
          sum_changed one_if_delivered end_delivered n p.nodes y at in
          omega (arith, more, was, sums, s.many);
      free_rows = λ contact k beyond.
          r.apart contact k (λ q. let below : n < length p.held = within_list p.held n h there in absurd (omega (arith, below, q, beyond)))
          ∙ s.free_rows contact k beyond;
      free_wants = λ contact beyond. ap (λ (ws : List retry.WantedFromContact). (slice_index_or ws contact retry.no_wants).ids) r.wants ∙ s.free_wants contact beyond;
      hidden = s.hidden;
      shown = s.shown;
      released = λ k x node here stands. released_now k x node here stands (nat_eq k n) refl;
      unreleased = λ k beyond.
          released_other k (λ q. let below : n < length p.held = within_list p.held n h there in absurd (omega (arith, below, q, beyond)))
          ∙ s.unreleased k beyond;
      ready = λ contact k x known here. ready_now contact k x known here (nat_eq k n) refl;
    }

    -- the facts are those after the entry
    pub delivered_facts : facts_of (delivered_parts p n t) ≡ moved (facts_of p) (entry.Deliver h.id)
    delivered_facts =
        let judged_same : ids_where is_judged (nodes.with_ending n ending.Delivered p.nodes) ≡ ids_where is_judged p.nodes =
        ap fin_set.from_list (names_same end_delivered (λ x. refl) is_judged p.nodes n y at refl) in
        let invalid_same : ids_where is_invalid (nodes.with_ending n ending.Delivered p.nodes) ≡ ids_where is_invalid p.nodes =
        ap fin_set.from_list (names_same end_delivered (λ x. refl) is_invalid p.nodes n y at (sym (ap nodes.is_invalid open_now))) in
        let rows : rows_in t p.held ≡ rows_in p.retry p.held = rows_same p.retry t p.held (readied_row p.retry t (goes_to p.table.levels h.message.group outgoing) p.table.contacts n r) in
        let wants : wants_in t p.table.contacts ≡ wants_in p.retry p.table.contacts =
        wants_same p.retry t (λ contact. ap (λ (ws : List retry.WantedFromContact). (slice_index_or ws contact retry.no_wants).ids) r.wants) p.table.contacts in
        λ i. record (facts_of p) { judged = judged_same i; invalid = invalid_same i; delivered = ids_more i; rows = rows i; wanted = wants i }
