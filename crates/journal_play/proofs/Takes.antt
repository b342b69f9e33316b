-- A record is taken, and what is kept goes on to stand for the journal.
use Rattle.std.proofs.Common.{◌≡◌, ℕ, ◌+◌, ◌-◌, Bool, true, false, cond, not, ◌&&◌, ◌||◌, List, []}
use Rattle.std.proofs.Common.{◌∷◌, ◌++◌, length, map, refl, sym, ◌∙◌, ap, subst, arith, Option}
use Rattle.std.proofs.Common.{Some, None, is_some, append-nil, append_assoc, length-append}
use Rattle.std.proofs.Common.{unwrap_or}
use Rattle.std.specs.List.{list_all}
use Rattle.std.specs.Option.{option_map}
use Rattle.std.specs.FinMap as fin_map
use Rattle.std.specs.FinSet as fin_set
use Rattle.std.specs.Cmp.{nat_cmp_total, unsigned_tied, nat_eq_equiv}
use Rattle.std.specs.Ordering.{nat_cmp}
use Rattle.std.specs.Cmp.Lexicographic.{slice_cmp}
use Rattle.std.proofs.lemmas.Bool.{false≢true, or_parts, false_from_ne_true}
use Rattle.sync_ids.specs.Values.{GroupValue, MessageValue}
use Rattle.sync_ids.specs.Ids.{group_id_of, message_id_of}
use Rattle.sync_ids.specs.Records.{IsRecord}
use Rattle.sync_ids.specs.declared.records.Record.{Record}
use Rattle.sync_ids.specs.declared.records.Record.TheVariants as record_kind
use Rattle.sync_rules.specs.declared.entries.Entry.{Entry}
use Rattle.sync_rules.specs.declared.entries.Entry.TheVariants as entry
use Rattle.sync_rules.specs.declared.entries.Level.TheVariants as level
use Rattle.sync_rules.specs.Clients.{Meaning}
use Rattle.sync_rules.specs.Lists.{same_id, is_among, has_repeat, firsts}
use Rattle.sync_rules.specs.Facts.{Facts, Held, Id, held_at, is_held, after, after_all, facts}
use Rattle.sync_rules.specs.Facts.{entries_of, group_at, known_of, arrived, contact_of, level_at}
use Rattle.sync_rules.specs.Facts.{is_invisible, takes_of, session_at, wanted_from, row_at}
use Rattle.sync_rules.specs.Steps.{verdict_in, IsSettled, kind_of_def}
use Rattle.sync_rules.specs.Sessions.{taken, taken_message, taken_message_of, taken_acks, taken_requests, taken_offers, taken_offer, is_welcome, one_if, is_shown, is_remembered, room_after}
use Rattle.sync_rules.specs.Hearing.{HearsRecord, take_batch, one_session}
use Rattle.sync_rules.proofs.Elements.{same_id-is, same_id_itself, same_id_swap}
use Rattle.sync_rules.proofs.Sound.{SoundFacts}
use Rattle.sync_rules.proofs.Runs.{legal_sound}
use Rattle.sync_rules.proofs.ScanLaws.{level_at_set}
use Rattle.sync_rules.proofs.Settling.{goes_on_both}
use Rattle.sync_rules.proofs.WorkLaws.{facts-push}
use Rattle.sync_rules.proofs.HearLaws.{one_session_hears}
use Rattle.sync_rules.specs.Facts.{nothing}
use Rattle.message_graph.specs.declared.nodes.Node.{Node}
use Rattle.message_graph.specs.Nodes as nodes
use Rattle.message_graph.proofs.NodeLaws.{number_of-node_named}
use Rattle.journal_play.specs.Texts.{FateLine, told_by, ends_told, lines_text}
use Rattle.journal_play.specs.Playing.{PlaysRecords, Story, node_of, answer_shown, MirrorsFacts, StoryStandsFor, IsStoryOf}
use Rattle.message_graph.specs.Nodes.{ending_by}
use Rattle.journal_play.specs.Keeping.{holding, taking, taking_message, SettlesToStory}
use Rattle.journal_play.proofs.Same.{node_named-held, next_same, entry_of, id_at}
use Rattle.journal_play.proofs.Changes.{ids_of}
use Rattle.journal_play.proofs.Steps.{one_group, of_group, delivered_held, entries-push}
use Rattle.journal_play.proofs.Texts.{ends_told-append, ends_told-push, text-push, stays_held}
use Rattle.journal_play.proofs.Texts.{all_stay}
use Rattle.sync_rules.specs.declared.limits.TheConstants.{MAX_WANTED}

-- ---- facts that what is kept does not tell apart

pub record Alike (f g : Facts) : Type 0 where
  pub groups : g.groups ≡ f.groups
  pub levels : g.levels ≡ f.levels
  pub sessions : g.sessions ≡ f.sessions
  pub held : g.held ≡ f.held
  pub judged : g.judged ≡ f.judged
  pub invalid : g.invalid ≡ f.invalid
  pub delivered : g.delivered ≡ f.delivered

pub alike_mirrors : (clients : Meaning) (def : GroupValue) (k k' : ℕ) (f g : Facts) (es es' : List Entry) (play : Story)
    → Alike f g → takes_of g.takes 0 ≡ k' → ends_told es' ≡ ends_told es
    → MirrorsFacts clients def k f es play → MirrorsFacts clients def k' g es' play
alike_mirrors clients def k k' f g es es' play a takes same m = record {
  kind = m.kind;
  group = m.group;
  groups = a.groups ∙ m.groups;
  levels = a.levels ∙ m.levels;
  sessions = a.sessions ∙ m.sessions;
  takes = takes;
  held = a.held ∙ m.held;
  nodes = m.nodes ∙ sym (λ i. map (λ (h : Held). let o = cond (fin_set.contains (a.judged i) h.id) (Some (verdict_in clients (a.groups i) h.message)) None in
      let n : Node = record { name = h.id; group = 0; answer = answer_shown o; ending = ending_by (fin_set.contains (a.invalid i) h.id) (is_among (a.delivered i) h.id) } in n) (a.held i));
  text = m.text ∙ sym (λ i. lines_text (a.held i) (same i));
  once = ap (λ hs. has_repeat (ids_of hs)) a.held ∙ m.once;
  judged = λ id c. ap (λ hs. is_held hs id) a.held ∙ m.judged id (sym (ap (λ s. fin_set.contains s id) a.judged) ∙ c);
  within = (λ i. list_all (λ (line : FateLine). is_held (a.held i) line.1) (same i)) ∙ m.within;
}

-- ---- entries that change nothing of it

abbrev pub IsQuiet : Entry → Type 0
IsQuiet (entry.Again s id) = Unit {0}
IsQuiet (entry.Seen s id) = Unit {0}
IsQuiet (entry.Asked s id) = Unit {0}
IsQuiet (entry.Offered s id) = Unit {0}
IsQuiet _ = ⊥

abbrev pub AllQuiet : List Entry → Type 0
AllQuiet [] = Unit {0}
AllQuiet (e ∷ es) = IsQuiet e × AllQuiet es

quiet_both : (es fs : List Entry) → AllQuiet es → AllQuiet fs → AllQuiet (es ++ fs)
quiet_both [] fs a b = b
quiet_both (e ∷ es) fs a b = (a.0, quiet_both es fs a.1 b)

pub quiet_if : (b : Bool) (e : Entry) → IsQuiet e → AllQuiet (one_if b e)
quiet_if true e q = (q, tt)
quiet_if false e q = tt

alike_quiet : (f : Facts) (e : Entry) → IsQuiet e → Alike f (after f e)
alike_quiet f (entry.Again s id) q = record { groups = refl; levels = refl; sessions = refl; held = refl; judged = refl; invalid = refl; delivered = refl }
alike_quiet f (entry.Seen s id) q = record { groups = refl; levels = refl; sessions = refl; held = refl; judged = refl; invalid = refl; delivered = refl }
alike_quiet f (entry.Asked s id) q = record { groups = refl; levels = refl; sessions = refl; held = refl; judged = refl; invalid = refl; delivered = refl }
alike_quiet f (entry.Offered s id) q = record { groups = refl; levels = refl; sessions = refl; held = refl; judged = refl; invalid = refl; delivered = refl }
alike_quiet f _ q = absurd q

takes_quiet : (f : Facts) (e : Entry) → IsQuiet e → (after f e).takes ≡ f.takes
takes_quiet f (entry.Again s id) q = refl
takes_quiet f (entry.Seen s id) q = refl
takes_quiet f (entry.Asked s id) q = refl
takes_quiet f (entry.Offered s id) q = refl
takes_quiet f _ q = absurd q

told_by_quiet : (e : Entry) → IsQuiet e → told_by e ≡ []
told_by_quiet (entry.Again s id) q = refl
told_by_quiet (entry.Seen s id) q = refl
told_by_quiet (entry.Asked s id) q = refl
told_by_quiet (entry.Offered s id) q = refl
told_by_quiet _ q = absurd q

told_quiet : (es : List Entry) → AllQuiet es → ends_told es ≡ []
told_quiet [] q = refl
told_quiet (e ∷ es) q = (λ i. told_by_quiet e q.0 i ++ told_quiet es q.1 i)

pub alike_then : (f g h : Facts) → Alike f g → Alike g h → Alike f h
alike_then f g h a b = record {
  groups = b.groups ∙ a.groups;
  levels = b.levels ∙ a.levels;
  sessions = b.sessions ∙ a.sessions;
  held = b.held ∙ a.held;
  judged = b.judged ∙ a.judged;
  invalid = b.invalid ∙ a.invalid;
  delivered = b.delivered ∙ a.delivered;
}

pub alike_all : (f : Facts) (es : List Entry) → AllQuiet es → Alike f (after_all f es)
alike_all f [] q = record { groups = refl; levels = refl; sessions = refl; held = refl; judged = refl; invalid = refl; delivered = refl }
alike_all f (e ∷ es) q = alike_then f (after f e) (after_all (after f e) es) (alike_quiet f e q.0) (alike_all (after f e) es q.1)

pub takes_all : (f : Facts) (es : List Entry) → AllQuiet es → (after_all f es).takes ≡ f.takes
takes_all f [] q = refl
takes_all f (e ∷ es) q = takes_all (after f e) es q.1 ∙ takes_quiet f e q.0

pub one_more_take : (takes : fin_map.FinMap nat_cmp ℕ) (s : ℕ) → takes_of (fin_map.insert takes s (takes_of takes s + 1)) s ≡ takes_of takes s + 1
one_more_take takes s =
    ap (λ (o : Option ℕ). unwrap_or o 0)
    (fin_map.get-insert nat_cmp_total takes s (takes_of takes s + 1) s)
    ∙ ap (λ b. unwrap_or (cond b (Some (takes_of takes s + 1)) (fin_map.get takes s)) 0)
    (unsigned_tied s s ∙ nat_eq_equiv.refl s)

-- the Take entry and quiet ones
quiet_mirrors : (clients : Meaning) (def : GroupValue) (k : ℕ) (f : Facts) (es ts : List Entry) (play : Story) → MirrorsFacts clients def k f es play → AllQuiet ts
    → MirrorsFacts clients def (k + 1) (after_all f (entry.Take 0 k ∷ ts)) (es ++ entry.Take 0 k ∷ ts) play
quiet_mirrors clients def k f es ts play m q =
    let g : Facts = after f (entry.Take 0 k) in
    let first : Alike f g = record { groups = refl; levels = refl; sessions = refl; held = refl; judged = refl; invalid = refl; delivered = refl } in
    alike_mirrors clients def k (k + 1) f (after_all g ts) es (es ++ entry.Take 0 k ∷ ts) play
    (alike_then f g (after_all g ts) first (alike_all g ts q))
    (ap (λ t. takes_of t 0) (takes_all g ts q) ∙ one_more_take f.takes 0 ∙ ap (λ n. n + 1) m.takes)
    (ends_told-append es (entry.Take 0 k ∷ ts) ∙ ap (λ ls. ends_told es ++ ls) (told_quiet ts q)
    ∙ append-nil (ends_told es))
    m

-- ---- a message arrives

pub map_push : {A B : Type 0} (F : A → B) (xs : List A) (x : A) → map F (xs ++ x ∷ []) ≡ map F xs ++ F x ∷ []
map_push F [] x = refl
map_push F (y ∷ xs) x = ap (λ ys. F y ∷ ys) (map_push F xs x)

among_held : (hs : List Held) (id : Id) → is_among (ids_of hs) id ≡ is_some (held_at hs id)
among_held [] id = refl
among_held (h ∷ hs) id = elim (same_id h.id id) as (λ b. (b || is_among (ids_of hs) id) ≡ is_some (cond b (Some h) (held_at hs id))) [
  | true ↦ refl
  | false ↦ among_held hs id
]

none_among : (hs : List Held) (x : Held) (id : Id) → is_among (ids_of hs) id ≡ false → same_id x.id id ≡ false → is_among (ids_of (hs ++ x ∷ [])) id ≡ false
none_among [] x id none apart = ap (λ b. b || false) apart
none_among (h ∷ hs) x id none apart =
    let both = or_parts (same_id h.id id) (is_among (ids_of hs) id) none in
    (λ i. both.0 i || none_among hs x id both.1 apart i)

once-push : (hs : List Held) (x : Held) → has_repeat (ids_of hs) ≡ false → is_among (ids_of hs) x.id ≡ false → has_repeat (ids_of (hs ++ x ∷ [])) ≡ false
once-push [] x once none = refl
once-push (h ∷ hs) x once none =
    let both = or_parts (is_among (ids_of hs) h.id) (has_repeat (ids_of hs)) once in
    let apart = or_parts (same_id h.id x.id) (is_among (ids_of hs) x.id) none in
    let here : is_among (ids_of (hs ++ x ∷ [])) h.id ≡ false = none_among hs x h.id both.0 (same_id_swap x.id h.id ∙ apart.0) in
    (λ i. here i || once-push hs x both.1 apart.1 i)

arrive_mirrors : (clients : Meaning) (def : GroupValue) (k : ℕ) (f : Facts) (es : List Entry) (play : Story) → MirrorsFacts clients def k f es play
    → SoundFacts clients f → (msg : MessageValue) → held_at f.held (message_id_of msg) ≡ None
    → MirrorsFacts clients def k (after f (entry.Arrive 0 msg)) (es ++ entry.Arrive 0 msg ∷ []) (holding play msg)
arrive_mirrors clients def k f es play m sound msg none =
    let id : Id = message_id_of msg in
    let x : Held = arrived (contact_of f.sessions 0) msg in
    let is : x ≡ arrived 0 msg = ap (λ s. arrived (contact_of s 0) msg) m.sessions in
    let new : is_held f.held id ≡ false = ap is_some none in
    let unjudged : fin_set.contains f.judged id ≡ false =
    false_from_ne_true (fin_set.contains f.judged id) (λ c. false≢true (sym new ∙ m.judged id c)) in
    let valid : fin_set.contains f.invalid id ≡ false =
    false_from_ne_true (fin_set.contains f.invalid id) (λ c. false≢true (sym new ∙ (one_group clients def f m.groups sound).invalid id c)) in
    let undelivered : is_among f.delivered id ≡ false =
    false_from_ne_true (is_among f.delivered id) (λ c. false≢true (sym new ∙ delivered_held clients f sound id c)) in
    let node : node_of clients f x ≡ nodes.fresh_node id 0 =
    (λ i. let n : Node = record { name = id; group = 0; answer = answer_shown (cond (unjudged i) (Some (verdict_in clients f.groups msg)) None); ending = ending_by (valid i) (undelivered i) } in n) in
    let same : ends_told (es ++ entry.Arrive 0 msg ∷ []) ≡ ends_told es =
    ends_told-push es (entry.Arrive 0 msg) ∙ append-nil (ends_told es) in
    record {
      kind = m.kind;
      group = m.group;
      groups = m.groups;
      levels = m.levels;
      sessions = m.sessions;
      takes = m.takes;
      held = (λ i. m.held i ++ is i ∷ []) ∙ sym (map_push (arrived 0) play.messages msg);
      nodes = (λ i. m.nodes i ++ sym node i ∷ []) ∙ sym (map_push (node_of clients f) f.held x);
      text = m.text ∙ sym (text-push f.held x (ends_told es) m.within)
          ∙ ap (lines_text (f.held ++ x ∷ [])) (sym same);
      once = once-push f.held x m.once (among_held f.held id ∙ new);
      judged = λ q c. stays_held f.held x q (m.judged q c);
      within = ap (list_all (λ (line : FateLine). is_held (f.held ++ x ∷ []) line.1)) same
          ∙ all_stay f.held x (ends_told es) m.within;
    }

-- ---- a name is held where it has a number

some_map : {A B : Type 0} (F : A → B) (o : Option A) → is_some (option_map F o) ≡ is_some o
some_map F None = refl
some_map F (Some x) = refl

number_held : (clients : Meaning) (f : Facts) (ns : List Node) (id : Id) → ns ≡ map (node_of clients f) f.held
    → is_some (nodes.node_number ns id) ≡ is_some (held_at f.held id)
number_held clients f ns id e =
    number_of-node_named ns id
    ∙ ap (λ l. is_some (nodes.node_named l id)) e
    ∙ ap is_some (node_named-held clients f f.held id)
    ∙ some_map (node_of clients f) (held_at f.held id)

-- ---- lists of ids

pub quiet_acks : (f : Facts) (s c : ℕ) (ids : List Id) → AllQuiet (taken_acks f s c ids)
quiet_acks f s c [] = tt
quiet_acks f s c (id ∷ ids) =
    let b : Bool = is_shown f c id && not (row_at f.rows c id).seen in
    quiet_both (one_if b (entry.Seen s id)) (taken_acks f s c ids) (quiet_if b (entry.Seen s id) tt) (quiet_acks f s c ids)

pub quiet_requests : (f : Facts) (s c : ℕ) (ids : List Id) → AllQuiet (taken_requests f s c ids)
quiet_requests f s c [] = tt
quiet_requests f s c (id ∷ ids) =
    quiet_both (one_if (is_shown f c id) (entry.Asked s id)) (taken_requests f s c ids) (quiet_if (is_shown f c id) (entry.Asked s id) tt) (quiet_requests f s c ids)

pub quiet_offers : (f : Facts) (s c room : ℕ) (ids : List Id) → AllQuiet (taken_offers f s c room ids)
quiet_offers f s c room [] = tt
quiet_offers f s c room (id ∷ ids) =
    quiet_both (taken_offer f s c room id) (taken_offers f s c (room_after (is_remembered f c room id) room) ids)
    (quiet_both (one_if (is_shown f c id) (entry.Again s id)) (one_if (is_remembered f c room id) (entry.Offered s id))
    (quiet_if (is_shown f c id) (entry.Again s id) tt) (quiet_if (is_remembered f c room id) (entry.Offered s id) tt))
    (quiet_offers f s c (room_after (is_remembered f c room id) room) ids)

-- ---- what is welcome

module _ (def : GroupValue) (f : Facts) (groups : f.groups ≡ known_of def ∷ []) (levels : f.levels ≡ (facts (one_session def)).levels)
    (sessions : f.sessions ≡ (facts (one_session def)).sessions) where
  pub contact_is : contact_of f.sessions 0 ≡ 0
  contact_is = ap (λ s. contact_of s 0) sessions

  visible : level_at f.levels (contact_of f.sessions 0) (group_id_of def) ≡ level.Visible
  visible =
      (λ i. level_at (levels i) (contact_is i) (group_id_of def))
      ∙ level_at_set fin_map.empty 0 0 (group_id_of def) (group_id_of def) level.Visible
      ∙ ap (λ b. cond b level.Visible (level_at fin_map.empty 0 (group_id_of def))) (same_id_itself (group_id_of def))

  -- a message is welcome where it is of the group
  pub welcome_by : (g : Id) (b : Bool) → same_id g (group_id_of def) ≡ b → is_welcome f (contact_of f.sessions 0) g ≡ b
  welcome_by g true e =
      let is : g ≡ group_id_of def = same_id-is g (group_id_of def) e in
      let there : is_some (group_at f.groups g) ≡ true =
      (λ i. is_some (group_at (groups i) (is i))) ∙ ap (λ b. is_some (cond b (Some (known_of def)) None)) (same_id_itself (group_id_of def)) in
      let shown : not (is_invisible (level_at f.levels (contact_of f.sessions 0) g)) ≡ true =
      ap (λ (q : Id). not (is_invisible (level_at f.levels (contact_of f.sessions 0) q))) is ∙ ap (λ l. not (is_invisible l)) visible in
      (λ i. there i && shown i)
  welcome_by g false e =
      let away : same_id (group_id_of def) g ≡ false = same_id_swap (group_id_of def) g ∙ e in
      let none : is_some (group_at f.groups g) ≡ false =
      (λ i. is_some (group_at (groups i) g)) ∙ ap (λ b. is_some (cond b (Some (known_of def)) None)) away in
      ap (λ b. b && not (is_invisible (level_at f.levels (contact_of f.sessions 0) g))) none

-- ---- a record

module _ (clients : Meaning) (def : GroupValue) (k : ℕ) (f : Facts) (es : List Entry) (play : Story)
    (m : MirrorsFacts clients def k f es play) (sound : SoundFacts clients f) where
  module _ (msg : MessageValue) where
    -- what is taken, by whether the message is of the group, and what is held under its id
    abbrev pub Goes : Bool → Option Held → Bool → Bool → Type 0
    Goes welcome o of_it known =
        MirrorsFacts clients def (k + 1) (after_all f (entry.Take 0 k ∷ cond welcome (taken_message_of f 0 (contact_of f.sessions 0) msg o) []))
        (es ++ entry.Take 0 k ∷ cond welcome (taken_message_of f 0 (contact_of f.sessions 0) msg o) [])
        (cond of_it (cond known play (holding play msg)) play)

    arrives : held_at f.held (message_id_of msg) ≡ None → Goes true None true false
    arrives none =
        let g : Facts = after f (entry.Take 0 k) in
        let first : MirrorsFacts clients def (k + 1) g (es ++ entry.Take 0 k ∷ []) play = quiet_mirrors clients def k f es [] play m tt in
        let second : MirrorsFacts clients def (k + 1) (after g (entry.Arrive 0 msg)) ((es ++ entry.Take 0 k ∷ []) ++ entry.Arrive 0 msg ∷ []) (holding play msg) =
        arrive_mirrors clients def (k + 1) g (es ++ entry.Take 0 k ∷ []) play first sound msg none in
        subst (λ (l : List Entry). MirrorsFacts clients def (k + 1) (after g (entry.Arrive 0 msg)) l (holding play msg))
        (append_assoc es (entry.Take 0 k ∷ []) (entry.Arrive 0 msg ∷ [])) second

    by_cases : (b : Bool) (o : Option Held) → held_at f.held (message_id_of msg) ≡ o → Goes b o b (is_some o)
    by_cases false o e = quiet_mirrors clients def k f es [] play m tt
    by_cases true None e = arrives e
    by_cases true (Some h) e =
        let shown : Bool = not (is_invisible (level_at f.levels (contact_of f.sessions 0) h.message.group)) in
        quiet_mirrors clients def k f es (one_if shown (entry.Again 0 (message_id_of msg))) play m (quiet_if shown (entry.Again 0 (message_id_of msg)) tt)

    message_mirrors : MirrorsFacts clients def (k + 1) (after_all f (entry.Take 0 k ∷ taken_message f 0 (contact_of f.sessions 0) msg))
        (es ++ entry.Take 0 k ∷ taken_message f 0 (contact_of f.sessions 0) msg) (taking_message play msg)
    message_mirrors =
        let o : Option Held = held_at f.held (message_id_of msg) in
        let b : Bool = same_id msg.group play.group in
        let first : Goes b o b (is_some o) = by_cases b o refl in
        let second : Goes b o b (is_some (nodes.node_number play.nodes (message_id_of msg))) =
        subst (λ n. Goes b o b n) (sym (number_held clients f play.nodes (message_id_of msg) m.nodes)) first in
        let P : Bool
        → Type 0 =
        λ w. Goes w o b (is_some (nodes.node_number play.nodes (message_id_of msg))) in
        subst P (sym (welcome_by def f m.groups m.levels m.sessions msg.group b (ap (same_id msg.group) (sym m.group)))) second

  pub take_mirrors : (r : Record) → MirrorsFacts clients def (k + 1) (after_all f (entry.Take 0 k ∷ taken f 0 r)) (es ++ entry.Take 0 k ∷ taken f 0 r) (taking play r)
  take_mirrors (record_kind.Ack ids) = quiet_mirrors clients def k f es (taken f 0 (record_kind.Ack ids)) play m (quiet_acks f 0 (contact_of f.sessions 0) (firsts ids))
  take_mirrors (record_kind.Message msg) = message_mirrors msg
  take_mirrors (record_kind.Offer ids) =
      quiet_mirrors clients def k f es (taken f 0 (record_kind.Offer ids)) play m
      (quiet_offers f 0 (contact_of f.sessions 0) (MAX_WANTED - length (wanted_from f.wanted (contact_of f.sessions 0))) (firsts ids))
  take_mirrors (record_kind.Request ids) = quiet_mirrors clients def k f es (taken f 0 (record_kind.Request ids)) play m (quiet_requests f 0 (contact_of f.sessions 0) (firsts ids))
  take_mirrors (record_kind.Versions versions) = quiet_mirrors clients def k f es [] play m tt
  take_mirrors (record_kind.Priority nonce) = quiet_mirrors clients def k f es [] play m tt

-- ---- journals

pub take_stands : (clients : Meaning) (def : GroupValue) (k : ℕ) (j : List (List Entry)) (play : Story) → StoryStandsFor clients def k j play
    → IsSettled clients (facts j) → (r : Record) → IsRecord r → StoryStandsFor clients def (k + 1)
    (j ++ take_batch (facts j) 0 k r ∷ []) (taking play r)
take_stands clients def k j play s settled r within =
    let b : List Entry = take_batch (facts j) 0 k r in
    let sound : SoundFacts clients (facts j) = legal_sound clients j s.legal in
    let first : MirrorsFacts clients def (k + 1) (after_all (facts j) b) (entries_of j ++ b) (taking play r) =
    take_mirrors clients def k (facts j) (entries_of j) play s.mirrors sound r in
    let second : MirrorsFacts clients def (k + 1) (facts (j ++ b ∷ [])) (entries_of j ++ b) (taking play r) =
    subst (λ (f : Facts). MirrorsFacts clients def (k + 1) f (entries_of j ++ b) (taking play r)) (sym (facts-push j b)) first in
    record {
      legal = goes_on_both clients nothing j (b ∷ []) s.legal (
        (
          settled,
          record {
            known_session = ap (λ ss. is_some (session_at ss 0)) s.mirrors.sessions;
            numbered = sym s.mirrors.takes;
            read = r;
            within = within;
            taken_so = refl;
          },
        ),
        tt,
      );
      mirrors = subst (λ (es : List Entry). MirrorsFacts clients def (k + 1) (facts (j ++ b ∷ [])) es (taking play r)) (sym (entries-push j b)) second;
    }

-- no step of what is kept, no step of the journal
pub settled_by : (clients : Meaning) (def : GroupValue) (k : ℕ) (j : List (List Entry)) (play : Story) → StoryStandsFor clients def k j play
    → nodes.next_step play.nodes ≡ None → IsSettled clients (facts j)
settled_by clients def k j play s none =
    let f : Facts = facts j in
    let sound : SoundFacts clients f = legal_sound clients j s.legal in
    next_same clients f (group_id_of def) (one_group clients def f s.mirrors.groups sound) (of_group clients def f s.mirrors.groups sound)
    ∙ ap (option_map (entry_of (id_at f.held))) (ap nodes.next_step (sym s.mirrors.nodes) ∙ none)

plays_more : (clients : Meaning) (j : List (List Entry)) (k : ℕ) (records : List Record) (j' j'' : List (List Entry)) (r : Record)
    → PlaysRecords clients j k records j' → IsRecord r → HearsRecord clients j' 0 (k + length records) r j'' → PlaysRecords clients j k (records ++ r ∷ []) j''
plays_more clients j k [] j' j'' r p within h =
    let at : HearsRecord clients j 0 k r j'' =
    subst (λ (n : ℕ). HearsRecord clients j 0 n r j'') (omega arith) (subst (λ (x : List (List Entry)). HearsRecord clients x 0 (k + 0) r j'') (sym p) h) in
    (j'', within, at, refl)
plays_more clients j k (x ∷ records) j' j'' r p within h =
    let at : HearsRecord clients j' 0 ((k + 1) + length records) r j'' =
    (let e : k + length (x ∷ records) ≡ (k + 1) + length records = omega arith in subst (λ (n : ℕ). HearsRecord clients j' 0 n r j'') e h) in
    (p.0, p.1, p.2, plays_more clients p.0 (k + 1) records j' j'' r p.3 within at)

-- the record that comes next is taken
abbrev pub after_record : List (List Entry) → ℕ → Record → List (List Entry)
after_record j k r = j ++ take_batch (facts j) 0 k r ∷ []

pub hears : (clients : Meaning) (def : GroupValue) (records : List Record) (old now : Story) (r : Record) (p : IsStoryOf clients def records old) → IsRecord r
    → SettlesToStory clients def (length records + 1) (after_record p.journal (length records) r) now
    → nodes.next_step now.nodes ≡ None → IsStoryOf clients def (records ++ r ∷ []) now
hears clients def records old now r p within reached none =
    let k : ℕ = length records in
    let j : List (List Entry) = p.journal in
    let settled : IsSettled clients (facts reached.journal) = settled_by clients def (k + 1) reached.journal now reached.stands none in
    let count : length (records ++ r ∷ []) ≡ k + 1 = length-append records (r ∷ []) in
    let heard : HearsRecord clients j 0 (0 + k) r reached.journal =
    (let zero_more : k ≡ 0 + k = omega arith in
    subst (λ (n : ℕ). HearsRecord clients j 0 n r reached.journal) zero_more (record { settles = reached.settles; settled = settled })) in
    record {
      journal = reached.journal;
      plays = plays_more clients (one_session def) 0 records j reached.journal r p.plays within heard;
      stands = subst (λ (n : ℕ). StoryStandsFor clients def n reached.journal now) (sym count) reached.stands;
      settled = settled;
    }

-- ---- the beginning

pub begins : (clients : Meaning) (def : GroupValue) (kind : ℕ) → kind_of_def clients def ≡ Some kind
    → IsStoryOf clients def [] (record { kind = kind; group = group_id_of def; messages = []; nodes = []; text = [] })
begins clients def kind known =
    let start = one_session_hears clients def (ap is_some known) in
    record {
      journal = one_session def;
      plays = refl;
      stands = record {
        legal = start.legal;
        mirrors = record {
          kind = known;
          group = refl;
          groups = refl;
          levels = refl;
          sessions = refl;
          takes = sym start.numbered;
          held = refl;
          nodes = refl;
          text = refl;
          once = refl;
          judged = λ id c. absurd (false≢true (sym (fin_set.contains-empty (slice_cmp nat_cmp) id) ∙ c));
          within = refl;
        };
      };
      settled = start.settled;
    }
