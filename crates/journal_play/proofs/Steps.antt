-- One step of what is kept is one settling batch of its journal.
use Rattle.std.proofs.Common.{◌≡◌, ℕ, zero, suc, ◌<◌, Bool, true, false, cond, List, [], ◌∷◌, ◌++◌, length, map, refl, sym, ◌∙◌, ap, subst, inl, inr, Option, Some, None, is_some, slice_get, append-nil, append_assoc}
use Rattle.std.specs.List.{list_all}
use Rattle.std.specs.Option.{option_map}
use Rattle.std.specs.FinSet as fin_set
use Rattle.std.proofs.lemmas.Bool.{false≢true, or_parts, or_cases, false_from_ne_true}
use Rattle.sync_ids.specs.Values.{GroupValue, MessageValue}
use Rattle.sync_ids.specs.Ids.{group_id_of, message_id_of}
use Rattle.sync_rules.specs.declared.entries.Entry.{Entry}
use Rattle.sync_rules.specs.declared.entries.Entry.TheVariants as entry
use Rattle.sync_rules.specs.declared.states.Fate.{Fate}
use Rattle.sync_rules.specs.declared.states.Fate.TheVariants as fate_kind
use Rattle.sync_rules.specs.Clients.{Meaning}
use Rattle.sync_rules.specs.Lists.{same_id, is_among, In}
use Rattle.sync_rules.specs.Facts.{Facts, Held, Known, Id, held_at, is_held, after, facts, entries_of, group_at, known_of, arrived}
use Rattle.sync_rules.specs.Steps.{verdict_in, verdict_for, verdict_by, next, kind_of_def}
use Rattle.sync_rules.specs.Rounds.{Graph, good, good_next, bad, bad_first, bad_more}
use Rattle.sync_rules.specs.Hearing.{SettlesJournal}
use Rattle.sync_rules.proofs.Elements.{same_id-is, same_id_itself, tally}
use Rattle.sync_rules.proofs.RoundLaws.{disjoint}
use Rattle.sync_rules.proofs.Sound.{SoundFacts, graph, contains-more, held_at-In, has_delivery, has_refusal}
use Rattle.sync_rules.proofs.Kept.{delivery}
use Rattle.sync_rules.proofs.Runs.{legal_sound}
use Rattle.sync_rules.proofs.WorkLaws.{facts-push, settles_step, settles_legal, settles_itself}
use Rattle.message_graph.specs.declared.nodes.Node.{Node}
use Rattle.message_graph.specs.declared.nodes.Ending.TheVariants as ending
use Rattle.message_graph.specs.declared.nodes.Step.{Step}
use Rattle.message_graph.specs.declared.nodes.Step.TheVariants as graph_step
use Rattle.message_graph.specs.Nodes as nodes
use Rattle.message_graph.proofs.NodeLaws.{next_judge, next_end, there_within}
use Rattle.journal_play.specs.Texts.{FateLine, ends_told, line_of, line_at, lines_text}
use Rattle.journal_play.specs.Playing.{Story, node_of, judged_of, MirrorsFacts, StoryStandsFor}
use Rattle.journal_play.specs.Keeping.{stepping, SettlesToStory, IsStepped}
use Rattle.message_graph.specs.Nodes.{step_number}
use Rattle.journal_play.proofs.Same.{IsOneGroup, entry_of, id_at, next_same}
use Rattle.journal_play.proofs.Changes.{judged_node, invalid_node, delivered_node}
use Rattle.journal_play.proofs.Texts.{ends_told-push, text-append, all-push}

-- ---- what is at a number

module _ {A B : Type 0} (F : A → B) where
  pub at_map : (xs : List A) (n : ℕ) (x : A) → slice_get xs n ≡ Some x → slice_get (map F xs) n ≡ Some (F x)
  at_map [] n x at = absurd (let e : None ≡ Some x = at in cc)
  at_map (y ∷ xs) zero x at = let is : y ≡ x = cc in ap (λ w. Some (F w)) is
  at_map (y ∷ xs) (suc n) x at = at_map xs n x at

  pub of_map : (xs : List A) (n : ℕ) (y : B) → slice_get (map F xs) n ≡ Some y → (x : A) × (slice_get xs n ≡ Some x)
  of_map [] n y at = absurd (let e : None ≡ Some y = at in cc)
  of_map (x ∷ xs) zero y at = (x, refl)
  of_map (x ∷ xs) (suc n) y at = of_map xs n y at

id_there : (hs : List Held) (n : ℕ) (h : Held) → slice_get hs n ≡ Some h → id_at hs n ≡ h.id
id_there [] n h at = absurd (let e : None ≡ Some h = at in cc)
id_there (x ∷ hs) zero h at = let is : x ≡ h = cc in ap (λ (w : Held). w.id) is
id_there (x ∷ hs) (suc n) h at = id_there hs n h at

In_there : (hs : List Held) (n : ℕ) (h : Held) → slice_get hs n ≡ Some h → In h hs
In_there [] n h at = absurd (let e : None ≡ Some h = at in cc)
In_there (x ∷ hs) zero h at = let is : h ≡ x = cc in inl is
In_there (x ∷ hs) (suc n) h at = inr (In_there hs n h at)

-- the node of the next step is there
pub next_there : (ns : List Node) (s : Step) → nodes.next_step ns ≡ Some s
    → (node : Node) × (slice_get ns (step_number s) ≡ Some node)
next_there ns (graph_step.Judge n) e = let t = next_judge ns n e in (t.0, t.1)
next_there ns (graph_step.Invalid n) e = let t = next_end ns n ending.Invalid e in (t.0, t.1)
next_there ns (graph_step.Deliver n) e = let t = next_end ns n ending.Delivered e in (t.0, t.1)

pub next_within : (ns : List Node) (s : Step) → nodes.next_step ns ≡ Some s
    → step_number s < length ns
next_within ns s e = let t = next_there ns s e in there_within ns (step_number s) t.0 t.1

-- ---- what a legal journal of one group keeps

group_is : (known : Known) (gid g : Id) → is_some (cond (same_id gid g) (Some known) None) ≡ true → g ≡ gid
group_is known gid g e =
    elim (same_id gid g) as (λ b. same_id gid g ≡ b → is_some (cond b (Some known) None) ≡ true → g ≡ gid) [
      | true ↦ λ s _. sym (same_id-is gid g s)
      | false ↦ λ s e. absurd (false≢true e)
    ] refl e

pub of_group : (clients : Meaning) (def : GroupValue) (f : Facts) → f.groups ≡ known_of def ∷ [] → SoundFacts clients f
    → (h : Held) → In h f.held → h.message.group ≡ group_id_of def
of_group clients def f groups s h inside =
    group_is (known_of def) (group_id_of def) h.message.group
    (ap (λ (gs : List Known). is_some (group_at gs h.message.group)) (sym groups) ∙ s.known h inside)

bad_first_held : (g : Graph) (o : Option Held) → bad_first g o ≡ true → is_some o ≡ true
bad_first_held g None e = absurd (false≢true e)
bad_first_held g (Some h) e = refl

bad_more_held : (g : Graph) (was : Id → Bool) (o : Option Held) → bad_more g was o ≡ true → is_some o ≡ true
bad_more_held g was None e = absurd (false≢true e)
bad_more_held g was (Some h) e = refl

pub bad_held : (g : Graph) (k : ℕ) (id : Id) → bad g k id ≡ true → is_held g.held id ≡ true
bad_held g zero id e = bad_first_held g (held_at g.held id) e
bad_held g (suc k) id e =
    elim (or_cases (bad g k id) (bad_more g (bad g k) (held_at g.held id)) e) [
      | inl was ↦ bad_held g k id was
      | inr more ↦ bad_more_held g (bad g k) (held_at g.held id) more
    ]

good_next_held : (g : Graph) (was : Id → Bool) (o : Option Held) → good_next g was o ≡ true → is_some o ≡ true
good_next_held g was None e = absurd (false≢true e)
good_next_held g was (Some h) e = refl

pub good_held : (g : Graph) (k : ℕ) (id : Id) → good g k id ≡ true → is_held g.held id ≡ true
good_held g zero id e = absurd (false≢true e)
good_held g (suc k) id e = good_next_held g (good g k) (held_at g.held id) e

pub one_group : (clients : Meaning) (def : GroupValue) (f : Facts) → f.groups ≡ known_of def ∷ [] → SoundFacts clients f → IsOneGroup f (group_id_of def)
one_group clients def f groups s = record {
  groups = λ id h e. of_group clients def f groups s h (held_at-In f.held id h e);
  invalid = λ id e. bad_held (graph clients f.groups f.held) (tally (has_refusal f.invalid) f.held) id (s.invalid_bad id e);
  apart = λ id i d. disjoint (graph clients f.groups f.held) (tally (has_delivery f.delivered) f.held) (tally (has_refusal f.invalid) f.held) id (s.delivered_good id d) (s.invalid_bad id i);
}

pub delivered_held : (clients : Meaning) (f : Facts) → SoundFacts clients f → (id : Id) → is_among f.delivered id ≡ true → is_held f.held id ≡ true
delivered_held clients f s id e = good_held (graph clients f.groups f.held) (tally (has_delivery f.delivered) f.held) id (s.delivered_good id e)

pub invalid_held : (clients : Meaning) (f : Facts) → SoundFacts clients f → (id : Id) → fin_set.contains f.invalid id ≡ true → is_held f.held id ≡ true
invalid_held clients f s id e = bad_held (graph clients f.groups f.held) (tally (has_refusal f.invalid) f.held) id (s.invalid_bad id e)

-- a delivered message is not invalid
pub no_two : (clients : Meaning) (f : Facts) → SoundFacts clients f → (id : Id) → is_among f.delivered id ≡ true → fin_set.contains f.invalid id ≡ false
no_two clients f s id d =
    false_from_ne_true (fin_set.contains f.invalid id) (λ i.
    disjoint (graph clients f.groups f.held) (tally (has_delivery f.delivered) f.held) (tally (has_refusal f.invalid) f.held) id (s.delivered_good id d) (s.invalid_bad id i))

-- what the client of the one group says of a message of it
pub verdict_of : (clients : Meaning) (def : GroupValue) (kind : ℕ) (groups : List Known) (m : MessageValue) → kind_of_def clients def ≡ Some kind
    → groups ≡ known_of def ∷ [] → m.group ≡ group_id_of def → verdict_in clients groups m ≡ clients.verdict kind m
verdict_of clients def kind groups m known one of_it =
    let same : same_id (group_id_of def) m.group ≡ true = ap (same_id (group_id_of def)) of_it ∙ same_id_itself (group_id_of def) in
    ap (λ (gs : List Known). verdict_for clients (group_at gs m.group) m) one
    ∙ ap (λ b. verdict_for clients (cond b (Some (known_of def)) None) m) same
    ∙ ap (λ o. verdict_by clients o m) known

-- ---- a step

module _ (clients : Meaning) (def : GroupValue) (k : ℕ) (f : Facts) (es : List Entry) (play : Story)
    (m : MirrorsFacts clients def k f es play) (sound : SoundFacts clients f)
    (n : ℕ) (msg : MessageValue) (there : slice_get play.messages n ≡ Some msg) where
  held_there : slice_get f.held n ≡ Some (arrived 0 msg)
  held_there = ap (λ (hs : List Held). slice_get hs n) m.held ∙ at_map (arrived 0) play.messages n msg there

  named : id_at f.held n ≡ message_id_of msg
  named = id_there f.held n (arrived 0 msg) held_there

  inside : In (arrived 0 msg) f.held
  inside = In_there f.held n (arrived 0 msg) held_there

  found : held_at f.held (message_id_of msg) ≡ Some (arrived 0 msg)
  found = sound.names (arrived 0 msg) inside

  pub is_next : (s : Step) → nodes.next_step play.nodes ≡ Some s
      → next clients f ≡ Some (entry_of (id_at f.held) s)
  is_next s e =
      next_same clients f (group_id_of def) (one_group clients def f m.groups sound) (of_group clients def f m.groups sound)
      ∙ ap (option_map (entry_of (id_at f.held))) (ap nodes.next_step (sym m.nodes) ∙ e)

  verdict : verdict_in clients f.groups msg ≡ clients.verdict play.kind msg
  verdict = verdict_of clients def play.kind f.groups msg m.kind m.groups (of_group clients def f m.groups sound (arrived 0 msg) inside)

  pub judged_mirrors : MirrorsFacts clients def k (after f (entry.Judged (message_id_of msg))) (es ++ entry.Judged (message_id_of msg) ∷ []) (stepping clients (graph_step.Judge n) msg play)
  judged_mirrors =
      let same : ends_told (es ++ entry.Judged (message_id_of msg) ∷ []) ≡ ends_told es =
      ends_told-push es (entry.Judged (message_id_of msg)) ∙ append-nil (ends_told es) in
      record {
        kind = m.kind;
        group = m.group;
        groups = m.groups;
        levels = m.levels;
        sessions = m.sessions;
        takes = m.takes;
        held = m.held;
        nodes =
            ap (nodes.with_answer n (judged_of (clients.verdict play.kind msg))) m.nodes
            ∙ sym (judged_node clients f n (arrived 0 msg) held_there m.once (clients.verdict play.kind msg) verdict);
        text = m.text ∙ ap (lines_text f.held) (sym same);
        once = m.once;
        judged = λ id c.
            elim (or_cases (same_id (message_id_of msg) id) (fin_set.contains f.judged id) (sym (contains-more f.judged (message_id_of msg) id) ∙ c)) [
              | inl e ↦ ap (is_held f.held) (sym (same_id-is (message_id_of msg) id e)) ∙ ap is_some found
              | inr was ↦ m.judged id was
            ];
        within = ap (list_all (λ (line : FateLine). is_held f.held line.1)) same ∙ m.within;
      }

  -- one more line
  line_text : (x : Fate) → lines_text f.held (ends_told es ++ (x, message_id_of msg) ∷ [])
      ≡ play.text ++ line_of x (message_id_of msg) msg
  line_text x =
      text-append f.held (ends_told es) ((x, message_id_of msg) ∷ [])
      ∙ (λ i. sym m.text i ++ (line_at x (message_id_of msg) (found i) ++ []))
      ∙ ap (λ t. play.text ++ t) (append-nil (line_of x (message_id_of msg) msg))

  line_held : (x : Fate) → list_all (λ (line : FateLine). is_held f.held line.1)
      (ends_told es ++ (x, message_id_of msg) ∷ []) ≡ true
  line_held x = all-push f.held (ends_told es) (x, message_id_of msg) m.within (ap is_some found)

  pub invalid_mirrors : MirrorsFacts clients def k (after f (entry.Invalid (message_id_of msg))) (es ++ entry.Invalid (message_id_of msg) ∷ []) (stepping clients (graph_step.Invalid n) msg play)
  invalid_mirrors =
      let more : ends_told (es ++ entry.Invalid (message_id_of msg) ∷ []) ≡ ends_told es
      ++ (fate_kind.Invalid, message_id_of msg) ∷ [] =
      ends_told-push es (entry.Invalid (message_id_of msg)) in
      record {
        kind = m.kind;
        group = m.group;
        groups = m.groups;
        levels = m.levels;
        sessions = m.sessions;
        takes = m.takes;
        held = m.held;
        nodes = ap (nodes.with_ending n ending.Invalid) m.nodes ∙ sym (invalid_node clients f n (arrived 0 msg) held_there m.once);
        text = sym (ap (lines_text f.held) more ∙ line_text fate_kind.Invalid);
        once = m.once;
        judged = m.judged;
        within = ap (list_all (λ (line : FateLine). is_held f.held line.1)) more
            ∙ line_held fate_kind.Invalid;
      }

  not_invalid : next clients f ≡ Some (entry.Deliver (message_id_of msg)) → fin_set.contains f.invalid (message_id_of msg) ≡ false
  not_invalid e =
      let d = delivery clients f (message_id_of msg) e in
      let open_now = or_parts (is_among f.delivered d.of.id) (fin_set.contains f.invalid d.of.id) d.delivers.still_open.no_end in
      ap (fin_set.contains f.invalid) d.same ∙ open_now.1

  pub delivered_mirrors : next clients f ≡ Some (entry.Deliver (message_id_of msg)) →
      MirrorsFacts clients def k (after f (entry.Deliver (message_id_of msg))) (es ++ entry.Deliver (message_id_of msg) ∷ []) (stepping clients (graph_step.Deliver n) msg play)
  delivered_mirrors e =
      let more : ends_told (es ++ entry.Deliver (message_id_of msg) ∷ []) ≡ ends_told es
      ++ (fate_kind.Delivered, message_id_of msg) ∷ [] =
      ends_told-push es (entry.Deliver (message_id_of msg)) in
      record {
        kind = m.kind;
        group = m.group;
        groups = m.groups;
        levels = m.levels;
        sessions = m.sessions;
        takes = m.takes;
        held = m.held;
        nodes = ap (nodes.with_ending n ending.Delivered) m.nodes ∙ sym (delivered_node clients f n (arrived 0 msg) held_there m.once (not_invalid e));
        text = sym (ap (lines_text f.held) more ∙ line_text fate_kind.Delivered);
        once = m.once;
        judged = m.judged;
        within = ap (list_all (λ (line : FateLine). is_held f.held line.1)) more
            ∙ line_held fate_kind.Delivered;
      }

-- what a step of what is kept is for a journal
pub record IsBatch (clients : Meaning) (def : GroupValue) (k : ℕ) (f : Facts) (es : List Entry) (play : Story) : Type 0 where
  pub made : Entry
  pub is_next : next clients f ≡ Some made
  pub mirrors : MirrorsFacts clients def k (after f made) (es ++ made ∷ []) play

pub step_mirrors : (clients : Meaning) (def : GroupValue) (k : ℕ) (f : Facts) (es : List Entry) (play : Story)
    → MirrorsFacts clients def k f es play → SoundFacts clients f → (s : Step)
    → nodes.next_step play.nodes ≡ Some s
    → (msg : MessageValue) → slice_get play.messages (step_number s) ≡ Some msg → IsBatch clients def k f es (stepping clients s msg play)
step_mirrors clients def k f es play m sound (graph_step.Judge n) e msg at = record {
  made = entry.Judged (message_id_of msg);
  is_next = is_next clients def k f es play m sound n msg at (graph_step.Judge n) e ∙ ap (λ (x : Id). Some (entry.Judged x)) (named clients def k f es play m sound n msg at);
  mirrors = judged_mirrors clients def k f es play m sound n msg at;
}
step_mirrors clients def k f es play m sound (graph_step.Invalid n) e msg at = record {
  made = entry.Invalid (message_id_of msg);
  is_next = is_next clients def k f es play m sound n msg at (graph_step.Invalid n) e ∙ ap (λ (x : Id). Some (entry.Invalid x)) (named clients def k f es play m sound n msg at);
  mirrors = invalid_mirrors clients def k f es play m sound n msg at;
}
step_mirrors clients def k f es play m sound (graph_step.Deliver n) e msg at =
    let step : next clients f ≡ Some (entry.Deliver (message_id_of msg)) =
    is_next clients def k f es play m sound n msg at (graph_step.Deliver n) e ∙ ap (λ (x : Id). Some (entry.Deliver x)) (named clients def k f es play m sound n msg at) in
    record {
      made = entry.Deliver (message_id_of msg);
      is_next = step;
      mirrors = delivered_mirrors clients def k f es play m sound n msg at step;
    }

-- ---- journals

pub entries-push : (j : List (List Entry)) (b : List Entry) → entries_of (j ++ b ∷ []) ≡ entries_of j ++ b
entries-push [] b = append-nil b
entries-push (x ∷ j) b = ap (λ (es : List Entry). x ++ es) (entries-push j b) ∙ sym (append_assoc x (entries_of j) b)

-- a message at the number of the next step
pub message_there : (clients : Meaning) (def : GroupValue) (k : ℕ) (f : Facts) (es : List Entry) (play : Story) → MirrorsFacts clients def k f es play
    → (s : Step) → nodes.next_step play.nodes ≡ Some s
    → (msg : MessageValue) × (slice_get play.messages (step_number s) ≡ Some msg)
message_there clients def k f es play m s e =
    let t = next_there play.nodes s e in
    let node : slice_get (map (node_of clients f) (map (arrived 0) play.messages)) (step_number s) ≡ Some t.0 =
    (λ i. slice_get (map (node_of clients f) (sym m.held i)) (step_number s)) ∙ (ap (λ (ns : List Node). slice_get ns (step_number s)) (sym m.nodes) ∙ t.1) in
    let held = of_map (node_of clients f) (map (arrived 0) play.messages) (step_number s) t.0 node in
    of_map (arrived 0) play.messages (step_number s) held.0 held.1

pub reaches_step : (clients : Meaning) (def : GroupValue) (k : ℕ) (old : List (List Entry)) (play now : Story) → SettlesToStory clients def k old play
    → (s : Step) → nodes.next_step play.nodes ≡ Some s → IsStepped clients s play now
    → SettlesToStory clients def k old now
reaches_step clients def k old play now r s e stepped =
    let j : List (List Entry) = r.journal in
    let at = message_there clients def k (facts j) (entries_of j) play r.stands.mirrors s e in
    let b = step_mirrors clients def k (facts j) (entries_of j) play r.stands.mirrors (legal_sound clients j r.stands.legal) s e at.0 at.1 in
    let j' : List (List Entry) = j ++ (b.made ∷ []) ∷ [] in
    let one : SettlesJournal clients j j' = settles_step clients j j b.made (settles_itself clients j) b.is_next in
    let first : MirrorsFacts clients def k (facts j') (entries_of j ++ b.made ∷ []) (stepping clients s at.0 play) =
    subst (λ (f : Facts). MirrorsFacts clients def k f (entries_of j ++ b.made ∷ []) (stepping clients s at.0 play)) (sym (facts-push j (b.made ∷ []))) b.mirrors in
    let second : MirrorsFacts clients def k (facts j') (entries_of j') (stepping clients s at.0 play) =
    subst (λ (es : List Entry). MirrorsFacts clients def k (facts j') es (stepping clients s at.0 play)) (sym (entries-push j (b.made ∷ []))) first in
    record {
      journal = j';
      settles = settles_step clients old j b.made r.settles b.is_next;
      stands = record { legal = settles_legal clients j j' one r.stands.legal; mirrors = subst (λ (p : Story). MirrorsFacts clients def k (facts j') (entries_of j') p) (sym (stepped at.0 at.1)) second };
    }

pub reaches_itself : (clients : Meaning) (def : GroupValue) (k : ℕ) (j : List (List Entry)) (play : Story) → StoryStandsFor clients def k j play → SettlesToStory clients def k j play
reaches_itself clients def k j play s = record { journal = j; settles = settles_itself clients j; stands = s }
