-- What is kept in memory shows a story, and each call leads from a shown story to a shown one.
use Rattle.std.proofs.Common.{◌≡◌, ℕ, ◌+◌, Bool, true, false, cond, List, [], ◌∷◌, ◌++◌, length, map, refl, sym, ◌∙◌, ap, subst, Option, Some, None, is_some, slice_get}
use Rattle.sync_ids.specs.Values.{GroupValue, MessageValue}
use Rattle.sync_ids.specs.Ids.{group_id_of, message_id_of}
use Rattle.sync_ids.specs.Records.{IsRecord}
use Rattle.sync_ids.specs.declared.records.Record.{Record}
use Rattle.sync_ids.specs.declared.records.Record.TheVariants as record_kind
use Rattle.sync_rules.specs.declared.entries.Entry.{Entry}
use Rattle.sync_rules.specs.declared.states.Fate.TheVariants as fate_kind
use Rattle.sync_rules.specs.Clients.{Meaning}
use Rattle.sync_rules.specs.Lists.{same_id}
use Rattle.sync_rules.specs.Facts.{facts, entries_of}
use Rattle.sync_rules.specs.Steps.{kind_of_def}
use Rattle.message_graph.specs.declared.nodes.Node.{Node}
use Rattle.message_graph.specs.declared.nodes.Fate.{Fate}
use Rattle.message_graph.specs.declared.nodes.Fate.TheVariants as fate
use Rattle.message_graph.specs.declared.nodes.Step.{Step}
use Rattle.message_graph.specs.declared.nodes.Step.TheVariants as graph_step
use Rattle.message_graph.specs.Nodes.{next_step, node_number, fate_of}
use Rattle.journal_play.specs.declared.kept.Head.{Head}
use Rattle.journal_play.specs.declared.kept.Fresh.{Fresh}
use Rattle.journal_play.specs.Playing.{Played, Story, StoryStandsFor, HasPlayed, IsTextOf, head_of, shown_of}
use Rattle.journal_play.specs.Keeping.{holding, taking, stepping, IsStepped, with_head, taking_in, fresh_in, IsFresh, ended_as, ShowsStep, ReachesShown, open_line, open_text, pending_line, pending_text}
use Rattle.journal_play.proofs.Steps.{at_map, message_there, reaches_step, reaches_itself}
use Rattle.journal_play.proofs.Takes.{map_push, take_stands, hears, begins, after_record}
use Rattle.journal_play.proofs.Finish.{finishes}

-- ---- a record is taken

shown_holding : (story : Story) (m : MessageValue) → shown_of (holding story m) ≡ with_head (head_of m) (shown_of story)
shown_holding story m = (λ i. record (shown_of (holding story m)) { heads = map_push head_of story.messages m i })

shown_taking : (story : Story) (m : MessageValue) (of_it known : Bool)
    → shown_of (cond of_it (cond known story (holding story m)) story) ≡ cond of_it (cond known (shown_of story) (with_head (head_of m) (shown_of story))) (shown_of story)
shown_taking story m true true = refl
shown_taking story m true false = shown_holding story m
shown_taking story m false known = refl

pub taken_shown : (story : Story) (r : Record) → shown_of (taking story r) ≡ taking_in (shown_of story) r
taken_shown story (record_kind.Message m) =
    shown_taking story m (same_id m.group story.group)
    (is_some (node_number story.nodes (message_id_of m)))
taken_shown story _ = refl

at_end : (ms : List MessageValue) (m : MessageValue) → slice_get (ms ++ m ∷ []) (length (map head_of ms)) ≡ Some m
at_end [] m = refl
at_end (x ∷ ms) m = at_end ms m

fresh_taking : (story : Story) (m : MessageValue) (of_it known : Bool)
    → IsFresh (cond of_it (cond known None (Some (record { number = length (map head_of story.messages); message = m }))) None) (cond of_it (cond known story (holding story m)) story)
fresh_taking story m true true = tt
fresh_taking story m true false = at_end story.messages m
fresh_taking story m false known = tt

pub taken_fresh : (story : Story) (r : Record) → IsFresh (fresh_in (shown_of story) r) (taking story r)
taken_fresh story (record_kind.Message m) =
    fresh_taking story m (same_id m.group story.group)
    (is_some (node_number story.nodes (message_id_of m)))
taken_fresh story _ = tt

-- ---- one step

head_there : (story : Story) (play : Played) (n : ℕ) (m : MessageValue) → shown_of story ≡ play → slice_get story.messages n ≡ Some m → slice_get play.heads n ≡ Some (head_of m)
head_there story play n m shows at = ap (λ (p : Played). slice_get p.heads n) (sym shows) ∙ at_map head_of story.messages n m at

invalid_shown : (clients : Meaning) (just : Option Fresh) (n : ℕ) (old new : Played)
    → ((h : Head) → slice_get old.heads n ≡ Some h → new ≡ ended_as (graph_step.Invalid n) fate_kind.Invalid h old) → ShowsStep clients just (graph_step.Invalid n) old new
invalid_shown clients just n old new ended = λ story m shows fresh at.
    ap (ended_as (graph_step.Invalid n) fate_kind.Invalid (head_of m)) shows ∙ sym (ended (head_of m) (head_there story old n m shows at))

delivered_shown : (clients : Meaning) (just : Option Fresh) (n : ℕ) (old new : Played)
    → ((h : Head) → slice_get old.heads n ≡ Some h → new ≡ ended_as (graph_step.Deliver n) fate_kind.Delivered h old) → ShowsStep clients just (graph_step.Deliver n) old new
delivered_shown clients just n old new ended = λ story m shows fresh at.
    ap (ended_as (graph_step.Deliver n) fate_kind.Delivered (head_of m)) shows ∙ sym (ended (head_of m) (head_there story old n m shows at))

pub invalid_shown_at : (clients : Meaning) (just : Option Fresh) (s : Step) (n : ℕ) (old new : Played) → s ≡ graph_step.Invalid n
    → ((h : Head) → slice_get old.heads n ≡ Some h → new ≡ ended_as (graph_step.Invalid n) fate_kind.Invalid h old) → ShowsStep clients just s old new
invalid_shown_at clients just s n old new is ended =
    subst (λ (t : Step). ShowsStep clients just t old new) (sym is) (invalid_shown clients just n old new ended)

pub delivered_shown_at : (clients : Meaning) (just : Option Fresh) (s : Step) (n : ℕ) (old new : Played) → s ≡ graph_step.Deliver n
    → ((h : Head) → slice_get old.heads n ≡ Some h → new ≡ ended_as (graph_step.Deliver n) fate_kind.Delivered h old) → ShowsStep clients just s old new
delivered_shown_at clients just s n old new is ended =
    subst (λ (t : Step). ShowsStep clients just t old new) (sym is) (delivered_shown clients just n old new ended)

-- ---- settling

pub shown_itself : (clients : Meaning) (def : GroupValue) (k : ℕ) (j : List (List Entry)) (story : Story) (play : Played) → shown_of story ≡ play → StoryStandsFor clients def k j story
    → ReachesShown clients def k j story play
shown_itself clients def k j story play shows s = record { story = story; reaches = reaches_itself clients def k j story s; shows = shows; same = refl }

fresh_same : (just : Option Fresh) (start story : Story) → story.messages ≡ start.messages → IsFresh just start → IsFresh just story
fresh_same None start story same fresh = tt
fresh_same (Some f) start story same fresh = ap (λ (ms : List MessageValue). slice_get ms f.number) same ∙ fresh

messages_stay : (clients : Meaning) (s : Step) (m : MessageValue) (story : Story) → (stepping clients s m story).messages ≡ story.messages
messages_stay clients (graph_step.Judge n) m story = refl
messages_stay clients (graph_step.Invalid n) m story = refl
messages_stay clients (graph_step.Deliver n) m story = refl

pub shown_step : (clients : Meaning) (def : GroupValue) (k : ℕ) (old : List (List Entry)) (just : Option Fresh) (start : Story) (play now : Played)
    → ReachesShown clients def k old start play → IsFresh just start → (s : Step)
    → next_step play.nodes ≡ Some s → ShowsStep clients just s play now
    → ReachesShown clients def k old start now
shown_step clients def k old just start play now r fresh s e step =
    let story : Story = r.story in
    let e' : next_step story.nodes ≡ Some s = ap (λ (p : Played). next_step p.nodes) r.shows ∙ e in
    let at = message_there clients def k (facts r.reaches.journal) (entries_of r.reaches.journal) story r.reaches.stands.mirrors s e' in
    let stepped : IsStepped clients s story (stepping clients s at.0 story) =
    (λ m there. let same : Some at.0 ≡ Some m = sym at.1 ∙ there in let is : at.0 ≡ m = cc in ap (λ (q : MessageValue). stepping clients s q story) is) in
    record {
      story = stepping clients s at.0 story;
      reaches = reaches_step clients def k old story (stepping clients s at.0 story) r.reaches s e' stepped;
      shows = step story at.0 r.shows (fresh_same just start story r.same fresh) at.1;
      same = messages_stay clients s at.0 story ∙ r.same;
    }

-- ---- the calls

pub begins_shown : (clients : Meaning) (def : GroupValue) (kind : ℕ) (group : List ℕ) (heads : List Head) (nodes : List Node) (text : List ℕ)
    → group ≡ group_id_of def → heads ≡ [] → nodes ≡ [] → text ≡ [] → kind_of_def clients def ≡ Some kind
    → HasPlayed clients def [] (record { kind = kind; group = group; heads = heads; nodes = nodes; text = text })
begins_shown clients def kind group heads nodes text g h n t known = record {
  story = record { kind = kind; group = group_id_of def; messages = []; nodes = []; text = [] };
  told = begins clients def kind known;
  shows = (λ i. record { kind = kind; group = sym g i; heads = sym h i; nodes = sym n i; text = sym t i });
}

pub hears_shown : (clients : Meaning) (def : GroupValue) (records : List Record) (old mid now : Played) (r : Record) (just : Option Fresh) → HasPlayed clients def records old → IsRecord r
    → mid ≡ taking_in old r → just ≡ fresh_in old r
    → ((story : Story) (d : GroupValue) (k : ℕ) (j : List (List Entry)) → shown_of story ≡ mid → IsFresh just story → StoryStandsFor clients d k j story → ReachesShown clients d k j story now)
    → next_step now.nodes ≡ None → HasPlayed clients def (records ++ r ∷ []) now
hears_shown clients def records old mid now r just p within taken is_just reaches none =
    let k : ℕ = length records in
    let story : Story = taking p.story r in
    let shows : shown_of story ≡ mid = taken_shown p.story r ∙ ap (λ (q : Played). taking_in q r) p.shows ∙ sym taken in
    let fresh_is_just : fresh_in (shown_of p.story) r ≡ just = ap (λ (q : Played). fresh_in q r) p.shows ∙ sym is_just in
    let fresh : IsFresh just story = subst (λ (o : Option Fresh). IsFresh o story) fresh_is_just (taken_fresh p.story r) in
    let stands : StoryStandsFor clients def (k + 1) (after_record p.told.journal k r) story =
    take_stands clients def k p.told.journal p.story p.told.stands p.told.settled r within in
    let reached : ReachesShown clients def (k + 1) (after_record p.told.journal k r) story now = reaches story def (k + 1) (after_record p.told.journal k r) shows fresh stands in
    let none' : next_step reached.story.nodes ≡ None =
    ap (λ (q : Played). next_step q.nodes) reached.shows ∙ none in
    record { story = reached.story; told = hears clients def records p.story reached.story r p.told within reached.reaches none'; shows = reached.shows }

open_one : (f : Fate) (m : MessageValue) → open_line f (head_of m) ≡ pending_line f m
open_one fate.Unknown m = refl
open_one fate.Pending m = refl
open_one fate.Invalid m = refl
open_one fate.Delivered m = refl

open_same : (ms : List MessageValue) (ns : List Node) → open_text (map head_of ms) ns ≡ pending_text ms ns
open_same [] ns = refl
open_same (m ∷ ms) [] = refl
open_same (m ∷ ms) (node ∷ ns) = (λ i. open_one (fate_of node) m i ++ open_same ms ns i)

pub finishes_shown : (clients : Meaning) (def : GroupValue) (records : List Record) (play : Played) (text : List ℕ) → HasPlayed clients def records play
    → text ≡ play.text ++ open_text play.heads play.nodes → IsTextOf clients def records text
finishes_shown clients def records play text p is =
    let s : Story = p.story in
    finishes clients def records s text p.told
    (is ∙ ap (λ (q : Played). q.text ++ open_text q.heads q.nodes) (sym p.shows) ∙ ap (λ t. s.text ++ t) (open_same s.messages s.nodes))
