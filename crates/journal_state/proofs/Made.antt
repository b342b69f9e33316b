-- A step is made: the parts after it, by what its function knows.
use Rattle.std.proofs.Common.{◌≡◌, ℕ, zero, suc, ◌<◌, Bool, cond, set, None, MatchOption, ◌||◌, List, [], ◌∷◌, ◌++◌, length, map, slice_set, Option, Some, slice_get, slice_index_or, sym, ◌∙◌, ap, subst, arith}
use Rattle.std.specs.Option.{option_map}
use Rattle.sync_ids.specs.Values.{MessageValue}
use Rattle.sync_rules.specs.declared.answers.Judgement.{Judgement}
use Rattle.sync_rules.specs.declared.entries.Entry.{Entry}
use Rattle.sync_rules.specs.declared.entries.Entry.TheVariants as entry
use Rattle.sync_rules.specs.declared.states.Origin.{Origin}
use Rattle.sync_rules.specs.Clients.{Meaning}
use Rattle.std.proofs.lemmas.List.Quantifiers.{position-Some}
use Rattle.sync_rules.specs.Facts.{Facts, Held, Id, Known, group_at}
use Rattle.sync_rules.specs.Lists.{same_id}
use Rattle.sync_rules.specs.Sessions.{is_author}
use Rattle.sync_rules.specs.Steps.{answer_of, next, verdict_in}
use Rattle.message_graph.specs.declared.nodes.Judged.{Judged}
use Rattle.message_graph.specs.declared.nodes.Node.{Node}
use Rattle.message_graph.specs.declared.nodes.Ending.TheVariants as ending
use Rattle.message_graph.specs.declared.nodes.Step.{Step}
use Rattle.message_graph.specs.declared.nodes.Step.TheVariants as step
use Rattle.message_graph.specs.Nodes as nodes
use Rattle.message_graph.specs.Nodes.{step_number}
use Rattle.retry_table.specs.Table as retry
use Rattle.journal_state.specs.Parts.{Parts, answer_of_node, answers_of, facts_of}
use Rattle.journal_state.specs.Whole.{StateValue, IsState, KnowsJudgements, id_at, value_of}
use Rattle.journal_state.specs.Changes.{delivered_parts}
use Rattle.journal_state.specs.Delivery.{goes_to, GrowsRoom, ReadiesMessage}
use Rattle.journal_state.specs.Taking.{moved}
use Rattle.journal_state.proofs.Listed.{id_there}
use Rattle.journal_state.proofs.Found.{IsNext, next_found, judge_next, invalid_next, deliver_next}
use Rattle.journal_state.proofs.Stepped.{answers_kept, invalid_state, invalid_facts, judged_state, judged_facts, judged_knows, within_list}
use Rattle.journal_state.proofs.Grown.{grown_state, grown_facts}
use Rattle.journal_state.proofs.Delivered.{delivered_state, delivered_facts, free_before}
use Rattle.visibility_table.specs.Table as levels
use Rattle.visibility_table.proofs.Groups.{numbered}

-- ---- the node of a step

-- the next step is of this kind, and of the message of that number
abbrev pub Claims : (Id → Entry) → ℕ → StateValue → Type 0
Claims kind n v = (n < length v.facts.held) × ((clients : Meaning) × (KnowsJudgements clients v × (next clients v.facts ≡ Some (kind (id_at v.facts.held n)))))

pub judge_node : (p : Parts) → IsState p → (v : StateValue) → value_of p ≡ v → (n : ℕ)
    → Claims entry.Judged n v → nodes.next_step p.nodes ≡ Some (step.Judge n)
judge_node p s v view n claim = let k : Claims entry.Judged n (value_of p) = subst (Claims entry.Judged n) (sym view) claim in judge_next k.1.0 p s k.1.1.0 n k.0 k.1.1.1

pub refuse_node : (p : Parts) → IsState p → (v : StateValue) → value_of p ≡ v → (n : ℕ)
    → Claims entry.Invalid n v → nodes.next_step p.nodes ≡ Some (step.Invalid n)
refuse_node p s v view n claim = let k : Claims entry.Invalid n (value_of p) = subst (Claims entry.Invalid n) (sym view) claim in invalid_next k.1.0 p s k.1.1.0 n k.0 k.1.1.1

pub deliver_node : (p : Parts) → IsState p → (v : StateValue) → value_of p ≡ v → (n : ℕ)
    → Claims entry.Deliver n v → nodes.next_step p.nodes ≡ Some (step.Deliver n)
deliver_node p s v view n claim = let k : Claims entry.Deliver n (value_of p) = subst (Claims entry.Deliver n) (sym view) claim in deliver_next k.1.0 p s k.1.1.0 n k.0 k.1.1.1

-- what is shown of a message, or of a node, is so of it
shown_as : {X A : Type 0} (f : X → A) (o : Option X) (h : X) (x : A) → o ≡ Some h → option_map f o ≡ Some x → f h ≡ x
shown_as f o h x is shows = let both : Some (f h) ≡ Some x = sym (ap (option_map f) is) ∙ shows in let same : f h ≡ x = cc in same

number_within : (gs : List Known) (id : Id) (k : ℕ) → levels.group_number gs id ≡ Some k → k < length gs
number_within [] id k is = absurd (let e : None ≡ Some k = is in cc)
number_within (g ∷ gs) id k is = (position-Some (λ (x : Known). same_id x.id id) (g ∷ gs) k g is).0

-- the group of a step's node is that of its message
module _ (p : Parts) (s : IsState p) (next_one : Step) (e : nodes.next_step p.nodes ≡ Some next_one)
    (m : MessageValue) (m_is : option_map (λ (h : Held). h.message) (slice_get p.held (step_number next_one)) ≡ Some m)
    (number : ℕ) (number_is : option_map (λ (node : Node). node.group) (slice_get p.nodes (step_number next_one)) ≡ Some number) where
  pub group_told : levels.group_number p.table.groups m.group ≡ Some number
  group_told =
      let f : IsNext p next_one = next_found p s next_one e in
      ap (λ (x : MessageValue). levels.group_number p.table.groups x.group) (sym (shown_as (λ (h : Held). h.message) (slice_get p.held (step_number next_one)) f.message m f.there m_is))
      ∙ (s.grouped (step_number next_one) f.message f.node f.there f.at
      ∙ ap Some (shown_as (λ (node : Node). node.group) (slice_get p.nodes (step_number next_one)) f.node number f.at number_is))

  pub def_now : slice_get p.table.groups number ≡ group_at p.table.groups m.group
  def_now =
      let gs = p.table.groups in
      subst (λ o. MatchOption o (group_at gs m.group ≡ None) (λ k. slice_get gs k ≡ group_at gs m.group)) group_told (numbered gs m.group)

  pub def_within : number < length p.table.groups
  def_within = number_within p.table.groups m.group number group_told

-- the same answers are the clients' after a step that judges nothing
same_known : (p : Parts) (clients : Meaning) (answers : List (Option Judgement)) (f : Facts) (hs : List Held) → answers ≡ answers_of p.nodes p.shares
    → map (answer_of clients f) hs ≡ map (answer_of clients (facts_of p)) p.held → KnowsJudgements clients (value_of p) → answers ≡ map (answer_of clients f) hs
same_known p clients answers f hs same others k = same ∙ (k ∙ sym others)

-- ---- judged

module _ (p : Parts) (s : IsState p) (n : ℕ) (e : nodes.next_step p.nodes ≡ Some (step.Judge n))
    (j : Judged) (share : Bool) (a : Judgement) (shows : answer_of_node (Some j) share ≡ Some a)
    (ns : List Node) (is : ns ≡ nodes.with_answer n j p.nodes) where
  pub judged_then : IsState (record p { nodes = ns; shares = slice_set p.shares n share })
  judged_then =
      let f : IsNext p (step.Judge n) = next_found p s (step.Judge n) e in
      subst (λ (xs : List Node). IsState (record p { nodes = xs; shares = slice_set p.shares n share })) (sym is) (judged_state p s n f.node f.message f.at f.there f.tells.1 j share a shows)

  pub judged_so : facts_of (record p { nodes = ns; shares = slice_set p.shares n share }) ≡ moved (facts_of p) (entry.Judged (id_at p.held n))
  judged_so =
      let f : IsNext p (step.Judge n) = next_found p s (step.Judge n) e in
      ap (λ (xs : List Node). facts_of (record p { nodes = xs; shares = slice_set p.shares n share })) is
      ∙ (judged_facts p s n f.node f.message f.at f.there f.tells.1 j share a shows
      ∙ ap (λ (d : Id). moved (facts_of p) (entry.Judged d)) (sym (id_there p.held n f.message f.there)))

  pub judged_known : (clients : Meaning) → KnowsJudgements clients (value_of p) → (m : MessageValue) → option_map (λ (h : Held). h.message) (slice_get p.held n) ≡ Some m
      → a ≡ verdict_in clients p.table.groups m → KnowsJudgements clients (value_of (record p { nodes = ns; shares = slice_set p.shares n share }))
  judged_known clients k m m_is says =
      let f : IsNext p (step.Judge n) = next_found p s (step.Judge n) e in
      let message : f.message.message ≡ m = shown_as (λ (h : Held). h.message) (slice_get p.held n) f.message m f.there m_is in
      subst (λ (xs : List Node). KnowsJudgements clients (value_of (record p { nodes = xs; shares = slice_set p.shares n share }))) (sym is)
      (judged_knows p s n f.node f.message f.at f.there f.tells.1 j share a shows clients k (ap (verdict_in clients p.table.groups) message ∙ sym says))

-- ---- invalid

module _ (p : Parts) (s : IsState p) (n : ℕ) (e : nodes.next_step p.nodes ≡ Some (step.Invalid n))
    (ns : List Node) (is : ns ≡ nodes.with_ending n ending.Invalid p.nodes) where
  pub refused_then : IsState (record p { nodes = ns })
  refused_then =
      let f : IsNext p (step.Invalid n) = next_found p s (step.Invalid n) e in
      subst (λ (xs : List Node). IsState (record p { nodes = xs })) (sym is) (invalid_state p s n f.node f.message f.at f.there f.tells.1.0 f.tells.1.1 f.tells.2)

  pub refused_so : facts_of (record p { nodes = ns }) ≡ moved (facts_of p) (entry.Invalid (id_at p.held n))
  refused_so =
      let f : IsNext p (step.Invalid n) = next_found p s (step.Invalid n) e in
      ap (λ (xs : List Node). facts_of (record p { nodes = xs })) is
      ∙ (invalid_facts p s n f.node f.message f.at f.there f.tells.1.0 f.tells.1.1 f.tells.2
      ∙ ap (λ (d : Id). moved (facts_of p) (entry.Invalid d)) (sym (id_there p.held n f.message f.there)))

  pub refused_known : (clients : Meaning) → KnowsJudgements clients (value_of p) → KnowsJudgements clients (value_of (record p { nodes = ns }))
  refused_known clients k =
      same_known p clients (answers_of ns p.shares) (facts_of (record p { nodes = ns })) p.held
      (ap (λ (xs : List Node). answers_of xs p.shares) is ∙ answers_kept p.nodes p.shares n ending.Invalid)
      (ap (λ (f : Facts). map (answer_of clients f) p.held) refused_so) k

-- ---- delivered

-- the message of the next step was not released
module _ (p : Parts) (s : IsState p) (n : ℕ) (e : nodes.next_step p.nodes ≡ Some (step.Deliver n)) where
  pub free_now : retry.group_at p.retry n ≡ None
  free_now =
      let f : IsNext p (step.Deliver n) = next_found p s (step.Deliver n) e in
      free_before p s n f.node f.message f.at f.there f.tells.1.0 f.tells.1.1 f.tells.2

got : {A : Type 0} (xs : List A) (n : ℕ) (x : A) → n < length xs → x ≡ slice_index_or xs n x → slice_get xs n ≡ Some x
got [] n x within is = absurd (omega arith)
got (y ∷ xs) zero x within is = ap Some (sym is)
got (y ∷ xs) (suc n) x within is = got xs n x (omega arith) is

module _ (p : Parts) (s : IsState p) (n : ℕ) (e : nodes.next_step p.nodes ≡ Some (step.Deliver n))
    (m : MessageValue) (m_is : option_map (λ (h : Held). h.message) (slice_get p.held n) ≡ Some m)
    (group : Id) (group_is : group ≡ m.group) (o : Origin) (o_is : option_map (λ (h : Held). h.origin) (slice_get p.held n) ≡ Some o)
    (share : Bool) (share_is : share ≡ slice_index_or p.shares n share) (outgoing : Bool) (out_is : outgoing ≡ (is_author o || share))
    (t : retry.Table) (g : GrowsRoom p.retry t) (u : retry.Table) (r : ReadiesMessage t u (goes_to p.table.levels group outgoing) p.table.contacts n)
    (number : ℕ) (number_is : levels.group_number p.table.groups group ≡ Some number) (groups : u.groups ≡ cond outgoing (set t.groups n (Some number)) t.groups) (long : n < length t.groups)
    (ns : List Node) (ns_is : ns ≡ nodes.with_ending n ending.Delivered p.nodes) (ds : List ℕ) (ds_is : ds ≡ p.delivered ++ n ∷ []) where
  next_now : IsNext p (step.Deliver n)
  next_now = next_found p s (step.Deliver n) e

  lets_now : slice_get p.shares n ≡ Some share
  lets_now =
      let f : IsNext p (step.Deliver n) = next_found p s (step.Deliver n) e in
      let below : n < length p.nodes = within_list p.nodes n f.node f.at in
      got p.shares n share (omega (arith, below, s.each_share)) share_is

  opens_now : (h : Held) → slice_get p.held n ≡ Some h → outgoing ≡ (is_author h.origin || share)
  opens_now h there = out_is ∙ ap (λ (x : Origin). is_author x || share) (sym (shown_as (λ (w : Held). w.origin) (slice_get p.held n) h o there o_is))

  group_now : (h : Held) → slice_get p.held n ≡ Some h → group ≡ h.message.group
  group_now h there = group_is ∙ ap (λ (x : MessageValue). x.group) (sym (shown_as (λ (w : Held). w.message) (slice_get p.held n) h m there m_is))

  groups_now : (h : Held) (y : Node) → slice_get p.held n ≡ Some h → slice_get p.nodes n ≡ Some y → u.groups ≡ cond outgoing (set t.groups n (Some y.group)) t.groups
  groups_now h y there at =
      let both : Some number ≡ Some y.group = sym number_is ∙ (ap (levels.group_number p.table.groups) (group_now h there) ∙ s.grouped n h y there at) in
      let same : number ≡ y.group = cc in
      groups ∙ ap (λ k. cond outgoing (set t.groups n (Some k)) t.groups) same

  readies_now : (h : Held) → slice_get p.held n ≡ Some h → ReadiesMessage t u (goes_to p.table.levels h.message.group outgoing) p.table.contacts n
  readies_now h there =
      let same : group ≡ h.message.group = group_is ∙ ap (λ (x : MessageValue). x.group) (sym (shown_as (λ (w : Held). w.message) (slice_get p.held n) h m there m_is)) in
      subst (λ (d : Id). ReadiesMessage t u (goes_to p.table.levels d outgoing) p.table.contacts n) same r

  pub delivered_then : IsState (record p { nodes = ns; delivered = ds; retry = u })
  delivered_then =
      let f : IsNext p (step.Deliver n) = next_found p s (step.Deliver n) e in
      let made : IsState (delivered_parts (record p { retry = t }) n u) =
      delivered_state (record p { retry = t }) (grown_state p s t g) n f.node f.message f.at f.there f.tells.1.0 f.tells.1.1 f.tells.2
      share outgoing lets_now (opens_now f.message f.there) u (readies_now f.message f.there) (groups_now f.message f.node f.there f.at) long in
      subst (λ (xs : List Node). IsState (record p { nodes = xs; delivered = ds; retry = u })) (sym ns_is)
      (subst (λ (ks : List ℕ). IsState (record p { nodes = nodes.with_ending n ending.Delivered p.nodes; delivered = ks; retry = u })) (sym ds_is) made)

  pub delivered_so : facts_of (record p { nodes = ns; delivered = ds; retry = u }) ≡ moved (facts_of p) (entry.Deliver (id_at p.held n))
  delivered_so =
      let f : IsNext p (step.Deliver n) = next_found p s (step.Deliver n) e in
      (λ i. facts_of (record p { nodes = ns_is i; delivered = ds_is i; retry = u }))
      ∙ (delivered_facts (record p { retry = t }) (grown_state p s t g) n f.node f.message f.at f.there f.tells.1.0 f.tells.1.1 f.tells.2
      share outgoing lets_now (opens_now f.message f.there) u (readies_now f.message f.there) (groups_now f.message f.node f.there f.at) long
      ∙ ((λ i. moved (grown_facts p t g i) (entry.Deliver f.message.id))
      ∙ ap (λ (d : Id). moved (facts_of p) (entry.Deliver d)) (sym (id_there p.held n f.message f.there))))

  pub delivered_same : answers_of ns p.shares ≡ answers_of p.nodes p.shares
  delivered_same = ap (λ (xs : List Node). answers_of xs p.shares) ns_is ∙ answers_kept p.nodes p.shares n ending.Delivered
