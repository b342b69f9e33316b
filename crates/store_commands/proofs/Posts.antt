-- A post, from its body to its outcome.
use Rattle.std.proofs.Common.{◌≡◌, ℕ, ◌+◌, Bool, true, false, List, length, sym, ap}
use Rattle.std.proofs.Common.{◌∙◌, inl, inr, Some, None, Ok, Err}
use Rattle.std.specs.Prelude.{◌==◌, nat_lt, is_some, if◌then◌else◌}
use Rattle.std.specs.List.{list_all}
use Rattle.outside.specs.Files.{Two, File, read_files}
use Rattle.outside.specs.Outside.{Outside, DiskRun}
use Rattle.outside.specs.Input.{ReadsAll}
use Rattle.outside.specs.Streams.{Stream, IsIdle}
use Rattle.sync_ids.specs.declared.message.TheConstants.{MAX_BODY}
use Rattle.sync_ids.specs.Values.{MessageValue}
use Rattle.sync_ids.specs.Ids.{message_id_of}
use Rattle.sync_rules.specs.declared.answers.Judgement.{Judgement}
use Rattle.sync_rules.specs.declared.answers.Judgement.TheVariants as judgement
use Rattle.sync_rules.specs.declared.entries.Entry.{Entry}
use Rattle.sync_rules.specs.declared.entries.Entry.TheVariants as entry
use Rattle.sync_rules.specs.declared.states.Refused.{Refused}
use Rattle.sync_rules.specs.declared.states.Refused.TheVariants as refused
use Rattle.sync_rules.specs.Clients.{Meaning}
use Rattle.sync_rules.specs.Facts.{Facts, Id, group_at, held_at}
use Rattle.sync_rules.specs.Steps.{is_served, verdict_in}
use Rattle.file_standing.specs.Standing.{stands}
use Rattle.sync_store.specs.Refusals.{judged_answer, post_answer}
use Rattle.sync_store.specs.Store.{StoreValue}
use Rattle.sync_words.specs.declared.outcome.Outcome.{Outcome}
use Rattle.sync_words.specs.declared.outcome.Outcome.TheVariants as outcome
use Rattle.store_commands.specs.declared.commit.Settling.TheVariants as settling
use Rattle.store_commands.specs.Entries.{EntryAdded, HasAdded}
use Rattle.store_commands.specs.Load.{HasFacts, IsLoaded, LoadedBy, LoadKeeps, MayExtend}
use Rattle.store_commands.specs.Show.{LeavesFilesSo}
use Rattle.store_commands.specs.Plans.{adds, refuses, body_plan, message_plan, planned}
use Rattle.store_commands.specs.Plans.{post_plan}
use Rattle.store_commands.specs.Post.{HasPosted, IsBody, IsPlanOfPost, IsBodyRead, PostStops}
use Rattle.store_commands.specs.Post.{PostsBody, group_test, posted_message}
use Rattle.store_commands.specs.Stopping.{InputStops}
use Rattle.store_commands.specs.Works.{WorkBy}
use Rattle.store_commands.proofs.EntryLemmas.{added_entry, added_none, added_refused}
use Rattle.store_commands.proofs.Stopped.{input_unread, stops_memory, stops_none, stops_refused}
use Rattle.store_commands.proofs.Stopped.{stops_unread}

-- ---- plans

pub plan_known : (clients : Meaning) (f : Facts) (m : MessageValue)
    → is_some (group_at f.groups m.group) ≡ true → post_plan clients f m ≡ body_plan clients f m
plan_known clients f m known =
    ap (λ b. if b then body_plan clients f m else refuses refused.UnknownGroup) known

plan_long : (clients : Meaning) (f : Facts) (m : MessageValue)
    → is_some (group_at f.groups m.group) ≡ true → length m.body ≡ MAX_BODY + 1
    → post_plan clients f m ≡ refuses refused.BodyTooLong
plan_long clients f m known long =
    plan_known clients f m known
    ∙ ap (λ n. if n == 0 then refuses refused.EmptyBody else if nat_lt MAX_BODY n then refuses
    refused.BodyTooLong else message_plan clients f m) long

judged_other : (f : Facts) (m : MessageValue) (answer : Judgement)
    → planned (λ (id : Id). entry.Author m) (judged_answer f m answer)
    ≡ refuses refused.UnknownGroup → ⊥
judged_other f m judgement.Refuse is = cc
judged_other f m (judgement.Accept deps share) is =
    elim (list_all (is_served f m.group) deps) as (λ b.
    planned (λ (id : Id). entry.Author m)
    (if b then Ok (message_id_of m) else Err refused.DependencyNotDelivered)
    ≡ refuses refused.UnknownGroup → ⊥) [
      | true ↦ λ w. cc
      | false ↦ λ w. cc
    ] is

message_other : (clients : Meaning) (f : Facts) (m : MessageValue)
    → is_some (group_at f.groups m.group) ≡ true
    → message_plan clients f m ≡ refuses refused.UnknownGroup → ⊥
message_other clients f m known is = by_group (is_some (group_at f.groups m.group)) known is where
  by_held : (b : Bool) → planned (λ (id : Id). entry.Author m)
      (if b then Err refused.AlreadyHeld else judged_answer f m (verdict_in clients f.groups m))
      ≡ refuses refused.UnknownGroup → ⊥
  by_held true w = cc
  by_held false w = judged_other f m (verdict_in clients f.groups m) w

  by_group : (a : Bool) → a ≡ true
      → planned (λ (id : Id). entry.Author m)
      (if a then (if is_some (held_at f.held (message_id_of m)) then Err refused.AlreadyHeld
      else judged_answer f m (verdict_in clients f.groups m)) else Err refused.UnknownGroup)
      ≡ refuses refused.UnknownGroup → ⊥
  by_group true e w = by_held (is_some (held_at f.held (message_id_of m))) w
  by_group false e w = cc

body_other : (clients : Meaning) (f : Facts) (m : MessageValue)
    → is_some (group_at f.groups m.group) ≡ true
    → body_plan clients f m ≡ refuses refused.UnknownGroup → ⊥
body_other clients f m known is =
    elim (length m.body == 0) as (λ b.
    (if b then refuses refused.EmptyBody else if nat_lt MAX_BODY (length m.body) then refuses
    refused.BodyTooLong else message_plan clients f m) ≡ refuses refused.UnknownGroup → ⊥) [
      | true ↦ λ w. cc
      | false ↦ λ w.
          elim (nat_lt MAX_BODY (length m.body)) as (λ b.
          (if b then refuses refused.BodyTooLong else message_plan clients f m)
          ≡ refuses refused.UnknownGroup → ⊥) [
            | true ↦ λ v. cc
            | false ↦ λ v. message_other clients f m known v
          ] w
    ] is

-- the id that comes with a yes is the message's
judged_id : (f : Facts) (m : MessageValue) (answer : Judgement) (id : Id)
    → judged_answer f m answer ≡ Ok id → id ≡ message_id_of m
judged_id f m judgement.Refuse id is = cc
judged_id f m (judgement.Accept deps share) id is =
    elim (list_all (is_served f m.group) deps) as (λ b.
    (if b then Ok (message_id_of m) else Err refused.DependencyNotDelivered) ≡ Ok id
    → id ≡ message_id_of m) [
      | true ↦ λ w. cc
      | false ↦ λ w. cc
    ] is

pub post_id : (clients : Meaning) (f : Facts) (m : MessageValue) (id : Id)
    → post_answer clients f m ≡ Ok id → id ≡ message_id_of m
post_id clients f m id is = by_group (is_some (group_at f.groups m.group)) is where
  by_held : (b : Bool)
      → (if b then Err refused.AlreadyHeld else judged_answer f m (verdict_in clients f.groups m))
      ≡ Ok id → id ≡ message_id_of m
  by_held true w = cc
  by_held false w = judged_id f m (verdict_in clients f.groups m) id w

  by_group : (a : Bool)
      → (if a then (if is_some (held_at f.held (message_id_of m)) then Err refused.AlreadyHeld else
      judged_answer f m (verdict_in clients f.groups m)) else Err refused.UnknownGroup) ≡ Ok id
      → id ≡ message_id_of m
  by_group true w = by_held (is_some (held_at f.held (message_id_of m))) w
  by_group false w = cc

-- ---- the command stopped before its body was read

-- the test of the group
group_answers : (f : Facts) (group : Id) (known : Bool)
    → is_some (group_at f.groups group) ≡ known
    → group_test group f ≡ (if known then None else Some refused.UnknownGroup)
group_answers f group known is = ap (λ b. if b then None else Some refused.UnknownGroup) is

by_outcome : (clients : Meaning) (group : Id) (timestamp : ℕ) (old new : Outside)
    (input input' out out' : Stream) (came : Outcome) → LoadedBy old new (Err came)
    → PostStops clients group old new input input' out out' came
    → HasPosted clients group timestamp old new input input' out out' came
by_outcome clients group timestamp old new input input' out out' outcome.DiskFault by stops =
    inl stops
by_outcome clients group timestamp old new input input' out out' outcome.NoStore by stops = stops
by_outcome clients group timestamp old new input input' out out' (outcome.Damaged place) by stops =
    stops
by_outcome clients group timestamp old new input input' out out' outcome.Memory by stops = inl stops
by_outcome clients group timestamp old new input input' out out' _ by stops = absurd by

-- no store was loaded
pub posted_none : (clients : Meaning) (group : Id) (timestamp : ℕ) (old new : Outside)
    (input input' out out' : Stream) (came : Outcome) → DiskRun old new
    → ((two : Two File) → old.files ≡ Some two
    → LeavesFilesSo (LoadKeeps (Err came) two) two old new) → LoadedBy old new (Err came)
    → ((two : Two File) → old.files ≡ Some two
    → IsLoaded (stands clients (read_files two)) (Err came)) → IsIdle input input'
    → IsIdle out out'
    → HasPosted clients group timestamp old new input input' out out' came
posted_none clients group timestamp old new input input' out out' came run rests by loaded idle
    quiet =
    by_outcome clients group timestamp old new input input' out out' came by
    (stops_none clients (group_test group) (InputStops ⊥ input input') old new out out' run quiet
    came rests by loaded (input_unread ⊥ old new input input' came idle by))

-- what is known of a store that was loaded
module _ (clients : Meaning) (group : Id) (timestamp : ℕ) (old new : Outside)
    (input input' out out' : Stream) (s : StoreValue) (run : DiskRun old new)
    (rests : (two : Two File) → old.files ≡ Some two
    → LeavesFilesSo (LoadKeeps (Ok s) two) two old new) (loaded : (two : Two File)
    → old.files ≡ Some two → HasFacts (stands clients (read_files two)) s)
    (quiet : IsIdle out out') where
  abbrev Posted : Outcome → Type 0
  Posted came = HasPosted clients group timestamp old new input input' out out' came

  -- the group is not known
  pub posted_unknown : is_some (group_at s.state.facts.groups group) ≡ false → IsIdle input input'
      → Posted (outcome.Refused refused.UnknownGroup)
  posted_unknown unknown idle =
      stops_refused clients (group_test group) (InputStops ⊥ input input') old new out out' run
      quiet
      s rests loaded refused.UnknownGroup (group_answers s.state.facts group false unknown) idle

  -- memory was wanting for the message
  added_memory : (body : List ℕ) → HasAdded clients
      (λ f. post_plan clients f (posted_message group timestamp body)) settling.BeforeAndAfter old
      new
      out out' outcome.Memory
  added_memory body =
      added_none clients (λ f. post_plan clients f (posted_message group timestamp body))
      settling.BeforeAndAfter old new out out' outcome.Memory run (λ two told. rests two told)
      tt (λ two told. tt) quiet

  refused_body : (body : List ℕ) (why : Refused) → IsBody input input' body
      → post_plan clients s.state.facts (posted_message group timestamp body) ≡ refuses why
      → PostsBody clients group timestamp old new input input' out out' (outcome.Refused why)
  refused_body body why read is = record {
    body = body;
    reads = read;
    added = added_refused clients (λ f. post_plan clients f (posted_message group timestamp body))
        settling.BeforeAndAfter old new out out' s why run rests loaded is quiet;
  }

  module _ (known : is_some (group_at s.state.facts.groups group) ≡ true) where
    -- the body was not read whole
    pub posted_unread : (came : Outcome) → IsBodyRead input input' (Err came) → Posted came
    posted_unread (outcome.Refused refused.BodyTooLong) read =
        refused_body read.0 refused.BodyTooLong read.1
        (plan_long clients s.state.facts (posted_message group timestamp read.0) known read.2)
    posted_unread outcome.ReadFault read =
        inl (stops_unread clients (group_test group) (InputStops ⊥ input input') old new out out'
        run
        quiet s rests loaded (group_answers s.state.facts group true known) read)
    posted_unread outcome.Memory read =
        inl (stops_memory clients (group_test group) (InputStops ⊥ input input') old new out out'
        run
        quiet s rests loaded tt)
    posted_unread _ read = absurd read

    -- the message is refused
    posted_refused : (body : List ℕ) (why : Refused) → IsBody input input' body
        → post_plan clients s.state.facts (posted_message group timestamp body) ≡ refuses why
        → Posted (outcome.Refused why)
    posted_refused body refused.UnknownGroup read is =
        absurd (body_other clients s.state.facts (posted_message group timestamp body) known
        (sym (plan_known clients s.state.facts (posted_message group timestamp body) known) ∙ is))
    posted_refused body _ read is = refused_body body _ read is

    -- the message may not be added
    pub posted_fault : (body : List ℕ) (came : Outcome) → IsBody input input' body → IsPlanOfPost
        (post_plan clients s.state.facts (posted_message group timestamp body)) (Err came)
        → Posted came
    posted_fault body outcome.Memory read is =
        inr (record { body = body; reads = read; added = added_memory body })
    posted_fault body (outcome.Refused why) read is = posted_refused body why read is
    posted_fault body _ read is = absurd is

-- ---- the message is added

posted_late : (clients : Meaning) (group : Id) (timestamp : ℕ) (old new o1 o2 : Outside)
    (input input' out out' : Stream) (came : Outcome) → WorkBy outcome.Done o1 o2 out out' came
    → PostsBody clients group timestamp old new input input' out out' came
    → HasPosted clients group timestamp old new input input' out out' came
posted_late clients group timestamp old new o1 o2 input input' out out' outcome.NoStore by posts =
    let is : outcome.Done ≡ outcome.NoStore = by in cc
posted_late clients group timestamp old new o1 o2 input input' out out' (outcome.Damaged place) by
    posts =
    let is : outcome.Done ≡ outcome.Damaged place = by in cc
posted_late clients group timestamp old new o1 o2 input input' out out' (outcome.Refused why) by
    posts =
    let is : outcome.Done ≡ outcome.Refused why = by in cc
posted_late clients group timestamp old new o1 o2 input input' out out' _ by posts = inr posts

pub posted_entry : (clients : Meaning) (group : Id) (timestamp : ℕ) (o o1 o2 : Outside)
    (input input' out out' : Stream) (s : StoreValue) (body : List ℕ) (e : Entry) (came : Outcome)
    → DiskRun o o1
    → ((two : Two File) → o.files ≡ Some two → LeavesFilesSo (LoadKeeps (Ok s) two) two o o1)
    → MayExtend clients s o1.files → IsBody input input' body
    → post_plan clients s.state.facts (posted_message group timestamp body) ≡ adds e
    → EntryAdded clients settling.BeforeAndAfter s e o1 o2 out out' came
    → HasPosted clients group timestamp o o2 input input' out out' came
posted_entry clients group timestamp o o1 o2 input input' out out' s body e came run rests ready
    read is added =
    posted_late clients group timestamp o o2 o1 o2 input input' out out' came added.by (record {
      body = body;
      reads = read;
      added = added_entry clients (λ f. post_plan clients f (posted_message group timestamp body))
          settling.BeforeAndAfter o o1 o2 out out' s e came run rests ready is added;
    })

-- ---- the body

pub read_whole : (input input' : Stream) (body : List ℕ)
    → ReadsAll MAX_BODY input.bytes input'.bytes body → IsBody input input' body
read_whole input input' body read =
    record { consumed = read.consumed; whole = inl (read.at_end, read.within) }
