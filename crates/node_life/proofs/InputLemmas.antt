-- The inputs of requests, and commands over them.
use Rattle.std.proofs.Common.{◌≡◌, ◌==◌, ℕ, zero, suc, ◌+◌, ◌<◌, ◌≤◌, Bool, true, false, List, [], ◌∷◌}
use Rattle.std.proofs.Common.{◌-◌, ◌++◌, append-nil, length-append, length-drop, length, take, drop, refl, sym, ap, ◌∙◌, subst}
use Rattle.std.proofs.Common.{arith, lit<, inl, inr, Option, None, Some}
use Rattle.std.specs.Prelude.{◌⊎◌, ◌&&◌, ◌||◌, min, nat_lt, replicate}
use Rattle.std.proofs.Math.ListN.{length-replicate, replicate-append-replicate}
use Rattle.std.proofs.lemmas.Bool.{ltb-false, ltb-true}
use Rattle.std.proofs.lemmas.List.{append_assoc, length-take, take-append-drop, take_all, take_at}
use Rattle.std.specs.Io.KnownBytes.{Consumes, IsAtEnd}
use Rattle.outside.specs.Outside.{Outside}
use Rattle.outside.specs.Streams.{IsIdle, Stream}
use Rattle.record_grammar.specs.Stream.{items, parsed}
use Rattle.record_grammar.specs.Reading.{found_in, front_in}
use Rattle.request_frames.specs.declared.head.InputSize.{InputSize}
use Rattle.request_frames.specs.declared.head.InputSize.TheVariants as size
use Rattle.request_frames.specs.declared.head.TheConstants.{MAX_INPUT}
use Rattle.sync_ids.specs.declared.message.TheConstants.{MAX_BODY}
use Rattle.sync_rules.specs.declared.states.Refused.TheVariants as refused
use Rattle.sync_rules.specs.Clients.{Meaning}
use Rattle.sync_rules.specs.Facts.{Id}
use Rattle.sync_words.specs.declared.outcome.Outcome.{Outcome}
use Rattle.sync_words.specs.declared.outcome.Outcome.TheVariants as outcome
use Rattle.commands.specs.Reading.Asked.{Do}
use Rattle.commands.specs.Writing.{reads_body}
use Rattle.commands.specs.declared.command.Command.{Command}
use Rattle.commands.specs.declared.command.Command.TheVariants as command
use Rattle.store_commands.specs.Post.{HasPosted, IsBody, PostStops, PostsBody}
use Rattle.store_commands.specs.Stopping.{InputStops}
use Rattle.node_service.specs.Words.{reads_most}
use Rattle.node_requests.specs.Requests.{DoesRequest}
use Rattle.node_life.specs.Inputs.{IsGivenTooLong, IsTooLong, ReadsGiven, failing_told, given_told}
use Rattle.node_life.specs.declared.input.Failing.{Failing}
use Rattle.node_life.specs.declared.input.Given.{Given}
use Rattle.node_life.specs.Requests.{Answers, AnswersAsked, AnswersSettled, AreStreams, Said}
use Rattle.node_life.specs.Requests.{StaysUnsettled, is_enough}

-- ---- a filling

-- a byte that is no version begins no record
none_begins : (most n : ℕ) → items 0 (take most (replicate n 255)) ≡ []
unfolding items parsed found_in front_in
none_begins zero n = refl
none_begins (suc most) zero = refl
none_begins (suc most) (suc n) = refl

-- so many such bytes are too many
pub too_long : (n : ℕ) → MAX_INPUT < n → IsTooLong (replicate n 255)
too_long n past = record {
  past = subst (λ (k : ℕ). MAX_INPUT < k) (sym (length-replicate n 255)) past;
  none = none_begins MAX_INPUT n;
}

-- ---- what a read gives

-- of bytes that are there
pub front_read : (bytes buf copied more : List ℕ) (n len : ℕ) → copied ≡ take n bytes
    → n ≡ min (length buf) len → len ≡ length bytes → 0 < length bytes
    → (bytes ++ more
    ≡ take n (copied ++ drop n buf) ++ (take (length bytes - n) (drop n bytes) ++ more))
    × (n ≡ 0 → 0 < length (copied ++ drop n buf)
    → take (length bytes - n) (drop n bytes) ++ more ≡ [])
front_read bytes buf copied more n len is_copied is_n is_len some =
    let long : length copied ≡ n = ap length is_copied ∙ omega (arith, length-take n bytes) in
    let front : take n (copied ++ drop n buf) ≡ take n bytes =
    take_at copied (drop n buf) n long ∙ is_copied in
    let rest : take (length bytes - n) (drop n bytes) ≡ drop n bytes =
    take_all (length bytes - n) (drop n bytes) (omega (arith, length-drop n bytes)) in (
      ap (λ (l : List ℕ). l ++ more) (sym (take-append-drop n bytes))
          ∙ append_assoc (take n bytes) (drop n bytes) more
          ∙ ap (λ (l : List ℕ). l ++ (drop n bytes ++ more)) (sym front)
          ∙ ap (λ (l : List ℕ). take n (copied ++ drop n buf) ++ (l ++ more)) (sym rest),
      λ none room.
          let empty : length copied ≡ 0 = long ∙ none in
          let all : length (copied ++ drop n buf) ≡ length buf =
          length-append copied (drop n buf) ∙ omega (arith, length-drop n buf, empty, none) in
          absurd (omega (arith, is_n, is_len, some, none, all, room)),
    )

none_left : (bytes : List ℕ) → length bytes ≡ 0 → bytes ≡ []
none_left [] none = refl
none_left (b ∷ bytes) none = absurd (omega (arith, none))

-- of the filling
pub filling_read : (bytes buf filled : List ℕ) (filling n k : ℕ) → length bytes ≡ 0
    → filled ≡ replicate k 255 → k ≡ n → n ≡ min (length buf) filling
    → (bytes ++ replicate filling 255
    ≡ take n (filled ++ drop n buf) ++ (bytes ++ replicate (filling - n) 255))
    × (n ≡ 0 → 0 < length (filled ++ drop n buf) → bytes ++ replicate (filling - n) 255 ≡ [])
filling_read bytes buf filled filling n k no_bytes is_filled is_k is_n =
    let none : bytes ≡ [] = none_left bytes no_bytes in
    let same : filled ≡ replicate n 255 =
    is_filled ∙ ap (λ (x : ℕ). replicate x 255) is_k in
    let long : length filled ≡ n = ap length same ∙ length-replicate n 255 in
    let front : take n (filled ++ drop n buf) ≡ replicate n 255 =
    take_at filled (drop n buf) n long ∙ same in
    let count : n + (filling - n) ≡ filling = omega (arith, is_n) in (
      ap (λ (l : List ℕ). l ++ replicate filling 255) none
          ∙ ap (λ (x : ℕ). replicate x 255) (sym count)
          ∙ sym (replicate-append-replicate n (filling - n) 255)
          ∙ ap (λ (l : List ℕ). l ++ replicate (filling - n) 255) (sym front)
          ∙ ap (λ (l : List ℕ).
          take n (filled ++ drop n buf) ++ (l ++ replicate (filling - n) 255)) (sym none),
      λ zero_is room.
          let empty : length filled ≡ 0 = long ∙ zero_is in
          let all : length (filled ++ drop n buf) ≡ length buf =
          length-append filled (drop n buf) ∙ omega (arith, length-drop n buf, empty, zero_is) in
          let nothing : filling - n ≡ 0 = omega (arith, is_n, zero_is, all, room) in
          ap (λ (l : List ℕ). l ++ replicate (filling - n) 255) none
          ∙ ap (λ (x : ℕ). replicate x 255) nothing,
    )

-- ---- commands over other streams

-- what a command did over these streams it does over some that are as given
record Moves (does : (input input' out out' : Stream) → Outcome → Type 0)
    (given : (input input' : Stream) → Type 0) (a b : Stream) : Type 0 where
  a' : Stream
  b' : Stream
  has : given a' b'
  moves : (out out' : Stream) (came : Outcome) → does a b out out' came → does a' b' out out' came

answers_move : (does : (input input' out out' : Stream) → Outcome → Type 0)
    (given : (input input' : Stream) → Type 0) (a b : Stream) (said : Said) → Moves does given a b
    → Answers does (AreStreams a b) said → Answers does given said
answers_move does given a b said m w = record {
  input = m.a';
  input' = m.b';
  has = m.has;
  out = w.out;
  out' = w.out';
  empty = w.empty;
  printed = w.printed;
  text = w.text;
  came = w.came;
  did =
      m.moves w.out w.out' w.came
      (subst (λ (x : Stream). does x b w.out w.out' w.came) w.has.0
      (subst (λ (y : Stream). does w.input y w.out w.out' w.came) w.has.1 w.did));
  is = w.is;
}

module _ {H : Type 0} (tells : H → Outside) (clients : Meaning)
    (given : (input input' : Stream) → Type 0) (a b : Stream) (old new : H) (said : Said) where
  abbrev Before : Command → Type 0
  Before asked = AnswersAsked tells clients (AreStreams a b) (Do asked) old new said

  abbrev Behind : Command → Type 0
  Behind asked = AnswersAsked tells clients given (Do asked) old new said

  store_moves : (asked : Command)
      → ((o1 o2 : Outside) → Moves (DoesRequest clients asked o1 o2) given a b)
      → AnswersSettled tells clients (AreStreams a b) asked old new said
      ⊎ StaysUnsettled tells clients old new said
      → AnswersSettled tells clients given asked old new said
      ⊎ StaysUnsettled tells clients old new said
  store_moves asked m (inl w) = inl (record {
    between = w.between;
    settled = w.settled;
    answers =
        answers_move (DoesRequest clients asked (tells w.between) (tells new)) given a b said
        (m (tells w.between) (tells new)) w.answers;
  })
  store_moves asked m (inr w) = inr w

  -- ---- streams that are as given

  module _ (has : given a b) where
    same_moves : (does : (input input' out out' : Stream) → Outcome → Type 0) → Moves does given a b
    same_moves does =
        record { a' = a; b' = b; has = has; moves = λ out out' came did. did }

    pub given_same : (asked : Command) → Before asked → Behind asked
    given_same command.Quit w = w
    given_same (command.Sync turns quiet links) w = w
    given_same command.Serve w = w
    given_same (command.Try name descriptor) w =
        (w.0, answers_move _ given a b said (same_moves _) w.1)
    given_same command.Records w = (w.0, answers_move _ given a b said (same_moves _) w.1)
    given_same command.Init w = store_moves command.Init (λ o1 o2. same_moves _) w
    given_same command.Contact w = store_moves command.Contact (λ o1 o2. same_moves _) w
    given_same (command.Group name major descriptor) w =
        store_moves (command.Group name major descriptor) (λ o1 o2. same_moves _) w
    given_same (command.Share contact group level) w =
        store_moves (command.Share contact group level) (λ o1 o2. same_moves _) w
    given_same (command.Post group timestamp) w =
        store_moves (command.Post group timestamp) (λ o1 o2. same_moves _) w
    given_same command.Show w = store_moves command.Show (λ o1 o2. same_moves _) w
    given_same command.Inbox w = store_moves command.Inbox (λ o1 o2. same_moves _) w
    given_same (command.InboxFrom from count) w =
        store_moves (command.InboxFrom from count) (λ o1 o2. same_moves _) w
    given_same (command.Body id) w = store_moves (command.Body id) (λ o1 o2. same_moves _) w
    given_same (command.Tree group from count) w =
        store_moves (command.Tree group from count) (λ o1 o2. same_moves _) w
    given_same command.Audit w = store_moves command.Audit (λ o1 o2. same_moves _) w
    given_same (command.Say group timestamp join name major descriptor) w =
        store_moves (command.Say group timestamp join name major descriptor)
        (λ o1 o2. same_moves _) w
    given_same (command.Agree contact group) w =
        store_moves (command.Agree contact group) (λ o1 o2. same_moves _) w
    given_same command.Status w = store_moves command.Status (λ o1 o2. same_moves _) w
    given_same command.Compact w = store_moves command.Compact (λ o1 o2. same_moves _) w
    given_same (command.MailboxIn contact) w =
        store_moves (command.MailboxIn contact) (λ o1 o2. same_moves _) w
    given_same (command.MailboxOut contact latency count) w =
        store_moves (command.MailboxOut contact latency count) (λ o1 o2. same_moves _) w

-- ---- an input of which a front was kept

-- a front that is shorter than what was asked for is all
pub kept_whole : (most : ℕ) (kept input : List ℕ) → kept ≡ take most input → length kept < most
    → kept ≡ input
kept_whole most kept input is short =
    let cut : length kept ≡ min most (length input) = ap length is ∙ length-take most input in
    let within : length input ≤ most = omega (arith, cut, short) in
    is ∙ take_all most input within

module _ (n most : ℕ) (kept input : List ℕ) (is : kept ≡ take most input) (a b : Stream)
    (bytes : a.bytes ≡ Some kept) (faults : b.faults ≡ a.faults) where
  abbrev IsGiven : (input input' : Stream) → Type 0
  IsGiven = ReadsGiven (size.Bytes n) input

  -- a command that reads nothing
  idle_moves : (does : (out out' : Stream) → Outcome → Type 0)
      → Moves (λ i i' out out' came. does out out' came × IsIdle i i') IsGiven a b
  idle_moves does = record {
    a' = record { bytes = Some input; faults = a.faults };
    b' = record { bytes = Some input; faults = a.faults };
    has = (refl, refl);
    moves = λ out out' came did. (did.0, record { same = refl; same_faults = refl });
  }

  -- ---- a body that is too long

  -- what was not kept stands behind
  abbrev with_more : Option (List ℕ) → Option (List ℕ)
  with_more None = None
  with_more (Some left) = Some (left ++ drop most input)

  abbrev post_a : Stream
  post_a = record { bytes = with_more a.bytes; faults = a.faults }

  abbrev post_b : Stream
  post_b = record { bytes = with_more b.bytes; faults = b.faults }

  post_given : IsGiven post_a post_b
  post_given = (
    ap with_more bytes
        ∙ ap Some (ap (λ (k : List ℕ). k ++ drop most input) is ∙ take-append-drop most input),
    faults,
  )

  consumes_more : (x y : Option (List ℕ)) (body : List ℕ) → Consumes x y body
      → Consumes (with_more x) (with_more y) body
  consumes_more None y body consumed = tt
  consumes_more (Some xs) None body consumed = absurd consumed
  consumes_more (Some xs) (Some ys) body consumed =
      ap (λ (l : List ℕ). l ++ drop most input) consumed
      ∙ append_assoc body ys (drop most input)

  not_short : (y : Option (List ℕ)) (body : List ℕ) → MAX_BODY < most → most ≤ length kept
      → Consumes (Some kept) y body → IsAtEnd y → length body ≤ MAX_BODY → ⊥
  not_short None body past there consumed at_end short = absurd consumed
  not_short (Some ys) body past there consumed at_end short =
      let same : length kept ≡ length body =
      ap length (consumed ∙ ap (λ (l : List ℕ). body ++ l) at_end ∙ append-nil body) in
      absurd (omega (arith, same, past, there, short))

  module _ (past : MAX_BODY < most) (there : most ≤ length kept) where
    body_moves : (body : List ℕ) → IsBody a b body → IsBody post_a post_b body
    body_moves body reads = record {
      consumed = consumes_more a.bytes b.bytes body reads.consumed;
      whole = elim reads.whole [
        | inl all ↦ absurd (not_short b.bytes body past there
            (subst (λ (x : Option (List ℕ)). Consumes x b.bytes body) bytes reads.consumed) all.0
            all.1)
        | inr long ↦ inr long
      ];
    }

    stops_input : (came : Outcome) → InputStops ⊥ a b came → InputStops ⊥ post_a post_b came
    stops_input outcome.ReadFault stops = stops
    stops_input outcome.TooMuch stops = stops
    stops_input outcome.Memory stops = stops
    stops_input _ stops = record { same = ap with_more stops.same; same_faults = stops.same_faults }

    module _ (clients : Meaning) (group : Id) (timestamp : ℕ) (old new : Outside)
        (out out' : Stream) where
      stops_moves : (came : Outcome) → PostStops clients group old new a b out out' came
          → PostStops clients group old new post_a post_b out out' came
      stops_moves came s = record {
        run = s.run;
        by = s.by;
        reads = stops_input came s.reads;
        quiet = s.quiet;
        told = s.told;
      }

      posts_moves : (came : Outcome)
          → PostsBody clients group timestamp old new a b out out' came
          → PostsBody clients group timestamp old new post_a post_b out out' came
      posts_moves came p =
          record { body = p.body; reads = body_moves p.body p.reads; added = p.added }

      posted_moves : (came : Outcome)
          → HasPosted clients group timestamp old new a b out out' came
          → HasPosted clients group timestamp old new post_a post_b out out' came
      posted_moves outcome.NoStore did = stops_moves outcome.NoStore did
      posted_moves (outcome.Damaged place) did = stops_moves (outcome.Damaged place) did
      posted_moves (outcome.Refused refused.UnknownGroup) did =
          stops_moves (outcome.Refused refused.UnknownGroup) did
      posted_moves (outcome.Refused why) did = posts_moves (outcome.Refused why) did
      posted_moves came (inl did) = inl (stops_moves came did)
      posted_moves came (inr did) = inr (posts_moves came did)

    post_moves : (clients : Meaning) (group : Id) (timestamp : ℕ) (o1 o2 : Outside)
        → Moves (DoesRequest clients (command.Post group timestamp) o1 o2) IsGiven a b
    post_moves clients group timestamp o1 o2 = record {
      a' = post_a;
      b' = post_b;
      has = post_given;
      moves = λ out out' came did.
          posted_moves clients group timestamp o1 o2 out out' came did;
    }

  -- ---- each command

  module _ {H : Type 0} (tells : H → Outside) (clients : Meaning) (old new : H) (said : Said) where
    abbrev Was : Command → Type 0
    Was asked = AnswersAsked tells clients (AreStreams a b) (Do asked) old new said

    abbrev Is : Command → Type 0
    Is asked = AnswersAsked tells clients IsGiven (Do asked) old new said

    abbrev moved : (asked : Command)
        → ((o1 o2 : Outside) → Moves (DoesRequest clients asked o1 o2) IsGiven a b)
        → AnswersSettled tells clients (AreStreams a b) asked old new said
        ⊎ StaysUnsettled tells clients old new said
        → AnswersSettled tells clients IsGiven asked old new said
        ⊎ StaysUnsettled tells clients old new said
    moved asked m w = store_moves tells clients IsGiven a b old new said asked m w

    -- no more of the input was kept than this, and the command reads no more
    cut_enough : most ≤ length kept → (asked : Command)
        → ((reads_most asked == 0) || (reads_body asked && nat_lt MAX_BODY most)) ≡ true
        → Was asked → Is asked
    cut_enough there command.Quit enough w = w
    cut_enough there (command.Sync turns quiet links) enough w = w
    cut_enough there command.Serve enough w = w
    cut_enough there (command.Try name descriptor) enough w =
        absurd (let e : false ≡ true = enough in cc)
    cut_enough there command.Records enough w = absurd (let e : false ≡ true = enough in cc)
    cut_enough there (command.MailboxIn contact) enough w =
        absurd (let e : false ≡ true = enough in cc)
    cut_enough there (command.Post group timestamp) enough w =
        moved (command.Post group timestamp) (λ o1 o2.
        post_moves (ltb-true MAX_BODY most enough) there clients group timestamp o1 o2) w
    cut_enough there command.Init enough w = moved command.Init (λ o1 o2. idle_moves _) w
    cut_enough there command.Contact enough w = moved command.Contact (λ o1 o2. idle_moves _) w
    cut_enough there (command.Group name major descriptor) enough w =
        moved (command.Group name major descriptor) (λ o1 o2. idle_moves _) w
    cut_enough there (command.Share contact group level) enough w =
        moved (command.Share contact group level) (λ o1 o2. idle_moves _) w
    cut_enough there command.Show enough w = moved command.Show (λ o1 o2. idle_moves _) w
    cut_enough there command.Inbox enough w = moved command.Inbox (λ o1 o2. idle_moves _) w
    cut_enough there (command.InboxFrom from count) enough w =
        moved (command.InboxFrom from count) (λ o1 o2. idle_moves _) w
    cut_enough there (command.Body id) enough w = moved (command.Body id) (λ o1 o2. idle_moves _) w
    cut_enough there (command.Tree group from count) enough w =
        moved (command.Tree group from count) (λ o1 o2. idle_moves _) w
    cut_enough there command.Audit enough w = moved command.Audit (λ o1 o2. idle_moves _) w
    cut_enough there (command.Say group timestamp join name major descriptor) enough w =
        moved (command.Say group timestamp join name major descriptor) (λ o1 o2. idle_moves _) w
    cut_enough there (command.Agree contact group) enough w =
        moved (command.Agree contact group) (λ o1 o2. idle_moves _) w
    cut_enough there command.Status enough w = moved command.Status (λ o1 o2. idle_moves _) w
    cut_enough there command.Compact enough w = moved command.Compact (λ o1 o2. idle_moves _) w
    cut_enough there (command.MailboxOut contact latency count) enough w =
        moved (command.MailboxOut contact latency count) (λ o1 o2. idle_moves _) w

    or_right : (x y : Bool) → x ≡ false → (x || y) ≡ true → y ≡ true
    or_right true y none either = absurd (let e : true ≡ false = none in cc)
    or_right false y none either = either

    by_front : (all : Bool) → nat_lt (length kept) most ≡ all → (asked : Command)
        → is_enough asked most (length kept) ≡ true → Was asked → Is asked
    by_front true short asked enough w =
        given_same tells clients IsGiven a b old new said (
          bytes ∙ ap Some (kept_whole most kept input is (ltb-true (length kept) most short)),
          faults,
        ) asked w
    by_front false full asked enough w =
        cut_enough (ltb-false (length kept) most full) asked
        (or_right (nat_lt (length kept) most)
        ((reads_most asked == 0) || (reads_body asked && nat_lt MAX_BODY most)) full enough) w

    -- what was kept is enough for the command
    pub given_enough : (asked : Command) → is_enough asked most (length kept) ≡ true → Was asked
        → Is asked
    given_enough asked enough w = by_front (nat_lt (length kept) most) refl asked enough w

-- ---- the inputs of requests, by what was said of them

pub given_failed : (s : InputSize) (bytes : List ℕ) (f g : Failing) → s ≡ size.Failed
    → ReadsGiven s bytes (failing_told f) (failing_told g)
given_failed s bytes f g is =
    subst (λ (x : InputSize). ReadsGiven x bytes (failing_told f) (failing_told g)) (sym is)
    ((255 ∷ [], refl, lit< tt), refl)

pub given_long : (s : InputSize) (bytes : List ℕ) (f g : Given) → s ≡ size.Long
    → IsGivenTooLong (given_told f) → ReadsGiven s bytes (given_told f) (given_told g)
given_long s bytes f g is long =
    subst (λ (x : InputSize). ReadsGiven x bytes (given_told f) (given_told g)) (sym is)
    (long, refl)
