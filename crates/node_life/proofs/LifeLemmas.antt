-- What each moment of a life leaves.
use Rattle.std.proofs.Common.{◌≡◌, List, [], ◌∷◌, ◌++◌, refl, sym, ap, ◌∙◌, subst, inl, inr, Option, Some}
use Rattle.std.specs.Prelude.{◌⊎◌}
use Rattle.outside.specs.Files.{File, Two, read_files}
use Rattle.outside.specs.Outside.{IsNow, Moment, MomentsAre, Outside}
use Rattle.outside.specs.Streams.{Stream}
use Rattle.outside.proofs.CallSteps.{moments_map, moments_none, moments_then, run_none, told_on}
use Rattle.sync_rules.specs.Clients.{Meaning}
use Rattle.sync_rules.specs.Facts.{Journal}
use Rattle.file_standing.specs.Standing.{stands}
use Rattle.sync_words.specs.declared.outcome.Outcome.{Outcome}
use Rattle.sync_words.specs.declared.outcome.Outcome.TheVariants as outcome
use Rattle.store_commands.specs.Commit.{StandsSynced}
use Rattle.store_commands.specs.Stopping.{StoodFor}
use Rattle.node_service.specs.Lives.{Answered, AnsweredOn, GoOnToLast, HasLived, last_of, requests_of}
use Rattle.node_life.specs.Requests.{AnswersRequest}
use Rattle.node_life.specs.Serving.{LivesOn}
use Rattle.node_life.specs.Settling.{HasBegun}
use Rattle.node_life.specs.Ways.{IsOnWayThrough, StandsInLife}
use Rattle.node_life.proofs.SettleLemmas.{begins_not}
use Rattle.node_life.proofs.WayLemmas.{Reached, image_stands, request_end, request_told, request_way}

module _ {H : Type 0} (tells : H → Outside) (clients : Meaning) where
  abbrev OnWays : (o : H) → List (Answered H) → Journal → Type 0
  OnWays o answered j =
      MomentsAre (tells o) (tells (last_of o answered))
      (λ m. Reached clients (IsOnWayThrough clients (requests_of answered) j) m.files)

  -- each moment of several requests is on their way
  ways : (answered : List (Answered H)) (o : H) (j : Journal) (two : Two File)
      → StandsSynced clients two j → (tells o).files ≡ Some two
      → AnsweredOn (AnswersRequest tells clients) o answered → GoOnToLast answered
      → OnWays o answered j
  ways [] o j two synced files are on =
      moments_none (tells o) _ (λ m w. record {
        whole = j;
        has = refl;
        stands_for =
            image_stands clients two j m.files synced ((tells o).now_is two m files w).image;
      })
  ways (a ∷ []) o j two synced files are on =
      moments_map (tells o) (tells a.after) _ _ (λ m r. record {
        whole = r.whole;
        has = inl r.has;
        stands_for = r.stands_for;
      }) (request_way tells clients a.request j two synced o a.after files a.came a.out a.ends are.0)
  ways (a ∷ b ∷ later) o j two synced files are on =
      let told =
      told_on (tells o) (tells a.after) two
      (request_told tells clients a.request o a.after a.came a.out a.ends are.0) files in
      let end =
      request_end tells clients a.request j two synced o a.after files a.came a.out a.ends are.0 on.0
      told.0 told.1 in
      moments_then (tells o) (tells a.after) (tells (last_of a.after (b ∷ later))) _
      (moments_map (tells o) (tells a.after) _ _ (λ m r. record {
        whole = r.whole;
        has = inl r.has;
        stands_for = r.stands_for;
      }) (request_way tells clients a.request j two synced o a.after files a.came a.out a.ends are.0))
      (moments_map (tells a.after) (tells (last_of a.after (b ∷ later))) _ _ (λ m r. record {
        whole = r.whole;
        has = inr (end.0, end.1, r.has);
        stands_for = r.stands_for;
      }) (ways (b ∷ later) a.after end.0 told.0 end.2 told.1 are.1 on.1))

  -- ---- a whole life

  module _ (old begun new : H) (input input' out out' : Stream) (came : Outcome)
      (begins : HasBegun clients (tells old) (tells begun) out outcome.Done)
      (lived : HasLived (AnswersRequest tells clients) begun new input input' out out' came) where
    abbrev InLife : Two File → Journal → Moment → Type 0
    InLife two first m =
        IsNow two (tells old).links m
        ⊎ StandsInLife clients first (requests_of lived.answered) m.files

    -- a life that began over files that were told
    life_stands : (two : Two File) → (tells old).files ≡ Some two
        → StoodFor (stands clients (read_files two)) (λ first.
        MomentsAre (tells old) (tells new) (InLife two first))
    life_stands two files = elim begins.did [
      | inl early ↦ absurd early.by
      | inr did ↦
          let told = did.told two files in
          let told1 = told_on (tells old) (tells begun) two begins.run.same_told files in
          let once = (told.has.1.ends told1.0 told1.1).0 in
          let run =
          ways lived.answered begun (told.before ++ once.first) told1.0 once.has.0 told1.1 lived.are
          lived.go_on in
          record {
            before = told.before;
            stood = told.stood;
            has =
                moments_then (tells old) (tells begun) (tells new) _
                (moments_map (tells old) (tells begun) _ _ (λ m w. elim w [
                  | inl now ↦ inl now
                  | inr on ↦ inr (record {
                    whole = on.whole;
                    is = inl on.has;
                    stands_for = on.stands_for;
                  })
                ]) told.has.1.moments)
                (subst (λ (x : H). MomentsAre (tells begun) (tells x) (InLife two told.before))
                (sym lived.last)
                (moments_map (tells begun) (tells (last_of begun lived.answered)) _ _ (λ m r.
                inr (record {
                  whole = r.whole;
                  is = inr (record {
                    first = once.first;
                    settles = once.settles;
                    settled = once.settled;
                    filled = once.filled;
                    has = r.has;
                  });
                  stands_for = r.stands_for;
                })) run));
          }
    ]

    pub lives_on : LivesOn tells clients old new input input' out out' came
    lives_on = record { begun = begun; begins = begins; lived = lived; moments = life_stands }

-- ---- a node that did not begin

-- each moment stands for a journal that has some of its settling
pub begun_moments : (clients : Meaning) (old new : Outside) (out : Stream) (came : Outcome)
    → HasBegun clients old new out came → (two : Two File) → old.files ≡ Some two
    → MomentsAre old new (λ m. IsNow two old.links m
    ⊎ StoodFor (stands clients (read_files two)) (λ first. StandsInLife clients first [] m.files))
begun_moments clients old new out came begins two files = elim begins.did [
  | inl early ↦ moments_map old new _ _ (λ m w. inl w) (early.told two files).rests.moments
  | inr did ↦
      let told = did.told two files in
      moments_map old new _ _ (λ m w. elim w [
        | inl now ↦ inl now
        | inr on ↦ inr (record {
          before = told.before;
          stood = told.stood;
          has = record { whole = on.whole; is = inl on.has; stands_for = on.stands_for };
        })
      ]) told.has.1.moments
]

same_two : (files : Option (Two File)) (two two' : Two File) → files ≡ Some two → files ≡ Some two'
    → read_files two' ≡ read_files two
same_two files two two' told told' =
    let both : Some two' ≡ Some two = sym told' ∙ told in
    let one : two' ≡ two = cc in
    ap read_files one

-- memory was wanting before anything was done
pub begins_nothing : (clients : Meaning) (o : Outside) (out : Stream)
    → HasBegun clients o o out outcome.Memory
begins_nothing clients o out =
    begins_not clients o o out outcome.Memory (run_none o) (λ two files. record {
      moments = moments_none o _ (λ m w. o.now_is two m files w);
      kept = λ two' files'. same_two o.files two two' files files';
    }) tt (λ two files. tt)
