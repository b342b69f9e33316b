-- Several frames added at once.
use Rattle.std.proofs.Common.{◌≡◌, ℕ, ◌+◌, ◌-◌, ◌≤◌, List, [], ◌∷◌, ◌++◌, length, take, drop}
use Rattle.std.proofs.Common.{Some, refl, sym, ap, ◌∙◌, subst, inl, inr, arith, append_assoc}
use Rattle.std.proofs.Common.{append-nil, length-append, length-drop, slice_set, Bool, true, false}
use Rattle.std.specs.Prelude.{◌==◌, cond}
use Rattle.std.proofs.Math.Seq.{set-append_seam}
use Rattle.std.proofs.lemmas.List.{take_all}
use Rattle.std.proofs.lemmas.Bool.Decides.{nat_tests}
use Rattle.std.specs.List.{flat_map}
use Rattle.std.proofs.lemmas.Grind.{flat_map-append}
use Rattle.std.proofs.lemmas.Bool.{cases_eq}
use Rattle.std.proofs.lemmas.List.Elements.{All-append, All-push, All-nil}
use Rattle.outside.specs.Files.{Two, File, IsFileImage, NothingPending, file_of, settled}
use Rattle.outside.specs.Outside.{Outside}
use Rattle.outside.specs.Frames.{IsPayload, HasFrames, IsAtRest, end_of, frame_of}
use Rattle.outside.specs.Steps.{PassedMoments, ReachedFile, other_of}
use Rattle.outside.proofs.CallSteps.{begun, file_of-with_file, other_of-with_file}
use Rattle.outside.proofs.Calm.{settled_only}
use Rattle.frame_journal.specs.Append.{payload_of, IsFramed, appended, Gated, WritesAndOpensGate}
use Rattle.frame_journal.specs.Group.{IsJoined, IsGroup, AppendsFrames, BeforeOrWithAll, flushed}
use Rattle.frame_journal.specs.Group.{group_len, moved_on}
use Rattle.frame_journal.specs.Journal.{JournalValue}
use Rattle.frame_journal.proofs.AppendSteps.{front_of, front_is, frames_kept, frames_gated}
use Rattle.frame_journal.proofs.AppendSteps.{appended_is, end_within}

-- ---- the bytes of a group

-- no frame
pub joined_none : IsJoined [] (0 ∷ [])
joined_none = record { fits = All-nil IsPayload; spelled = refl }

-- no frame is joined to a closed gate alone
pub none_joined : (added : List (List ℕ)) → IsJoined added (0 ∷ []) → added ≡ []
none_joined [] joined = refl
none_joined (p ∷ ps) joined = cc

-- the first gate is open
pub joined_front : (added : List (List ℕ)) (group : List ℕ) → IsJoined added group
    → 2 ≤ length group → group ≡ 1 ∷ take (length group - 1) (drop 1 group)
joined_front [] group joined some = absurd (omega (arith, some, ap length joined.spelled))
joined_front (p ∷ ps) group joined some =
    joined.spelled ∙ ap (λ l. 1 ∷ drop 1 l) (sym joined.spelled)
    ∙ ap (λ l. 1 ∷ l)
    (sym (take_all (length group - 1) (drop 1 group) (omega (arith, length-drop 1 group))))

-- a frame more: its gate is opened where the closed gate stood
pub joined_more : (added : List (List ℕ)) (group framed : List ℕ) → IsFramed framed
    → IsJoined added group
    → IsJoined (added ++ payload_of framed ∷ []) (flat_map frame_of added ++ 1 ∷ framed)
joined_more added group framed is_framed joined =
    let p = payload_of framed in
    let front = flat_map frame_of added in
    let all : flat_map frame_of (added ++ p ∷ []) ≡ front ++ frame_of p =
    flat_map-append frame_of added (p ∷ []) ∙ ap (λ l. front ++ l) (append-nil (frame_of p)) in
    record {
      fits = All-push IsPayload added p joined.fits is_framed.fits;
      spelled =
          ap (λ l. front ++ 1 ∷ l) is_framed.spelled
          ∙ sym (append_assoc front (frame_of p) (0 ∷ []))
          ∙ ap (λ l. l ++ 0 ∷ []) (sym all);
    }

pub added_joined : (added : List (List ℕ)) (group framed all : List ℕ) (n : ℕ) → IsFramed framed
    → IsJoined added group → all ≡ group ++ framed → n ≡ length group
    → IsJoined (added ++ payload_of framed ∷ []) (slice_set all (n - 1) 1)
added_joined added group framed all n is_framed joined is long =
    let front = flat_map frame_of added in
    let at : n - 1 ≡ length front =
    omega (arith, long, ap length joined.spelled, length-append front (0 ∷ [])) in
    let whole : all ≡ front ++ 0 ∷ framed =
    is ∙ ap (λ l. l ++ framed) joined.spelled ∙ append_assoc front (0 ∷ []) framed in
    let set : slice_set all (n - 1) 1 ≡ front ++ 1 ∷ framed =
    ap (λ l. slice_set l (n - 1) 1) whole
    ∙ ap (λ k. slice_set (front ++ 0 ∷ framed) k 1) at
    ∙ set-append_seam front 0 framed 1 in
    subst (IsJoined (added ++ payload_of framed ∷ [])) (sym set)
    (joined_more added group framed is_framed joined)

-- ---- frames of a file

-- an open gate, the bytes of a group behind its first gate, behind the same front
frames_all : (bytes left header : List ℕ) (payloads added : List (List ℕ)) (end : ℕ)
    (framed rest : List ℕ) → HasFrames bytes header payloads → end ≡ end_of payloads
    → IsJoined added (1 ∷ framed) → left ≡ take (end - 1) bytes ++ 1 ∷ (framed ++ rest)
    → HasFrames left header (payloads ++ added)
frames_all bytes left header payloads added end framed rest frames is_end joined is_left =
    let front = front_of header payloads in
    let more = flat_map frame_of added in
    let all : flat_map frame_of (payloads ++ added) ≡ flat_map frame_of payloads ++ more =
    flat_map-append frame_of payloads added in
    record {
      gate = 0;
      rest = rest;
      whole =
          is_left
          ∙ ap (λ l. l ++ 1 ∷ (framed ++ rest)) (front_is bytes header payloads end frames is_end)
          ∙ ap (λ l. front ++ (l ++ rest)) joined.spelled
          ∙ ap (λ l. front ++ l) (append_assoc more (0 ∷ []) rest)
          ∙ sym (append_assoc front more (0 ∷ rest))
          ∙ ap (λ l. l ++ 0 ∷ rest)
          (append_assoc header (flat_map frame_of payloads) more
          ∙ ap (λ l. header ++ l) (sym all));
      closed = λ e. absurd (omega arith);
      long = frames.long;
      payloads_fit = All-append IsPayload payloads added frames.payloads_fit joined.fits;
    }

-- what a crash may leave is before or with all
pub gated_all : (bytes left : List ℕ) (end : ℕ) (framed : List ℕ) → Gated bytes end framed left
    → BeforeOrWithAll bytes end (1 ∷ framed) left
gated_all bytes left end framed gated added header payloads joined frames is_end =
    elim gated [
      | inl same ↦ inl (frames_kept bytes left header payloads end frames is_end same)
      | inr there ↦
          let rest = drop (end + length framed) bytes in
          elim (cases_eq there.0 1) [
            | inl one ↦ inr (frames_all bytes left header payloads added end framed rest frames
                is_end joined
                (there.1 ∙ ap (λ g. take (end - 1) bytes ++ g ∷ (framed ++ rest)) one))
            | inr other ↦ inl (frames_gated bytes left header payloads end there.0 (framed ++ rest)
                frames is_end other there.1)
          ]
    ]

-- the place behind the gate with the frames more
end_all : (payloads added : List (List ℕ)) (end : ℕ) (framed : List ℕ)
    → IsJoined added (1 ∷ framed) → end ≡ end_of payloads
    → end + length framed ≡ end_of (payloads ++ added)
end_all payloads added end framed joined is_end =
    let more = flat_map frame_of added in
    let long : length (1 ∷ framed) ≡ length (more ++ 0 ∷ []) = ap length joined.spelled in
    let all : length (flat_map frame_of (payloads ++ added))
    ≡ length (flat_map frame_of payloads ++ more) =
    ap length (flat_map-append frame_of payloads added) in
    omega (
      arith,
      is_end,
      long,
      all,
      length-append (flat_map frame_of payloads) more,
      length-append more (0 ∷ []),
    )

-- the files with a group added
pub opens_all : (file end : ℕ) (framed : List ℕ) (two two' : Two File) → IsGroup (1 ∷ framed)
    → IsAtRest two file end → WritesAndOpensGate file end framed two two'
    → AppendsFrames file end (1 ∷ framed) two two'
opens_all file end framed two two' group rest opened =
    let bytes = (file_of two file).now in
    let last = settled (appended bytes end framed) in
    let this : file_of two' file ≡ last = ap (λ (t : Two File). file_of t file) opened
    ∙ file_of-with_file two file last in
    let reads : appended bytes end framed ≡ (file_of two' file).now =
    ap (λ (f : File). f.now) (sym this) in
    let within = end_within bytes rest.header rest.payloads end rest.frames rest.end_is in
    let has = λ (added : List (List ℕ)) (header : List ℕ) (payloads : List (List ℕ))
    (joined : IsJoined added (1 ∷ framed)) (frames : HasFrames bytes header payloads)
    (is_end : end ≡ end_of payloads).
    subst (λ (l : List ℕ). HasFrames l header (payloads ++ added)) reads
    (frames_all bytes (appended bytes end framed) header payloads added end framed
    (drop (end + length framed) bytes) frames is_end joined
    (appended_is bytes end framed (omega (arith, is_end)) within)) in
    let long : end + (length (1 ∷ framed) - 1) ≡ end + length framed = omega arith in
    record {
      other = ap (λ (t : Two File). other_of t file) opened ∙ other_of-with_file two file last;
      frames = has;
      at_rest = record {
        settled = this ∙ ap settled reads;
        header = rest.header;
        payloads = rest.payloads ++ group.payloads;
        frames = has group.payloads rest.header rest.payloads group.joined rest.frames
            rest.end_is;
        end_is = long ∙ end_all rest.payloads group.payloads end framed group.joined rest.end_is;
      };
    }

-- where no frame waits
pub none_long : (added : List (List ℕ)) (group : List ℕ) → IsJoined added group
    → length group ≡ 1 → added ≡ []
none_long [] group joined one = refl
none_long (p ∷ ps) group joined one =
    absurd (omega (
      arith,
      one,
      ap length joined.spelled,
      length-append (flat_map frame_of (p ∷ ps)) (0 ∷ []),
      length-append (frame_of p) (flat_map frame_of ps),
    ))

pub none_bytes : (group : List ℕ) → IsGroup group → length group ≡ 1 → group ≡ 0 ∷ []
none_bytes group waits one =
    waits.joined.spelled
    ∙ ap (λ (ps : List (List ℕ)). flat_map frame_of ps ++ 0 ∷ [])
    (none_long waits.payloads group waits.joined one)

pub none_kept : (bytes header : List ℕ) (payloads added : List (List ℕ)) (group : List ℕ)
    → IsJoined added group → length group ≡ 1 → HasFrames bytes header payloads
    → HasFrames bytes header (payloads ++ added)
none_kept bytes header payloads added group joined one frames =
    subst (HasFrames bytes header)
    (sym (append-nil payloads)
    ∙ ap (λ (ps : List (List ℕ)). payloads ++ ps) (sym (none_long added group joined one)))
    frames

pub none_appended : (file end : ℕ) (group : List ℕ) (two : Two File) → length group ≡ 1
    → IsAtRest two file end → AppendsFrames file end group two two
none_appended file end group two one rest =
    let same : end + (length group - 1) ≡ end = omega (arith, one) in
    record {
      other = refl;
      frames = λ added header payloads joined frames is_end.
          none_kept (file_of two file).now header payloads added group joined one frames;
      at_rest = subst (IsAtRest two file) (sym same) rest;
    }

-- a file in which nothing is pending has its frames at this moment
pub none_passed : (two : Two File) (o : Outside) (file end : ℕ) (group : List ℕ)
    → o.files ≡ Some two → NothingPending two file
    → PassedMoments two o o file (BeforeOrWithAll (file_of two file).now end group)
none_passed two o file end group told pending =
    let bytes = (file_of two file).now in
    let Q : List ℕ → Type 0 = BeforeOrWithAll bytes end group in
    let reached : ReachedFile two o o file Q (file_of two file) =
    begun two o file Q told
    (λ c image added header payloads joined frames is_end.
    let is = settled_only bytes c (subst (λ (f : File). IsFileImage f c) pending image) in
    inl (subst (λ (l : List ℕ). HasFrames l header payloads) (sym is) frames)) in
    reached.moments

-- ---- a journal behind a flush

pub record IsMovedOn (old new : JournalValue) (n : ℕ) : Type 0 where
  pub file_is : new.file ≡ old.file
  pub format_is : new.format ≡ old.format
  pub generation_is : new.generation ≡ old.generation
  pub end_is : new.end ≡ old.end + n

moved_by : (none : Bool) (journal : JournalValue) (n : ℕ) → (none ≡ true → n ≡ 0)
    → IsMovedOn journal (cond none journal (moved_on journal n)) n
moved_by true journal n is = record {
  file_is = refl;
  format_is = refl;
  generation_is = refl;
  end_is = omega (arith, is refl);
}
moved_by false journal n is =
    record { file_is = refl; format_is = refl; generation_is = refl; end_is = refl }

no_long : (n : ℕ) → (n == 1) ≡ true → n - 1 ≡ 0
no_long n one = grind (arith, nat_tests)

pub flushed_moved : (old new : JournalValue) (group : List ℕ) → new ≡ flushed old group
    → IsMovedOn old new (group_len group)
flushed_moved old new group is =
    subst (λ (v : JournalValue). IsMovedOn old v (group_len group)) (sym is)
    (moved_by (length group == 1) old (group_len group) (λ one. no_long (length group) one))
