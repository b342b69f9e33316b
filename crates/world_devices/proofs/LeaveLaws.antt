-- What a device adds to its journal: it begins no brief account, so that its sessions are few, and
-- takes only what its links bring.
use Rattle.std.proofs.Common.{◌≡◌, ℕ, ◌+◌, ◌<◌, ◌≤◌, true, ◌&&◌, List, [], ◌∷◌, ◌++◌, length, refl}
use Rattle.std.proofs.Common.{ap, ◌∙◌, subst, inl, inr, arith, append-nil, append_assoc, sym, zero}
use Rattle.std.proofs.Common.{suc, Some, None, is_some, slice_get}
use Rattle.client_basic.specs.Bodies.{bundle_meaning}
use Rattle.entry_codec.specs.declared.naming.Format.{Format}
use Rattle.outside.specs.declared.limits.TheConstants.{MAX_JOURNAL}
use Rattle.sync_rules.specs.declared.entries.Entry.{Entry}
use Rattle.sync_rules.specs.declared.entries.Session.{Session}
use Rattle.sync_rules.specs.declared.limits.TheConstants.{MAX_SESSIONS}
use Rattle.sync_rules.specs.CountLaws.{AllBegunListed}
use Rattle.sync_rules.specs.Facts.{Facts, Journal, after_all, after_batches, facts}
use Rattle.sync_rules.specs.Legal.{AllSettling, IsSettlingBatch, Legal}
use Rattle.sync_rules.proofs.StepLaws.{next_is_settling}
use Rattle.sync_store.specs.Store.{IsStore, StoreValue, counts_to, written_in}
use Rattle.sync_course.specs.Free.{IsPlain}
use Rattle.sync_course.specs.Story.{AllSuitNode, IsOfCourse, SuitsNode}
use Rattle.world_laws.specs.Worlds.{HasNoBrief, begins_no_brief, AllHeard, IsHeard}
use Rattle.world_laws.proofs.PlainLaws.{plain_append, plain_listed}
use Rattle.world_devices.specs.Keeping.{WentOn, LeavesSome}
use Rattle.outside.specs.Files.{Two, File, IsImage, read_files}
use Rattle.outside.specs.HostTold.{host_told}
use Rattle.outside.specs.MemDisk.{disk_files, files_of}
use Rattle.outside.specs.MemHost.{MemHostValue}
use Rattle.record_grammar.specs.Stream.{records}
use Rattle.sync_ids.specs.declared.records.Record.{Record}
use Rattle.entry_codec.specs.Standing.{journal}
use Rattle.file_standing.specs.Standing.{stands}
use Rattle.entry_codec.specs.StandingLaws.{StandingIsLegal}
use Rattle.sync_rules.proofs.Continuing.{facts-append, legal-back}
use Rattle.sync_rules.specs.Lists.{In}
use Rattle.sync_store.specs.Fitting.{FitsFiles}
use Rattle.world_devices.specs.Devices.{DeviceValue}
use Rattle.world_devices.specs.Running.{IsStill, JournalWentOn, WentHearing}
use Rattle.world_devices.proofs.KeepLaws.{same_files, still_files, still_holds}
use Rattle.entry_codec.specs.declared.naming.Format.TheVariants as kind
use Rattle.sync_rules.specs.declared.entries.Entry.TheVariants as entry

-- ---- batches

settling_begins : (f : Facts) (b : List Entry) → IsSettlingBatch bundle_meaning f b → begins_no_brief b ≡ true
settling_begins f [] settles = refl
settling_begins f (entry.Brief n ∷ rest) settles = absurd (next_is_settling bundle_meaning f (entry.Brief n) settles.2.0)
settling_begins f (_ ∷ rest) settles = refl

pub settling_plain : (f : Facts) (bs : Journal) → AllSettling bundle_meaning f bs → HasNoBrief bs
settling_plain f [] settling = refl
settling_plain f (b ∷ bs) settling =
    let here = settling_begins f b settling.0 in
    let later = settling_plain (after_all f b) bs settling.1 in
    (λ i. here i && later i)

added_begins : (b : List Entry) → IsPlain b → begins_no_brief b ≡ true
added_begins [] plain = refl
added_begins (entry.Brief n ∷ rest) plain = absurd plain
added_begins (_ ∷ rest) plain = refl

module _ (first : ℕ) (plans : List Session) (bytes : ℕ → List ℕ) where
  course_begins : (f : Facts) (b : List Entry) → IsOfCourse first plans bytes f b → begins_no_brief b ≡ true
  course_begins f [] is = refl
  course_begins f (entry.Brief n ∷ rest) is = absurd is
  course_begins f (_ ∷ rest) is = refl

  node_begins : (f : Facts) (b : List Entry) → SuitsNode bundle_meaning first plans bytes f b → begins_no_brief b ≡ true
  node_begins f b (inl plain) = added_begins b plain
  node_begins f b (inr (inl settles)) = settling_begins f b settles
  node_begins f b (inr (inr is)) = course_begins f b is

  -- what a node adds
  pub node_plain : (f : Facts) (bs : Journal) → AllSuitNode bundle_meaning first plans bytes f bs → HasNoBrief bs
  node_plain f [] suits = refl
  node_plain f (b ∷ bs) suits =
      let here = node_begins f b suits.0 in
      let later = node_plain (after_all f b) bs suits.1 in
      (λ i. here i && later i)

-- ---- what batches take

get_in : {A : Type 0} (xs : List A) (n : ℕ) (x : A) → slice_get xs n ≡ Some x → In x xs
get_in [] n x at = absurd (let e : None ≡ Some x = at in cc)
get_in (y ∷ xs) zero x at = let is : x ≡ y = cc in inl is
get_in (y ∷ xs) (suc n) x at = inr (get_in xs n x at)

module _ (heard : ℕ → List Record) where
  heard_both : (f : Facts) (bs cs : Journal) → AllHeard heard f bs → AllHeard heard (after_batches f bs) cs → AllHeard heard f (bs ++ cs)
  heard_both f [] cs first second = second
  heard_both f (b ∷ bs) cs first second = (first.0, heard_both (after_all f b) bs cs first.1 second)

  -- settling takes no record
  one_settling : (f : Facts) (b : List Entry) → IsSettlingBatch bundle_meaning f b → IsHeard heard f b
  one_settling f [] settles = tt
  one_settling f (entry.Take s k ∷ rest) settles = absurd (next_is_settling bundle_meaning f (entry.Take s k) settles.2.0)
  one_settling f (_ ∷ rest) settles = tt

  pub all_settling : (f : Facts) (bs : Journal) → AllSettling bundle_meaning f bs
      → AllHeard heard f bs
  all_settling f [] settling = tt
  all_settling f (b ∷ bs) settling = (one_settling f b settling.0, all_settling (after_all f b) bs settling.1)

  -- nor does what is added
  plain_heard : (f : Facts) (b : List Entry) → IsPlain b → IsHeard heard f b
  plain_heard f [] plain = tt
  plain_heard f (entry.Take s k ∷ rest) plain = absurd plain
  plain_heard f (_ ∷ rest) plain = tt

  -- a node takes what was heard on its links
  module _ (first : ℕ) (plans : List Session) (bytes : ℕ → List ℕ)
      (takes : (s link : ℕ) (r : Record) → s ≡ first + link → In r (records (bytes link)) → In r (heard s)) where
    of_course : (f : Facts) (b : List Entry) → IsOfCourse first plans bytes f b → IsHeard heard f b
    of_course f [] is = tt
    of_course f (entry.Take s k ∷ rest) is = (is.read, takes s is.link is.read is.on (get_in (records (bytes is.link)) k is.read is.stands), is.so)
    of_course f (_ ∷ rest) is = tt

    one_suits : (f : Facts) (b : List Entry) → SuitsNode bundle_meaning first plans bytes f b → IsHeard heard f b
    one_suits f b (inl plain) = plain_heard f b plain
    one_suits f b (inr (inl settles)) = one_settling f b settles
    one_suits f b (inr (inr is)) = of_course f b is

    pub all_suit : (f : Facts) (bs : Journal) → AllSuitNode bundle_meaning first plans bytes f bs → AllHeard heard f bs
    all_suit f [] suits = tt
    all_suit f (b ∷ bs) suits = (one_suits f b suits.0, all_suit (after_all f b) bs suits.1)

-- behind what a journal took, batches that take what is heard
pub hears_on : (heard : ℕ → List Record) (j j0 more : Journal) → WentHearing heard j j0
    → HasNoBrief more → AllHeard heard (facts j0) more → WentHearing heard j (j0 ++ more)
hears_on heard j j0 more w plain all = record {
  more = w.more ++ more;
  plain = plain_append w.more more w.plain plain;
  all_heard = heard_both heard (facts j) w.more more w.all_heard
      (subst (λ (f : Facts). AllHeard heard f more) (ap facts w.is ∙ facts-append j w.more) all);
  is = ap (λ (k : Journal). k ++ more) w.is ∙ append_assoc j w.more more;
}

pub hears_none : (heard : ℕ → List Record) (j : Journal) → WentHearing heard j j
hears_none heard j = record { more = []; plain = refl; all_heard = tt; is = sym (append-nil j) }

-- ---- what stands at the end of a call

-- a disk that fits a store is still
pub still_fits : (s : StoreValue) (j : Journal) (h : MemHostValue) → FitsFiles bundle_meaning s j
    (files_of (disk_files h.disk)) → IsStill h
still_fits s j h fits = record {
  each = λ two told left image.
      still_files (files_of (disk_files h.disk)) left fits.first_settled fits.second_settled
      (subst (λ (t : Two File). IsImage t left) (sym (same_files h two told)) image);
}

-- what a call that left the files still came to
pub comes_still : StandingIsLegal → (heard : ℕ → List Record) (j : Journal) (new : DeviceValue)
    → LeavesSome (WentHearing heard j) (host_told new.host)
    → (is_some new.node ≡ true → IsStill new.host) → JournalWentOn heard j new
comes_still legal heard j new k still =
    let two : Two File = files_of (disk_files new.host.disk) in
    let reads = k.each two refl (read_files two) ((host_told new.host).reads two refl) in
    let w = reads.has in
    let stood : stands bundle_meaning (read_files two) ≡ journal (j ++ w.more) = reads.stands_for
    ∙ ap journal w.is in
    record {
      more = w.more;
      allowed =
          legal-back bundle_meaning j w.more
          (legal bundle_meaning (read_files two) (j ++ w.more) stood);
      plain = w.plain;
      all_heard = w.all_heard;
      reads = record {
        each = λ two' told. subst (λ (t : Two File). stands bundle_meaning (read_files t)
            ≡ journal (j ++ w.more)) (same_files new.host two' told) stood;
      };
      holds = λ runs. still_holds (j ++ w.more) new.host stood (still runs);
    }

-- ---- journals that go on

pub went_none : (j : Journal) → WentOn j j
went_none j = record { more = []; plain = refl; is = sym (append-nil j) }

pub went_then : (a b c : Journal) → WentOn a b → WentOn b c → WentOn a c
went_then a b c first second = record {
  more = first.more ++ second.more;
  plain = plain_append first.more second.more first.plain second.plain;
  is = second.is ∙ (ap (λ (k : Journal). k ++ second.more) first.is ∙ append_assoc a first.more second.more);
}

-- ---- few sessions

counts_few : (k : Format) (end : ℕ) → end ≤ MAX_JOURNAL → counts_to k end ≤ MAX_JOURNAL + MAX_JOURNAL
counts_few kind.Whole end within = omega (arith, within)
counts_few kind.Short end within = omega (arith, within)

-- where no batch of a store's journal begins a brief account, fewer sessions have begun than one may have
pub few_begun : (s : StoreValue) (j : Journal) → IsStore s → facts j ≡ s.state.facts → Legal bundle_meaning j → HasNoBrief j → s.state.facts.begun < MAX_SESSIONS
few_begun s j store are legal plain =
    let listed : AllBegunListed s.state.facts = subst AllBegunListed are (plain_listed bundle_meaning j legal plain) in
    let counted : length s.state.facts.sessions ≤ counts_to (written_in s) s.end = store.numbers.sessions in
    let end : s.end ≤ MAX_JOURNAL = omega (arith, store.roomy) in
    let few = counts_few (written_in s) s.end end in
    omega (arith, listed, counted, few)
