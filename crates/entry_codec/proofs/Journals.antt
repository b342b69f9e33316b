-- A file with the frames of a legal journal stands for that journal.
use Rattle.std.proofs.Common.{◌≡◌, ℕ, zero, suc, ◌+◌, ◌≤◌, Bool, true, false, List, [], ◌∷◌, ◌++◌}
use Rattle.std.proofs.Common.{length, get_or, take, drop, refl, sym, ap, subst, ◌∙◌, arith}
use Rattle.std.proofs.Common.{append_assoc, length-append}
use Rattle.std.specs.Prelude.{◌≢◌, ◌==◌, not, nat_le, cond, slice_index, Option, Some, None, All}
use Rattle.std.specs.Int.{w32, to_be_bytes, from_be_bytes}
use Rattle.std.specs.List.{AllByRecursion, flat_map}
use Rattle.std.proofs.lemmas.Bool.{cond-false, cond-true, eq-eqb, le-leb, le-ltb, lt-leb, ne_eqb}
use Rattle.std.proofs.lemmas.Bool.{not_from_true, not_from_false, or_from}
use Rattle.std.proofs.lemmas.List.{append-nil, drop-drop, drop_at, get_or-append-add, take_at}
use Rattle.std.proofs.lemmas.List.Elements.{All-head, All-tail}
use Rattle.std.proofs.lemmas.Nat.{from_be_bytes-to_be_bytes_4}
use Rattle.sync_rules.specs.declared.entries.Entry.{Entry}
use Rattle.sync_rules.specs.Clients.{Meaning}
use Rattle.sync_rules.specs.Facts.{Facts, after_all, facts, nothing}
use Rattle.sync_rules.specs.Legal.{Allowed, GoesOn, Legal}
use Rattle.sync_rules.specs.Allows.{allows}
use Rattle.outside.specs.declared.limits.TheConstants.{MAX_FRAME, MAX_JOURNAL}
use Rattle.outside.specs.Files.{Two, file_of}
use Rattle.outside.specs.Frames.{Frame, IsPayload, broken, closed, format_in, frame_at, frame_of}
use Rattle.outside.specs.Frames.{journal_file, framed, is_broken, size_at}
use Rattle.entry_codec.specs.declared.naming.Format.{Format}
use Rattle.entry_codec.specs.Naming.{format_of}
use Rattle.entry_codec.specs.Spelling.{IsEntry, IsOfFormat}
use Rattle.entry_codec.specs.Payloads.{batch_of, names_of, payload, payloads}
use Rattle.entry_codec.specs.StandingLaws.{HoldsJournal}
use Rattle.entry_codec.specs.Standing.{Standing, damaged, journal, room_of}
use Rattle.entry_codec.specs.ReadingFiles.{frames_from, read_in, read_on, read_standing, rest_from}
use Rattle.entry_codec.specs.ReadingFiles.{stands_in, taken_on}
use Rattle.sync_rules.proofs.Continuing.{legal-push}
use Rattle.entry_codec.proofs.Growing.{facts_push, length_frame}
use Rattle.entry_codec.proofs.FrontLaws.{rest_once}
use Rattle.entry_codec.proofs.AllowedIds.{names_held}
use Rattle.entry_codec.proofs.BatchLaws.{IsWritten, batch_back, written_by}
use Rattle.entry_codec.proofs.Counts.{one_more}
use Rattle.entry_codec.proofs.Named.{named_in}
use Rattle.entry_codec.proofs.HeldNames.{WholeIds, legal_names}

-- the test of a batch that is allowed
abbrev pub Decided : Meaning → Type 0
Decided clients = (f : Facts) (batch : List Entry) → Allowed clients f batch
    → allows clients f batch ≡ true

-- and the other way round
abbrev pub Means : Meaning → Type 0
Means clients = (f : Facts) (batch : List Entry) → allows clients f batch ≡ true
    → Allowed clients f batch

-- ---- frames that are there

frame_there : (bytes front p behind : List ℕ) (place : ℕ) → bytes ≡ front ++ (frame_of p ++ behind)
    → length front ≡ place → IsPayload p → place + 6 + length p ≤ MAX_JOURNAL
    → frame_at bytes place ≡ framed p
frame_there bytes front p behind place split is fits bounded =
    let width = to_be_bytes w32 (length p) in
    let at : drop place bytes ≡ frame_of p ++ behind = ap (drop place) split
    ∙ drop_at front (frame_of p ++ behind) place is in
    let sized : drop (place + 1) bytes ≡ width ++ (p ++ behind) = sym (drop-drop 1 place bytes)
    ∙ ap (drop 1) at ∙ append_assoc width p behind in
    let behind_width : drop (place + 5) bytes ≡ p ++ behind = sym (drop-drop 5 place bytes)
    ∙ ap (drop 5) at ∙ ap (drop 4) (append_assoc width p behind)
    ∙ drop_at width (p ++ behind) 4 refl in
    let size : size_at bytes place ≡ length p =
    ap (λ (l : List ℕ). from_be_bytes w32 (take 4 l)) sized
    ∙ ap (from_be_bytes w32) (take_at width (p ++ behind) 4 refl)
    ∙ from_be_bytes-to_be_bytes_4 (length p) (omega (arith, fits.1)) in
    let long : length bytes ≡ place + (5 + length p + length behind) =
    omega (
      arith,
      ap length split,
      length-append front (frame_of p ++ behind),
      is,
      length-append
          (frame_of p) behind,
      length-append width p,
    ) in
    let byte : slice_index bytes place ≡ 1 =
    ap (λ (l : List ℕ). get_or l place 0) split
    ∙ ap (λ (n : ℕ). get_or (front ++ (frame_of p ++ behind)) n 0) (omega (arith, is))
    ∙ get_or-append-add front (frame_of p ++ behind) 0 0 in
    let whole : is_broken bytes place ≡ false =
    or_from _ _ (or_from _ _ (or_from _ _
    (or_from _ _ (le-ltb (length bytes) (place + 5) (omega arith))
    (ne_eqb (size_at bytes place) 0 (λ none. omega (arith, fits.0, size, none))))
    (le-ltb MAX_FRAME (size_at bytes place) (omega (arith, fits.1, size))))
    (le-ltb (length bytes) (place + 5 + size_at bytes place) (omega arith)))
    (le-ltb MAX_JOURNAL (place + 6 + size_at bytes place) (omega arith)) in
    cond-false (nat_le (length bytes) place) _ _ (lt-leb (length bytes) place (omega arith))
    ∙ cond-false (not (slice_index bytes place == 1)) _ _ (not_from_true
    (slice_index bytes place == 1) (eq-eqb (slice_index bytes place) 1 byte))
    ∙ cond-false (is_broken bytes place) _ _ whole
    ∙ ap (λ (l : List ℕ). framed l) (ap (λ (n : ℕ). take n (drop (place + 5) bytes)) size ∙ ap
    (take (length p)) behind_width ∙ take_at p behind (length p) refl)

closed_there : (bytes front rest : List ℕ) (gate place : ℕ) → bytes ≡ front ++ gate ∷ rest
    → length front ≡ place → gate ≢ 1 → frame_at bytes place ≡ closed
closed_there bytes front rest gate place split is shut =
    let long : length bytes ≡ place + suc (length rest) = omega
    (arith, ap length split, length-append front (gate ∷ rest), is) in
    let byte : slice_index bytes place ≡ gate =
    ap (λ (l : List ℕ). get_or l place 0) split
    ∙ ap (λ (n : ℕ). get_or (front ++ gate ∷ rest) n 0) (omega (arith, is))
    ∙ get_or-append-add front (gate ∷ rest) 0 0 in
    cond-false (nat_le (length bytes) place) _ _ (lt-leb (length bytes) place (omega arith))
    ∙ cond-true (not (slice_index bytes place == 1)) _ _ (not_from_false
    (slice_index bytes place == 1) (ne_eqb (slice_index bytes place) 1
    (λ same. shut (sym byte ∙ same))))

-- ---- the batches that are left to be read

some_batch : (clients : Meaning) (f : Facts) (batch : List Entry) → Allowed clients f batch
    → 1 ≤ length batch
some_batch clients f [] allowed = absurd allowed
some_batch clients f (e ∷ es) allowed = omega arith

-- what follows a place in a file, behind a journal of these facts: these batches, and then other
-- bytes
pub record Follows (clients : Meaning) (format : Format) (bytes : List ℕ) (place : ℕ) (f : Facts)
    (done more : List (List Entry)) : Type 0 where
  pub begun : Legal clients done
  pub few : length f.held ≤ place
  pub same : facts done ≡ f
  pub front : List ℕ
  pub behind : List ℕ
  pub split : bytes ≡ (front ++ flat_map frame_of (payloads format f more)) ++ behind
  pub long : length front ≡ place
  pub some : 1 ≤ place
  pub payloads_fit : All IsPayload (payloads format f more)
  pub legal : GoesOn clients f more
  pub kinds : AllByRecursion (AllByRecursion (IsOfFormat format)) more
  pub within : AllByRecursion (AllByRecursion IsEntry) more
  pub bounded : place + 1 + length (flat_map frame_of (payloads format f more)) ≤ MAX_JOURNAL

first_read : (clients : Meaning) (format : Format) (bytes : List ℕ) (place : ℕ) (f : Facts)
    (done more : List (List Entry)) (b : List Entry)
    → Follows clients format bytes place f done (b ∷ more)
    → frame_at bytes place ≡ framed (payload format f b)
first_read clients format bytes place f done more b h =
    let p = payload format f b in
    let others = flat_map frame_of (payloads format (after_all f b) more) in
    let behind = others ++ h.behind in
    let split : bytes ≡ h.front ++ (frame_of p ++ behind) =
    h.split ∙ append_assoc h.front (frame_of p ++ others) h.behind
    ∙ ap (λ (l : List ℕ). h.front ++ l) (append_assoc (frame_of p) others h.behind) in
    frame_there bytes h.front p behind place split h.long (All-head IsPayload p
    (payloads format (after_all f b) more) h.payloads_fit)
    (omega (arith, h.bounded, length-append (frame_of p) others, length_frame p))

goes_on : (clients : Meaning) (format : Format) (bytes : List ℕ) (place : ℕ) (f : Facts)
    (done more : List (List Entry)) (b : List Entry)
    → Follows clients format bytes place f done (b ∷ more)
    → Follows clients format bytes (place + 5 + length (payload format f b)) (after_all f b)
    (done ++ b ∷ []) more
goes_on clients format bytes place f done more b h =
    let p = payload format f b in
    let others = flat_map frame_of (payloads format (after_all f b) more) in
    record {
      begun = legal-push clients done b h.begun (subst (λ (g : Facts). Allowed clients g b)
          (sym h.same) h.legal.0);
      few = omega (arith, h.few, (one_more clients f b h.legal.0).0);
      same = facts_push done b ∙ ap (λ (g : Facts). after_all g b) h.same;
      front = h.front ++ frame_of p;
      behind = h.behind;
      split = h.split ∙ ap (λ (l : List ℕ). l ++ h.behind) (sym
          (append_assoc h.front (frame_of p) others));
      long = omega (arith, length-append h.front (frame_of p), h.long, length_frame p);
      some = omega (arith, h.some);
      payloads_fit = All-tail IsPayload p (payloads format (after_all f b) more) h.payloads_fit;
      legal = h.legal.1;
      kinds = h.kinds.1;
      within = h.within.1;
      bounded = omega (arith, h.bounded, length-append (frame_of p) others, length_frame p);
    }

-- a batch of a legal journal can be written
written : (clients : Meaning) (format : Format) (f : Facts) (b : List Entry) → Allowed clients f b
    → AllByRecursion (IsOfFormat format) b → AllByRecursion IsEntry b
    → AllByRecursion (IsWritten format (names_of f)) b
written clients format f b allowed kinds within =
    written_by format (names_of f) b within (named_in format (names_of f) b
    (names_held clients f b allowed)) kinds

-- these batches are read, up to the place behind them
read_to : (clients : Meaning) → Decided clients → WholeIds
    → (format : Format) (file : ℕ) (bytes : List ℕ) (place : ℕ) (f : Facts)
    (done more : List (List Entry)) → Follows clients format bytes place f done more
    → rest_from clients format file bytes place done ≡ rest_from clients format file bytes
    (place + length (flat_map frame_of (payloads format f more))) (done ++ more)
read_to clients decided whole format file bytes place f done [] h =
    ap (λ (n : ℕ). rest_from clients format file bytes n done) (omega arith)
    ∙ ap (rest_from clients format file bytes (place + length
    (flat_map frame_of (payloads format f [])))) (sym (append-nil done))
read_to clients decided whole format file bytes place f done (b ∷ more) h =
    let p = payload format f b in
    let others = flat_map frame_of (payloads format (after_all f b) more) in
    let allowed = subst (λ (g : Facts). Allowed clients g b) (sym h.same) h.legal.0 in
    let names = legal_names whole clients done h.begun (omega
    (arith, h.few, h.bounded, ap (λ (g : Facts). length g.held) h.same)) in
    let spelled : p ≡ payload format (facts done) b = ap (λ (g : Facts). payload format g b)
    (sym h.same) in
    let read : batch_of format (facts done) p ≡ Some b =
    ap (batch_of format (facts done)) spelled
    ∙ batch_back format (names_of (facts done)) names b (written clients format (facts done) b
    allowed h.kinds.0 h.within.0) (some_batch clients (facts done) b allowed) in
    let end : place + 5 + length p + length others ≡ place + length (frame_of p ++ others) = omega
    (arith, length-append (frame_of p) others, length_frame p) in
    rest_once clients format file bytes place done h.some
    ∙ ap (read_on clients format file (rest_from clients format file bytes) place done)
    (first_read clients format bytes place f done more b h)
    ∙ ap (taken_on clients file (rest_from clients format file bytes (place + 5 + length p)) place
    done) read
    ∙ cond-true (allows clients (facts done) b) _ _ (decided (facts done) b allowed)
    ∙ read_to clients decided whole format file bytes (place + 5 + length p) (after_all f b)
    (done ++ b ∷ []) more (goes_on clients format bytes place f done more b h)
    ∙ ap (λ (n : ℕ). rest_from clients format file bytes n ((done ++ b ∷ []) ++ more)) end
    ∙ ap (rest_from clients format file bytes (place + length (frame_of p ++ others)))
    (append_assoc done (b ∷ []) more)

-- ---- the journal of two files

-- A file has the frames of a legal journal, and then other bytes: what the files stand for is what
-- a reader finds from there on.
pub stands_behind : (clients : Meaning) → Decided clients → WholeIds
    → (files : Two (List ℕ)) (file : ℕ) (format : Format) (j : List (List Entry))
    → journal_file files ≡ Some file → format_of (format_in (file_of files file)) ≡ Some format
    → Follows clients format (file_of files file) 14 nothing [] j
    → read_standing clients files ≡ rest_from clients format file (file_of files file)
    (14 + length (flat_map frame_of (payloads format nothing j))) j
unfolding read_standing
stands_behind clients decided whole files file format j found known follows =
    let bytes = file_of files file in
    ap (stands_in clients files) found ∙ ap (read_in clients file bytes) known
    ∙ read_to clients decided whole format file bytes 14 nothing [] j follows

pub stands_has : (clients : Meaning) → Decided clients → WholeIds
    → (files : Two (List ℕ)) (file : ℕ) (format : Format) (j : List (List Entry))
    → HoldsJournal clients files file format j → read_standing clients files ≡ journal j
stands_has clients decided whole files file format j h =
    let bytes = file_of files file in
    let frames = flat_map frame_of (payloads format nothing j) in
    let place = 14 + length frames in
    let follows : Follows clients format bytes 14 nothing [] j = record {
      begun = tt;
      few = omega arith;
      same = refl;
      front = h.header;
      behind = h.frames.gate ∷ h.frames.rest;
      split = h.frames.whole;
      long = h.frames.long;
      some = omega arith;
      payloads_fit = h.frames.payloads_fit;
      legal = h.legal;
      kinds = h.kinds;
      within = h.within;
      bounded = omega (arith, h.bounded);
    } in
    let long : length (h.header ++ frames) ≡ place = omega (
      arith,
      length-append h.header frames,
      h.frames.long,
    ) in
    let shut = closed_there bytes (h.header ++ frames) h.frames.rest h.frames.gate place
    h.frames.whole long h.frames.closed in
    stands_behind clients decided whole files file format j h.found h.format_is follows
    ∙ rest_once clients format file bytes place j (omega arith)
    ∙ ap (read_on clients format file (rest_from clients format file bytes) place j) shut
    ∙ cond-true (nat_le (place + 1 + room_of format (facts j)) MAX_JOURNAL) _ _
    (le-leb _ _ (omega (arith, h.bounded)))

-- ---- a journal that files stand for

journal_is : (d j : List (List Entry)) → journal d ≡ journal j → d ≡ j
journal_is d j e = cc

same_cond : (t : Bool) (x y z : Standing) → (y ≡ z → ⊥) → cond t x y ≡ z → x ≡ z
same_cond true x y z ne e = e
same_cond false x y z ne e = absurd (ne e)

true_cond : (t : Bool) (x y z : Standing) → (y ≡ z → ⊥) → cond t x y ≡ z → t ≡ true
true_cond true x y z ne e = refl
true_cond false x y z ne e = absurd (ne e)

taken_legal : (clients : Meaning) → Means clients
    → (file : ℕ) (further : List (List Entry) → Standing) (place : ℕ) (done j : List (List Entry))
    → ((d : List (List Entry)) → Legal clients d → further d ≡ journal j → Legal clients j)
    → (o : Option (List Entry)) → Legal clients done
    → taken_on clients file further place done o ≡ journal j → Legal clients j
taken_legal clients means file further place done j later None legal e = absurd cc
taken_legal clients means file further place done j later (Some b) legal e =
    let granted = true_cond (allows clients (facts done) b) (further (done ++ b ∷ []))
    (damaged file place) (journal j) (λ h. cc) e in
    let same = same_cond (allows clients (facts done) b) (further (done ++ b ∷ []))
    (damaged file place) (journal j) (λ h. cc) e in
    later (done ++ b ∷ []) (legal-push clients done b legal (means (facts done) b granted)) same

on_legal : (clients : Meaning) → Means clients
    → (format : Format) (file : ℕ) (further : ℕ → List (List Entry) → Standing) (place : ℕ)
    (done j : List (List Entry))
    → ((next : ℕ) (d : List (List Entry)) → Legal clients d → further next d ≡ journal j
    → Legal clients j)
    → (frame : Frame) → Legal clients done → read_on clients format file further place done frame ≡
    journal j → Legal clients j
on_legal clients means format file further place done j later closed legal e =
    let same = same_cond (nat_le (place + 1 + room_of format (facts done)) MAX_JOURNAL)
    (journal done) (damaged file place) (journal j) (λ h. cc) e in
    subst (λ (d : List (List Entry)). Legal clients d) (journal_is done j same) legal
on_legal clients means format file further place done j later broken legal e = absurd cc
on_legal clients means format file further place done j later (framed to) legal e =
    taken_legal clients means file (further (place + 5 + length to)) place done j
    (later (place + 5 + length to)) (batch_of format (facts done) to) legal e

frames_legal : (clients : Meaning) → Means clients
    → (format : Format) (file n : ℕ) (bytes : List ℕ) (place : ℕ) (done j : List (List Entry))
    → Legal clients done
    → frames_from clients format file n bytes place done ≡ journal j → Legal clients j
unfolding frames_from
frames_legal clients means format file zero bytes place done j legal e = absurd cc
frames_legal clients means format file (suc n) bytes place done j legal e =
    on_legal clients means format file (frames_from clients format file n bytes) place done j
    (λ next d l h. frames_legal clients means format file n bytes next d j l h)
    (frame_at bytes place) legal e

read_legal : (clients : Meaning) → Means clients
    → (file : ℕ) (bytes : List ℕ) (j : List (List Entry)) (o : Option Format)
    → read_in clients file bytes o ≡ journal j → Legal clients j
read_legal clients means file bytes j None e = absurd cc
read_legal clients means file bytes j (Some format) e = frames_legal clients means format file
    (length bytes) bytes 14 [] j tt e

in_legal : (clients : Meaning) → Means clients
    → (files : Two (List ℕ)) (j : List (List Entry)) (o : Option ℕ)
    → stands_in clients files o ≡ journal j → Legal clients j
in_legal clients means files j None e = absurd cc
in_legal clients means files j (Some file) e =
    read_legal clients means file (file_of files file) j (format_of
    (format_in (file_of files file))) e

pub stands_legal : (clients : Meaning) → Means clients
    → (files : Two (List ℕ)) (j : List (List Entry)) → read_standing clients files ≡ journal j
    → Legal clients j
unfolding read_standing
stands_legal clients means files j e = in_legal clients means files j (journal_file files) e
