-- What stands behind files that were read, and that their journals extend one another and end settled.
use Rattle.std.proofs.Common.{◌≡◌, ◌≢◌, ℕ, ◌+◌, ◌<◌, true, false, cond, List, [], ◌∷◌, ◌++◌, refl, sym, ◌∙◌, ap, subst, inl, arith, Some, None, is_some, nat_eq, eqb-true, eq-eqb, append_assoc, append-nil}
use Rattle.std.specs.List.{AllByRecursion}
use Rattle.sync_ids.specs.declared.records.Record.{Record}
use Rattle.sync_rules.specs.declared.entries.Entry.{Entry}
use Rattle.sync_rules.specs.declared.entries.Entry.TheVariants as entry
use Rattle.sync_rules.specs.declared.entries.Session.{Session}
use Rattle.sync_rules.specs.Clients.{Meaning}
use Rattle.sync_rules.specs.Consistency.{HasHeld, HasSessions}
use Rattle.sync_rules.specs.Facts.{ExtendsJournal, Facts, after, contact_in, contact_of, facts, session_at}
use Rattle.sync_rules.specs.Hearing.{HearsRecord, SettlesJournal, take_batch}
use Rattle.sync_rules.specs.Heard.{heard}
use Rattle.sync_rules.specs.Legal.{Legal}
use Rattle.sync_rules.specs.Lists.{In}
use Rattle.sync_rules.specs.Steps.{IsSettled}
use Rattle.sync_rules.proofs.Continuing.{extends_itself, extends_then, facts_of_longer}
use Rattle.sync_rules.proofs.Elements.{In-append_left, In-append_right}
use Rattle.sync_rules.proofs.HearLaws.{Stays, stays_batches}
use Rattle.sync_rules.proofs.SessionLaws.{legal_sessions}
use Rattle.sync_rules.proofs.Settling.{prefix_legal}
use Rattle.sync_rules.proofs.StepKinds.{settled_stays, settles_only}
use Rattle.sync_rules.proofs.WorkLaws.{facts-push}
use Rattle.mailbox_laws.specs.Boxes.{HearsAll, ReadsBox, ReadsBoxes, box_session, with_box}
use Rattle.mailbox_laws.specs.Order.{HaveOwnIds, joined}
use Rattle.mailbox_laws.proofs.Standing.{Stands, stands_heard, stands_same, stands_settled}

-- ---- journals extend one another

settles_extends : (clients : Meaning) (old new : List (List Entry)) → SettlesJournal clients old new → ExtendsJournal new old
settles_extends clients old new s = (s.more, s.extends)

hears_extends : (clients : Meaning) (session k : ℕ) (r : Record) (old new : List (List Entry))
    → HearsRecord clients old session k r new → ExtendsJournal new old
hears_extends clients session k r old new h =
    let pushed : List (List Entry) = old ++ take_batch (facts old) session k r ∷ [] in
    extends_then new pushed old (settles_extends clients pushed new h.settles)
    (take_batch (facts old) session k r ∷ [], refl)

pub all_extends : (clients : Meaning) (session k : ℕ) (old : List (List Entry)) (records : List Record)
    (new : List (List Entry))
    → HearsAll clients session k old records new → ExtendsJournal new old
all_extends clients session k old [] new e =
    subst (λ (j : List (List Entry)). ExtendsJournal j old) (sym e) (extends_itself old)
all_extends clients session k old (r ∷ rs) new h =
    extends_then new h.0 old (all_extends clients session (k + 1) h.0 rs new h.2)
    (hears_extends clients session k r old h.0 h.1)

box_extends : (clients : Meaning) (contact : ℕ) (old : List (List Entry)) (records : List Record)
    (new : List (List Entry))
    (box : ReadsBox clients contact old records new) → ExtendsJournal new box.before
box_extends clients contact old records new box =
    extends_then new (with_box contact box.before) box.before
    (all_extends clients (facts box.before).begun 0 (with_box contact box.before) records new box.hears)
    ((entry.Session (box_session (facts box.before).begun contact) ∷ []) ∷ [], refl)

pub boxes_extend : (clients : Meaning) (contact : ℕ) (old : List (List Entry)) (files : List (List Record))
    (new : List (List Entry))
    → ReadsBoxes clients contact old files new → ExtendsJournal new old
boxes_extend clients contact old [] new e =
    subst (λ (j : List (List Entry)). ExtendsJournal j old) (sym e) (extends_itself old)
boxes_extend clients contact old (records ∷ rest) new b =
    extends_then new b.0 old (boxes_extend clients contact b.0 rest new b.2)
    (extends_then b.0 (b.1).before old (box_extends clients contact old records b.0 b.1)
    (settles_extends clients old (b.1).before (b.1).settles))

-- ---- they end settled

all_settled : (clients : Meaning) (session k : ℕ) (old : List (List Entry)) (records : List Record)
    (new : List (List Entry))
    → IsSettled clients (facts old) → HearsAll clients session k old records new → IsSettled clients (facts new)
all_settled clients session k old [] new settled e =
    subst (λ (j : List (List Entry)). IsSettled clients (facts j)) (sym e) settled
all_settled clients session k old (r ∷ rs) new settled h =
    all_settled clients session (k + 1) h.0 rs new (h.1).settled h.2

with_box_facts : (contact : ℕ) (j : List (List Entry)) → facts (with_box contact j) ≡ after (facts j)
    (entry.Session (box_session (facts j).begun contact))
with_box_facts contact j = facts-push j (entry.Session (box_session (facts j).begun contact) ∷ [])

pub box_settled : (clients : Meaning) (contact : ℕ) (old : List (List Entry)) (records : List Record)
    (new : List (List Entry))
    → ReadsBox clients contact old records new → IsSettled clients (facts new)
box_settled clients contact old records new box =
    let start : List Entry = entry.Session (box_session (facts box.before).begun contact) ∷ [] in
    all_settled clients (facts box.before).begun 0 (with_box contact box.before) records new
    (subst (IsSettled clients) (sym (with_box_facts contact box.before))
    (settled_stays clients (facts box.before) start refl box.settled)) box.hears

boxes_stay : (clients : Meaning) (contact : ℕ) (old : List (List Entry)) (files : List (List Record))
    (new : List (List Entry))
    → IsSettled clients (facts old) → ReadsBoxes clients contact old files new → IsSettled clients (facts new)
boxes_stay clients contact old [] new settled e =
    subst (λ (j : List (List Entry)). IsSettled clients (facts j)) (sym e) settled
boxes_stay clients contact old (records ∷ rest) new settled b =
    boxes_stay clients contact b.0 rest new (box_settled clients contact old records b.0 b.1) b.2

pub boxes_settled : (clients : Meaning) (contact : ℕ) (old : List (List Entry)) (files : List (List Record))
    (new : List (List Entry))
    → files ≢ [] → ReadsBoxes clients contact old files new → IsSettled clients (facts new)
boxes_settled clients contact old [] new some b = absurd (some refl)
boxes_settled clients contact old (records ∷ rest) new some b =
    boxes_stay clients contact b.0 rest new (box_settled clients contact old records b.0 b.1) b.2

-- ---- the session

-- a session whose number is above those before it is found
found_last : (n : ℕ) (ss : List Session) (x : Session) → AllByRecursion (λ (s : Session). s.number < n) ss → x.number
    ≡ n → session_at (ss ++ x ∷ []) n ≡ Some x
found_last n [] x below is = ap (λ b. cond b (Some x) None) (eq-eqb x.number n is)
found_last n (s ∷ ss) x below is =
    elim (nat_eq s.number n) as (λ b. nat_eq s.number n ≡ b → cond b (Some s) (session_at (ss ++ x ∷ []) n) ≡ Some x) [
      | true ↦ λ e. let same : s.number ≡ n = eqb-true s.number n e in let less : s.number < n = below.0 in absurd
          (omega (arith, same, less))
      | false ↦ λ e. found_last n ss x below.1 is
    ] refl

box_begun : (f : Facts) (contact : ℕ) → HasSessions f → session_at (f.sessions ++ box_session f.begun contact ∷ [])
    f.begun ≡ Some (box_session f.begun contact)
box_begun f contact has = found_last f.begun f.sessions (box_session f.begun contact) has.below refl

-- ---- what stands

module _ (clients : Meaning) (contact : ℕ) (s : Facts) (all : List Record) (own : HaveOwnIds s all) (names : HasHeld s)
  where
    stands_all : (session k : ℕ) (old : List (List Entry)) (records : List Record) (new : List (List Entry))
        (done : List Record)
        → ((x : Record) → In x (done ++ records) → In x all) →
        (known : is_some (session_at (facts old).sessions session) ≡ true)
        → contact_of (facts old).sessions session ≡ contact → Stands contact s done (facts old)
        → HearsAll clients session k old records new
        → Stands contact s (done ++ records) (facts new)
    stands_all session k old [] new done within known with_contact st e =
        subst (λ (ds : List Record). Stands contact s ds (facts new)) (sym (append-nil done))
        (subst (λ (j : List (List Entry)). Stands contact s done (facts j)) (sym e) st)
    stands_all session k old (r ∷ rs) new done within known with_contact st h =
        let mid : List (List Entry) = h.0 in
        let pushed : List (List Entry) = old ++ take_batch (facts old) session k r ∷ [] in
        let whole : (done ++ r ∷ []) ++ rs ≡ done ++ r ∷ rs = append_assoc done (r ∷ []) rs in
        let heard_so : Stands contact s (done ++ r ∷ []) (heard (facts old) session k r) =
        stands_heard contact s all own names done (facts old) st
        (λ x i. within x (In-append_left x done (r ∷ rs) i)) session k r
        (within r (In-append_right r done (r ∷ rs) (inl refl))) with_contact in
        let taken_so : Stands contact s (done ++ r ∷ []) (facts pushed) =
        subst (Stands contact s (done ++ r ∷ []))
        (sym (facts-push old (take_batch (facts old) session k r))) heard_so in
        let settled_so : Stands contact s (done ++ r ∷ []) (facts mid) =
        stands_settled contact s (facts pushed) (facts mid) (done ++ r ∷ [])
        (settles_only clients pushed mid (h.1).settles) taken_so in
        let longer : ExtendsJournal mid old = hears_extends clients session k r old mid h.1 in
        let stays : Stays (facts old) (facts mid) session =
        subst (λ (g : Facts). Stays (facts old) g session) (sym (facts_of_longer mid old longer))
        (stays_batches (facts old) longer.0 session known) in
        subst (λ (ds : List Record). Stands contact s ds (facts new)) whole
        (stands_all session (k + 1) mid rs new (done ++ r ∷ []) (λ x i. within x (subst (In x) whole i)) stays.known
        (stays.contact ∙ with_contact) settled_so h.2)

    pub stands_box : (old : List (List Entry)) (records : List Record) (new : List (List Entry)) (done : List Record)
        → ((x : Record) → In x (done ++ records) → In x all) → Legal clients new → Stands contact s done (facts old)
        → ReadsBox clients contact old records new
        → Stands contact s (done ++ records) (facts new)
    stands_box old records new done within legal st box =
        let f : Facts = facts box.before in
        let g : Facts = facts (with_box contact box.before) in
        let begun : g ≡ after f (entry.Session (box_session f.begun contact)) = with_box_facts contact box.before in
        let before_legal : Legal clients box.before = prefix_legal clients new box.before
        (box_extends clients contact old records new box) legal in
        let found : session_at g.sessions f.begun ≡ Some (box_session f.begun contact) =
        ap (λ (x : Facts). session_at x.sessions f.begun) begun ∙ box_begun f contact
        (legal_sessions clients box.before before_legal) in
        let settled_so : Stands contact s done f = stands_settled contact s (facts old) f done
        (settles_only clients old box.before box.settles) st in
        let begun_so : Stands contact s done (after f (entry.Session (box_session f.begun contact))) =
        stands_same contact s f (after f (entry.Session (box_session f.begun contact)))
        done refl refl refl refl settled_so in
        stands_all f.begun 0 (with_box contact box.before) records new done within (ap is_some found)
        (ap contact_in found)
        (subst (Stands contact s done) (sym begun) begun_so) box.hears

    pub stands_boxes : (old : List (List Entry)) (files : List (List Record)) (new : List (List Entry))
        (done : List Record)
        → ((x : Record) → In x (done ++ joined files) → In x all) → Legal clients new → Stands contact s done (facts old)
        → ReadsBoxes clients contact old files new
        → Stands contact s (done ++ joined files) (facts new)
    stands_boxes old [] new done within legal st e =
        subst (λ (ds : List Record). Stands contact s ds (facts new)) (sym (append-nil done))
        (subst (λ (j : List (List Entry)). Stands contact s done (facts j)) (sym e) st)
    stands_boxes old (records ∷ rest) new done within legal st b =
        let whole : (done ++ records) ++ joined rest ≡ done ++ (records ++ joined rest) = append_assoc done records
        (joined rest) in
        let mid_legal : Legal clients b.0 = prefix_legal clients new b.0 (boxes_extend clients contact b.0 rest new b.2)
        legal in
        let inside : (x : Record) → In x ((done ++ records) ++ joined rest) → In x all = λ x i. within x
        (subst (In x) whole i) in
        subst (λ (ds : List Record). Stands contact s ds (facts new)) whole
        (stands_boxes b.0 rest new (done ++ records) inside legal
        (stands_box old records b.0 done (λ x i. inside x (In-append_left x (done ++ records) (joined rest) i))
        mid_legal st b.1) b.2)
