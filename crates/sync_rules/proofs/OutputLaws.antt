-- What each entry of a legal journal adds to a session's output.
use Rattle.std.proofs.Common.{◌≡◌, ℕ, arith, Bool, true, false, cond, nat_eq, eqb-true, List, [], ◌∷◌, ◌++◌, append_assoc, append-nil, refl, sym, ◌∙◌, ap, subst, Option, Some, None}
use Rattle.std.specs.Cmp.{nat_eq_equiv}
use Rattle.std.specs.List.{list_all}
use Rattle.std.proofs.lemmas.Bool.{and_parts, and_from, false≢true}
use Rattle.sync_ids.specs.declared.records.Record.{Record}
use Rattle.sync_rules.specs.declared.entries.Entry.{Entry}
use Rattle.sync_rules.specs.declared.entries.Entry.TheVariants as entry
use Rattle.sync_rules.specs.declared.entries.Out.{Out}
use Rattle.sync_rules.specs.declared.entries.Out.TheVariants as out
use Rattle.sync_rules.specs.declared.entries.Session.{Session}
use Rattle.sync_rules.specs.Clients.{Meaning}
use Rattle.sync_rules.specs.Facts.{Facts, Held, Id, after, after_all, nothing, facts, entries_of, held_at, session_at, contact_in, takes_of}
use Rattle.sync_rules.specs.Legal.{Legal, Allowed, IsDue, IsSettling, MayBegin}
use Rattle.sync_rules.specs.Output.{IsOpen, first_records, message_record, out_records, records_by}
use Rattle.sync_rules.specs.Output.{records_in, sent, sent_if_begun}
use Rattle.sync_rules.specs.Meeting.{MeetsNoStep, AllMeet}
use Rattle.sync_rules.specs.Consistency.{HasSessions}
use Rattle.sync_rules.specs.Growth.{output_by, output_in, output_of, is_silent}
use Rattle.sync_rules.specs.EntryTests.{IsSettlingEntry}
use Rattle.sync_rules.proofs.StepLaws.{next_is_settling}
use Rattle.sync_rules.proofs.Sound.{SoundFacts}
use Rattle.sync_rules.proofs.Kept.{sound_after, after_batches-is}
use Rattle.sync_rules.proofs.Runs.{sound_nothing}
use Rattle.sync_rules.proofs.Outputs.{out_named, FoundIn, held_stays, entries_of-append}
use Rattle.sync_rules.proofs.Continuing.{continues_after, continues_all, legal-front, legal-push}
use Rattle.sync_rules.proofs.StepKinds.{all_of_record, is_taken_on}
use Rattle.sync_rules.proofs.MeetingLaws.{legal_meets, meets_fits}
use Rattle.sync_rules.proofs.SessionLaws.{sessions_after_one, sessions_of_nothing, legal_sessions}

-- ---- entries one after the other

pub output_in-append : (f : Facts) (session : ℕ) (es fs : List Entry) → output_in f session (es ++ fs) ≡ output_in f session es ++ output_in (after_all f es) session fs
output_in-append f session [] fs = refl
output_in-append f session (e ∷ es) fs =
    ap (λ (t : List Record). output_by f session e ++ t) (output_in-append (after f e) session es fs)
    ∙ sym (append_assoc (output_by f session e) (output_in (after f e) session es) (output_in (after_all (after f e) es) session fs))

pub output_of-is : (f : Facts) (session : ℕ) (bs : List (List Entry)) → output_of f session bs ≡ output_in f session (entries_of bs)
output_of-is f session [] = refl
output_of-is f session (b ∷ bs) =
    ap (λ (t : List Record). output_in f session b ++ t) (output_of-is (after_all f b) session bs)
    ∙ sym (output_in-append f session b (entries_of bs))

-- ---- a session that is known

-- a session that begins is not one that is known
new_number : (f : Facts) → HasSessions f → (x s : Session) (n : ℕ) → x.number ≡ f.begun → session_at f.sessions n ≡ Some s → (b : Bool) → nat_eq x.number n ≡ b → b ≡ false
new_number f h x s n is at true e =
    let same : x.number ≡ n = eqb-true x.number n e in
    let below = (h.each n s at).begun in
    absurd (omega (arith, same, below, is))
new_number f h x s n is at false e = refl

send_again : (clients : Meaning) (f : Facts) (s : SoundFacts clients f) (o : Option Session) (now : ℕ) (id : Id) (later : List Held)
    → IsDue clients f o now (out.Send id) → FoundIn f.held later → message_record (held_at later id) ≡ message_record (held_at f.held id)
send_again clients f s o now id later due then =
    let is : IsOpen f (contact_in o) id = out_named clients f s o now (out.Send id) due in
    ap message_record (then id is.message is.held ∙ sym is.held)

-- an entry's record by the messages held later is that by the messages held before it
record_by : (clients : Meaning) (f : Facts) (s : SoundFacts clients f) (h : HasSessions f) (e : Entry) (x : Session) (n : ℕ) (later : List Held)
    → session_at f.sessions n ≡ Some x → MeetsNoStep clients f e → FoundIn f.held later → records_by later n e ≡ output_by f n e
record_by clients f s h (entry.Session y) x n later at m then =
    sym (ap (λ b. cond b (first_records y) []) (new_number f h y x n m.1.numbered at (nat_eq y.number n) refl))
record_by clients f s h (entry.Out t now (out.Acks ids)) x n later at m then = refl
record_by clients f s h (entry.Out t now (out.Requests ids)) x n later at m then = refl
record_by clients f s h (entry.Out t now (out.Offers ids)) x n later at m then = refl
record_by clients f s h (entry.Out t now (out.Send id)) x n later at m then =
    ap (λ (r : List Record). cond (nat_eq t n) r []) (send_again clients f s (session_at f.sessions t) now id later m.1 then)
record_by clients f s h _ x n later at m then = refl

found_before : (f : Facts) (e : Entry) (es : List Entry) (later : List Held) → FoundIn (after_all f (e ∷ es)).held later → FoundIn f.held later
found_before f e es later then id h at = then id h (held_stays f (e ∷ es) id h at)

records_known : (clients : Meaning) (f : Facts) (s : SoundFacts clients f) (h : HasSessions f) (es : List Entry) (x : Session) (n : ℕ) (later : List Held)
    → session_at f.sessions n ≡ Some x → AllMeet clients f es → FoundIn (after_all f es).held later → records_in later n es ≡ output_in f n es
records_known clients f s h [] x n later at m then = refl
records_known clients f s h (e ∷ es) x n later at m then =
    let one : records_by later n e ≡ output_by f n e = record_by clients f s h e x n later at m.0 (found_before f e es later then) in
    let rest : records_in later n es ≡ output_in (after f e) n es =
    records_known clients (after f e) (sound_after clients f e (meets_fits clients f e m.0) s) (sessions_after_one clients f e m.0 h) es x n later
    ((continues_after f e).same_session n x at) m.1 then in
    λ i. one i ++ rest i

-- ---- a session that may yet begin

abbrev sent_from : Option Session → List Record → List Record
sent_from None records = []
sent_from (Some s) records = first_records s ++ records

-- an output is of a session that is known
none_out : (clients : Meaning) (f : Facts) (n t now : ℕ) (what : Out) (A : List Record) → session_at f.sessions n ≡ None → IsDue clients f (session_at f.sessions t) now what
    → (b : Bool) → nat_eq t n ≡ b → cond b A [] ≡ []
none_out clients f n t now what A none due true e =
    let same : t ≡ n = eqb-true t n e in
    absurd (subst (λ (o : Option Session). IsDue clients f o now what) (ap (session_at f.sessions) same ∙ none) due)
none_out clients f n t now what A none due false e = refl

session_at-fresh : (sessions : List Session) (x : Session) (n : ℕ) → session_at sessions n ≡ None → session_at (sessions ++ x ∷ []) n ≡ cond (nat_eq x.number n) (Some x) None
session_at-fresh [] x n e = refl
session_at-fresh (y ∷ sessions) x n e =
    elim (nat_eq y.number n) as (λ b. cond b (Some y) (session_at sessions n) ≡ None
    → cond b (Some y) (session_at (sessions ++ x ∷ []) n) ≡ cond (nat_eq x.number n) (Some x) None) [
      | true ↦ λ e. cc
      | false ↦ λ e. session_at-fresh sessions x n e
    ] e

-- an entry that adds nothing to the session's output
rest_unknown : (f : Facts) (e : Entry) (es : List Entry) (n : ℕ) (later : List Held) (o : Option Session)
    → sent_from o (records_in later n es) ≡ output_in (after f e) n es → records_by later n e ≡ [] → output_by f n e ≡ []
    → sent_from o (records_in later n (e ∷ es)) ≡ output_in f n (e ∷ es)
rest_unknown f e es n later o rest a b =
    ap (λ (t : List Record). sent_from o (t ++ records_in later n es)) a
    ∙ (rest ∙ ap (λ (t : List Record). t ++ output_in (after f e) n es) (sym b))

records_unknown : (clients : Meaning) (f : Facts) (s : SoundFacts clients f) (h : HasSessions f) (es : List Entry) (n : ℕ) (later : List Held)
    → session_at f.sessions n ≡ None → AllMeet clients f es → FoundIn (after_all f es).held later
    → sent_from (session_at (after_all f es).sessions n) (records_in later n es) ≡ output_in f n es
records_unknown clients f s h [] n later none m then = ap (λ (o : Option Session). sent_from o []) none
records_unknown clients f s h (entry.Session y ∷ es) n later none m then =
    elim (nat_eq y.number n) as (λ b. nat_eq y.number n ≡ b → sent_from (session_at (after_all f (entry.Session y ∷ es)).sessions n) (records_in later n es)
    ≡ cond b (first_records y) [] ++ output_in (after f (entry.Session y)) n es) [
      | true ↦ λ e.
          let g : Facts = after f (entry.Session y) in
          let at : session_at g.sessions n ≡ Some y = session_at-fresh f.sessions y n none ∙ ap (λ b. cond b (Some y) None) e in
          let known : session_at (after_all g es).sessions n ≡ Some y = (continues_all g es).same_session n y at in
          let rest : records_in later n es ≡ output_in g n es =
          records_known clients g (sound_after clients f (entry.Session y) (meets_fits clients f (entry.Session y) m.0) s) (sessions_after_one clients f (entry.Session y) m.0 h) es y n later at m.1 then in
          ap (λ (o : Option Session). sent_from o (records_in later n es)) known ∙ ap (λ (t : List Record). first_records y ++ t) rest
      | false ↦ λ e.
          let g : Facts = after f (entry.Session y) in
          let still : session_at g.sessions n ≡ None = session_at-fresh f.sessions y n none ∙ ap (λ b. cond b (Some y) None) e in
          records_unknown clients g (sound_after clients f (entry.Session y) (meets_fits clients f (entry.Session y) m.0) s) (sessions_after_one clients f (entry.Session y) m.0 h) es n later still m.1 then
    ] refl
records_unknown clients f s h (entry.Out t now what ∷ es) n later none m then =
    rest_unknown f (entry.Out t now what) es n later (session_at (after_all f ((entry.Out t now what) ∷ es)).sessions n)
    (records_unknown clients (after f (entry.Out t now what)) (sound_after clients f (entry.Out t now what) (meets_fits clients f (entry.Out t now what) m.0) s) (sessions_after_one clients f (entry.Out t now what) m.0 h) es n later none m.1 then)
    (none_out clients f n t now what (out_records later what) none m.0.1 (nat_eq t n) refl)
    (none_out clients f n t now what (out_records f.held what) none m.0.1 (nat_eq t n) refl)
records_unknown clients f s h (e ∷ es) n later none m then =
    rest_unknown f e es n later (session_at (after_all f (e ∷ es)).sessions n)
    (records_unknown clients (after f e) (sound_after clients f e (meets_fits clients f e m.0) s)
    (sessions_after_one clients f e m.0 h) es n later none m.1 then) refl refl

-- ---- journals

pub sent_is : (clients : Meaning) (j : List (List Entry)) (n : ℕ) → Legal clients j → sent j n ≡ output_in nothing n (entries_of j)
sent_is clients j n l =
    let es : List Entry = entries_of j in
    let whole : facts j ≡ after_all nothing es = after_batches-is nothing j in
    let then : FoundIn (after_all nothing es).held (facts j).held = λ id h at. ap (λ (f : Facts). held_at f.held id) whole ∙ at in
    from (session_at (facts j).sessions n)
    ∙ (ap (λ (f : Facts). sent_from (session_at f.sessions n) (records_in (facts j).held n es)) whole
    ∙ records_unknown clients nothing (sound_nothing clients) sessions_of_nothing es n (facts j).held refl (legal_meets clients j l) then)
  where
    from : (o : Option Session) → sent_if_begun o j n
        ≡ sent_from o (records_in (facts j).held n (entries_of j))
    from None = refl
    from (Some x) = refl

-- what is sent grows by what the new batches add
pub sent_append : (clients : Meaning) (j more : List (List Entry)) (n : ℕ) → Legal clients (j ++ more) → sent (j ++ more) n ≡ sent j n ++ output_of (facts j) n more
sent_append clients j more n l =
    let whole : facts j ≡ after_all nothing (entries_of j) = after_batches-is nothing j in
    sent_is clients (j ++ more) n l
    ∙ (ap (output_in nothing n) (entries_of-append j more)
    ∙ (output_in-append nothing n (entries_of j) (entries_of more)
    ∙ ((λ i. sym (sent_is clients j n (legal-front clients j more l)) i ++ output_in (sym whole i) n (entries_of more))
    ∙ ap (λ (t : List Record). sent j n ++ t) (sym (output_of-is (facts j) n more)))))

pub sent_push : (clients : Meaning) (j : List (List Entry)) (b : List Entry) (n : ℕ) → Legal clients j → Allowed clients (facts j) b
    → sent (j ++ b ∷ []) n ≡ sent j n ++ output_in (facts j) n b
sent_push clients j b n l a =
    sent_append clients j (b ∷ []) n (legal-push clients j b l a)
    ∙ ap (λ (t : List Record). sent j n ++ t) (append-nil (output_in (facts j) n b))

-- ---- batches

-- entries that begin no session and are no outputs add nothing
pub silent_adds_nothing : (f : Facts) (n : ℕ) (es : List Entry) → list_all is_silent es ≡ true → output_in f n es ≡ []
silent_adds_nothing f n [] k = refl
silent_adds_nothing f n (e ∷ es) k =
    let both = and_parts (is_silent e) (list_all is_silent es) k in
    ap (λ (t : List Record). t ++ output_in (after f e) n es) (none e both.0) ∙ silent_adds_nothing (after f e) n es both.1
  where
    none : (e : Entry) → is_silent e ≡ true → output_by f n e ≡ []
    none (entry.Session s) k = absurd (false≢true k)
    none (entry.Out s now what) k = absurd (false≢true k)
    none _ k = refl

settling_is_silent : (e : Entry) → IsSettlingEntry e → is_silent e ≡ true
settling_is_silent (entry.Judged id) k = refl
settling_is_silent (entry.Deliver id) k = refl
settling_is_silent (entry.Invalid id) k = refl
settling_is_silent _ k = absurd k

pub settling_silent : (clients : Meaning) (f : Facts) (es : List Entry) → IsSettling clients f es → list_all is_silent es ≡ true
settling_silent clients f [] s = refl
settling_silent clients f (e ∷ es) s =
    and_from (is_silent e) (list_all is_silent es) (settling_is_silent e (next_is_settling clients f e s.0)) (settling_silent clients (after f e) es s.1)

taken_is_silent : (session : ℕ) (e : Entry) → is_taken_on session e ≡ true → is_silent e ≡ true
taken_is_silent session (entry.Arrive s m) k = refl
taken_is_silent session (entry.Again s id) k = refl
taken_is_silent session (entry.Offered s id) k = refl
taken_is_silent session (entry.Seen s id) k = refl
taken_is_silent session (entry.Asked s id) k = refl
taken_is_silent session _ k = absurd (false≢true k)

pub take_silent : (clients : Meaning) (f : Facts) (s k : ℕ) (rest : List Entry) → Allowed clients f (entry.Take s k ∷ rest)
    → list_all is_silent (entry.Take s k ∷ rest) ≡ true
take_silent clients f s k rest a = ap (list_all is_silent) a.1.taken_so ∙ all_of_record is_silent s (taken_is_silent s) f a.1.read

-- what a session begins with
pub sent_begins : (clients : Meaning) (j : List (List Entry)) (x : Session) → Legal clients j → Allowed clients (facts j) (entry.Session x ∷ [])
    → sent (j ++ (entry.Session x ∷ []) ∷ []) x.number ≡ first_records x
sent_begins clients j x l a =
    let h : HasSessions (facts j) = legal_sessions clients j l in
    let b : MayBegin (facts j) x = a.2 in
    sent_push clients j (entry.Session x ∷ []) x.number l a
    ∙ ((λ i. none (session_at (facts j).sessions x.number) refl h b.numbered i ++ (cond (nat_eq_equiv.refl x.number i) (first_records x) [] ++ []))
    ∙ append-nil (first_records x))
  where
    none : (o : Option Session) → session_at (facts j).sessions x.number ≡ o → HasSessions (facts j)
        → x.number ≡ (facts j).begun → sent_if_begun o j x.number ≡ []
    none None at h is = refl
    none (Some s) at h is = let below = (h.each x.number s at).begun in absurd (omega (arith, below, is))

pub sent_whole : (clients : Meaning) (j : List (List Entry)) (n : ℕ) → Legal clients j → sent j n ≡ output_of nothing n j
sent_whole clients j n l = sent_is clients j n l ∙ sym (output_of-is nothing n j)

-- a session that has not begun has taken and sent nothing
pub not_begun_sent : (clients : Meaning) (j : List (List Entry)) (n : ℕ) → Legal clients j → session_at (facts j).sessions n ≡ None
    → (takes_of (facts j).takes n ≡ 0) × (sent j n ≡ [])
not_begun_sent clients j n l none = (
  (legal_sessions clients j l).untaken n none,
  ap (λ (o : Option Session). sent_if_begun o j n)
      none,
)
