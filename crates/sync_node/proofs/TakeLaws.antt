-- A record that is taken: its batch, what it says of its link, and the items behind it; and a batch
-- that would pass the limit.
use Rattle.std.proofs.Common.{◌≡◌, ℕ, List, ◌∷◌, sym, ap, ◌∙◌, subst, is_some, ◌<◌, Bool, true, false, cond, [], refl, arith, Option, Some, None, Err}
use Rattle.journal_state.specs.Whole.{StateValue}
use Rattle.outside.specs.Outside.{Outside}
use Rattle.sync_ids.specs.Records.{IsRecord}
use Rattle.sync_ids.specs.declared.records.Record.{Record}
use Rattle.session_core.specs.Taking.{take_of}
use Rattle.sync_rules.specs.declared.entries.Entry.{Entry}
use Rattle.sync_rules.specs.declared.entries.Session.{Session}
use Rattle.sync_rules.specs.Clients.{Meaning}
use Rattle.sync_rules.specs.Facts.{Facts, contact_in, contact_of, takes_of, after_all}
use Rattle.sync_rules.specs.Legal.{Allowed}
use Rattle.sync_rules.specs.Sessions.{taken_from}
use Rattle.sync_store.specs.Store.{StoreValue, format_meant, written_in}
use Rattle.sync_course.specs.LinkTurns.{next_take}
use Rattle.sync_node.specs.Working.{IsOpenToTake, MayGather}
use Rattle.entry_codec.specs.Payloads.{payload_len}
use Rattle.entry_codec.specs.Standing.{room_of}
use Rattle.sync_store.specs.Commits.{needed}
use Rattle.record_grammar.specs.declared.stream.Item.{Item}
use Rattle.std.proofs.lemmas.Bool.{false≢true}
use Rattle.record_grammar.specs.declared.stream.Ending.{Ending}
use Rattle.sync_course.proofs.LinkLaws.{contains_zero, zero_contained}
use Rattle.sync_course.specs.Links.{closes, has_zero, items_after, link_after_take, nonce_after}
use Rattle.sync_course.specs.Links.{stands_behind}
use Rattle.sync_course.specs.Reading.{IsReading}
use Rattle.sync_node.specs.declared.link.Link.{Link}
use Rattle.sync_course.specs.declared.ends.LinkEnd.{LinkEnd}
use Rattle.sync_node.specs.Sending.{ClosesBy, LearnsNonce, nonce_with}
use Rattle.sync_node.specs.Courses.{IsTaking, link_at}
use Rattle.sync_rules.specs.declared.entries.Entry.TheVariants as entry
use Rattle.sync_store.specs.Commits as store_commits
use Rattle.sync_store.specs.declared.fault.StoreFault.TheVariants as store_fault
use Rattle.sync_ids.specs.declared.records.Record.TheVariants as record_kind
use Rattle.sync_course.specs.declared.ends.LinkEnd.TheVariants as link_end

-- the batch of a session's next record, which may follow
pub record IsNextTake (clients : Meaning) (session : ℕ) (r : Record) (s : StoreValue)
    (batch : List Entry) : Type 0 where
  pub is : batch ≡ next_take s.state.facts session r
  pub allowed : Allowed clients s.state.facts batch

-- it is the one that the code makes, by the state that the store lends
pub takes_next : {clients : Meaning} {session : Session} {k : ℕ} {r : Record} {s : StoreValue}
    {o : Outside} {state : StateValue} {batch : List Entry} → IsOpenToTake clients session s o
    → IsRecord r → state ≡ s.state → k ≡ takes_of state.facts.takes session.number
    → batch ≡ take_of s.state.facts session k r
    → IsNextTake clients session.number r s batch
takes_next {clients = clients} {session = session} {k = k} {r = r} {s = s} {batch =
    batch} may within same told is =
    let contact : contact_of s.state.facts.sessions session.number ≡ session.contact =
    ap contact_in may.known in
    let numbered : k ≡ takes_of s.state.facts.takes session.number =
    told ∙ ap (λ (v : StateValue). takes_of v.facts.takes session.number) same in
    record {
      is =
          is ∙ ap (λ (n : ℕ). take_of s.state.facts session n r) numbered
          ∙ ap (λ (c : ℕ). entry.Take session.number (takes_of s.state.facts.takes session.number)
          ∷ taken_from s.state.facts session.number c r) (sym contact);
      allowed =
          subst (λ (b : List Entry). Allowed clients s.state.facts b) (sym is) (
            may.settled,
            record {
              known_session = ap is_some may.known;
              numbered = numbered;
              read = r;
              within = within;
              taken_so =
                  ap (λ (c : ℕ). taken_from s.state.facts session.number c r) (sym contact);
            },
          );
    }

pub open_for : {clients : Meaning} {link : ℕ} {session session' : Session} {s : StoreValue}
    {o : Outside} → session' ≡ session → MayGather clients link session s o
    → IsOpenToTake clients session' s o
open_for {clients = clients} {s = s} {o = o} same may =
    subst (λ (x : Session). IsOpenToTake clients x s o) (sym same)
    (record { waits = may.waits; settled = may.settled; known = may.known })

-- ---- the limit

-- a commit that answered Full left the store as it was, which has no room for the batch still
pub over_limit : (s s' : StoreValue) (batch : List Entry)
    → store_commits.AnswersCommit s s' batch (Err store_fault.Full) → s'.limit < needed s' batch
over_limit s s' batch answer =
    let stays = answer.2 in
    omega (
      arith,
      answer.1,
      stays.limit,
      stays.end,
      ap (λ n. payload_len (format_meant n) batch) stays.format,
      ap (λ n. room_of (format_meant n) (after_all s'.state.facts batch)) stays.format,
      ap (λ (f : Facts). room_of (written_in s) (after_all f batch)) stays.facts,
    )

-- ---- the next item

nonce_same : (nonce : Option (List ℕ)) (r : Record) → nonce_after nonce r ≡ nonce_with nonce r
nonce_same None (record_kind.Ack ids) = refl
nonce_same None (record_kind.Message m) = refl
nonce_same None (record_kind.Offer ids) = refl
nonce_same None (record_kind.Request ids) = refl
nonce_same None (record_kind.Versions versions) = refl
nonce_same None (record_kind.Priority nonce) = refl
nonce_same (Some nonce) r = refl

versions_end : (place : ℕ) (versions : List ℕ) (old new : LinkEnd) (b : Bool)
    → has_zero versions ≡ b → ClosesBy place (record_kind.Versions versions) old new
    → cond (cond b false true) (link_end.NoVersion place) old ≡ new
versions_end place versions old new true is closes_by =
    sym (closes_by.0 (zero_contained versions is))
versions_end place versions old new false is closes_by =
    sym (closes_by.1 (λ c. false≢true (sym is ∙ contains_zero versions c)))

pub end_same : (place : ℕ) (r : Record) (old new : LinkEnd) → ClosesBy place r old new
    → cond (closes r) (link_end.NoVersion place) old ≡ new
end_same place (record_kind.Versions versions) old new c =
    versions_end place versions old new (has_zero versions) refl c
end_same place _ old new c = sym c

-- what a record says of its link
pub learned : (place : ℕ) (r : Record) (l l' : Link) (heard : List ℕ) → LearnsNonce place r l l'
    → link_after_take place r (link_at l heard) ≡ link_at l' heard
learned place r l l' heard learns = λ i. record {
  contact = ap (λ x. x.contact) (sym learns.same_session) i;
  nonce = (nonce_same l.nonce r ∙ sym learns.nonce) i;
  heard = heard;
  stands = end_same place r l.end l'.end learns.end i;
}

-- the items that are to come behind a record
pub to_come : (place : ℕ) (r : Record) (others : List Item) (heard left : List ℕ) (old new : Link)
    → old.end ≡ link_end.Going
    → ClosesBy place r old.end new.end → IsReading heard left new.reader others
    → IsTaking heard left new (items_after r others) new.end
to_come place r others heard left old new going c reading =
    by (closes r) (ap (cond (closes r) (link_end.NoVersion place)) (sym going)
    ∙ end_same place r old.end new.end c)
  where
    by : (b : Bool) → cond b (link_end.NoVersion place) link_end.Going ≡ new.end
        → IsTaking heard left new (cond b [] others) new.end
    by true is = subst (IsTaking heard left new []) is refl
    by false is = subst (IsTaking heard left new others) is reading

-- ---- a piece

pub not_taking : (heard left : List ℕ) (l : Link) (its : List Item) (e : LinkEnd)
    → (e ≡ link_end.Going → ⊥) → IsTaking heard left l its e → its ≡ []
not_taking heard left l its link_end.Going closed t = absurd (closed refl)
not_taking heard left l its _ closed t = t

pub closed_behind : (e : LinkEnd) (x : Ending) → (e ≡ link_end.Going → ⊥) → stands_behind e x ≡ e
closed_behind link_end.Going x closed = absurd (closed refl)
closed_behind _ x closed = refl
