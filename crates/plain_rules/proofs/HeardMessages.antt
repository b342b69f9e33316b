-- A journal that hears a message and settles goes on hearing.
use Rattle.std.proofs.Common.{◌≡◌, ℕ, ◌+◌, true, false, not, cond, List, [], ◌∷◌, ◌++◌, refl, sym}
use Rattle.std.proofs.Common.{◌∙◌, ap, subst, Some, None, is_some, Option, unwrap_or}
use Rattle.std.specs.FinMap as fin_map
use Rattle.std.specs.Cmp.{nat_cmp_total, unsigned_tied, nat_eq_equiv}
use Rattle.std.specs.Ordering.{nat_cmp}
use Rattle.sync_ids.specs.Values.{MessageValue}
use Rattle.sync_ids.specs.Ids.{message_id_of}
use Rattle.sync_ids.specs.Records.{IsRecord}
use Rattle.sync_ids.specs.declared.records.Record.TheVariants as record_kind
use Rattle.sync_rules.specs.declared.entries.Entry.{Entry}
use Rattle.sync_rules.specs.declared.entries.Entry.TheVariants as entry
use Rattle.sync_rules.specs.Clients.{Meaning}
use Rattle.sync_rules.specs.Facts.{Facts, after, after_all, after_batches, nothing, facts, held_at}
use Rattle.sync_rules.specs.Facts.{session_at, contact_of, takes_of, level_at, is_invisible}
use Rattle.sync_rules.specs.Sessions.{taken_message, taken_message_of, is_welcome, one_if}
use Rattle.sync_rules.specs.Legal.{IsSettling, AllSettling, Legal}
use Rattle.sync_rules.specs.Hearing.{HearsRecord, IsHearing, take_batch}
use Rattle.sync_rules.specs.EntryTests.{IsSettlingEntry}
use Rattle.sync_rules.proofs.StepLaws.{next_is_settling}
use Rattle.sync_rules.proofs.Settling.{goes_on_both, after_batches-append}
use Rattle.sync_rules.proofs.WorkLaws.{facts-push, settles_legal}
use Rattle.sync_rules.proofs.HearLaws.{Stays, stays_all, stays_batches}

-- ---- takes are counted

settling_entry_takes : (f : Facts) (e : Entry) → IsSettlingEntry e → (after f e).takes ≡ f.takes
settling_entry_takes f (entry.Judged id) k = refl
settling_entry_takes f (entry.Deliver id) k = refl
settling_entry_takes f (entry.Invalid id) k = refl
settling_entry_takes f _ k = absurd k

settling_takes : (clients : Meaning) (f : Facts) (es : List Entry) → IsSettling clients f es → (after_all f es).takes ≡ f.takes
settling_takes clients f [] s = refl
settling_takes clients f (e ∷ es) s =
    settling_takes clients (after f e) es s.1 ∙ settling_entry_takes f e (next_is_settling clients f e s.0)

all_settling_takes : (clients : Meaning) (f : Facts) (bs : List (List Entry)) → AllSettling clients f bs → (after_batches f bs).takes ≡ f.takes
all_settling_takes clients f [] s = refl
all_settling_takes clients f (b ∷ bs) s = all_settling_takes clients (after_all f b) bs s.1 ∙ settling_takes clients f b s.0.2

message_takes : (f g : Facts) (session contact : ℕ) (m : MessageValue) → (after_all g (taken_message f session contact m)).takes ≡ g.takes
message_takes f g session contact m =
    elim (is_welcome f contact m.group) as (λ b. (after_all g (cond b (taken_message_of f session contact m (held_at f.held (message_id_of m))) [])).takes ≡ g.takes) [
      | true ↦
          elim (held_at f.held (message_id_of m)) as (λ o. (after_all g (taken_message_of f session contact m o)).takes ≡ g.takes) [
            | None ↦ refl
            | Some h ↦
                elim (not (is_invisible (level_at f.levels contact h.message.group))) as (λ b. (after_all g (one_if b (entry.Again session (message_id_of m)))).takes ≡ g.takes) [
                  | true ↦ refl
                  | false ↦ refl
                ]
          ]
      | false ↦ refl
    ]

one_more_take : (takes : fin_map.FinMap nat_cmp ℕ) (s : ℕ) → takes_of (fin_map.insert takes s (takes_of takes s + 1)) s ≡ takes_of takes s + 1
one_more_take takes s =
    ap (λ (o : Option ℕ). unwrap_or o 0)
    (fin_map.get-insert nat_cmp_total takes s (takes_of takes s + 1) s)
    ∙ ap (λ b. unwrap_or (cond b (Some (takes_of takes s + 1)) (fin_map.get takes s)) 0)
    (unsigned_tied s s ∙ nat_eq_equiv.refl s)

-- ---- a message is taken

module _ (clients : Meaning) (old : List (List Entry)) (session contact k : ℕ) (h : IsHearing clients old session contact k) (m : MessageValue)
    (within : IsRecord (record_kind.Message m)) where
  batch : List Entry
  batch = take_batch (facts old) session k (record_kind.Message m)

  pub take_legal : Legal clients (old ++ take_batch (facts old) session k (record_kind.Message m)
      ∷ [])
  take_legal =
      goes_on_both clients nothing old (take_batch (facts old) session k (record_kind.Message m)
      ∷ []) h.legal (
        (
          h.settled,
          record {
            known_session = h.known_session;
            numbered = h.numbered;
            read = record_kind.Message m;
            within = within;
            taken_so = refl;
          },
        ),
        tt,
      )

  pub hears_on : (new : List (List Entry)) → HearsRecord clients old session k (record_kind.Message m) new → IsHearing clients new session contact (k + 1)
  hears_on new is =
      let f : Facts = facts old in
      let taking : List Entry = take_batch (facts old) session k (record_kind.Message m) in
      let more = is.settles.more in
      let mid : facts (old ++ taking ∷ []) ≡ after_all f taking = facts-push old taking in
      let end : facts new ≡ after_batches (facts (old ++ taking ∷ [])) more = ap facts is.settles.extends ∙ after_batches-append nothing (old ++ taking ∷ []) more in
      let whole : facts new ≡ after_batches (after_all f taking) more = end ∙ ap (λ (g : Facts). after_batches g more) mid in
      let first : Stays f (after_all f taking) session = stays_all f taking session h.known_session in
      let last : Stays (after_all f taking) (after_batches (after_all f taking) more) session = stays_batches (after_all f taking) more session first.known in
      let settling : AllSettling clients (after_all f taking) more = subst (λ (g : Facts). AllSettling clients g more) mid is.settles.settling in
      let same : (after_batches (after_all f taking) more).takes ≡ (after f (entry.Take session k)).takes =
      all_settling_takes clients (after_all f taking) more settling
      ∙ message_takes f (after f (entry.Take session k)) session (contact_of f.sessions session) m in
      record {
        legal = settles_legal clients (old ++ taking ∷ []) new is.settles take_legal;
        settled = is.settled;
        known_session = ap (λ (g : Facts). is_some (session_at g.sessions session)) whole ∙ last.known;
        same_contact = ap (λ (g : Facts). contact_of g.sessions session) whole ∙ (last.contact ∙ (first.contact ∙ h.same_contact));
        numbered =
            ap (λ (n : ℕ). n + 1) h.numbered
            ∙ (sym (one_more_take f.takes session)
            ∙ sym (ap (λ (g : Facts). takes_of g.takes session) whole ∙ ap (λ t. takes_of t session) same));
      }
