use Rattle.std.proofs.Common.{◌≡◌, ◌+◌, ◌≤◌, List, ℕ, length, refl, sym, ap, ◌∙◌, subst, false, arith}
use Rattle.frame_journal.specs.Group.{group_len}
use Rattle.journal_state.specs.Whole.{KnowsJudgements, StateValue}
use Rattle.sync_rules.specs.declared.entries.Entry.{Entry}
use Rattle.sync_rules.specs.Clients.{Meaning}
use Rattle.sync_rules.specs.Facts.{after_all}
use Rattle.sync_rules.specs.Legal.{Allowed}
use Rattle.entry_codec.specs.Payloads.{payload_len}
use Rattle.sync_store.specs.Store.{StoreValue, written_in}
use Rattle.sync_store.specs.Inside.{value_of}
use Rattle.sync_store.specs.Commits.{GainsBatch, MayAdd}
use Rattle.sync_store.specs.Groups.{HasGathered, HasGroupRoom}
use Rattle.sync_store.proofs.FitSteps.{framed_len}
use Rattle.sync_store.proofs.GroupSteps.{gathered_more, group_some, joins_group}
use Rattle.sync_store.proofs.Growth.{grown_store}
use Rattle.sync_store.proofs.Limits.{counts_few, few_held}
use Rattle.sync_store.proofs.store.Store.add.Goals as goal

-- what the store becomes once the frame waits and the batch is taken
gained : (clients : Meaning) (s : StoreValue) (end : ℕ) (state : StateValue) (waiting : List ℕ)
    (batch : List Entry) (framed : List ℕ) → MayAdd clients s batch framed → s.closed ≡ false
    → state.facts ≡ after_all s.state.facts batch → s.end ≡ end + group_len s.waiting
    → 1 ≤ length s.waiting → length waiting ≡ length s.waiting + length framed
    → GainsBatch s (record s {
      state = state;
      end = end + group_len waiting;
      waiting = waiting;
    }) batch
gained clients s end state waiting batch framed may still facts is some long =
    let framed_is : length framed ≡ 5 + payload_len (written_in s) batch =
    framed_len s batch framed may.is_framed may.payload_is in
    record {
      facts = facts;
      file = refl;
      format = refl;
      generation = refl;
      end = omega (arith, is, some, long, framed_is);
      limit = refl;
      closed = still;
    }

pub take_known-requires-clause-allowed : goal.take_known-requires-clause-allowed
take_known-requires-clause-allowed g c =
    let clients = g.C.Clients.meaning c.args.clients.now in (
      clients,
      subst (λ (v : StoreValue). Allowed clients v.state.facts c.args.batch)
          (sym c.self.view_is) c.requires.may.allowed,
    )

pub take_known-requires-clause-numbers : goal.take_known-requires-clause-numbers
take_known-requires-clause-numbers g c =
    let store = c.self.invariant in
    record {
      held = few_held (value_of c.self.inside) store;
      records = λ session.
          omega (
            arith,
            store.numbers.records session,
            store.roomy,
            counts_few (written_in (value_of c.self.inside)) (value_of c.self.inside).end
                (omega (arith, store.roomy)),
          );
    }

pub invariant_of-self : goal.invariant_of-self
invariant_of-self g c =
    let clients = g.C.Clients.meaning c.args.clients.now in
    let s = value_of c.self.inside in
    let framed = c.args.framed.now in
    let may = subst (λ (v : StoreValue). MayAdd clients v c.args.batch framed)
    (sym c.self.view_is) c.requires.may in
    let still : s.closed ≡ false = ap (λ (v : StoreValue). v.closed) c.self.view_is
    ∙ c.requires.still_open in
    let some = group_some s.waiting c.self.invariant.waits in
    grown_store c.cite_laws.ensures clients s _ c.args.batch framed c.self.invariant may
    (gained clients s c.self.inside.journal.end c.take_known.new.self c.add.new.self c.args.batch
    framed may still c.take_known.ensures.facts refl some c.add.ensures.long)
    (joins_group framed s.waiting c.add.new.self c.add.ensures.added c.self.invariant.waits)

pub returns-clause-gains : goal.returns-clause-gains
returns-clause-gains g c =
    let clients = g.C.Clients.meaning c.args.clients.now in
    let s = value_of c.self.inside in
    let framed = c.args.framed.now in
    let may = subst (λ (v : StoreValue). MayAdd clients v c.args.batch framed)
    (sym c.self.view_is) c.requires.may in
    let still : s.closed ≡ false = ap (λ (v : StoreValue). v.closed) c.self.view_is
    ∙ c.requires.still_open in
    let some = group_some s.waiting c.self.invariant.waits in
    subst (λ (v : StoreValue). GainsBatch v (record s {
      state = c.take_known.new.self;
      end = c.self.inside.journal.end + group_len c.add.new.self;
      waiting = c.add.new.self;
    }) c.args.batch) c.self.view_is
    (gained clients s c.self.inside.journal.end c.take_known.new.self c.add.new.self c.args.batch
    framed may still c.take_known.ensures.facts refl some c.add.ensures.long)

pub returns-clause-gathers : goal.returns-clause-gathers
returns-clause-gathers g c before more gathered =
    let clients = g.C.Clients.meaning c.args.clients.now in
    let s = value_of c.self.inside in
    let framed = c.args.framed.now in
    let may = subst (λ (v : StoreValue). MayAdd clients v c.args.batch framed)
    (sym c.self.view_is) c.requires.may in
    let still : s.closed ≡ false = ap (λ (v : StoreValue). v.closed) c.self.view_is
    ∙ c.requires.still_open in
    let some = group_some s.waiting c.self.invariant.waits in
    let g' = subst (λ (v : StoreValue). HasGathered clients before v more) (sym c.self.view_is)
    gathered in
    let room = subst HasGroupRoom (sym c.self.view_is) c.requires.waits in
    gathered_more clients before s _ more c.args.batch framed g' may
    (gained clients s c.self.inside.journal.end c.take_known.new.self c.add.new.self c.args.batch
    framed may still c.take_known.ensures.facts refl some c.add.ensures.long)
    c.add.ensures.added c.add.ensures.long room

pub returns-clause-knows : goal.returns-clause-knows
returns-clause-knows g c knows =
    let clients = g.C.Clients.meaning c.args.clients.now in
    c.take_known.ensures.knows clients
    (subst (λ (v : StoreValue). KnowsJudgements clients v.state) (sym c.self.view_is) knows)

pub add-requires-clause-waits : goal.add-requires-clause-waits
add-requires-clause-waits g c = c.self.invariant.waits

pub add-requires-clause-place : goal.add-requires-clause-place
add-requires-clause-place g c = subst HasGroupRoom (sym c.self.view_is) c.requires.waits
