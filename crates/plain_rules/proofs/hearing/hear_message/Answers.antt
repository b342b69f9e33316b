-- The batch that is pushed is the Take batch, and settling goes on from there.
use Rattle.std.proofs.Common.{◌≡◌, List, [], ◌∷◌, ◌++◌, Result, Ok, Err, OnOk, sym, ◌∙◌, ap, subst}
use Rattle.sync_ids.specs.declared.records.Record.TheVariants as record_kind
use Rattle.sync_rules.specs.declared.entries.Entry.{Entry}
use Rattle.sync_rules.specs.Hearing.{SettlesJournal, take_batch}
use Rattle.sync_rules.specs.Legal.{Legal}
use Rattle.sync_rules.specs.Facts.{facts}
use Rattle.plain_rules.proofs.HeardMessages.{take_legal, hears_on}
use Rattle.plain_rules.proofs.hearing.hear_message.Goals as goal

on_ok : {T E A B : Type 0} (r : Result T E) → (A → B) → OnOk r A → OnOk r B
on_ok (Ok x) f a = f a
on_ok (Err e) f a = tt

pub returns-clause-goes_on : goal.returns-clause-goes_on
returns-clause-goes_on g c =
    let clients = g.C.Clients.meaning c.args.clients.now in
    let old : List (List Entry) = c.args.j.now.items in
    let batch : c.in_ok-batch.batch ≡ take_batch (facts old) c.args.session c.args.k
    (record_kind.Message c.args.message) =
    c.in_ok-batch.ensures ∙ ap (λ (j : List (List Entry)). take_batch (facts j) c.args.session
    c.args.k (record_kind.Message c.args.message)) c.as_slice.ensures.value in
    let mid : c.push.new.self.items ≡ old ++ take_batch (facts old) c.args.session c.args.k
    (record_kind.Message c.args.message) ∷ [] =
    c.in_ok-push.ensures.items ∙ ap (λ (b : List Entry). old ++ b ∷ []) batch in
    let settles : SettlesJournal clients (old ++ take_batch (facts old) c.args.session c.args.k
    (record_kind.Message c.args.message) ∷ []) c.settle_in.new.j.items =
    subst (λ (j : List (List Entry)). SettlesJournal clients j c.settle_in.new.j.items) mid c.settle_in.ensures.settles in
    on_ok c.settle_in.result
    (λ s. hears_on clients old c.args.session c.args.contact c.args.k c.requires c.args.message c.messages_are_within.ensures c.settle_in.new.j.items
    (record { settles = settles; settled = s }))
    c.settle_in.ensures.settled

pub returns-clause-legal : goal.returns-clause-legal
returns-clause-legal g c =
    let clients = g.C.Clients.meaning c.args.clients.now in
    let old : List (List Entry) = c.args.j.now.items in
    let batch : c.in_ok-batch.batch ≡ take_batch (facts old) c.args.session c.args.k
    (record_kind.Message c.args.message) =
    c.in_ok-batch.ensures ∙ ap (λ (j : List (List Entry)). take_batch (facts j) c.args.session
    c.args.k (record_kind.Message c.args.message)) c.as_slice.ensures.value in
    let mid : c.push.new.self.items ≡ old ++ take_batch (facts old) c.args.session c.args.k
    (record_kind.Message c.args.message) ∷ [] =
    c.in_ok-push.ensures.items ∙ ap (λ (b : List Entry). old ++ b ∷ []) batch in
    c.settle_in.ensures.legal
    (subst (Legal clients) (sym mid)
    (take_legal clients old c.args.session c.args.contact c.args.k c.requires c.args.message c.messages_are_within.ensures))
