-- The shared ids are found by going over entries.
use Rattle.std.proofs.Common.{◌≡◌, Bool, true, false, cond, List, [], ◌∷◌, ◌++◌, refl, sym, ◌∙◌, ap, append_assoc, append-nil}
use Rattle.sync_rules.specs.declared.entries.Entry.{Entry}
use Rattle.sync_rules.specs.declared.entries.Entry.TheVariants as entry
use Rattle.sync_rules.specs.Clients.{Meaning}
use Rattle.sync_rules.specs.Facts.{Facts, Held, after, after_all, after_batches, nothing, facts, contact_of, authored, arrived, kept_as}
use Rattle.sync_rules.specs.Sessions.{may_share, ids_where, shared_ids}
use Rattle.sync_rules.specs.Steps.{answer_of}
use Rattle.sync_rules.specs.Scans.{message_of}
use Rattle.plain_rules.specs.Shares.{shared_by, shared_of, shared_among}

ids_where-append : (test : Held → Bool) (hs gs : List Held) → ids_where test (hs ++ gs) ≡ ids_where test hs ++ ids_where test gs
ids_where-append test [] gs = refl
ids_where-append test (h ∷ hs) gs =
    elim (test h) as (λ b. cond b (h.id ∷ ids_where test (hs ++ gs)) (ids_where test (hs ++ gs)) ≡ cond b (h.id ∷ ids_where test hs) (ids_where test hs) ++ ids_where test gs) [
      | true ↦ ap (λ t. h.id ∷ t) (ids_where-append test hs gs)
      | false ↦ ids_where-append test hs gs
    ]

module _ (clients : Meaning) (f : Facts) where
  abbrev shares : Held → Bool
  shares h = may_share (answer_of clients f h)

  shared_after_one : (g : Facts) (e : Entry) → ids_where shares (after g e).held ≡ ids_where shares g.held ++ shared_by clients f (message_of e)
  shared_after_one g (entry.Author m) = ids_where-append shares g.held (authored m ∷ [])
  shared_after_one g (entry.Arrive s m) = ids_where-append shares g.held (arrived (contact_of g.sessions s) m ∷ [])
  shared_after_one g (entry.Kept from m) = ids_where-append shares g.held (kept_as from m ∷ [])
  shared_after_one g _ = sym (append-nil (ids_where shares g.held))

  shared_after_all : (g : Facts) (es : List Entry) → ids_where shares (after_all g es).held ≡ ids_where shares g.held ++ shared_of clients f es
  shared_after_all g [] = sym (append-nil (ids_where shares g.held))
  shared_after_all g (e ∷ es) =
      shared_after_all (after g e) es
      ∙ (ap (λ t. t ++ shared_of clients f es) (shared_after_one g e)
      ∙ append_assoc (ids_where shares g.held) (shared_by clients f (message_of e)) (shared_of clients f es))

  pub shared_after_batches : (g : Facts) (bs : List (List Entry)) → ids_where shares (after_batches g bs).held ≡ ids_where shares g.held ++ shared_among clients f bs
  shared_after_batches g [] = sym (append-nil (ids_where shares g.held))
  shared_after_batches g (b ∷ bs) =
      shared_after_batches (after_all g b) bs
      ∙ (ap (λ t. t ++ shared_among clients f bs) (shared_after_all g b)
      ∙ append_assoc (ids_where shares g.held) (shared_of clients f b) (shared_among clients f bs))

pub shared_found : (clients : Meaning) (j : List (List Entry)) → shared_among clients (facts j) j ≡ shared_ids clients (facts j)
shared_found clients j = sym (shared_after_batches clients (facts j) nothing j)
