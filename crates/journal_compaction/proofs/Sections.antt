-- What is written of a plan is the brief account.
use Rattle.std.proofs.Common.{◌≡◌, ℕ, zero, suc, ◌+◌, ◌<◌, Bool, true, false, cond, List, [], ◌∷◌}
use Rattle.std.proofs.Common.{◌++◌, length, map}
use Rattle.std.proofs.Common.{refl, sym, ◌∙◌, ap, subst, arith, append_assoc, Some}
use Rattle.std.specs.Prelude.{nat_lt, slice_get}
use Rattle.std.specs.List.{AllByRecursion}
use Rattle.outside.specs.Frames.{end_of}
use Rattle.sync_rules.specs.declared.limits.TheConstants.{MAX_ROWS, MAX_STEPS}
use Rattle.sync_rules.specs.declared.entries.Entry.{Entry}
use Rattle.sync_rules.specs.Clients.{Meaning}
use Rattle.sync_rules.specs.Facts.{Facts}
use Rattle.brief_account.specs.Account.{brief_of, told_of}
use Rattle.brief_account.specs.Brief.{closed, each_alone, filled, head_entries, is_kept}
use Rattle.brief_account.specs.Brief.{never_alone, peer_entries}
use Rattle.entry_codec.specs.declared.naming.Format.TheVariants as kind
use Rattle.entry_codec.specs.Payloads.{journal_end, names_of}
use Rattle.entry_codec.specs.Spelling.{IsEntry}
use Rattle.entry_codec.specs.Standing.{room_of}
use Rattle.entry_codec.proofs.Growing.{all_push}
use Rattle.journal_compaction.specs.declared.items.Item.{Item}
use Rattle.journal_compaction.specs.declared.items.Item.TheVariants as item
use Rattle.journal_compaction.specs.declared.plan.Plan.{Plan}
use Rattle.journal_compaction.specs.Items.{IsItem, entry_of, is_alone, is_peer, is_told, kept_entry}
use Rattle.journal_compaction.specs.Paging.{frames_len, pages}
use Rattle.journal_compaction.specs.Planning.{AreItemsKnown, AreWritten, IsPlan, plan_len}
use Rattle.journal_compaction.specs.Planning.{plan_pages}
use Rattle.journal_compaction.proofs.Filling.{alone_written, filled_written, written}
use Rattle.journal_compaction.proofs.Filling.{written-append}
use Rattle.journal_compaction.proofs.Spelled.{end_written}
use Rattle.journal_compaction.proofs.Weighing.{all_len, frames-append}

-- ---- which items stand alone

pub there : {A : Type 0} (xs : List A) (n : ℕ) → n < length xs → (x : A) × (slice_get xs n ≡ Some x)
there [] n few = absurd (omega (arith, few))
there (x ∷ xs) zero few = (x, refl)
there (x ∷ xs) (suc n) few = there xs n (omega (arith, few))

told_alone : (f : Facts) (i : Item) → IsItem f i → is_told i ≡ true
    → is_kept (entry_of f i) ≡ is_alone i
told_alone f (item.Kept n) is told =
    let h = there f.held n is in ap (λ o. is_kept (kept_entry o)) h.1
told_alone f (item.Judged n) is told = refl
told_alone f (item.Deliver n) is told = refl
told_alone f (item.Invalid n) is told = refl
told_alone f _ is told = cc

peer_alone : (f : Facts) (i : Item) → is_peer i ≡ true → never_alone (entry_of f i) ≡ is_alone i
peer_alone f (item.Row c n) peer = refl
peer_alone f (item.Want c n) peer = refl
peer_alone f _ peer = cc

told_suit : (f : Facts) (items : List Item) → AllByRecursion (IsItem f) items
    → AllByRecursion (λ i. is_told i ≡ true) items
    → AllByRecursion (λ i. is_kept (entry_of f i) ≡ is_alone i) items
told_suit f [] are told = tt
told_suit f (i ∷ items) are told = (told_alone f i are.0 told.0, told_suit f items are.1 told.1)

peers_suit : (f : Facts) (items : List Item) → AllByRecursion (λ i. is_peer i ≡ true) items
    → AllByRecursion (λ i. never_alone (entry_of f i) ≡ is_alone i) items
peers_suit f [] peers = tt
peers_suit f (i ∷ items) peers = (peer_alone f i peers.0, peers_suit f items peers.1)

-- ---- what is written

module _ (clients : Meaning) (f : Facts) (p : Plan) (plan : IsPlan clients f p) where
  names : List (List ℕ)
  names = names_of f

  head_written : pages f MAX_STEPS 0 [] p.head.items ≡ written (names_of f)
      (each_alone (head_entries f))
  head_written =
      alone_written f MAX_STEPS [] p.head.items plan.head.kinds
      ∙ ap (λ (es : List Entry). written (names_of f) (each_alone es)) plan.head.means

  told_written : pages f MAX_STEPS 0 [] p.told.items
      ≡ written (names_of f) (filled MAX_STEPS is_kept [] (told_of clients f))
  told_written =
      filled_written f MAX_STEPS is_kept (omega arith) p.told.items
      (told_suit f p.told.items plan.told.there plan.told.kinds)
      ∙ ap (λ (es : List Entry). written (names_of f) (filled MAX_STEPS is_kept [] es))
      plan.told.means

  peers_written : pages f MAX_ROWS 0 [] p.peers.items
      ≡ written (names_of f) (filled MAX_ROWS never_alone [] (peer_entries f f.contacts))
  peers_written =
      filled_written f MAX_ROWS never_alone (omega arith) p.peers.items
      (peers_suit f p.peers.items plan.peers.kinds)
      ∙ ap (λ (es : List Entry). written (names_of f) (filled MAX_ROWS never_alone [] es))
      plan.peers.means

  pub plan_written : plan_pages f p ≡ written (names_of f) (brief_of clients f)
  plan_written =
      let a = each_alone (head_entries f) in
      let b = filled MAX_STEPS is_kept [] (told_of clients f) in
      let c = filled MAX_ROWS never_alone [] (peer_entries f f.contacts) in
      (λ i. head_written i ++ (told_written i ++ peers_written i))
      ∙ sym
      (written-append (names_of f) (a ++ b) c
      ∙ ap (λ (ps : List (List ℕ)). ps ++ written (names_of f) c) (written-append (names_of f) a b)
      ∙ append_assoc (written (names_of f) a) (written (names_of f) b) (written (names_of f) c))

  -- where the journal ends then
  pub plan_end : journal_end kind.Short (brief_of clients f) ≡ 15 + frames_len (plan_pages f p)
  plan_end = end_written (names_of f) (brief_of clients f) ∙ ap end_of (sym plan_written)

  pub plan_weighs : plan_len f p ≡ journal_end kind.Short
      (brief_of clients f) + room_of kind.Short f
  plan_weighs =
      let head = pages f MAX_STEPS 0 [] p.head.items in
      let told = pages f MAX_STEPS 0 [] p.told.items in
      let peers = pages f MAX_ROWS 0 [] p.peers.items in
      omega (
        arith,
        plan_end,
        frames-append head (told ++ peers),
        frames-append told peers,
        all_len f MAX_STEPS p.head.items,
        all_len f MAX_STEPS p.told.items,
        all_len f MAX_ROWS p.peers.items,
      )

  pub are_planned : AreItemsKnown f p
  are_planned = record { head = plan.head.there; told = plan.told.there; peers = plan.peers.there }

-- ---- entries within their limits

module _ (P : Entry → Type 0) where
  all_map : (f : Facts) (items : List Item) → AllByRecursion (λ i. P (entry_of f i)) items
      → AllByRecursion P (map (entry_of f) items)
  all_map f [] all = tt
  all_map f (i ∷ items) all = (all.0, all_map f items all.1)

  abbrev Batches : List (List Entry) → Type 0
  Batches bs = AllByRecursion (AllByRecursion P) bs

  all-append : (bs cs : List (List Entry)) → Batches bs → Batches cs → Batches (bs ++ cs)
  all-append [] cs first second = second
  all-append (b ∷ bs) cs first second = (first.0, all-append bs cs first.1 second)

  all_alone : (es : List Entry) → AllByRecursion P es → Batches (each_alone es)
  all_alone [] all = tt
  all_alone (e ∷ es) all = ((all.0, tt), all_alone es all.1)

  all_closed : (front : List Entry) → AllByRecursion P front → Batches (closed front)
  all_closed [] all = tt
  all_closed (e ∷ es) all = (all, tt)

  all_filled : (most : ℕ) (alone : Entry → Bool) (front es : List Entry) → AllByRecursion P front
      → AllByRecursion P es → Batches (filled most alone front es)
  all_filled most alone front [] first all = all_closed front first
  all_filled most alone front (e ∷ es) first all =
      let single : AllByRecursion P (e ∷ []) = (all.0, tt) in
      elim (alone e) as (λ b. Batches (cond b (closed front ++ (e ∷ []) ∷ filled most alone [] es)
      (cond (nat_lt (length front) most) (filled most alone (front ++ e ∷ []) es)
      (front ∷ filled most alone (e ∷ []) es)))) [
        | true ↦ all-append (closed front) ((e ∷ []) ∷ filled most alone [] es)
            (all_closed front first)
            (single, all_filled most alone [] es tt all.1)
        | false ↦
            elim (nat_lt (length front) most) as
            (λ b.
            Batches (cond b (filled most alone (front ++ e ∷ []) es)
            (front ∷ filled most alone (e ∷ []) es))) [
              | true ↦ all_filled most alone (front ++ e ∷ []) es (all_push P front e first all.0)
                  all.1
              | false ↦ (first, all_filled most alone (e ∷ []) es single all.1)
            ]
      ]

pub brief_within : (clients : Meaning) (f : Facts) (p : Plan) → IsPlan clients f p → AreWritten f p
    → AllByRecursion (AllByRecursion IsEntry) (brief_of clients f)
brief_within clients f p plan within =
    let of : (items : List Item) (es : List Entry) → map (entry_of f) items ≡ es
    → AllByRecursion (λ i. IsEntry (entry_of f i)) items → AllByRecursion IsEntry es =
    λ items es is all. subst (λ (l : List Entry). AllByRecursion IsEntry l) is
    (all_map IsEntry f items all) in
    let a = each_alone (head_entries f) in
    let b = filled MAX_STEPS is_kept [] (told_of clients f) in
    let c = filled MAX_ROWS never_alone [] (peer_entries f f.contacts) in
    all-append IsEntry (a ++ b) c
    (all-append IsEntry a b
    (all_alone IsEntry (head_entries f)
    (of p.head.items (head_entries f) plan.head.means within.head))
    (all_filled IsEntry MAX_STEPS is_kept [] (told_of clients f) tt
    (of p.told.items (told_of clients f) plan.told.means within.told)))
    (all_filled IsEntry MAX_ROWS never_alone [] (peer_entries f f.contacts) tt
    (of p.peers.items (peer_entries f f.contacts) plan.peers.means within.peers))
