-- Where held messages came from.
use Rattle.std.proofs.Common.{◌≡◌, ◌⊎◌, List, [], ◌∷◌, ◌++◌, refl, sym, ap, subst, inl, inr}
use Rattle.sync_ids.specs.Values.{MessageValue}
use Rattle.sync_rules.specs.declared.entries.Entry.{Entry}
use Rattle.sync_rules.specs.declared.entries.Entry.TheVariants as entry
use Rattle.sync_rules.specs.declared.states.Origin.{Origin}
use Rattle.sync_rules.specs.declared.states.Origin.TheVariants as origin
use Rattle.sync_rules.specs.Clients.{Meaning}
use Rattle.sync_rules.specs.Facts.{Facts, Held, after, after_all, nothing, facts, entries_of, contact_of, authored, arrived, kept_as}
use Rattle.sync_rules.specs.Legal.{Legal}
use Rattle.sync_rules.specs.Laws.{CameSo, HasOrigin}
use Rattle.sync_rules.specs.Lists.{In}
use Rattle.sync_rules.proofs.Elements.{In-push_cases}
use Rattle.sync_rules.proofs.Kept.{Fits, AllFit, MayArrive, after_batches-is}
use Rattle.sync_rules.proofs.Runs.{legal_fits}

-- what an entry brings to these facts
abbrev Brings : Facts → Entry → Held → Type 0
Brings f (entry.Author m) h = h ≡ authored m
Brings f (entry.Arrive s m) h = (h ≡ arrived (contact_of f.sessions s) m) × MayArrive f s m
Brings f (entry.Kept from m) h = h ≡ kept_as from m
Brings f _ h = ⊥

-- a held message came with one of some entries
record Came (f : Facts) (es : List Entry) (h : Held) : Type 0 where
  before : List Entry
  behind : List Entry
  by : Entry
  stands : es ≡ before ++ by ∷ behind
  brings : Brings (after_all f before) by h

came_or_was : (clients : Meaning) (f : Facts) (e : Entry) (rest : List Entry) → Fits clients f e → (h : Held) → In h (after f e).held
    → In h f.held ⊎ Came f (e ∷ rest) h
came_or_was clients f (entry.Author m) rest fit h inside =
    elim (In-push_cases h (authored m) f.held inside) [
      | inl was ↦ inl was
      | inr e ↦ inr (record { before = []; behind = rest; by = entry.Author m; stands = refl; brings = e })
    ]
came_or_was clients f (entry.Arrive s m) rest fit h inside =
    elim (In-push_cases h (arrived (contact_of f.sessions s) m) f.held inside) [
      | inl was ↦ inl was
      | inr e ↦ inr (record { before = []; behind = rest; by = entry.Arrive s m; stands = refl; brings = (e, fit) })
    ]
came_or_was clients f (entry.Kept from m) rest fit h inside =
    elim (In-push_cases h (kept_as from m) f.held inside) [
      | inl was ↦ inl was
      | inr e ↦ inr (record { before = []; behind = rest; by = entry.Kept from m; stands = refl; brings = e })
    ]
came_or_was clients f _ rest fit h inside = inl inside

came : (clients : Meaning) (f : Facts) (es : List Entry) → AllFit clients f es → (h : Held) → In h (after_all f es).held → In h f.held ⊎ Came f es h
came clients f [] fit h inside = inl inside
came clients f (e ∷ es) fit h inside =
    elim (came clients (after f e) es fit.1 h inside) [
      | inl was ↦ came_or_was clients f e es fit.0 h was
      | inr later ↦ inr (record {
        before = e ∷ later.before;
        behind = later.behind;
        by = later.by;
        stands = ap (λ (xs : List Entry). e ∷ xs) later.stands;
        brings = later.brings;
      })
    ]

-- a Kept entry shows the origin that it states
came_kept : (before behind es : List Entry) (from : Origin) (m : MessageValue) → es ≡ before ++ entry.Kept from m ∷ behind → CameSo es m from
came_kept before behind es origin.Author m stands = inr (record { before = before; behind = behind; stands = stands })
came_kept before behind es (origin.From contact) m stands = inr (record { before = before; behind = behind; stands = stands })

-- the origin that an entry shows
origin_shown : (before behind es : List Entry) (e : Entry) (h : Held) → es ≡ before ++ e ∷ behind → Brings (after_all nothing before) e h → HasOrigin es h
origin_shown before behind es (entry.Author m) h stands b =
    let at : HasOrigin es (authored m) = record {
      named = refl;
      came = inl (record { before = before; behind = behind; stands = stands });
    } in
    subst (HasOrigin es) (sym b) at
origin_shown before behind es (entry.Arrive s m) h stands b =
    let f : Facts = after_all nothing before in
    let at : HasOrigin es (arrived (contact_of f.sessions s) m) = record {
      named = refl;
      came = inl (record {
        before = before;
        behind = behind;
        session = s;
        stands = stands;
        known_session = b.1.known_session;
        same_contact = refl;
        shown = b.1.shown;
      });
    } in
    subst (HasOrigin es) (sym b.0) at
origin_shown before behind es (entry.Kept from m) h stands b =
    let at : HasOrigin es (kept_as from m) = record { named = refl; came = came_kept before behind es from m stands } in
    subst (HasOrigin es) (sym b) at
origin_shown before behind es _ h stands b = absurd b

pub has_origin : (clients : Meaning) (j : List (List Entry)) → Legal clients j → (h : Held) → In h (facts j).held → HasOrigin (entries_of j) h
has_origin clients j l h inside =
    elim (came clients nothing (entries_of j) (legal_fits clients j l) h
    (subst (λ (f : Facts). In h f.held) (after_batches-is nothing j) inside)) [
      | inl none ↦ absurd none
      | inr c ↦ origin_shown c.before c.behind (entries_of j) c.by h c.stands c.brings
    ]
