-- What is told of the messages leaves contacts, groups, levels, sessions and rows, and wanted ids where there are none.
use Rattle.std.proofs.Common.{◌≡◌, ℕ, List, [], ◌∷◌, refl, sym, ◌∙◌, subst}
use Rattle.sync_ids.specs.Ids.{message_id_of}
use Rattle.sync_rules.specs.declared.entries.Entry.{Entry}
use Rattle.sync_rules.specs.declared.entries.Entry.TheVariants as entry
use Rattle.sync_rules.specs.Clients.{Meaning}
use Rattle.sync_rules.specs.Facts.{Facts, after, after_all}
use Rattle.brief_account.proofs.Accounts.{AllTell, Tells}
use Rattle.brief_account.proofs.Emptied.{AreEmpty, HasEmptyWanted, none_wanted}

pub record IsLeftByTold (g later : Facts) : Type 0 where
  pub contacts : later.contacts ≡ g.contacts
  pub groups : later.groups ≡ g.groups
  pub levels : later.levels ≡ g.levels
  pub begun : later.begun ≡ g.begun
  pub sessions : later.sessions ≡ g.sessions
  pub takes : later.takes ≡ g.takes
  pub rows : later.rows ≡ g.rows
  pub wanted : later.wanted ≡ g.wanted

left_itself : (g : Facts) → IsLeftByTold g g
left_itself g = record {
  contacts = refl;
  groups = refl;
  levels = refl;
  begun = refl;
  sessions = refl;
  takes = refl;
  rows = refl;
  wanted = refl;
}

left_one : (clients : Meaning) (g : Facts) (e : Entry) → Tells clients g e → HasEmptyWanted g
    → IsLeftByTold g (after g e)
left_one clients g (entry.Kept from m) t empty = record {
  contacts = refl;
  groups = refl;
  levels = refl;
  begun = refl;
  sessions = refl;
  takes = refl;
  rows = refl;
  wanted = none_wanted g.contacts g.wanted (message_id_of m) empty;
}
left_one clients g (entry.Judged id) t empty =
    record {
      contacts = refl;
      groups = refl;
      levels = refl;
      begun = refl;
      sessions = refl;
      takes = refl;
      rows = refl;
      wanted = refl;
    }
left_one clients g (entry.Deliver id) t empty =
    record {
      contacts = refl;
      groups = refl;
      levels = refl;
      begun = refl;
      sessions = refl;
      takes = refl;
      rows = refl;
      wanted = refl;
    }
left_one clients g (entry.Invalid id) t empty =
    record {
      contacts = refl;
      groups = refl;
      levels = refl;
      begun = refl;
      sessions = refl;
      takes = refl;
      rows = refl;
      wanted = refl;
    }
left_one clients g _ t empty = absurd t

-- empty lists stay empty where contacts and lists are the same
pub still_empty : (g later : Facts) → IsLeftByTold g later → HasEmptyWanted g → HasEmptyWanted later
still_empty g later left empty =
    subst (λ (n : ℕ). AreEmpty n later.wanted) (sym left.contacts) (subst (AreEmpty g.contacts) (sym left.wanted) empty)

pub left_by_told : (clients : Meaning) (g : Facts) (es : List Entry) → AllTell clients g es → HasEmptyWanted g
    → IsLeftByTold g (after_all g es)
left_by_told clients g [] t empty = left_itself g
left_by_told clients g (e ∷ es) t empty =
    let a : IsLeftByTold g (after g e) = left_one clients g e t.0 empty in
    let b : IsLeftByTold (after g e) (after_all (after g e) es) =
    left_by_told clients (after g e) es t.1 (still_empty g (after g e) a empty) in
    record {
      contacts = b.contacts ∙ a.contacts;
      groups = b.groups ∙ a.groups;
      levels = b.levels ∙ a.levels;
      begun = b.begun ∙ a.begun;
      sessions = b.sessions ∙ a.sessions;
      takes = b.takes ∙ a.takes;
      rows = b.rows ∙ a.rows;
      wanted = b.wanted ∙ a.wanted;
    }
