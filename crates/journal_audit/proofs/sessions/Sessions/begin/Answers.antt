use Rattle.std.proofs.Common.{◌≡◌, List, [], ◌∷◌, ◌++◌, sym, ap, ◌∙◌}
use Rattle.std.specs.BTreeMap.{get}
use Rattle.std.specs.Ordering.{nat_cmp}
use Rattle.sync_rules.specs.declared.entries.Session.{Session}
use Rattle.sync_rules.specs.Facts.{session_at}
use Rattle.journal_audit.specs.declared.sessions.Sessions.TheInside.{Inside}
use Rattle.journal_audit.proofs.SessionLists.{by_number_known, by_number_new}
use Rattle.journal_audit.proofs.sessions.Sessions.begin.Goals as goal
use Rattle.journal_audit.proofs.sessions.Sessions.begin.Goals.{then-not-contains_key+in_ok-insert, else-not-contains_key}

pub invariant_of-self-2 : goal.invariant_of-self-2
invariant_of-self-2 c =
    let ss = c.self.inside.sessions.items in
    let s = c.args.session in
    let pushed : c.push.new.self.items ≡ c.if-not-contains_key.self-inside.sessions.items ++ s ∷ [] = rw c.unwrap.ensures at c.push.ensures.items in
    elim c.if-not-contains_key.branch [
      | then-not-contains_key+in_ok-insert w ↦ λ n.
          let items : c.push.new.self.items ≡ ss ++ s ∷ [] =
          pushed ∙ ap (λ (i : Inside). i.sessions.items ++ s ∷ []) w.self-inside-is ∙ ap (λ (l : List Session). l ++ s ∷ []) c.reserve.ensures.items in
          ap (λ (i : Inside). get nat_cmp i.by_number n) w.self-inside-is
          ∙ by_number_new ss s c.self.inside.by_number w.insert.new.self c.self.invariant w.if-not-contains_key.ensures w.in_ok-insert.ensures.updates.0 n
          ∙ ap (λ (l : List Session). session_at l n) (sym items)
      | else-not-contains_key w ↦ λ n.
          let items : c.push.new.self.items ≡ ss ++ s ∷ [] =
          pushed ∙ ap (λ (i : Inside). i.sessions.items ++ s ∷ []) w.self-inside-is ∙ ap (λ (l : List Session). l ++ s ∷ []) c.reserve.ensures.items in
          ap (λ (i : Inside). get nat_cmp i.by_number n) w.self-inside-is
          ∙ by_number_known ss s c.self.inside.by_number c.self.invariant w.if-not-contains_key.ensures n
          ∙ ap (λ (l : List Session). session_at l n) (sym items)
    ]
