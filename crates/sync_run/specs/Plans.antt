-- The sessions that the words of a command plan.
use Rattle.std.specs.Prelude.{◌≡◌, ℕ, suc, List, [], ◌∷◌, is_some}
use Rattle.sync_rules.specs.declared.entries.Session.{Session}
use Rattle.sync_node.specs.Plans.{session_of}
use Rattle.sync_words.specs.declared.link_words.LinkWords.{LinkWords}
use Rattle.sync_words.specs.Links.{has_nonce}
use Rattle.sync_run.specs.declared.dialling.Dialled.{Dialled}

-- the session of this number, as the words of its link plan it: it has a nonce exactly where it is
-- interactive and its link is dialled
pub record IsPlanned (number : ℕ) (words : LinkWords) (s : Session) : Type 0 where
  pub numbered : s.number ≡ number
  pub same_contact : s.contact ≡ words.contact
  pub same_mode : s.mode ≡ words.mode
  pub same_latency : s.latency ≡ words.latency
  pub nonce : is_some s.nonce ≡ has_nonce words

-- sessions of the first links, in the order of the words; the first has this number
abbrev pub ArePlanned : ℕ → List LinkWords → List Session → Type 0
ArePlanned number words [] = Unit {0}
ArePlanned number [] (s ∷ sessions) = ⊥
ArePlanned number (w ∷ words) (s ∷ sessions) =
    IsPlanned number w s × ArePlanned (suc number) words sessions

-- the sessions of links that were dialled; the first has this number
abbrev pub sessions_from : ℕ → List Dialled → List Session
sessions_from first [] = []
sessions_from first (d ∷ links) = session_of first d.plan d.nonce ∷ sessions_from (suc first) links
