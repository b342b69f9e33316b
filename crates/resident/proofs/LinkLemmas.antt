-- The links of an era.
use Rattle.std.proofs.Common.{◌≡◌, ℕ, ◌<◌, ◌≤◌, Bool, true, false, List, length, refl, sym, ap, ◌∙◌}
use Rattle.std.proofs.Common.{subst, cond, Option, None, Some, Result, Ok, Err}
use Rattle.std.specs.Prelude.{slice_get, IfSome, is_none}
use Rattle.std.specs.Option.{option_map}
use Rattle.std.proofs.lemmas.Bool.{false≢true}
use Rattle.std.proofs.lemmas.Option.{slice_get_past, slice_get_within}
use Rattle.outside.specs.Outside.{Outside}
use Rattle.sync_rules.specs.Clients.{Meaning}
use Rattle.sync_rules.specs.declared.entries.Mode.{Mode}
use Rattle.sync_rules.specs.declared.entries.Mode.TheVariants as mode
use Rattle.sync_rules.specs.Legal.{suits_nonce}
use Rattle.sync_course.specs.declared.ends.LinkEnd.{LinkEnd}
use Rattle.sync_course.specs.declared.ends.LinkEnd.TheVariants as link_end
use Rattle.sync_course.specs.Links.{is_going, is_sent_to}
use Rattle.sync_node.specs.declared.link.Link.{Link}
use Rattle.sync_node.specs.Node.{AsideValue}
use Rattle.sync_node.specs.Sending.{MaySend}
use Rattle.resident.specs.Sessions.{DrawsNonce, may_have, stands_so}

-- ---- how one stands

going : (e : LinkEnd) → is_going e ≡ true → e ≡ link_end.Going
going link_end.Going is = refl
going _ is = absurd (false≢true is)

sent_to : (e : LinkEnd) → is_sent_to e ≡ true → MaySend e
sent_to link_end.Going is = tt
sent_to link_end.Clean is = tt
sent_to _ is = absurd (false≢true is)

-- a link that stands so is there
stands_at : (test : LinkEnd → Bool) (links : List Link) (link : ℕ) (o : Option Link)
    → slice_get links link ≡ o → stands_so test (option_map (λ (l : Link). l.end) o) ≡ true
    → (link < length links)
    × ((l : Link) → slice_get links link ≡ Some l → test l.end ≡ true)
stands_at test links link None is stands = absurd (false≢true stands)
stands_at test links link (Some l) is stands = (
  slice_get_within links link l is,
  λ k there. let same : l ≡ k = (let both : Some l ≡ Some k = sym is ∙ there in cc) in
      subst (λ (x : Link). test x.end ≡ true) same stands,
)

module _ (a : AsideValue) (link : ℕ) where
  pub asked_at : stands_so is_going (option_map (λ (l : Link). l.end) (slice_get a.links link)) ≡ true
      → (link < length a.links)
      × ((l : Link) → slice_get a.links link ≡ Some l → l.end ≡ link_end.Going)
  asked_at stands =
      let at = stands_at is_going a.links link (slice_get a.links link) refl stands in
      (at.0, λ l there. going l.end (at.1 l there))

  pub open_at : stands_so is_sent_to (option_map (λ (l : Link). l.end) (slice_get a.links link)) ≡ true
      → (link < length a.links)
      × ((l : Link) → slice_get a.links link ≡ Some l → MaySend l.end)
  open_at stands =
      let at = stands_at is_sent_to a.links link (slice_get a.links link) refl stands in
      (at.0, λ l there. sent_to l.end (at.1 l there))

  -- past the last one there is none
  pub end_past : length a.links ≤ link
      → option_map (λ (l : Link). l.end) (slice_get a.links link) ≡ None
  end_past past =
      ap (λ (o : Option Link). option_map (λ (l : Link). l.end) o) (slice_get_past a.links link past)

-- ---- nonces

-- the nonce that was drawn suits the mode
pub drawn_suits : {H : Type 0} (tells : H → Outside) (link : ℕ) (m : Mode) (has_nonce : Bool)
    (old new : H) (given : Option (List ℕ)) → may_have m has_nonce ≡ true
    → DrawsNonce tells link has_nonce old new given → suits_nonce m given ≡ true
drawn_suits tells link mode.Interactive has_nonce old new given may draws = refl
drawn_suits tells link mode.Batch true old new given may draws = absurd (false≢true may)
drawn_suits tells link mode.Batch false old new given may draws =
    ap (λ (o : Option (List ℕ)). is_none o) draws.0
