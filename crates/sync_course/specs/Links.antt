-- A link of a run: what is known of it, and how it stands.
use Rattle.std.specs.Prelude.{ℕ, suc, Bool, true, false, cond, ◌&&◌, ◌||◌, nat_eq, nat_lt, List, [], ◌∷◌, ◌++◌, length, drop, Option, None, Some}
use Rattle.std.specs.List.{list_any}
use Rattle.std.specs.Ordering.{nat_cmp}
use Rattle.std.specs.declared.cmp.Ordering.{Ordering}
use Rattle.std.specs.declared.cmp.Ordering.TheVariants as ordering
use Rattle.std.specs.Cmp.Lexicographic.{slice_cmp}
use Rattle.record_grammar.specs.Stream.{items}
use Rattle.record_grammar.specs.declared.stream.Ending.{Ending}
use Rattle.record_grammar.specs.declared.stream.Ending.TheVariants as ending_kind
use Rattle.record_grammar.specs.declared.stream.Item.{Item}
use Rattle.sync_ids.specs.declared.records.Record.{Record}
use Rattle.sync_ids.specs.declared.records.Record.TheVariants as record_kind
use Rattle.sync_rules.specs.declared.entries.Session.{Session}
use Rattle.sync_course.specs.declared.ends.LinkEnd.{LinkEnd}
use Rattle.sync_course.specs.declared.ends.LinkEnd.TheVariants as end

-- a link: the contact at its other end, the nonce that is known of it, all bytes heard on it, and how it stands
pub record Link : Type 0 where
  pub contact : ℕ
  pub nonce : Option (List ℕ)
  pub heard : List ℕ
  pub stands : LinkEnd

-- a link that is still asked
abbrev pub is_going : LinkEnd → Bool
is_going end.Going = true
is_going _ = false

-- a link that is not closed: it is sent to
abbrev pub is_sent_to : LinkEnd → Bool
is_sent_to end.Going = true
is_sent_to end.Clean = true
is_sent_to _ = false

-- the link of a session that begins
abbrev pub link_of : Session → LinkEnd → Link
link_of s stands = record { contact = s.contact; nonce = s.nonce; heard = []; stands = stands }

-- ---- what is heard

-- the items that bytes add to those heard before: those of all, behind those that were whole before
abbrev pub new_items : List ℕ → List ℕ → List Item
new_items heard bytes = drop (length (items 0 heard)) (items 0 (heard ++ bytes))

-- a list of versions has that of this node, which is 0
abbrev pub has_zero : List ℕ → Bool
has_zero versions = list_any (λ v. nat_eq v 0) versions

-- a record that closes its link: a VERSIONS without the version of this node
abbrev pub closes : Record → Bool
closes (record_kind.Versions versions) = cond (has_zero versions) false true
closes _ = false

-- the nonce that is known behind a record: the first one
abbrev pub nonce_after : Option (List ℕ) → Record → Option (List ℕ)
nonce_after None (record_kind.Priority nonce) = Some nonce
nonce_after known _ = known

-- a link on which a record at this place was taken
abbrev pub link_after_take : ℕ → Record → Link → Link
link_after_take place r link = record link {
  nonce = nonce_after link.nonce r;
  stands = cond (closes r) (end.NoVersion place) link.stands;
}

-- the items that are still taken behind a record: none where it closed the link
abbrev pub items_after : Record → List Item → List Item
items_after r its = cond (closes r) [] its

-- how a link stands once all items are taken, by how the bytes heard end: a bad record closes one that is asked
abbrev pub stands_behind : LinkEnd → Ending → LinkEnd
stands_behind end.Going (ending_kind.Bad place why) = end.Bad place why
stands_behind stands ending = stands

-- how a link stands whose input ended, by how the bytes heard end
abbrev pub stands_ended : Ending → LinkEnd
stands_ended ending_kind.Clean = end.Clean
stands_ended (ending_kind.Inside place) = end.Inside place
stands_ended (ending_kind.Bad place why) = end.Bad place why

-- ---- redundant links

-- a nonce is greater than another, by their bytes, or equal to it and that of a link of a smaller number
abbrev pub is_preferred : Ordering → Bool → Bool
is_preferred ordering.Greater smaller = true
is_preferred ordering.Equal smaller = smaller
is_preferred ordering.Less smaller = false

-- the first nonce is kept rather than the other, where both are known
abbrev pub is_nonce_kept : Option (List ℕ) → Option (List ℕ) → Bool → Bool
is_nonce_kept None other smaller = false
is_nonce_kept (Some nonce) None smaller = false
is_nonce_kept (Some nonce) (Some other) smaller = is_preferred (slice_cmp nat_cmp nonce other)
    smaller

-- the link of the number i is kept rather than that of the number k: both are asked and lead to the same contact, and its nonce is
-- greater, or equal where i is the smaller number
abbrev pub beats : ℕ → Link → ℕ → Link → Bool
beats i a k b = is_going a.stands &&
    (is_going b.stands &&
    (nat_eq a.contact b.contact && is_nonce_kept a.nonce b.nonce (nat_lt i k)))

-- some link of a list, whose first has the number i, is kept rather than that of the number k
abbrev pub is_beaten : ℕ → List Link → ℕ → Link → Bool
is_beaten i [] k b = false
is_beaten i (a ∷ others) k b = beats i a k b || is_beaten (suc i) others k b

-- each link of a list, whose first has the number k, is closed where some link of all is kept rather than it
abbrev pub closed_from : List Link → ℕ → List Link → List Link
closed_from links k [] = []
closed_from links k (b ∷ others) =
    record b { stands = cond (is_beaten 0 links k b) end.Redundant b.stands } ∷ closed_from links (suc k) others

-- The rule of redundant links (this project's profile): for each contact, among its links that are asked and whose nonce is
-- known, the one of the greatest nonce stays, of those the one of the least number; the others are closed.
abbrev pub without_redundant : List Link → List Link
without_redundant links = closed_from links 0 links
