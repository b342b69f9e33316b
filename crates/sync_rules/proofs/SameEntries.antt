-- The tests of equal entries and of equal outputs.
use Rattle.std.proofs.Common.{◌≡◌, ℕ, Bool, true, ◌&&◌, List, [], ◌∷◌, refl, ◌∙◌, ap, Option, Some, None, nat_eq, eqb-true, eq-eqb}
use Rattle.std.specs.Bool.{Decides}
use Rattle.std.specs.Cmp.Lexicographic.{pointwise, bytes_decides}
use Rattle.std.proofs.lemmas.Bool.{and_parts, and_from, false≢true}
use Rattle.std.proofs.lemmas.Slice.Eq.{slice_eq-Decides}
use Rattle.sync_ids.specs.Values.{MessageValue}
use Rattle.sync_rules.specs.declared.entries.Entry.{Entry}
use Rattle.sync_rules.specs.declared.entries.Entry.TheVariants as entry
use Rattle.sync_rules.specs.declared.entries.Out.{Out}
use Rattle.sync_rules.specs.declared.entries.Out.TheVariants as out
use Rattle.sync_rules.specs.Lists.{same_id}
use Rattle.sync_rules.specs.Facts.{Id}
use Rattle.sync_rules.proofs.Elements.{same_id-is, same_id_itself}
use Rattle.sync_rules.specs.Allows.{same_ids, same_message, same_pair, is_arrive, is_again, is_offered, is_seen, is_asked, is_judged, is_deliver, is_invalid, same_entry, is_acks, is_requests, is_offers, is_send, same_out, is_some_of}

-- ---- tests of two things

pub both_decide : {P Q : Type 0} (a b : Bool) → Decides a P → Decides b Q → Decides (a && b) (P × Q)
both_decide a b p q =
    (λ h. let parts = and_parts a b h in (p.0 parts.0, q.0 parts.1), λ h. and_from a b (p.1 h.0) (q.1 h.1))

pub nat_eq_itself : (n : ℕ) → nat_eq n n ≡ true
nat_eq_itself n = eq-eqb n n refl

-- ---- entries

same_message-is : (a b : MessageValue) → same_message a b ≡ true → a ≡ b
same_message-is a b h =
    let one = and_parts (same_id a.group b.group) (nat_eq a.timestamp b.timestamp && same_id a.body b.body) h in
    let two = and_parts (nat_eq a.timestamp b.timestamp) (same_id a.body b.body) one.1 in
    let group : a.group ≡ b.group = same_id-is a.group b.group one.0 in
    let time : a.timestamp ≡ b.timestamp = eqb-true a.timestamp b.timestamp two.0 in
    let body : a.body ≡ b.body = same_id-is a.body b.body two.1 in
    λ i. record { group = group i; timestamp = time i; body = body i }

same_message_itself : (m : MessageValue) → same_message m m ≡ true
same_message_itself m =
    and_from (same_id m.group m.group) (nat_eq m.timestamp m.timestamp && same_id m.body m.body) (same_id_itself m.group)
    (and_from (nat_eq m.timestamp m.timestamp) (same_id m.body m.body) (nat_eq_itself m.timestamp) (same_id_itself m.body))

pair-is : (make : ℕ → Id → Entry) (s : ℕ) (id : Id) (t : ℕ) (other : Id) → same_pair s id t other ≡ true → make s id ≡ make t other
pair-is make s id t other h =
    let parts = and_parts (nat_eq s t) (same_id id other) h in
    let one : s ≡ t = eqb-true s t parts.0 in
    let two : id ≡ other = same_id-is id other parts.1 in
    λ i. make (one i) (two i)

pub pair_itself : (s : ℕ) (id : Id) → same_pair s id s id ≡ true
pair_itself s id = and_from (nat_eq s s) (same_id id id) (nat_eq_itself s) (same_id_itself id)

pub arrive_itself : (s : ℕ) (m : MessageValue) → same_entry (entry.Arrive s m) (entry.Arrive s m) ≡ true
arrive_itself s m = and_from (nat_eq s s) (same_message m m) (nat_eq_itself s) (same_message_itself m)

arrive-is : (s : ℕ) (m : MessageValue) (e : Entry) → is_arrive s m e ≡ true → entry.Arrive s m ≡ e
arrive-is s m (entry.Arrive t other) h =
    let parts = and_parts (nat_eq s t) (same_message m other) h in
    let one : s ≡ t = eqb-true s t parts.0 in
    let two : m ≡ other = same_message-is m other parts.1 in
    λ i. entry.Arrive (one i) (two i)
arrive-is s m _ h = absurd (false≢true h)

again-is : (s : ℕ) (id : Id) (e : Entry) → is_again s id e ≡ true → entry.Again s id ≡ e
again-is s id (entry.Again t other) h = pair-is entry.Again s id t other h
again-is s id _ h = absurd (false≢true h)

offered-is : (s : ℕ) (id : Id) (e : Entry) → is_offered s id e ≡ true → entry.Offered s id ≡ e
offered-is s id (entry.Offered t other) h = pair-is entry.Offered s id t other h
offered-is s id _ h = absurd (false≢true h)

seen-is : (s : ℕ) (id : Id) (e : Entry) → is_seen s id e ≡ true → entry.Seen s id ≡ e
seen-is s id (entry.Seen t other) h = pair-is entry.Seen s id t other h
seen-is s id _ h = absurd (false≢true h)

asked-is : (s : ℕ) (id : Id) (e : Entry) → is_asked s id e ≡ true → entry.Asked s id ≡ e
asked-is s id (entry.Asked t other) h = pair-is entry.Asked s id t other h
asked-is s id _ h = absurd (false≢true h)

judged-is : (id : Id) (e : Entry) → is_judged id e ≡ true → entry.Judged id ≡ e
judged-is id (entry.Judged other) h = ap entry.Judged (same_id-is id other h)
judged-is id _ h = absurd (false≢true h)

deliver-is : (id : Id) (e : Entry) → is_deliver id e ≡ true → entry.Deliver id ≡ e
deliver-is id (entry.Deliver other) h = ap entry.Deliver (same_id-is id other h)
deliver-is id _ h = absurd (false≢true h)

invalid-is : (id : Id) (e : Entry) → is_invalid id e ≡ true → entry.Invalid id ≡ e
invalid-is id (entry.Invalid other) h = ap entry.Invalid (same_id-is id other h)
invalid-is id _ h = absurd (false≢true h)

pub same_entry-is : (a b : Entry) → same_entry a b ≡ true → a ≡ b
same_entry-is (entry.Arrive s m) e h = arrive-is s m e h
same_entry-is (entry.Again s id) e h = again-is s id e h
same_entry-is (entry.Offered s id) e h = offered-is s id e h
same_entry-is (entry.Seen s id) e h = seen-is s id e h
same_entry-is (entry.Asked s id) e h = asked-is s id e h
same_entry-is (entry.Judged id) e h = judged-is id e h
same_entry-is (entry.Deliver id) e h = deliver-is id e h
same_entry-is (entry.Invalid id) e h = invalid-is id e h
same_entry-is _ e h = absurd (false≢true h)

pub same_entries-is : (xs ys : List Entry) → pointwise same_entry xs ys ≡ true → xs ≡ ys
same_entries-is [] [] h = refl
same_entries-is [] (y ∷ ys) h = absurd (false≢true h)
same_entries-is (x ∷ xs) [] h = absurd (false≢true h)
same_entries-is (x ∷ xs) (y ∷ ys) h =
    let parts = and_parts (same_entry x y) (pointwise same_entry xs ys) h in
    let one : x ≡ y = same_entry-is x y parts.0 in
    let rest : xs ≡ ys = same_entries-is xs ys parts.1 in
    λ i. one i ∷ rest i

-- ---- outputs

id-Decides : (a b : Id) → Decides (same_id a b) (a ≡ b)
id-Decides a b = (same_id-is a b, (bytes_decides a b).1)

ids-Decides : (a b : List Id) → Decides (same_ids a b) (a ≡ b)
ids-Decides a b = slice_eq-Decides id-Decides a b (same_ids a b) refl

acks-is : (ids : List Id) (b : Out) → is_acks ids b ≡ true → out.Acks ids ≡ b
acks-is ids (out.Acks others) h = ap out.Acks ((ids-Decides ids others).0 h)
acks-is ids _ h = absurd (false≢true h)

requests-is : (ids : List Id) (b : Out) → is_requests ids b ≡ true → out.Requests ids ≡ b
requests-is ids (out.Requests others) h = ap out.Requests ((ids-Decides ids others).0 h)
requests-is ids _ h = absurd (false≢true h)

offers-is : (ids : List Id) (b : Out) → is_offers ids b ≡ true → out.Offers ids ≡ b
offers-is ids (out.Offers others) h = ap out.Offers ((ids-Decides ids others).0 h)
offers-is ids _ h = absurd (false≢true h)

send-is : (id : Id) (b : Out) → is_send id b ≡ true → out.Send id ≡ b
send-is id (out.Send other) h = ap out.Send (same_id-is id other h)
send-is id _ h = absurd (false≢true h)

same_out-is : (a b : Out) → same_out a b ≡ true → a ≡ b
same_out-is (out.Acks ids) b h = acks-is ids b h
same_out-is (out.Requests ids) b h = requests-is ids b h
same_out-is (out.Offers ids) b h = offers-is ids b h
same_out-is (out.Send id) b h = send-is id b h

same_out_itself : (a : Out) → same_out a a ≡ true
same_out_itself (out.Acks ids) = (ids-Decides ids ids).1 refl
same_out_itself (out.Requests ids) = (ids-Decides ids ids).1 refl
same_out_itself (out.Offers ids) = (ids-Decides ids ids).1 refl
same_out_itself (out.Send id) = same_id_itself id

pub some_out-Decides : (o : Option Out) (a : Out) → Decides (is_some_of same_out o a) (o ≡ Some a)
some_out-Decides None a = (λ h. absurd (false≢true h), λ h. absurd cc)
some_out-Decides (Some b) a =
    (λ h. ap Some (same_out-is b a h), λ h. let e : b ≡ a = cc in ap (λ (x : Out). same_out x a) e ∙ same_out_itself a)
