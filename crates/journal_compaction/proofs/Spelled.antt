-- What the batches of a legal journal are written as, where the messages that are held in the end
-- have names.
use Rattle.std.proofs.Common.{◌≡◌, ℕ, suc, true, false, cond, List, [], ◌∷◌, ◌++◌, length, refl}
use Rattle.std.proofs.Common.{unwrap_or}
use Rattle.std.proofs.Common.{sym, ◌∙◌, ap, arith}
use Rattle.std.proofs.Common.{Option, Some}
use Rattle.std.specs.Prelude.{◌||◌}
use Rattle.std.specs.Int.{w16, w32, w64, to_be_bytes}
use Rattle.std.specs.List.{AllByRecursion, flat_map}
use Rattle.std.specs.Option.{option_map}
use Rattle.outside.specs.Frames.{end_of}
use Rattle.sync_rules.specs.declared.entries.Entry.{Entry}
use Rattle.sync_rules.specs.declared.entries.Entry.TheVariants as entry
use Rattle.sync_rules.specs.declared.entries.Out.{Out}
use Rattle.sync_rules.specs.declared.entries.Out.TheVariants as out
use Rattle.sync_rules.specs.Clients.{Meaning}
use Rattle.sync_rules.specs.Consistency.{ids_of_held}
use Rattle.sync_rules.specs.Facts.{Facts, Held, Id, after_all, after_batches, nothing}
use Rattle.sync_rules.specs.Legal.{GoesOn}
use Rattle.sync_rules.specs.Lists.{is_among, same_id}
use Rattle.sync_rules.proofs.Continuing.{continues_batches}
use Rattle.entry_codec.specs.declared.naming.Format.TheVariants as kind
use Rattle.entry_codec.specs.Laws.{AllowedNames}
use Rattle.entry_codec.specs.Naming.{held_bytes, place_in}
use Rattle.entry_codec.specs.Payloads.{journal_end, names_of, payload, payloads, spellings}
use Rattle.entry_codec.specs.Spelling.{EntryNames, OutNames, flags_byte, on_session, out_bytes}
use Rattle.entry_codec.specs.Spelling.{spelling_in}
use Rattle.entry_codec.proofs.LawProofs.{batch_len_same}
use Rattle.journal_compaction.specs.Paging.{frames_len}
use Rattle.journal_compaction.proofs.Filling.{written}
use Rattle.journal_compaction.proofs.Weighing.{frames-append, one_frame}

-- ---- the place of an id in a longer list

module _ (ids more : List Id) where
  abbrev Among : Id → Type 0
  Among id = is_among ids id ≡ true

  abbrev longer : Id → List ℕ
  longer id = held_bytes kind.Short (ids ++ more) id

  abbrev shorter : Id → List ℕ
  shorter id = held_bytes kind.Short ids id

place_front : (ids more : List Id) (id : Id) → is_among ids id ≡ true
    → place_in (ids ++ more) id ≡ place_in ids id
place_front [] more id e = cc
place_front (x ∷ ids) more id e =
    elim (same_id x id) as (λ b. (b || is_among ids id) ≡ true
    → cond b (Some 0) (option_map suc (place_in (ids ++ more) id))
    ≡ cond b (Some 0) (option_map suc (place_in ids id))) [
      | true ↦ λ h. refl
      | false ↦ λ h. ap (option_map suc) (place_front ids more id h)
    ] e

module _ (ids more : List Id) where
  held_front : (id : Id) → Among ids more id → longer ids more id ≡ shorter ids more id
  held_front id among =
      ap (λ (o : Option ℕ). to_be_bytes w32 (unwrap_or o 0)) (place_front ids more id among)

  list_front : (xs : List Id) → AllByRecursion (Among ids more) xs
      → flat_map (longer ids more) xs ≡ flat_map (shorter ids more) xs
  list_front [] all = refl
  list_front (x ∷ xs) all = λ i. held_front x all.0 i ++ list_front xs all.1 i

  out_front : (o : Out) → OutNames (Among ids more) o → out_bytes (longer ids more) o ≡ out_bytes
      (shorter ids more) o
  out_front (out.Acks xs) all =
      ap (λ (b : List ℕ). 0 ∷ (to_be_bytes w16 (length xs) ++ b)) (list_front xs all)
  out_front (out.Requests xs) all = refl
  out_front (out.Offers xs) all =
      ap (λ (b : List ℕ). 2 ∷ (to_be_bytes w16 (length xs) ++ b)) (list_front xs all)
  out_front (out.Send id) all = ap (λ (b : List ℕ). 3 ∷ b) (held_front id all)

  spelled_front : (e : Entry) → EntryNames (Among ids more) e
      → spelling_in kind.Short (ids ++ more) e ≡ spelling_in kind.Short ids e
  unfolding spelling_in
  spelled_front (entry.Judged id) named = ap (λ (b : List ℕ). 8 ∷ b) (held_front id named)
  spelled_front (entry.Deliver id) named = ap (λ (b : List ℕ). 9 ∷ b) (held_front id named)
  spelled_front (entry.Invalid id) named = ap (λ (b : List ℕ). 10 ∷ b) (held_front id named)
  spelled_front (entry.Again s id) named =
      ap (λ (b : List ℕ). 11 ∷ on_session s b) (held_front id named)
  spelled_front (entry.Seen s id) named =
      ap (λ (b : List ℕ). 13 ∷ on_session s b) (held_front id named)
  spelled_front (entry.Asked s id) named =
      ap (λ (b : List ℕ). 14 ∷ on_session s b) (held_front id named)
  spelled_front (entry.Out s now what) named =
      ap (λ (b : List ℕ). 15 ∷ on_session s (to_be_bytes w64 now ++ b)) (out_front what named)
  spelled_front (entry.Tried t) named =
      ap (λ (b : List ℕ).
      18 ∷ t.contact
      ∷ (b ++ (flags_byte t.seen t.owed t.asked ∷ t.tries ∷ to_be_bytes w64 t.expiry)))
      (held_front t.id named)
  spelled_front _ named = refl

  spellings_front : (es : List Entry) → AllByRecursion (EntryNames (Among ids more)) es
      → spellings kind.Short (ids ++ more) es ≡ spellings kind.Short ids es
  spellings_front [] all = refl
  spellings_front (e ∷ es) all = λ i. spelled_front e all.0 i ++ spellings_front es all.1 i

ids-append : (hs more : List Held) → ids_of_held (hs ++ more) ≡ ids_of_held hs ++ ids_of_held more
ids-append [] more = refl
ids-append (h ∷ hs) more = ap (λ (ids : List Id). h.id ∷ ids) (ids-append hs more)

-- ---- batches

-- each batch names only what is held before it, so it is written the same where the later messages
-- have names too
pub payloads_written : AllowedNames → (clients : Meaning) (f : Facts) (bs : List (List Entry))
    → GoesOn clients f bs
    → payloads kind.Short f bs ≡ written (names_of (after_batches f bs)) bs
payloads_written laws clients f [] legal = refl
payloads_written laws clients f (b ∷ bs) legal =
    let on = continues_batches f (b ∷ bs) in
    let ids = names_of f in
    let more = ids_of_held on.held.more in
    let all : names_of (after_batches f (b ∷ bs)) ≡ ids ++ more = ap ids_of_held on.held.goes_on
    ∙ ids-append f.held on.held.more in
    let here : payload kind.Short f b
    ≡ spellings kind.Short (names_of (after_batches f (b ∷ bs))) b =
    sym (spellings_front ids more b (laws clients f b legal.0))
    ∙ ap (λ (names : List Id). spellings kind.Short names b) (sym all) in
    λ i. here i ∷ payloads_written laws clients (after_all f b) bs legal.1 i

-- how long the frames are does not depend on the names
pub written_len : (names : List (List ℕ)) (f : Facts) (bs : List (List Entry))
    → frames_len (payloads kind.Short f bs) ≡ frames_len (written names bs)
written_len names f [] = refl
written_len names f (b ∷ bs) =
    let p = payload kind.Short f b in
    let q = spellings kind.Short names b in
    omega (
      arith,
      frames-append (p ∷ []) (payloads kind.Short (after_all f b) bs),
      frames-append (q ∷ []) (written names bs),
      one_frame p,
      one_frame q,
      batch_len_same kind.Short (names_of f) b,
      batch_len_same kind.Short names b,
      written_len names (after_all f b) bs,
    )

pub end_written : (names : List (List ℕ)) (bs : List (List Entry))
    → journal_end kind.Short bs ≡ end_of (written names bs)
end_written names bs = omega (arith, written_len names nothing bs)
