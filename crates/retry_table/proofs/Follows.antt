-- Sets that follow rows: what a change leaves, and that a search of a queue is one of the rows.
use Rattle.std.proofs.Common.{◌≡◌, ℕ, suc, ◌+◌, ◌-◌, ◌^◌, ◌<◌, ◌≤◌, Bool, true, false, cond, ◌&&◌}
use Rattle.std.proofs.Common.{not, nat_le, List, [], ◌∷◌, ◌++◌, length, None, Some, IfSome, refl}
use Rattle.std.proofs.Common.{sym, ap, subst, ◌∙◌, get_or, set, replicate, arith, length-append}
use Rattle.std.proofs.Common.{inl, inr}
use Rattle.std.proofs.lemmas.List.{length-set, length-replicate, get_or-set_same, get_or-set_other}
use Rattle.std.proofs.lemmas.Bool.{cases_eq}
use Rattle.std.specs.List.{position_from}
use Rattle.due_tree.specs.Due.{is_due}
use Rattle.due_tree.specs.Sets.{next_set}
use Rattle.due_tree.proofs.Places.{longer_at}
use Rattle.sync_rules.specs.declared.entries.Mode.TheVariants as mode
use Rattle.retry_table.specs.Table.{KeptRow, no_kept, kept_in}
use Rattle.retry_table.specs.Due.{numbers_where, may_be_sent, is_sent_at, is_offered_at}
use Rattle.retry_table.specs.Queues.{is_awaited, is_timely, next_timely, HasPassingRows}
use Rattle.retry_table.specs.declared.blocks.Times.TheVariants as times

pub longer_least : {X : Type 0} (xs : List X) (d : X) (count : ℕ) → length xs ≤ length (xs ++ replicate (count - length xs) d)
longer_least xs d count = omega (arith, length-append xs (replicate (count - length xs) d))

pub longer_most : {X : Type 0} (xs : List X) (d : X) (count : ℕ) → count ≤ length (xs ++ replicate (count - length xs) d)
longer_most xs d count = omega (arith, length-append xs (replicate (count - length xs) d), length-replicate (count - length xs) d)

pub longer_small : {X : Type 0} (xs : List X) (d : X) (count most : ℕ) → length xs < most → count < most → length (xs ++ replicate (count - length xs) d) < most
longer_small xs d count most h k = omega (arith, length-append xs (replicate (count - length xs) d), length-replicate (count - length xs) d)

module _ (test : KeptRow → Bool) (rows : List KeptRow) (places : List Bool) (f : HasPassingRows test rows places) where
  -- a row and its place are written
  pub follows-set : (n : ℕ) (kept : KeptRow) (v : Bool) → n < length rows → v ≡ test kept → HasPassingRows test (set rows n kept) (set places n v)
  follows-set n kept v within is =
      let there : n < length places = omega (arith, f.room) in
      record {
        same = λ k. elim (cases_eq k n) [
          | inl here ↦ subst (λ m. get_or (set places n v) m false ≡ test (kept_in (set rows n kept) m)) (sym here)
              (get_or-set_same places n v false there ∙ is ∙ ap test (sym (get_or-set_same rows n kept no_kept within)))
          | inr other ↦ get_or-set_other places n k v false other ∙ f.same k ∙ ap test (sym (get_or-set_other rows n k kept no_kept other))
        ];
        room = omega (arith, f.room, length-set rows n kept, length-set places n v);
        small = omega (arith, f.small, length-set places n v);
      }

  -- the set gets more places
  pub follows-places : (count : ℕ) → count < 2 ^ 32 → HasPassingRows test rows (places ++ replicate (count - length places) false)
  follows-places count fits = record {
    same = λ k. longer_at places (count - length places) k false ∙ f.same k;
    room = omega (arith, f.room, longer_least places false count);
    small = longer_small places false count (2 ^ 32) f.small fits;
  }

  -- there are more rows, of which nothing is known
  pub follows-rows : (numbers : ℕ) → numbers ≤ length places → HasPassingRows test (rows ++ replicate (numbers - length rows) no_kept) places
  follows-rows numbers fits = record {
    same = λ k. f.same k ∙ ap test (sym (longer_at rows (numbers - length rows) k no_kept));
    room = omega (arith, f.room, length-append rows (replicate (numbers - length rows) no_kept), length-replicate (numbers - length rows) no_kept);
    small = f.small;
  }

-- no rows and no places
pub follows_none : (test : KeptRow → Bool) → test no_kept ≡ false → HasPassingRows test [] []
follows_none test none = record { same = λ k. sym none; room = omega arith; small = omega arith }

-- ---- a search of one list and of another whose elements pass alike, also past the ends

module _ {X Y : Type 0} (p : X → Bool) (q : Y → Bool) (d : X) (e : Y) (p_none : p d ≡ false) (q_none : q e ≡ false) where
  abbrev pub Alike : List X → List Y → Type 0
  Alike xs ys = (n : ℕ) → p (get_or xs n d) ≡ q (get_or ys n e)

  pub numbers_alike : (xs : List X) (ys : List Y) (i : ℕ) → Alike xs ys → numbers_where p i xs ≡ numbers_where q i ys
  numbers_alike [] [] i h = refl
  numbers_alike [] (y ∷ ys) i h =
      numbers_alike [] ys (i + 1) (λ n. h (suc n))
      ∙ ap (λ b. cond b (i ∷ numbers_where q (i + 1) ys) (numbers_where q (i + 1) ys)) (sym p_none ∙ h 0)
  numbers_alike (x ∷ xs) [] i h =
      ap (λ b. cond b (i ∷ numbers_where p (i + 1) xs) (numbers_where p (i + 1) xs)) (h 0 ∙ q_none)
      ∙ numbers_alike xs [] (i + 1) (λ n. h (suc n))
  numbers_alike (x ∷ xs) (y ∷ ys) i h =
      (λ j. cond (h 0 j) (i ∷ numbers_alike xs ys (i + 1) (λ n. h (suc n)) j) (numbers_alike xs ys (i + 1) (λ n. h (suc n)) j))

  pub position_alike : (xs : List X) (ys : List Y) (i : ℕ) → Alike xs ys → position_from p i xs ≡ position_from q i ys
  position_alike [] [] i h = refl
  position_alike [] (y ∷ ys) i h =
      position_alike [] ys (i + 1) (λ n. h (suc n)) ∙ ap (λ b. cond b (Some i) (position_from q (i + 1) ys)) (sym p_none ∙ h 0)
  position_alike (x ∷ xs) [] i h =
      ap (λ b. cond b (Some i) (position_from p (i + 1) xs)) (h 0 ∙ q_none) ∙ position_alike xs [] (i + 1) (λ n. h (suc n))
  position_alike (x ∷ xs) (y ∷ ys) i h =
      (λ j. cond (h 0 j) (Some i) (position_alike xs ys (i + 1) (λ n. h (suc n)) j))

-- ---- what is due in each queue

message_due : (now : ℕ) (kept : KeptRow) → is_timely times.ToSend now kept ≡ is_sent_at mode.Batch now kept
message_due now kept =
    elim (may_be_sent kept) as
    (λ b. is_due now (cond b (Some kept.row.expiry) None) ≡ (b && nat_le kept.row.expiry now))
    [ true ↦ refl | false ↦ refl ]

offer_due : (now : ℕ) (kept : KeptRow) → is_timely times.ToOffer now kept ≡ is_offered_at now kept
offer_due now kept =
    elim (may_be_sent kept) as
    (λ b. is_due now (cond (b && not kept.row.asked) (Some kept.row.expiry) None)
    ≡ (b && (not kept.row.asked && nat_le kept.row.expiry now))) [
      | true ↦ elim (not kept.row.asked) as (λ a. is_due now (cond a (Some kept.row.expiry) None) ≡ (a && nat_le kept.row.expiry now)) [ true ↦ refl | false ↦ refl ]
      | false ↦ refl
    ]

-- ---- so a search of a queue is one of the rows

module _ (rows : List KeptRow) where
  pub message_found : (now : ℕ) → next_timely times.ToSend 0 now rows ≡ position_from (is_sent_at mode.Batch now) 0 rows
  message_found now = position_alike (is_timely times.ToSend now) (is_sent_at mode.Batch now) no_kept no_kept refl refl rows rows 0 (λ n. message_due now (kept_in rows n))

  pub offers_found : (now : ℕ) → numbers_where (is_timely times.ToOffer now) 0 rows ≡ numbers_where (is_offered_at now) 0 rows
  offers_found now = numbers_alike (is_timely times.ToOffer now) (is_offered_at now) no_kept no_kept refl refl rows rows 0 (λ n. offer_due now (kept_in rows n))

  module _ (places : List Bool) where
    pub asked_found : (now : ℕ) → HasPassingRows is_awaited rows places → next_set 0 places ≡ position_from (is_sent_at mode.Interactive now) 0 rows
    asked_found now f = position_alike (λ is_in. is_in) (is_sent_at mode.Interactive now) false no_kept refl refl places rows 0 (λ n. f.same n)

    pub owed_found : HasPassingRows (λ kept. kept.row.owed) rows places → numbers_where (λ is_in. is_in) 0 places ≡ numbers_where (λ kept. kept.row.owed) 0 rows
    owed_found f = numbers_alike (λ is_in. is_in) (λ (kept : KeptRow). kept.row.owed) false no_kept refl refl places rows 0 (λ n. f.same n)

-- what is found is within the list
pub position_small : {X : Type 0} (p : X → Bool) (xs : List X) (i most : ℕ) → i + length xs < most → IfSome (position_from p i xs) (λ n. n < most)
position_small p [] i most h = tt
position_small p (x ∷ xs) i most h =
    elim (p x) as (λ b. IfSome (cond b (Some i) (position_from p (i + 1) xs)) (λ n. n < most)) [
      | true ↦ omega arith
      | false ↦ position_small p xs (i + 1) most (omega arith)
    ]
