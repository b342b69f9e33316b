-- What is left of a file behind an item of it, and where no item is left.
use Rattle.std.proofs.Common.{◌≡◌, ◌⊎◌, ℕ, cond, List, [], ◌∷◌, ◌++◌, ◌∙◌, ap, subst, append-nil}
use Rattle.std.proofs.Common.{inl, inr}
use Rattle.record_grammar.specs.Stream.{ending, items}
use Rattle.record_grammar.specs.declared.stream.Ending.{Ending}
use Rattle.record_grammar.specs.declared.stream.Item.{Item}
use Rattle.record_grammar.specs.declared.stream.Item.TheVariants as item
use Rattle.record_grammar.specs.declared.front.Reason.{Reason}
use Rattle.record_stream.specs.Answers.{LeavesOf, told_by}
use Rattle.record_stream.specs.declared.reader.Next.{Next}
use Rattle.record_stream.specs.declared.reader.Next.TheVariants as next_kind
use Rattle.record_stream.specs.Reading.{AwaitsBytes, ReaderState, ReadsOn, fresh_reader}
use Rattle.sync_ids.specs.declared.records.Record.{Record}
use Rattle.mailbox_core.specs.declared.ends.BoxEnding.TheVariants as box
use Rattle.sync_course.specs.Links.{closes}
use Rattle.mailbox_core.specs.Files.{box_ending, box_records, ending_behind, ends_as}
use Rattle.mailbox_core.specs.Files.{records_to_take}
use Rattle.mailbox_core.specs.Steps.{RecordsLeft, left_of}

abbrev items_in : ReaderState → List ℕ → List Item
items_in r piece = items r.place (r.bytes ++ (piece ++ []))

abbrev ending_in : ReaderState → List ℕ → Ending
ending_in r piece = ending r.place (r.bytes ++ (piece ++ []))

-- a whole file
pub left_first : (bytes : List ℕ) → left_of fresh_reader bytes
    ≡ record { records = box_records bytes; ending = box_ending bytes }
left_first bytes = λ i. record {
  records = records_to_take (items 0 (append-nil bytes i));
  ending = ending_behind (items 0 (append-nil bytes i)) (ending 0 (append-nil bytes i));
}

-- behind a record
pub record BehindOne (place : ℕ) (r : Record) (left left' : RecordsLeft) : Type 0 where
  pub records : left.records ≡ r ∷ cond (closes r) [] left'.records
  pub ending : left.ending ≡ cond (closes r) (box.NoVersion place) left'.ending

module _ (piece piece' : List ℕ) (r r' : ReaderState) where
  pub left_one : (place : ℕ) (rec : Record) → ReadsOn piece r (item.One place rec ∷ []) piece' r'
      → BehindOne place rec
      (left_of r piece) (left_of r' piece')
  left_one place rec reads = record {
    records = ap records_to_take (reads.items_stay []);
    ending = λ i. ending_behind (reads.items_stay [] i) (reads.ending_stays [] i);
  }

  pub left_skipped : (place type_byte len : ℕ) → ReadsOn piece r
      (item.Skipped place type_byte len ∷ []) piece' r'
      → left_of r piece ≡ left_of r' piece'
  left_skipped place type_byte len reads = λ i. record {
    records = records_to_take (reads.items_stay [] i);
    ending = ending_behind (reads.items_stay [] i) (reads.ending_stays [] i);
  }

  -- where no item is left
  pub left_none : ReadsOn piece r [] piece' r' → piece' ≡ [] → AwaitsBytes r'
      → left_of r piece ≡ record { records = []; ending = ends_as (ending r'.place r'.bytes) }
  left_none reads over awaits =
      let bytes : r'.bytes ++ (piece' ++ []) ≡ r'.bytes =
      ap (λ (p : List ℕ). r'.bytes ++ (p ++ [])) over
      ∙ append-nil r'.bytes in
      let none : items_in r piece ≡ [] = reads.items_stay []
      ∙ (ap (items r'.place) bytes ∙ awaits.nothing) in
      let end : ending_in r piece ≡ ending r'.place r'.bytes = reads.ending_stays []
      ∙ ap (ending r'.place) bytes in
      λ i. record { records = records_to_take (none i); ending = ending_behind (none i) (end i) }

  -- behind an answer that gives no item
  pub left_ended : (next : Next) → (next ≡ next_kind.More) ⊎
      ((place : ℕ) × (why : Reason) × (next ≡ next_kind.Bad place why))
      → ReadsOn piece r (told_by next) piece' r'
      → LeavesOf next piece r piece' r' → left_of r piece
      ≡ record { records = []; ending = ends_as (ending r'.place r'.bytes) }
  left_ended next (inl more) reads leaves =
      let left : LeavesOf next_kind.More piece r piece' r' =
      subst (λ (n : Next). LeavesOf n piece r piece' r')
      more leaves in
      left_none (subst (λ (n : Next). ReadsOn piece r (told_by n) piece' r') more reads) left.0
      left.1
  left_ended next (inr bad) reads leaves =
      let left : LeavesOf (next_kind.Bad bad.0 bad.1) piece r piece' r' = subst
      (λ (n : Next). LeavesOf n piece r piece' r') bad.2 leaves in
      left_none (subst (λ (n : Next). ReadsOn piece r (told_by n) piece' r') bad.2 reads) left.0
      left.1
