-- A stream heard piece by piece.
use Rattle.std.proofs.Common.{◌≡◌, ℕ, ◌+◌, ◌≤◌, min, Bool, true, false, List, [], ◌∷◌, ◌++◌, length, take, drop, refl, sym, ap, ◌∙◌, arith, length-append, length-drop}
use Rattle.std.proofs.lemmas.List.{append_assoc, append-nil, length-take-le, take-append-drop}
use Rattle.std.specs.Prelude.{if◌then◌else◌}
use Rattle.record_grammar.specs.Stream.{ending, items}
use Rattle.record_grammar.specs.declared.stream.Item.{Item}
use Rattle.record_stream.specs.Pieces.{Hearing}
use Rattle.record_stream.specs.Reading.{AwaitsBytes, ReaderState, ReadsOn, fresh_reader}

-- nothing was read
pub read_none : (piece : List ℕ) (r : ReaderState) → ReadsOn piece r [] piece r
read_none piece r = record { items_stay = λ more. refl; ending_stays = λ more. refl }

-- what the reader gives of the bytes that it holds comes behind what it gave
pub read_next : (piece left : List ℕ) (old mid new : ReaderState) (has more_items : List Item) → ReadsOn piece old has left mid
    → ReadsOn [] mid more_items [] new → ReadsOn piece old (has ++ more_items) left new
read_next piece left old mid new has more_items first second = record {
  items_stay = λ more. first.items_stay more ∙ ap (λ (x : List Item). has ++ x) (second.items_stay (left ++ more))
      ∙ sym (append_assoc has more_items (items new.place (new.bytes ++ (left ++ more))));
  ending_stays = λ more. first.ending_stays more ∙ second.ending_stays (left ++ more);
}

-- bytes of what is left are held
pub read_fed : (piece left : List ℕ) (count : ℕ) (old mid fed : ReaderState) (has : List Item) → ReadsOn piece old has left mid
    → fed ≡ record mid { bytes = mid.bytes ++ take count left } → ReadsOn piece old has (drop count left) fed
read_fed piece left count old mid fed has read ef =
    let cut = λ (more : List ℕ). ap (λ (x : List ℕ). mid.bytes ++ (x ++ more)) (sym (take-append-drop count left))
    ∙ ap (λ (x : List ℕ). mid.bytes ++ x) (append_assoc (take count left) (drop count left) more)
    ∙ sym (append_assoc mid.bytes (take count left) (drop count left ++ more)) in
    record {
      items_stay = λ more. rw ef (read.items_stay more ∙ ap (λ (x : List ℕ). has ++ items mid.place x) (cut more));
      ending_stays = λ more. rw ef (read.ending_stays more ∙ ap (λ (x : List ℕ). ending mid.place x) (cut more));
    }

-- a reader takes no more than there is
pub fed_few : (failed : Bool) (count a b : ℕ) → count ≡ (if failed then 0 else min a b) → count ≤ a
fed_few true count a b e = omega arith
fed_few false count a b e = omega arith

-- as many bytes are held and left as before
pub fed_counted : (left : List ℕ) (count : ℕ) (mid fed : ReaderState) → fed ≡ record mid { bytes = mid.bytes ++ take count left } → count ≤ length left
    → length fed.bytes + length (drop count left) ≡ length mid.bytes + length left
fed_counted left count mid fed ef few =
    let held : length fed.bytes ≡ length (mid.bytes ++ take count left) = ap (λ (s : ReaderState). length s.bytes) ef in
    omega (arith, held, length-append mid.bytes (take count left), length-take-le count left few, length-drop count left)

-- more behind a piece is left behind what is left of it
pub read_wider : (piece left more : List ℕ) (old new : ReaderState) (has : List Item) → ReadsOn piece old has left new
    → ReadsOn (piece ++ more) old has (left ++ more) new
read_wider piece left more old new has read = record {
  items_stay = λ later. ap (λ (x : List ℕ). items old.place (old.bytes ++ x)) (append_assoc piece more later) ∙ read.items_stay (more ++ later)
      ∙ ap (λ (x : List ℕ). has ++ items new.place (new.bytes ++ x)) (sym (append_assoc left more later));
  ending_stays = λ later. ap (λ (x : List ℕ). ending old.place (old.bytes ++ x)) (append_assoc piece more later) ∙ read.ending_stays (more ++ later)
      ∙ ap (λ (x : List ℕ). ending new.place (new.bytes ++ x)) (sym (append_assoc left more later));
}

-- what is read of what is left comes behind
pub read_then : (piece mid_left rest : List ℕ) (old mid new : ReaderState) (has others : List Item) → ReadsOn piece old has mid_left mid
    → ReadsOn mid_left mid others rest new → ReadsOn piece old (has ++ others) rest new
read_then piece mid_left rest old mid new has others first second = record {
  items_stay = λ more. first.items_stay more ∙ ap (λ (x : List Item). has ++ x) (second.items_stay more)
      ∙ sym (append_assoc has others (items new.place (new.bytes ++ (rest ++ more))));
  ending_stays = λ more. first.ending_stays more ∙ second.ending_stays more;
}

pub joined : (piece left more rest : List ℕ) (old mid new : ReaderState) (has others : List Item) → ReadsOn piece old has left mid
    → ReadsOn (left ++ more) mid others rest new → ReadsOn (piece ++ more) old (has ++ others) rest new
joined piece left more rest old mid new has others first second =
    read_then (piece ++ more) (left ++ more) rest old mid new has others (read_wider piece left more old mid has first) second

-- all is read, and no item is left
pub whole : (bytes : List ℕ) (has : List Item) (r : ReaderState)
    → ReadsOn bytes fresh_reader has [] r → AwaitsBytes r
    → (items 0 bytes ≡ has) × (ending 0 bytes ≡ ending r.place r.bytes)
whole bytes has r read waits =
    let its : items 0 bytes ≡ has ++ items r.place r.bytes = rw (append-nil bytes, append-nil r.bytes) at (read.items_stay []) in
    let end : ending 0 bytes ≡ ending r.place r.bytes = rw (append-nil bytes, append-nil r.bytes) at (read.ending_stays []) in
    (its ∙ ap (λ (x : List Item). has ++ x) waits.nothing ∙ append-nil has, end)

-- one item more is heard
module _ {L : Type 0} (heard : L → List Item → L → Type 0) where
  pub hearing_none : (piece : List ℕ) (r : ReaderState) (l : L) → Hearing heard piece r piece r l l
  hearing_none piece r l = record {
    has = [];
    reads = read_none piece r;
    hears = λ first before had. rw append-nil had;
  }

  pub hearing_item : (piece left left' : List ℕ) (old mid new : ReaderState) (l l' l'' : L) (i : Item) → Hearing heard piece old left mid l l'
      → ReadsOn left mid (i ∷ []) left' new → ((first : L) (items : List Item) → heard first items l' → heard first (items ++ i ∷ []) l'')
      → Hearing heard piece old left' new l l''
  hearing_item piece left left' old mid new l l' l'' i so_far read hear = record {
    has = so_far.has ++ i ∷ [];
    reads = read_then piece left left' old mid new so_far.has (i ∷ []) so_far.reads read;
    hears = λ first before had. rw (← append_assoc) (hear first (before ++ so_far.has) (so_far.hears first before had));
  }

  pub hearing_end : (piece left left' : List ℕ) (old mid new : ReaderState) (l l' : L) → Hearing heard piece old left mid l l'
      → ReadsOn left mid [] left' new → left' ≡ [] → Hearing heard piece old [] new l l'
  hearing_end piece left left' old mid new l l' so_far read none = record {
    has = so_far.has;
    reads = let all = read_then piece left left' old mid new so_far.has [] so_far.reads read in rw (append-nil so_far.has, none) at all;
    hears = so_far.hears;
  }
