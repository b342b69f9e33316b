-- How the items that a link takes come out of a reader that is fed one piece after the other.
use Rattle.std.proofs.Common.{◌≡◌, ℕ, List, [], ◌++◌, append-nil, refl, sym, ◌∙◌, ap, subst}
use Rattle.record_grammar.specs.Laws.{EndingsAreOfRests, RestsGiveNothing}
use Rattle.record_grammar.specs.Reading.{found_in}
use Rattle.record_grammar.specs.Stream.{EndsWith, ending, items, rest, rest_place}
use Rattle.record_grammar.specs.declared.front.Reason.{Reason}
use Rattle.record_grammar.specs.declared.reading.Found.TheVariants as found
use Rattle.record_grammar.specs.declared.stream.Ending.{Ending}
use Rattle.record_grammar.specs.declared.stream.Ending.TheVariants as ending_kind
use Rattle.record_grammar.specs.declared.stream.Item.{Item}
use Rattle.record_stream.specs.Pieces.{ReadingsFollow, ReadingsWiden}
use Rattle.record_stream.specs.Reading.{AwaitsBytes, EndsBad, ReaderState, ReadsOn, fresh_reader}
use Rattle.sync_course.specs.declared.ends.LinkEnd.TheVariants as end
use Rattle.sync_course.proofs.RunLaws.{new_items_are}
use Rattle.sync_course.specs.Links.{new_items, stands_behind}
use Rattle.sync_course.specs.Reading.{HasRead, IsReading}

pub fresh_has_read : AwaitsBytes fresh_reader → items 0 [] ≡ [] → HasRead [] fresh_reader
fresh_has_read awaits none = record {
  reads = record {
    items_stay = λ more. ap (λ l. l ++ items 0 ([] ++ ([] ++ more))) (sym none);
    ending_stays = λ more. refl;
  };
  awaits = awaits;
}

-- the new items of a piece are those to come
pub piece_comes : ReadingsWiden → (heard bytes : List ℕ) (r : ReaderState) → HasRead heard r → IsReading (heard ++ bytes) bytes r (new_items heard bytes)
piece_comes widen heard bytes r h = record {
  given = items 0 heard;
  reads = widen heard [] bytes fresh_reader r (items 0 heard) h.reads;
  to_come = new_items_are heard bytes (items r.place (r.bytes ++ bytes)) (h.reads.items_stay bytes);
}

-- an answer of the reader gives the first of them
pub answer_comes : ReadingsFollow → (heard left left' : List ℕ) (r r' : ReaderState) (its has : List Item) → IsReading heard left r its
    → ReadsOn left r has left' r' → (others : List Item) × (its ≡ has ++ others) × IsReading heard left' r' others
answer_comes follow heard left left' r r' its has reading reads =
    let others = items r'.place (r'.bytes ++ left') in
    let parts = reads.items_stay [] in (
      others,
      reading.to_come
          ∙ ap (λ l. items r.place (r.bytes ++ l)) (sym (append-nil left))
          ∙ parts
          ∙ ap (λ l. has ++ items r'.place (r'.bytes ++ l)) (append-nil left'),
      record {
        given = reading.given ++ has;
        reads = follow heard left left' fresh_reader r r' reading.given has reading.reads reads;
        to_come = refl;
      },
    )

-- where nothing is left of the piece and the reader awaits bytes, none is to come
pub none_come : (heard left : List ℕ) (r : ReaderState) (its : List Item) → IsReading heard left r its → left ≡ [] → AwaitsBytes r
    → (its ≡ []) × HasRead heard r
none_come heard left r its reading none awaits =
    let nothing : items r.place (r.bytes ++ left) ≡ [] =
    ap (λ l. items r.place (r.bytes ++ l)) none ∙ ap (items r.place) (append-nil r.bytes) ∙ awaits.nothing in
    let reads : ReadsOn heard fresh_reader reading.given [] r =
    subst (λ l. ReadsOn heard fresh_reader reading.given l r) none reading.reads in
    let stays = reads.items_stay [] in
    let whole : items 0 heard ≡ reading.given =
    ap (items 0) (sym (append-nil heard))
    ∙ stays
    ∙ ap (λ l. reading.given ++ l) (ap (items r.place) (append-nil r.bytes) ∙ awaits.nothing)
    ∙ append-nil reading.given in (
      reading.to_come ∙ nothing,
      record {
        reads = subst (λ given. ReadsOn heard fresh_reader given [] r) (sym whole) reads;
        awaits = awaits;
      },
    )

-- how what was heard ends is how what the reader holds does
pub ends_as : (heard : List ℕ) (r : ReaderState) → HasRead heard r → ending 0 heard ≡ ending r.place r.bytes
ends_as heard r h =
    let stays = h.reads.ending_stays [] in
    ap (ending 0) (sym (append-nil heard)) ∙ stays ∙ ap (ending r.place) (append-nil r.bytes)

-- where the reader answered More the link is still asked
never_bad : (place : ℕ) (bytes : List ℕ) (e : Ending) → EndsWith place bytes e → found_in bytes ≡ found.More → stands_behind end.Going e ≡ end.Going
never_bad place bytes ending_kind.Clean ends more = refl
never_bad place bytes (ending_kind.Inside at) ends more = refl
never_bad place bytes (ending_kind.Bad at why) ends more = let is : found.More ≡ found.Bad why = sym more ∙ ends.1 in cc

pub goes_on_behind_more : EndingsAreOfRests → RestsGiveNothing → (heard : List ℕ) (r : ReaderState) → HasRead heard r → found_in r.bytes ≡ found.More
    → stands_behind end.Going (ending 0 heard) ≡ end.Going
goes_on_behind_more ends rests_give heard r h more =
    let same : rest r.place r.bytes ≡ r.bytes = (rests_give r.place r.bytes h.awaits.rest).1 in
    ap (stands_behind end.Going) (ends_as heard r h)
    ∙ never_bad (rest_place r.place r.bytes) (rest r.place r.bytes) (ending r.place r.bytes) (ends r.place r.bytes) (ap found_in same ∙ more)

-- where it answered Bad the link is closed so
pub closes_behind_bad : (heard : List ℕ) (r : ReaderState) (place : ℕ) (why : Reason) → HasRead heard r → EndsBad r place why
    → stands_behind end.Going (ending 0 heard) ≡ end.Bad place why
closes_behind_bad heard r place why h bad =
    let ends = bad.ends [] in
    ap (stands_behind end.Going) (ends_as heard r h ∙ ap (ending r.place) (sym (append-nil r.bytes)) ∙ ends)
