-- What is asked for by the words of links.
use Rattle.std.proofs.Common.{◌≡◌, ℕ, suc, zero, ◌+◌, ◌-◌, ◌*◌, ◌<◌, ◌≤◌, Bool, true, false, cond, not, nat_le, List, [], ◌∷◌, ◌++◌, length, refl, sym, ◌∙◌, ap, arith, Result, Ok, Err}
use Rattle.std.proofs.lemmas.List.{append_assoc, append-nil}
use Rattle.outside.specs.declared.limits.TheConstants.{LINKS}
use Rattle.commands.specs.declared.fault.WordsFault.{WordsFault}
use Rattle.commands.specs.declared.fault.WordsFault.TheVariants as fault
use Rattle.sync_words.specs.declared.link_words.LinkWords.{LinkWords}
use Rattle.stay_words.specs.declared.links.TheConstants.{FIRST_LINK, LINK_WORDS}
use Rattle.stay_words.specs.Asking.{Asked, IsReadAs, ends_at, link_of, links_of, read_then}

-- what is asked for behind links that were read
abbrev pub behind : List LinkWords → Asked (List LinkWords) → Asked (List LinkWords)
behind links asked = read_then asked (λ rest. Ok (links ++ rest))

-- so many links were read so far, and these are they
pub record AsksSo (words : List (List ℕ)) (links : List LinkWords) (number : ℕ) : Type 0 where
  pub so : links_of LINKS words FIRST_LINK
      ≡ behind links (links_of (LINKS - number) words (FIRST_LINK + number * LINK_WORDS))

behind_none : (asked : Asked (List LinkWords)) → asked ≡ behind [] asked
behind_none (Ok links) = refl
behind_none (Err place) = refl

pub asks_first : (words : List (List ℕ)) → AsksSo words [] 0
asks_first words = record { so = behind_none (links_of LINKS words FIRST_LINK) }

-- behind one more link
behind_one : (links : List LinkWords) (link : LinkWords) (asked : Asked (List LinkWords))
    → behind links (read_then asked (λ rest. Ok (link ∷ rest))) ≡ behind (links ++ link ∷ []) asked
behind_one links link (Ok rest) = ap (λ l. Ok l) (sym (append_assoc links (link ∷ []) rest))
behind_one links link (Err place) = refl

module _ (words : List (List ℕ)) (links : List LinkWords) (number : ℕ) (few : number < LINKS) where
  abbrev place : ℕ
  place = FIRST_LINK + number * LINK_WORDS

  abbrev more : Asked LinkWords → Asked (List LinkWords)
  more link = read_then link (λ link. read_then (links_of (LINKS - (number + 1)) words (place + LINK_WORDS)) (λ rest. Ok (link ∷ rest)))

  by : (b : Bool) (link : Asked LinkWords) → nat_le (length words) place ≡ b → link_of words place ≡ link
      → links_of (LINKS - number) words place ≡ cond b (Ok []) (more link)
  unfolding links_of
  by b link left is =
      let one : LINKS - number ≡ suc (LINKS - (number + 1)) = omega arith in
      ap (λ n. links_of n words place) one
      ∙ ap (λ b. cond b (Ok []) (more (link_of words place))) left
      ∙ ap (λ l. cond b (Ok []) (more l)) is

  pub asks_next : (link : LinkWords) → AsksSo words links number → nat_le (length words) place ≡ false
      → link_of words place ≡ Ok link → AsksSo words (links ++ link ∷ []) (number + 1)
  asks_next link so left is =
      let next : place + LINK_WORDS ≡ FIRST_LINK + (number + 1) * LINK_WORDS = omega arith in
      record {
        so = so.so ∙ ap (behind links) (by false (Ok link) left is)
            ∙ behind_one links link (links_of (LINKS - (number + 1)) words (place + LINK_WORDS))
            ∙ ap (λ n. behind (links ++ link ∷ []) (links_of (LINKS - (number + 1)) words n)) next;
      }

  pub asks_wrong : (e : WordsFault) → AsksSo words links number → nat_le (length words) place ≡ false
      → IsReadAs (link_of words place) (Err e) → IsReadAs (links_of LINKS words FIRST_LINK) (Err e)
  asks_wrong (fault.Usage at) so left is = so.so ∙ ap (behind links) (by false (Err at) left is)
  asks_wrong fault.Memory so left is = tt

  pub asks_no_more : AsksSo words links number → nat_le (length words) place ≡ true
      → links_of LINKS words FIRST_LINK ≡ Ok links
  asks_no_more so left =
      so.so ∙ ap (behind links) (by true (link_of words place) left refl) ∙ ap (λ l. Ok l) (append-nil links)

-- as many links as there may be, and whether a word is left
full_by : (words : List (List ℕ)) (at : ℕ) → links_of 0 words at ≡ ends_at words at []
unfolding links_of
full_by words at = refl

module _ (words : List (List ℕ)) (links : List LinkWords) (so : AsksSo words links 8) where
  pub asks_end : nat_le (length words) 34 ≡ true → links_of LINKS words FIRST_LINK ≡ Ok links
  asks_end none =
      so.so ∙ ap (behind links) (full_by words 34 ∙ ap (λ b. cond b (Ok []) (Err 34)) none) ∙ ap (λ l. Ok l) (append-nil links)

  pub asks_too_many : nat_le (length words) 34 ≡ false → links_of LINKS words FIRST_LINK ≡ Err 34
  asks_too_many left = so.so ∙ ap (behind links) (full_by words 34 ∙ ap (λ b. cond b (Ok []) (Err 34)) left)

-- whether a word is left, by the test of it
pub none_left : (b left : Bool) → left ≡ not b → left ≡ false → b ≡ true
none_left true left is none = refl
none_left false left is none = absurd (let e : true ≡ false = sym is ∙ none in cc)

pub some_left : (b left : Bool) → left ≡ not b → left ≡ true → b ≡ false
some_left false left is some = refl
some_left true left is some = absurd (let e : false ≡ true = sym is ∙ some in cc)

pub not_so : (b : Bool) → not b ≡ true → b ≡ false
not_so false is = refl
not_so true is = absurd (let e : false ≡ true = is in cc)

pub so_yet : (b : Bool) → not b ≡ false → b ≡ true
so_yet true is = refl
so_yet false is = absurd (let e : true ≡ false = is in cc)
