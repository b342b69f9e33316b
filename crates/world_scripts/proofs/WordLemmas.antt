-- The next word of a line, read in some way.
use Rattle.std.proofs.Common.{◌≡◌, ℕ, Bool, true, false, cond, List, [], ◌∷◌, length, arith, refl}
use Rattle.std.proofs.Common.{sym, ◌∙◌, ap, subst, Option, Some, None}
use Rattle.std.specs.Bool.{then_some}
use Rattle.world_scripts.specs.Cuts.{front_of, behind}
use Rattle.world_scripts.specs.Answers.{ReadsValue}
use Rattle.world_scripts.specs.Forms.{LineLeft, beside, word_in, some_bytes}

pub either : (test : Bool) (n : ℕ) → then_some test n ≡ cond test (Some n) None
either true n = refl
either false n = refl

module _ {V : Type 0} (read : List ℕ → Option V) where
  pub read_word : (left : LineLeft) (word : List ℕ) (after : LineLeft)
      → word_in Some left ≡ Some (word, after) → word_in read left ≡ beside (read word) after
  unfolding word_in
  read_word None word after is = absurd (let e : None ≡ Some (word, after) = is in cc)
  read_word (Some text) word after is =
      let both : ◌≡◌ {A = List ℕ × LineLeft} (front_of 32 text, behind 32 text) (word, after) =
      cc in
      (λ i. beside (read ((both i).0)) ((both i).1))

  pub no_word : (left : LineLeft) → word_in Some left ≡ None → word_in read left ≡ None
  unfolding word_in
  no_word None is = refl
  no_word (Some text) is = absurd (let e : Some
      (front_of 32 text, behind 32 text) ≡ None = is in cc)

  -- what stands for the word is the answer
  reads_by : (left : LineLeft) (word : List ℕ) (after : LineLeft) (r : Option V)
      → word_in Some left ≡ Some (word, after) → word_in read left ≡ beside r after
      → ReadsValue (word_in read) left r after
  reads_by left word after None is value = value
  reads_by left word after (Some v) is value = value

  pub reads_value : (left : LineLeft) (word : List ℕ) (after : LineLeft) (r : Option V)
      → word_in Some left ≡ Some (word, after) → r ≡ read word
      → ReadsValue (word_in read) left r after
  reads_value left word after r is value = reads_by left word after r is
      (read_word left word after is ∙ ap (λ v. beside v after) (sym value))

  -- no word is left
  pub reads_missing : (left after : LineLeft) (r : Option V) → word_in Some left ≡ None → r ≡ None
      → ReadsValue (word_in read) left r after
  reads_missing left after r none is =
      subst (λ (o : Option V). ReadsValue (word_in read) left o after)
      (sym is) (no_word left none)

-- ---- a descriptor

pub no_descriptor : (left : LineLeft) (word : List ℕ) (after : LineLeft)
    → word_in Some left ≡ Some (word, after) → length word ≡ 0
    → word_in some_bytes left ≡ None
no_descriptor left [] after is none = read_word some_bytes left [] after is
no_descriptor left (b ∷ word) after is none = absurd (omega arith)

pub some_descriptor : (left : LineLeft) (word : List ℕ) (after : LineLeft)
    → word_in Some left ≡ Some (word, after) → ¬ (length word ≡ 0)
    → word_in some_bytes left ≡ Some (word, after)
some_descriptor left [] after is some = absurd (some refl)
some_descriptor left (b ∷ word) after is some = read_word some_bytes left (b ∷ word) after is
