-- Which file a journal is found in depends on the headers alone.
use Rattle.std.proofs.Common.{◌≡◌, ℕ, zero, suc, ◌≤◌, nat_le, true, List, ◌++◌, ◌∷◌, length, take}
use Rattle.std.proofs.Common.{drop, sym, ap, ◌∙◌, arith, length-append, length-drop, append_assoc}
use Rattle.std.specs.List.{flat_map}
use Rattle.std.specs.Int.{w64, from_be_bytes}
use Rattle.std.proofs.lemmas.Bool.Decides.{nat_tests}
use Rattle.std.proofs.lemmas.List.{take-append-le, drop-append-le}
use Rattle.std.proofs.Math.ListN.{get_or-append}
use Rattle.outside.specs.Files.{Two, file_of}
use Rattle.outside.specs.Steps.{other_of}
use Rattle.outside.specs.Frames.{is_open, format_in, generation_in, journal_file, HasFrames}
use Rattle.outside.specs.Frames.{frame_of}

-- what the 14 bytes of a header say of a file
record SameHeader (a b : List ℕ) : Type 0 where
  open_is : is_open a ≡ is_open b
  format_is : format_in a ≡ format_in b
  generation_is : generation_in a ≡ generation_in b

long_enough : (a : List ℕ) → 14 ≤ length a → nat_le 14 (length a) ≡ true
long_enough a long = grind (arith, nat_tests)

-- what stands behind the header says nothing
behind_header : (header rest : List ℕ) → length header ≡ 14 → SameHeader (header ++ rest) header
behind_header header rest long =
    let e0 = get_or-append header rest 0 0 (omega arith) in
    let e1 = get_or-append header rest 0 1 (omega arith) in
    let e2 = get_or-append header rest 0 2 (omega arith) in
    let e3 = get_or-append header rest 0 3 (omega arith) in
    let e4 = get_or-append header rest 0 4 (omega arith) in
    let all : nat_le 14 (length (header ++ rest)) ≡ nat_le 14 (length header) =
    long_enough (header ++ rest) (omega (arith, length-append header rest))
    ∙ sym (long_enough header (omega arith)) in
    let six : 6 ≤ length header = omega arith in
    let eight : 8 ≤ length (drop 6 header) = omega (arith, length-drop 6 header) in
    record {
      open_is = cc;
      format_is = get_or-append header rest 0 5 (omega arith);
      generation_is = ap (λ l. from_be_bytes w64 (take 8 l)) (drop-append-le 6 header rest six)
          ∙ ap (from_be_bytes w64) (take-append-le 8 (drop 6 header) rest eight);
    }

framed_header : (bytes header : List ℕ) (payloads : List (List ℕ)) → HasFrames bytes header payloads
    → SameHeader bytes header
framed_header bytes header payloads frames =
    let rest = flat_map frame_of payloads ++ frames.gate ∷ frames.rest in
    let same = behind_header header rest frames.long in
    let shape : bytes ≡ header ++ rest = frames.whole
    ∙ append_assoc header (flat_map frame_of payloads) (frames.gate ∷ frames.rest) in
    record {
      open_is = ap is_open shape ∙ same.open_is;
      format_is = ap format_in shape ∙ same.format_is;
      generation_is = ap generation_in shape ∙ same.generation_is;
    }

-- two files with one header
one_header : (a b header : List ℕ) (ps qs : List (List ℕ)) → HasFrames a header ps
    → HasFrames b header qs → SameHeader a b
one_header a b header ps qs first second =
    let x = framed_header a header ps first in
    let y = framed_header b header qs second in
    record {
      open_is = x.open_is ∙ sym y.open_is;
      format_is = x.format_is ∙ sym y.format_is;
      generation_is = x.generation_is ∙ sym y.generation_is;
    }

pub one_format : (a b header : List ℕ) (ps qs : List (List ℕ)) → HasFrames a header ps
    → HasFrames b header qs → format_in a ≡ format_in b
one_format a b header ps qs first second = (one_header a b header ps qs first second).format_is

pub one_generation : (a b header : List ℕ) (ps qs : List (List ℕ)) → HasFrames a header ps
    → HasFrames b header qs → generation_in a ≡ generation_in b
one_generation a b header ps qs first second =
    (one_header a b header ps qs first second).generation_is

same_file : (m n : Two (List ℕ)) → is_open m.first ≡ is_open n.first
    → is_open m.second ≡ is_open n.second → generation_in m.first ≡ generation_in n.first
    → generation_in m.second ≡ generation_in n.second
    → journal_file m ≡ journal_file n
same_file m n a b c d = cc

-- the journal's file stays the same where its header stays and the other file does
pub one_journal_file : (m n : Two (List ℕ)) (file : ℕ) (header : List ℕ) (ps qs : List (List ℕ))
    → HasFrames (file_of m file) header ps → HasFrames (file_of n file) header qs
    → other_of m file ≡ other_of n file → journal_file m ≡ journal_file n
one_journal_file m n zero header ps qs first second other =
    let same = one_header m.first n.first header ps qs first second in
    same_file m n same.open_is (ap is_open other) same.generation_is (ap generation_in other)
one_journal_file m n (suc _) header ps qs first second other =
    let same = one_header m.second n.second header ps qs first second in
    same_file m n (ap is_open other) same.open_is (ap generation_in other) same.generation_is
