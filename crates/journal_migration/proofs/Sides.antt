-- The two files: which has the journal, and what they stand for.
use Rattle.std.proofs.Common.{◌≡◌, ℕ, zero, suc, ◌-◌, ◌<◌, true, false, cond, List, None, Some}
use Rattle.std.proofs.Common.{refl, sym, ap, subst, ◌∙◌, arith}
use Rattle.std.specs.Prelude.{◌&&◌, nat_lt}
use Rattle.outside.specs.Files.{Two, File, IsFileImage, NothingPending, file_of, read_files}
use Rattle.outside.specs.Files.{settled}
use Rattle.outside.specs.Frames.{format_in, generation_in, is_open, journal_file}
use Rattle.outside.specs.Steps.{other_of}
use Rattle.outside.proofs.Calm.{settled_only}
use Rattle.sync_rules.specs.declared.entries.Entry.{Entry}
use Rattle.sync_rules.specs.Clients.{Meaning}
use Rattle.entry_codec.specs.Naming.{format_of}
use Rattle.entry_codec.specs.Standing.{journal}
use Rattle.entry_codec.specs.ReadingFiles.{read_in, read_standing, stands_in}
use Rattle.file_standing.specs.Standing.{stands}
use Rattle.entry_codec.proofs.FrontLaws.{found_open}
use Rattle.journal_migration.specs.Migrating.{HoldsFirst}

pub read_file : (two : Two File) (file : ℕ) → file_of (read_files two) file ≡ (file_of two file).now
read_file two zero = refl
read_file two (suc _) = refl

pub own_file : {A : Type 0} (two : Two A) (own : ℕ) → own < 2 → file_of two own ≡ other_of two
    (1 - own)
own_file two zero few = refl
own_file two (suc zero) few = refl
own_file two (suc (suc n)) few = absurd (omega (arith, few))

pub settled_one : (two : Two File) (own : ℕ) → own < 2 → NothingPending two 0 → NothingPending two 1
    → NothingPending two own
settled_one two zero few first second = first
settled_one two (suc zero) few first second = second
settled_one two (suc (suc n)) few first second = absurd (omega (arith, few))

pub settled_first : (two : Two File) (own : ℕ) → own < 2 → NothingPending two own
    → NothingPending two (1 - own) → NothingPending two 0
settled_first two zero few this other = this
settled_first two (suc zero) few this other = other
settled_first two (suc (suc n)) few this other = absurd (omega (arith, few))

pub settled_second : (two : Two File) (own : ℕ) → own < 2 → NothingPending two own
    → NothingPending two (1 - own) → NothingPending two 1
settled_second two zero few this other = other
settled_second two (suc zero) few this other = this
settled_second two (suc (suc n)) few this other = absurd (omega (arith, few))

-- two pairs of files that are the same
pub two_same : {A : Type 0} (m n : Two A) (own : ℕ) → own < 2 → file_of m own ≡ file_of n own
    → file_of m (1 - own) ≡ file_of n (1 - own) → m ≡ n
two_same m n zero few this other = λ i. record { first = this i; second = other i }
two_same m n (suc zero) few this other = λ i. record { first = other i; second = this i }
two_same m n (suc (suc k)) few this other = absurd (omega (arith, few))

-- a crash leaves of a file in which nothing is pending what it reads as
pub image_only : (two : Two File) (file : ℕ) (c : List ℕ) → NothingPending two file → IsFileImage
    (file_of two file) c → c ≡ (file_of two file).now
image_only two file c pending image =
    settled_only (file_of two file).now c (subst (λ (f : File). IsFileImage f c) pending image)

-- ---- which file has the journal

-- the one open header is that of the journal's file
pub one_open : (m : Two (List ℕ)) (own : ℕ) → own < 2 → is_open (file_of m own) ≡ true
    → is_open (file_of m (1 - own)) ≡ false → journal_file m ≡ Some own
one_open m zero few this other =
    ap (λ b.
    cond b (cond (is_open m.second && nat_lt (generation_in m.first) (generation_in m.second))
    (Some 1) (Some 0)) (cond (is_open m.second) (Some 1) None)) this
    ∙ ap (λ b. cond (b && nat_lt (generation_in m.first) (generation_in m.second)) (Some 1)
    (Some 0)) other
one_open m (suc zero) few this other =
    ap (λ b.
    cond b (cond (is_open m.second && nat_lt (generation_in m.first) (generation_in m.second))
    (Some 1) (Some 0)) (cond (is_open m.second) (Some 1) None)) other
    ∙ ap (λ b. cond b (Some 1) None) this
one_open m (suc (suc n)) few this other = absurd (omega (arith, few))

-- what files stand for is a function of the journal's file
pub stands_own : (clients : Meaning) (m n : Two (List ℕ)) (own : ℕ) → journal_file m ≡ Some own
    → journal_file n ≡ Some own → file_of m own ≡ file_of n own
    → stands clients m ≡ stands clients n
unfolding read_standing
stands_own clients m n own first second same =
    ap (stands_in clients m) first
    ∙ ap (λ (bytes : List ℕ). read_in clients own bytes (format_of (format_in bytes))) same
    ∙ sym (ap (stands_in clients n) second)

-- files of which the journal's is as it was, and the other has no open header
pub shut_stands : (clients : Meaning) (own generation : ℕ) (j : List (List Entry)) (two : Two File)
    → own < 2 → HoldsFirst clients own generation j two → (m : Two (List ℕ))
    → file_of m own ≡ (file_of two own).now → is_open (file_of m (1 - own)) ≡ false
    → (journal_file m ≡ Some own) × (stands clients m ≡ journal j)
shut_stands clients own generation j two few holds m this other =
    let same : file_of m own ≡ file_of (read_files two) own = this ∙ sym (read_file two own) in
    let open_own : is_open (file_of m own) ≡ true = ap is_open same
    ∙ found_open (read_files two) own holds.found in
    let found = one_open m own few open_own other in
    (found, stands_own clients m (read_files two) own found holds.found same ∙ holds.stands_for)

-- the journal is held on, where the other file changed
pub holds_on : (clients : Meaning) (own generation : ℕ) (j : List (List Entry))
    (two two' : Two File) → own < 2 → HoldsFirst clients own generation j two
    → file_of two' own ≡ file_of two own
    → NothingPending two' (1 - own) → is_open (file_of two' (1 - own)).now ≡ false
    → HoldsFirst clients own generation j two'
holds_on clients own generation j two two' few holds this pending shut =
    let now : (file_of two' own).now ≡ (file_of two own).now = ap (λ (f : File). f.now) this in
    let before = settled_one two own few holds.first_settled holds.second_settled in
    let still : NothingPending two' own = this ∙ before
    ∙ ap (λ (f : File). settled f.now) (sym this) in
    let both = shut_stands clients own generation j two few holds (read_files two')
    (read_file two' own ∙ now) (ap is_open (read_file two' (1 - own)) ∙ shut) in
    record {
      first_settled = settled_first two' own few still pending;
      second_settled = settled_second two' own few still pending;
      found = both.0;
      format_is = ap format_in now ∙ holds.format_is;
      generation_is = ap generation_in now ∙ holds.generation_is;
      stands_for = both.1;
    }
