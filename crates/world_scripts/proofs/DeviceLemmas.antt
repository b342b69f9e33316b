-- The number of devices that a line says.
use Rattle.std.proofs.Common.{◌≡◌, ℕ, ◌≤◌, Bool, true, false, cond, ◌&&◌, nat_le, List}
use Rattle.std.proofs.Common.{refl, subst, Option, Some, None}
use Rattle.std.proofs.lemmas.Bool.{leb-true}
use Rattle.std.specs.Str.{is_utf8, bytes_eq}
use Rattle.std.specs.Prelude.{codes, option_map}
use Rattle.std.specs.Str.Parse.{digits_value}
use Rattle.sync_words.specs.Words.{is_number, number_in}
use Rattle.world_scripts.specs.Cuts.{front_of, behind}
use Rattle.world_scripts.specs.Forms.{LineLeft, and_then, at_least, beside, device_in, devices_in}
use Rattle.world_scripts.specs.Forms.{form_in, line_in, number_between, over, said_in, says}
use Rattle.world_scripts.specs.Forms.{show_in}
use Rattle.world_scripts.specs.Forms.{step_forms, word_in}
use Rattle.world_scripts.specs.declared.step.Action.TheVariants as action
use Rattle.world_scripts.specs.declared.step.Line.{Line}
use Rattle.world_scripts.specs.declared.step.Line.TheVariants as line
use Rattle.world_scripts.specs.declared.step.WorldStep.{WorldStep}

abbrev pub IsBetween : ℕ → ℕ → ℕ → Type 0
IsBetween least most n = (least ≤ n) × (n ≤ most)

-- ---- a number between two

few_by : (most value n : ℕ) (digits : Bool) (test : Bool) → nat_le value most ≡ test
    → cond (digits && test) (Some value) None ≡ Some n → n ≤ most
few_by most value n true true is e =
    let same : value ≡ n = cc in
    subst (λ (m : ℕ). m ≤ most) same (leb-true value most is)
few_by most value n true false is e = absurd (let no : None ≡ Some n = e in cc)
few_by most value n false test is e = absurd (let no : None ≡ Some n = e in cc)

few : (most : ℕ) (word : List ℕ) (n : ℕ) → number_in most word ≡ Some n → n ≤ most
few most word n e = few_by most (digits_value 10 word) n (is_number word)
    (nat_le (digits_value 10 word) most) refl e

many_by : (least m n : ℕ) (test : Bool) → nat_le least m ≡ test → cond test (Some m) None ≡ Some n
    → (least ≤ n) × (m ≡ n)
many_by least m n true is e =
    let same : m ≡ n = cc in
    (subst (λ (k : ℕ). least ≤ k) same (leb-true least m is), same)
many_by least m n false is e = absurd (let no : None ≡ Some n = e in cc)

between_by : (least most n : ℕ) (read : Option ℕ) → ((m : ℕ) → read ≡ Some m → m ≤ most)
    → at_least least read ≡ Some n → IsBetween least most n
between_by least most n None small e = absurd (let no : None ≡ Some n = e in cc)
between_by least most n (Some m) small e =
    let at = many_by least m n (nat_le least m) refl e in
    (at.0, subst (λ (k : ℕ). k ≤ most) at.1 (small m refl))

between : (least most : ℕ) (word : List ℕ) (n : ℕ) → number_between least most word ≡ Some n
    → IsBetween least most n
between least most word n e = between_by least most n (number_in most word) (few most word) e

-- ---- a line of one number

-- the word that was read, the number, and what is made of it
abbrev Ended : (List ℕ → Option ℕ) → (ℕ → Line) → Line → Type 0
Ended read made x = (word : List ℕ) × ((n : ℕ) × ((read word ≡ Some n) × (made n ≡ x)))

ended_by : (read : List ℕ → Option ℕ) (made : ℕ → Line) (x : Line) (word : List ℕ)
    (number : Option ℕ) (rest : LineLeft) → read word ≡ number
    → and_then (and_then (beside number rest) (λ n left. says (made n) left)) over ≡ Some x
    → Ended read made x
ended_by read made x word None rest is e = absurd (let no : None ≡ Some x = e in cc)
ended_by read made x word (Some n) None is e = let same : made n ≡ x = cc in (word, (n, (is, same)))
ended_by read made x word (Some n) (Some text) is e = absurd (let no : None ≡ Some x = e in cc)

ended : (read : List ℕ → Option ℕ) (made : ℕ → Line) (x : Line) (left : LineLeft)
    → and_then (and_then (word_in read left) (λ n left. says (made n) left)) over ≡ Some x
    → Ended read made x
unfolding word_in
ended read made x None e = absurd (let no : None ≡ Some x = e in cc)
ended read made x (Some text) e = ended_by read made x (front_of 32 text) (read (front_of 32 text))
    (behind 32 text) refl e

-- ---- a line that says how many devices there are

devices_within : (left : LineLeft) (n : ℕ) → devices_in left ≡ Some (line.Devices n)
    → IsBetween 2 8 n
devices_within left n e =
    let at = ended (number_between 2 8) line.Devices (line.Devices n) left e in
    let same : at.1.0 ≡ n = let both : line.Devices at.1.0 ≡ line.Devices n = at.1.1.1 in cc in
    subst (λ (k : ℕ). IsBetween 2 8 k) same (between 2 8 at.0 at.1.0 at.1.1.0)

no_show : (left : LineLeft) (n : ℕ) → show_in left ≡ Some (line.Devices n) → ⊥
no_show left n e =
    let at = ended device_in (λ device. line.Does (action.Show device)) (line.Devices n) left e in
    let no : line.Does (action.Show at.1.0) ≡ line.Devices n = at.1.1.1 in
    cc

no_step : (made : Option WorldStep) (n : ℕ)
    → option_map (λ it. line.Does (action.Step it)) made ≡ Some (line.Devices n) → ⊥
no_step None n e = let no : None ≡ Some (line.Devices n) = e in cc
no_step (Some made) n e = let no : Some (line.Does (action.Step made)) ≡ Some (line.Devices n) =
    e in cc

-- one of two says it
either : (test : Bool) (a b : Option Line) (n : ℕ) → cond test a b ≡ Some (line.Devices n)
    → (a ≡ Some (line.Devices n) → IsBetween 2 8 n)
    → (b ≡ Some (line.Devices n) → IsBetween 2 8 n) → IsBetween 2 8 n
either true a b n e first second = first e
either false a b n e first second = second e

said_within : (word : List ℕ) (left : LineLeft) (n : ℕ) → said_in word left ≡ Some (line.Devices n)
    → IsBetween 2 8 n
unfolding said_in
said_within word left n e =
    either (bytes_eq word (codes "devices")) _ _ n e (devices_within left n) (λ e.
    either (bytes_eq word (codes "show")) _ _ n e (λ e. absurd (no_show left n e)) (λ e.
    absurd (no_step (form_in step_forms word left) n e)))

pub line_within : (bytes : List ℕ) (n : ℕ) → line_in bytes ≡ Some (line.Devices n) → IsBetween 2 8 n
unfolding line_in
line_within bytes n e =
    either (is_utf8 bytes) _ _ n e (said_within (front_of 32 bytes) (behind 32 bytes) n)
    (λ e. absurd (let no : None ≡ Some (line.Devices n) = e in cc))
