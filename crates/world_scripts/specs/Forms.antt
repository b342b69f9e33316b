-- The forms of a line. A line is words with one space between two, and each form is read from left
-- to right.
use Rattle.std.specs.Prelude.{ℕ, ◌-◌, ◌==◌, ◌^◌, nat_le, if◌then◌else◌, List, [], ◌∷◌}
use Rattle.std.specs.Prelude.{codes, Option, Some, None, option_map, option_and_then}
use Rattle.std.specs.List.{slice_split}
use Rattle.std.specs.Str.{is_utf8, bytes_eq}
use Rattle.outside.specs.declared.pick.Pick.{Pick}
use Rattle.outside.specs.declared.pick.Pick.TheVariants as pick
use Rattle.sync_ids.specs.declared.message.TheConstants.{MAX_TIMESTAMP}
use Rattle.sync_words.specs.Words.{number_in, level_in, mode_in}
use Rattle.world_scripts.specs.Cuts.{front_of, behind}
use Rattle.world_scripts.specs.declared.step.TheConstants.{MAX_DEVICE, MAX_DEVICES, MIN_DEVICES}
use Rattle.world_scripts.specs.declared.step.TheConstants.{MAX_LATENCY, MAX_ROUNDS, NOTE, THREAD}
use Rattle.world_scripts.specs.declared.step.TheConstants.{FEED}
use Rattle.world_scripts.specs.declared.step.Action.TheVariants as action
use Rattle.world_scripts.specs.declared.step.Line.{Line}
use Rattle.world_scripts.specs.declared.step.Line.TheVariants as line
use Rattle.world_scripts.specs.declared.step.WorldStep.{WorldStep}
use Rattle.world_scripts.specs.declared.step.WorldStep.TheVariants as step

infixl 30 ◌▸◌
-- ---- how words follow one another

-- what is left of a line behind the space that follows a word; nothing where that word was the last
abbrev pub LineLeft : Type 0
LineLeft = Option (List ℕ)

-- what the words in front are read as, if they have the form, and what is left behind them
abbrev pub Form : Type 0 → Type 0
Form V = LineLeft → Option (V × LineLeft)

abbrev pub beside : {V : Type 0} → Option V → LineLeft → Option (V × LineLeft)
beside None left = None
beside (Some value) left = Some (value, left)

abbrev pub and_then : {V W : Type 0} → Option (V × LineLeft) → (V → LineLeft → Option W) → Option W
and_then None next = None
and_then (Some x) next = next x.0 x.1

-- no word
abbrev pub says : {V : Type 0} → V → Form V
says value left = Some (value, left)

-- the next word, read so
unfoldable pub word_in : {V : Type 0} → (List ℕ → Option V) → Form V
word_in read None = None
word_in read (Some text) = beside (read (front_of 32 text)) (behind 32 text)

-- a form, and then the next word, read so
abbrev pub ◌▸◌ : {V W : Type 0} → Form (V → W) → (List ℕ → Option V) → Form W
◌▸◌ form read left =
    and_then (form left) (λ made left. and_then (word_in read left) (λ value left.
    says (made value) left))

-- what is not empty
abbrev pub some_bytes : List ℕ → Option (List ℕ)
some_bytes [] = None
some_bytes (b ∷ bytes) = Some (b ∷ bytes)

-- all that is left is the text, which is not empty
abbrev pub text_in : LineLeft → Option (List ℕ)
text_in left = option_and_then some_bytes left

-- a form, and then the text
abbrev pub before_text : {W : Type 0} → Form (List ℕ → W) → Form W
before_text form left =
    and_then (form left) (λ made left. beside (option_map made (text_in left)) None)

-- no word is left
abbrev pub over : {W : Type 0} → W → LineLeft → Option W
over value None = Some value
over value (Some text) = None

-- all words that are left
abbrev pub whole_line : {W : Type 0} → Form W → LineLeft → Option W
whole_line form left = and_then (form left) over

-- ---- single words

abbrev pub at_least : ℕ → Option ℕ → Option ℕ
at_least least None = None
at_least least (Some n) = if nat_le least n then Some n else None

-- a number between two
abbrev pub number_between : ℕ → ℕ → List ℕ → Option ℕ
number_between least most word = at_least least (number_in most word)

abbrev pub device_in : List ℕ → Option ℕ
device_in word = number_between 0 MAX_DEVICE word

-- a label, the number of a link or of a call, or a reading of the clock
abbrev pub count_in : List ℕ → Option ℕ
count_in word = number_between 0 (2 ^ 64 - 1) word

-- what has this name in a list
abbrev pub named : {V : Type 0} → List (List ℕ × V) → List ℕ → Option V
named [] word = None
named (x ∷ xs) word = if bytes_eq word x.0 then Some x.1 else named xs word

abbrev pub kind_in : List ℕ → Option ℕ
kind_in =
    named ((codes "note", NOTE) ∷ (codes "thread", THREAD) ∷ (codes "feed", FEED) ∷ [])

abbrev pub pick_in : List ℕ → Option Pick
pick_in =
    named
    ((codes "old", pick.Old) ∷ (codes "new", pick.New) ∷ (codes "zero", pick.Zero)
    ∷ (codes "ones", pick.Ones) ∷ [])

-- each part is a label
unfoldable pub each_label : List (List ℕ) → Option (List ℕ)
each_label [] = Some []
each_label (part ∷ parts) =
    option_and_then (λ label. option_map (λ labels. label ∷ labels) (each_label parts))
    (number_in (2 ^ 64 - 1) part)

-- no labels, written as a hyphen, or labels with one comma between two
unfoldable pub labels_in : List ℕ → Option (List ℕ)
labels_in word =
    if bytes_eq word (codes "-") then Some [] else each_label (slice_split (λ b. b == 44) word)

abbrev pub link_latency_in : List ℕ → Option ℕ
link_latency_in word = number_between 1 MAX_LATENCY word

-- ---- the forms by their first words

-- forms of steps, each behind the first word of its lines
abbrev pub Forms : Type 0
Forms = List (List ℕ × Form WorldStep)

abbrev pub world_forms : Forms
world_forms =
    (codes "cut", says step.Cut ▸ count_in) ∷ (codes "clock", says step.Clock ▸ count_in)
    ∷ (codes "rest", says step.Rest ▸ number_between 1 MAX_ROUNDS) ∷ []

-- a link, and the device at one of its ends
unfoldable pub end_in : Form (ℕ × ℕ)
end_in = says (λ link device. (link, device)) ▸ count_in ▸ device_in

abbrev pub at_end : (ℕ → ℕ → WorldStep) → Form WorldStep
at_end made left = and_then (end_in left) (λ x left. says (made x.0 x.1) left)

unfoldable pub link_forms : Forms
link_forms =
    (codes "carry", at_end step.Carry) ∷ (codes "lose", at_end step.Lose)
    ∷ (codes "repeat", at_end step.Repeat) ∷ (codes "swap", at_end step.Swap) ∷ world_forms

unfoldable pub device_forms : Forms
device_forms =
    (codes "share", says step.Share ▸ device_in ▸ device_in ▸ count_in ▸ level_in)
    ∷ (codes "link", says step.Link ▸ device_in ▸ device_in ▸ mode_in ▸ link_latency_in)
    ∷ (codes "stop", says step.Stop ▸ device_in ▸ count_in ▸ pick_in)
    ∷ (codes "turn", says step.Turn ▸ device_in)
    ∷ (codes "restart", says step.Restart ▸ device_in) ∷ link_forms

-- a post in front of its parents' labels and its text
unfoldable pub post_front : Form (List ℕ → List ℕ → WorldStep)
post_front = says step.Post ▸ device_in ▸ count_in ▸ number_between 0 MAX_TIMESTAMP

unfoldable pub step_forms : Forms
step_forms =
    (codes "group", says step.Group ▸ device_in ▸ kind_in ▸ some_bytes)
    ∷ (codes "post", before_text (post_front ▸ labels_in)) ∷ device_forms

-- what is left of a line whose first word this is, by these forms
abbrev pub form_in : Forms → List ℕ → LineLeft → Option WorldStep
form_in forms word left = option_and_then (λ form. whole_line form left) (named forms word)

abbrev pub devices_in : LineLeft → Option Line
devices_in = whole_line (says line.Devices ▸ number_between MIN_DEVICES MAX_DEVICES)

abbrev pub show_in : LineLeft → Option Line
show_in = whole_line (says (λ device. line.Does (action.Show device)) ▸ device_in)

unfoldable pub said_in : List ℕ → LineLeft → Option Line
said_in word left =
    if bytes_eq word (codes "devices") then devices_in left
    else if bytes_eq word (codes "show") then show_in left
    else option_map (λ made. line.Does (action.Step made)) (form_in step_forms word left)

-- what the words of a line say
abbrev pub words_in : List ℕ → Option Line
words_in text = said_in (front_of 32 text) (behind 32 text)

-- what a line says; one that is no text in UTF-8 has none of the forms
unfoldable pub line_in : List ℕ → Option Line
line_in bytes = if is_utf8 bytes then words_in bytes else None
