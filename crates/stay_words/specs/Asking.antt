-- What the words of a command line ask for that are for a node that stays. Words are counted from 0.
use Rattle.std.specs.Prelude.{◌≡◌, ℕ, zero, suc, ◌+◌, nat_le, true, if◌then◌else◌, List, [], ◌∷◌}
use Rattle.std.specs.Prelude.{length, codes, slice_get, Option, Some, None, Result, Ok, Err}
use Rattle.std.specs.Str.{bytes_eq}
use Rattle.outside.specs.declared.limits.TheConstants.{LINKS}
use Rattle.commands.specs.declared.fault.WordsFault.{WordsFault}
use Rattle.commands.specs.declared.fault.WordsFault.TheVariants as fault
use Rattle.sync_words.specs.Words.{mode_in, number_in, positive_in, spec_in}
use Rattle.sync_words.specs.declared.link_words.LinkWords.{LinkWords}
use Rattle.stay_words.specs.declared.links.TheConstants.{FIRST_LINK, LINK_WORDS}
use Rattle.stay_words.specs.declared.words.TheConstants.{MAX_CONTACT, MAX_FROM, MAX_LATENCY}
use Rattle.stay_words.specs.declared.stay.Stay.{Stay}
use Rattle.stay_words.specs.declared.stay.Stay.TheVariants as stay
use Rattle.stay_words.specs.declared.stay.Way.{Way}
use Rattle.stay_words.specs.declared.stay.Way.TheVariants as way

-- a value, or the place of the first word that is wrong or too many, or the number of words where
-- one is missing
abbrev pub Asked : Type 0 → Type 0
Asked V = Result V ℕ

-- a value is asked for, and then what follows from it
abbrev pub read_then : {V U : Type 0} → Asked V → (V → Asked U) → Asked U
read_then (Ok value) next = next value
read_then (Err place) next = Err place

-- ---- one word

abbrev pub read_or_wrong : {V : Type 0} → ℕ → Option V → Asked V
read_or_wrong place (Some value) = Ok value
read_or_wrong place None = Err place

abbrev pub word_or_missing : {V : Type 0} → (List ℕ → Option V) → ℕ → Option (List ℕ) → Asked V
word_or_missing read place (Some word) = read_or_wrong place (read word)
word_or_missing read place None = Err place

-- the word at this place, read so
abbrev pub word_of : {V : Type 0} → (List ℕ → Option V) → List (List ℕ) → ℕ → Asked V
word_of read words place = word_or_missing read place (slice_get words place)

abbrev pub way_in : List ℕ → Option Way
way_in word =
    if bytes_eq word (codes "std") then Some way.Std
    else if bytes_eq word (codes "socket") then Some way.Socket
    else None

-- the value, where no word stands at this place
abbrev pub ends_at : {V : Type 0} → List (List ℕ) → ℕ → V → Asked V
ends_at words place value = if nat_le (length words) place then Ok value else Err place

-- ---- links

-- the link of the four words from this place on: a contact, a mode, a latency and a spec, which is
-- not `std`
abbrev pub link_of : List (List ℕ) → ℕ → Asked LinkWords
link_of words place =
    read_then (word_of (number_in MAX_CONTACT) words place) (λ contact.
    read_then (word_of mode_in words (place + 1)) (λ mode.
    read_then (word_of (positive_in MAX_LATENCY) words (place + 2)) (λ latency.
    read_then (word_of (spec_in true) words (place + 3)) (λ spec.
    Ok (record { contact = contact; mode = mode; latency = latency; spec = spec })))))

-- the links of all words from this place on, at most so many
unfoldable pub links_of : (most : ℕ) → List (List ℕ) → ℕ → Asked (List LinkWords)
links_of zero words place = ends_at words place []
links_of (suc more) words place =
    if nat_le (length words) place then Ok []
    else read_then (link_of words place) (λ link.
    read_then (links_of more words (place + LINK_WORDS)) (λ links. Ok (link ∷ links)))

-- ---- all words

-- behind `serve`: a way, and 0 to 8 links
abbrev pub serve_of : List (List ℕ) → Asked (Option Stay)
serve_of words =
    read_then (word_of way_in words 1) (λ way.
    read_then (links_of LINKS words FIRST_LINK) (λ links. Ok (Some (stay.Serve way links))))

-- behind `watch`: a place of the delivered messages
abbrev pub watch_of : List (List ℕ) → Asked (Option Stay)
watch_of words =
    read_then (word_of (number_in MAX_FROM) words 1) (λ from. ends_at words 2 (Some (stay.Watch from)))

-- by the first word; other words are none of these
abbrev pub stay_of_name : List ℕ → List (List ℕ) → Asked (Option Stay)
stay_of_name name words =
    if bytes_eq name (codes "serve") then serve_of words
    else if bytes_eq name (codes "watch") then watch_of words
    else Ok None

-- what all words ask for
abbrev pub asks_stay : List (List ℕ) → Asked (Option Stay)
asks_stay [] = Ok None
asks_stay (name ∷ rest) = stay_of_name name (name ∷ rest)

-- what was read is what is asked for; memory may be wanting
abbrev pub IsReadAs : {V : Type 0} → Asked V → Result V WordsFault → Type 0
IsReadAs asked (Ok read) = asked ≡ Ok read
IsReadAs asked (Err (fault.Usage place)) = asked ≡ Err place
IsReadAs asked (Err fault.Memory) = Unit {0}
