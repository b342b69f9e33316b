-- What is asked for by the words of links.
use Rattle.std.proofs.Common.{◌≡◌, ℕ, Option, suc, ◌+◌, ◌-◌, ◌*◌, ◌<◌, ◌≤◌, Bool, true, false, cond, List, [], ◌∷◌, ◌++◌, drop, length, refl, ◌∙◌, ap, arith}
use Rattle.outside.specs.declared.limits.TheConstants.{LINKS}
use Rattle.sync_rules.specs.declared.entries.Mode.{Mode}
use Rattle.commands.specs.declared.command.Command.{Command}
use Rattle.commands.specs.declared.grammar.TheConstants.{MAX_CONTACT}
use Rattle.commands.specs.declared.fault.WordsFault.{WordsFault}
use Rattle.commands.specs.declared.fault.WordsFault.TheVariants as fault
use Rattle.sync_words.specs.declared.link_words.LinkWords.{LinkWords}
use Rattle.commands.specs.declared.links.TheConstants.{FIRST_LINK, LINK_WORDS, MAX_LATENCY}
use Rattle.commands.specs.Reading.{has_std}
use Rattle.commands.specs.Reading.{Rest, word_then, link_then, has_ended, asks_links, is_left, ReadsWord, StopsAtWord, ReadsLink, ReadsLinks, StopsLink, StopsLinks}
use Rattle.commands.specs.Reading.Asked.{Usage, Do}
use Rattle.sync_words.specs.Words.{number_in, positive_in, mode_in, spec_in}

-- ---- the words of one link

-- what is asked for behind a latency, behind a mode, and behind a contact
abbrev pub behind_latency : (before : List LinkWords) (next : LinkWords → Rest) (contact : ℕ) (mode : Mode) (latency : ℕ) → Rest
behind_latency before next contact mode latency =
    word_then (spec_in (has_std before)) (λ spec. next (record { contact = contact; mode = mode; latency = latency; spec = spec }))

abbrev pub behind_mode : (before : List LinkWords) (next : LinkWords → Rest) (contact : ℕ) (mode : Mode) → Rest
behind_mode before next contact mode = word_then (positive_in MAX_LATENCY) (λ latency. behind_latency before next contact mode latency)

abbrev pub behind_contact : (before : List LinkWords) (next : LinkWords → Rest) (contact : ℕ) → Rest
behind_contact before next contact = word_then mode_in (λ mode. behind_mode before next contact mode)

module _ (before : List LinkWords) (words : List (List ℕ)) (place : ℕ) where
  moved : (rest : Rest) (m n : ℕ) → m ≡ n → rest m (drop m words) ≡ rest n (drop n words)
  moved rest m n same = ap (λ k. rest k (drop k words)) same

  pub at_latency : (contact : ℕ) (mode : Mode) → ReadsWord (number_in MAX_CONTACT) words place contact → ReadsWord mode_in words (place + 1) mode → (next : LinkWords → Rest)
      → link_then before next place (drop place words) ≡ behind_mode before next contact mode (place + 2) (drop (place + 2) words)
  at_latency contact mode c m next =
      c (λ contact. behind_contact before next contact) ∙ m (λ mode. behind_mode before next contact mode)
      ∙ moved (behind_mode before next contact mode) (place + 1 + 1) (place + 2) (omega arith)

  pub at_spec : (contact : ℕ) (mode : Mode) (latency : ℕ) → ReadsWord (number_in MAX_CONTACT) words place contact → ReadsWord mode_in words (place + 1) mode
      → ReadsWord (positive_in MAX_LATENCY) words (place + 2) latency → (next : LinkWords → Rest)
      → link_then before next place (drop place words) ≡ behind_latency before next contact mode latency (place + 3) (drop (place + 3) words)
  at_spec contact mode latency c m l next =
      at_latency contact mode c m next ∙ l (λ latency. behind_latency before next contact mode latency)
      ∙ moved (behind_latency before next contact mode latency) (place + 2 + 1) (place + 3) (omega arith)

  -- a word that stops ends the link
  pub link_stopped : {V : Type 0} (read : List ℕ → Option V) (at : ℕ) (e : WordsFault) (behind : (LinkWords → Rest) → V → Rest)
      → ((next : LinkWords → Rest) → link_then before next place (drop place words) ≡ word_then read (behind next) at (drop at words))
      → StopsAtWord read words at e → StopsLink before words place e
  link_stopped read at (fault.Usage n) behind there stops = λ next. there next ∙ stops (behind next)
  link_stopped read at fault.Memory behind there stops = tt

-- ---- links behind others

-- so many links were read so far, and these are they
pub record AsksSo (words : List (List ℕ)) (links : List LinkWords) (number : ℕ) : Type 0 where
  pub so : (asked : List LinkWords → Command)
      → asks_links asked LINKS [] FIRST_LINK (drop FIRST_LINK words)
      ≡ asks_links asked (LINKS - number) links (FIRST_LINK + number * LINK_WORDS) (drop (FIRST_LINK + number * LINK_WORDS) words)

pub asks_first : (words : List (List ℕ)) → AsksSo words [] 0
asks_first words = record { so = λ asked. refl }

module _ (words : List (List ℕ)) (links : List LinkWords) (number : ℕ) where
  abbrev place : ℕ
  place = FIRST_LINK + number * LINK_WORDS

  by : (asked : List LinkWords → Command) (b : Bool) → number < LINKS → has_ended links (drop place words) ≡ b
      → asks_links asked (LINKS - number) links place (drop place words)
      ≡ cond b (Do (asked links)) (link_then links (λ link. asks_links asked (LINKS - (number + 1)) (links ++ link ∷ [])) place (drop place words))
  unfolding asks_links
  by asked b few is =
      let more : LINKS - number ≡ suc (LINKS - (number + 1)) = omega arith in
      ap (λ n. asks_links asked n links place (drop place words)) more
      ∙ ap (λ b. cond b (Do (asked links)) (link_then links (λ link. asks_links asked (LINKS - (number + 1)) (links ++ link ∷ [])) place (drop place words))) is

  -- another link
  pub asks_next : (link : LinkWords) → AsksSo words links number → number < LINKS → has_ended links (drop place words) ≡ false → ReadsLink links words place link
      → AsksSo words (links ++ link ∷ []) (number + 1)
  asks_next link so few goes reads =
      let next : place + LINK_WORDS ≡ FIRST_LINK + (number + 1) * LINK_WORDS = omega arith in
      record {
        so = λ asked.
            so.so asked ∙ by asked false few goes ∙ reads (λ link. asks_links asked (LINKS - (number + 1)) (links ++ link ∷ []))
            ∙ ap (λ n. asks_links asked (LINKS - (number + 1)) (links ++ link ∷ []) n (drop n words)) next;
      }

  -- a link of which a word is missing or wrong
  pub asks_wrong : (e : WordsFault) → AsksSo words links number → number < LINKS → has_ended links (drop place words) ≡ false → StopsLink links words place e
      → StopsLinks words e
  asks_wrong (fault.Usage at) so few goes stops =
      λ asked. so.so asked ∙ by asked false few goes ∙ stops (λ link. asks_links asked (LINKS - (number + 1)) (links ++ link ∷ []))
  asks_wrong fault.Memory so few goes stops = tt

  -- no link more
  pub asks_no_more : AsksSo words links number → number < LINKS → has_ended links (drop place words) ≡ true → ReadsLinks words links
  asks_no_more so few ended asked = so.so asked ∙ by asked true few ended

-- as many links as there may be, and whether a word is left
full_by : (asked : List LinkWords → Command) (links : List LinkWords) (at : ℕ) (rest : List (List ℕ))
    → asks_links asked 0 links at rest ≡ cond (is_left rest) (Usage at) (Do (asked links))
unfolding asks_links
full_by asked links at [] = refl
full_by asked links at (word ∷ rest) = refl

module _ (words : List (List ℕ)) (links : List LinkWords) (so : AsksSo words links 8) where
  pub asks_end : is_left (drop 35 words) ≡ false → ReadsLinks words links
  asks_end none asked = so.so asked ∙ full_by asked links 35 (drop 35 words) ∙ ap (λ b. cond b (Usage 35) (Do (asked links))) none

  pub asks_too_many : is_left (drop 35 words) ≡ true → StopsLinks words (fault.Usage 35)
  asks_too_many left asked = so.so asked ∙ full_by asked links 35 (drop 35 words) ∙ ap (λ b. cond b (Usage 35) (Do (asked links))) left

-- links that end have one among them
pub one_stands : (links : List LinkWords) (rest : List (List ℕ)) → has_ended links rest ≡ true → 1 ≤ length links
one_stands [] rest ended = absurd (let e : false ≡ true = ended in cc)
one_stands (link ∷ links) rest ended = omega arith
