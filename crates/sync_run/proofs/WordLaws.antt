-- What the words of a command plan, and what sessions need, by the calls before them.
use Rattle.std.proofs.Common.{◌≡◌, ℕ, zero, suc, ◌≤◌, true, List, [], ◌∷◌, ◌++◌, length, map}
use Rattle.std.proofs.Common.{refl, sym, ap, ◌∙◌, subst, arith, Option, None, Some, Result, is_some}
use Rattle.std.specs.List.{All}
use Rattle.std.specs.Option.{option_map}
use Rattle.std.proofs.lemmas.List.{map-append}
use Rattle.outside.specs.Files.{Two, File}
use Rattle.outside.specs.Links.{ToldLink}
use Rattle.outside.specs.Outside.{DiskRun, Outside}
use Rattle.outside.specs.Runs.{IsFront}
use Rattle.sync_rules.specs.declared.entries.Mode.{Mode}
use Rattle.sync_rules.specs.declared.entries.Mode.TheVariants as mode
use Rattle.sync_rules.specs.Clients.{Meaning}
use Rattle.sync_rules.specs.Facts.{Facts}
use Rattle.sync_rules.specs.Growth.{OnlySettles}
use Rattle.sync_rules.specs.Legal.{suits_nonce}
use Rattle.sync_rules.proofs.StepKinds.{all_settling_only}
use Rattle.sync_store.specs.Store.{StoreValue}
use Rattle.sync_store.specs.Ready.{IsReady}
use Rattle.store_commands.specs.Commit.{SettlesAnew}
use Rattle.sync_node.specs.Going.{LetsNothingFall, specs_of}
use Rattle.sync_node.specs.Node.{MayRun, NodeValue, new_node}
use Rattle.sync_node.proofs.SafeLaws.{goes_disk}
use Rattle.sync_words.specs.declared.link_words.LinkWords.{LinkWords}
use Rattle.sync_words.specs.declared.outcome.Outcome.{Outcome}
use Rattle.sync_words.specs.Links.{IsLink, wants_nonce}
use Rattle.sync_run.specs.declared.dialling.Dialled.{Dialled}
use Rattle.sync_run.specs.Courses.{HaveSpecs}
use Rattle.sync_run.specs.Dialling.{DialsOnly, MakesLinks, fresh_links}
use Rattle.sync_run.specs.Needs.{AllMayBegin, IsKnown}
use Rattle.sync_run.specs.Plans.{ArePlanned, sessions_from}
use Rattle.sync_run.proofs.DialLaws.{no_links_made}

-- ---- settling

-- a store that came by settling has the same contacts and sessions
pub settles_only : (clients : Meaning) (s s' : StoreValue) (o o' : Outside)
    (r : Result (Unit {0}) Outcome)
    → SettlesAnew clients s s' o o' r → OnlySettles s.state.facts s'.state.facts
settles_only clients s s' o o' r settles =
    subst (λ (f : Facts). OnlySettles s.state.facts f) (sym settles.comes.facts)
    (all_settling_only clients s.state.facts settles.more settles.comes.settling)

pub goes_settled : (clients : Meaning) (s s' : StoreValue) (o o' : Outside)
    (r : Result (Unit {0}) Outcome)
    → IsReady clients s o.files → DiskRun o o' → SettlesAnew clients s s' o o' r
    → LetsNothingFall o o'
goes_settled clients s s' o o' r ready run settles =
    goes_disk o o' run (λ two told. let fit = ready.fits two told in
    (settles.comes.leads two told fit.0 fit.1).moments.later)

-- the sessions may begin behind it
pub may_settled : (clients : Meaning) (s s' : StoreValue) (o o' : Outside)
    (r : Result (Unit {0}) Outcome)
    (links : List Dialled) → SettlesAnew clients s s' o o' r
    → AllMayBegin s.state.facts.contacts links
    → AllMayBegin s'.state.facts.contacts links
may_settled clients s s' o o' r links settles all =
    subst (λ (k : ℕ). AllMayBegin k links) (sym (settles_only clients s s' o o' r settles).contacts)
    all

-- what a node of a store that is ready needs
pub node_may : (clients : Meaning) (s : StoreValue) (n : NodeValue) (o : Outside)
    → IsReady clients s o.files → n ≡ new_node s → MayRun clients n o
node_may clients s n o ready made =
    subst (λ (m : NodeValue). MayRun clients m o) (sym made) (λ opened. record {
      ready = ready;
      settled = λ some. absurd (omega (arith, some));
      dialled = omega arith;
    })

-- ---- the words

nonce_suits : (m : Mode) (spec : List ℕ) (given : Option (List ℕ))
    → is_some given ≡ wants_nonce m spec → suits_nonce m given ≡ true
nonce_suits mode.Interactive spec given is = refl
nonce_suits mode.Batch spec None is = refl
nonce_suits mode.Batch spec (Some n) is = cc

-- where the contacts are known, the sessions may begin
pub words_may : (contacts first : ℕ) (words : List LinkWords) (links : List Dialled)
    → ArePlanned first words (sessions_from first links) → All (IsKnown contacts) words
    → All IsLink words → AllMayBegin contacts links
words_may contacts first words [] are known latencies k d within = absurd (omega (arith, within))
words_may contacts first [] (x ∷ links) are known latencies k d within = absurd are
words_may contacts first (w ∷ words) (x ∷ links) are known latencies zero d within =
    let is = are.0 in
    let latency : 1 ≤ w.latency = latencies zero w (omega arith) in
    record {
      known = omega (arith, known zero w (omega arith), is.same_contact);
      latency = omega (arith, latency, is.same_latency);
      suited =
          ap (λ (m : Mode). suits_nonce m x.nonce) is.same_mode
          ∙ nonce_suits w.mode w.spec x.nonce is.nonce;
    }
words_may contacts first (w ∷ words) (x ∷ links) are known latencies (suc k) d within =
    words_may contacts (suc first) words links are.1
    (λ i v inside. known (suc i) v (omega (arith, inside)))
    (λ i v inside. latencies (suc i) v (omega (arith, inside))) k d (omega (arith, within))

pub ready_calms : (clients : Meaning) (s : StoreValue) (o o1 : Outside) → IsReady clients s o.files
    → DialsOnly o o1 → IsReady clients s o1.files
ready_calms clients s o o1 ready calms =
    subst (λ (f : Option (Two File)). IsReady clients s f) (sym calms.same_files) ready

-- how many were made
pub made_long : (made : List LinkWords) (links : List Dialled) (o o1 o2 : Outside)
    → o.links.dialled ≡ 0 → MakesLinks made o.links o1.links → length links ≤ length made
    → o2.links.dialled ≡ o1.links.dialled → length links ≤ o2.links.dialled
made_long made links o o1 o2 none makes count same =
    omega (arith, none, makes.dialled, count, same)

-- ---- specs

abbrev specs : List ToldLink → List (List ℕ)
specs links = map (λ (l : ToldLink). l.spec) links

abbrev planned_specs : List LinkWords → List (List ℕ)
planned_specs words = map (λ (w : LinkWords). w.spec) words

specs_fresh : (words : List LinkWords) → specs (fresh_links words) ≡ planned_specs words
specs_fresh [] = refl
specs_fresh (w ∷ words) = ap (λ (l : List (List ℕ)). w.spec ∷ l) (specs_fresh words)

-- on a host on which no link was made the links are those that were made now
made_links : (made : List LinkWords) (old : Option (List ToldLink)) (links : List ToldLink)
    → ((ls : List ToldLink) → old ≡ Some ls → length ls ≡ 0)
    → option_map (λ (ls : List ToldLink). ls ++ fresh_links made) old ≡ Some links
    → links ≡ fresh_links made
made_links made None links none told = cc
made_links made (Some []) links none told = let same : fresh_links made ≡ links = cc in sym same
made_links made (Some (l ∷ ls)) links none told = absurd (omega (arith, none (l ∷ ls) refl))

-- links that were made have the first specs of the words
pub specs_made : (words made : List LinkWords) (o o1 : Outside) → o.links.dialled ≡ 0
    → IsFront made words → MakesLinks made o.links o1.links → HaveSpecs words o1
specs_made words made o o1 none front makes links told =
    let are : links ≡ fresh_links made =
    made_links made o.links.told links (λ ls was. o.all_told ls was ∙ none)
    (sym makes.told ∙ told) in
    record {
      rest = planned_specs front.rest;
      whole =
          ap planned_specs front.whole
          ∙ map-append (λ (w : LinkWords). w.spec) made front.rest
          ∙ ap (λ (l : List (List ℕ)). l ++ planned_specs front.rest)
          (sym (ap specs are ∙ specs_fresh made));
    }

-- and calls that keep them leave them so
pub specs_kept : (words : List LinkWords) (o o' : Outside)
    → specs_of o'.links.told ≡ specs_of o.links.told → HaveSpecs words o → HaveSpecs words o'
specs_kept words o o' same have links told =
    by_old o.links.told refl
  where
    by_old : (old : Option (List ToldLink)) → o.links.told ≡ old
        → IsFront (specs links) (planned_specs words)
    by_old None was =
        let none : specs_of (Some links) ≡ specs_of None =
        sym (ap specs_of told) ∙ same ∙ ap specs_of was in
        cc
    by_old (Some old) was =
        let both : specs_of (Some links) ≡ specs_of (Some old) =
        sym (ap specs_of told) ∙ same ∙ ap specs_of was in
        let are : specs links ≡ specs old = cc in
        subst (λ (l : List (List ℕ)). IsFront l (planned_specs words)) (sym are) (have old was)

-- where no link was touched none were made
pub specs_disk : (words : List LinkWords) (o o' : Outside) → o.links.dialled ≡ 0 → DiskRun o o'
    → HaveSpecs words o'
specs_disk words o o' none run =
    specs_made words [] o o' none (record { rest = words; whole = refl })
    (no_links_made o o' run.same_links)
