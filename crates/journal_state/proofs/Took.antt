-- What a state knows of judgements, and the room that is left, once it took an entry.
use Rattle.std.proofs.Common.{◌≡◌, map, sym, subst, ◌∙◌, ap, arith}
use Rattle.sync_rules.specs.declared.entries.Entry.{Entry}
use Rattle.sync_rules.specs.Clients.{Meaning}
use Rattle.sync_rules.specs.Facts.{Facts, after, start_after}
use Rattle.sync_rules.specs.Steps.{answer_of}
use Rattle.journal_state.specs.Room.{Room, KeepsRoom}
use Rattle.journal_state.specs.Taking.{TakesButBeginning, SpendsRoom, TakesEntry, moved, noted}
use Rattle.journal_state.specs.Whole.{KnowsJudgements, StateValue}

-- the answers for facts that are those after an entry
pub took : (clients : Meaning) (old new : Facts) (e : Entry) → new ≡ moved old e
    → map (answer_of clients (moved old e)) (moved old e).held ≡ map (answer_of clients new) new.held
took clients old new e same = ap (λ (f : Facts). map (answer_of clients f) f.held) (sym same)

-- an entry after which the answers are those before
pub moves_same : (old new : StateValue) (e : Entry) → new.facts ≡ moved old.facts e → new.answers ≡ old.answers
    → ((clients : Meaning) → map (answer_of clients old.facts) old.facts.held ≡ map (answer_of clients (moved old.facts e)) (moved old.facts e).held)
    → SpendsRoom old.room new.room → TakesButBeginning old new e
moves_same old new e facts answers same room = record {
  facts = facts;
  knows = λ clients k. answers ∙ (k ∙ (same clients ∙ took clients old.facts new.facts e facts));
  room = room;
}

-- a state that took an entry after it was noted how the journal began
pub noted_takes : (old mid new : StateValue) (e : Entry) → mid ≡ noted old e → TakesButBeginning mid new e → TakesEntry old new e
noted_takes old mid new e is m =
    let n : TakesButBeginning (noted old e) new e = subst (λ (s : StateValue). TakesButBeginning s new e) is m in
    record { facts = n.facts; knows = n.knows; room = n.room }

-- what is noted behind an entry makes the facts those after it, and leaves what is known of judgements
pub noted_facts : (old mid new : StateValue) (e : Entry) → mid.facts ≡ moved old.facts e → new ≡ noted mid e → new.facts ≡ after old.facts e
noted_facts old mid new e is n = ap (λ (s : StateValue). s.facts) n ∙ ap (λ (f : Facts). record f { start = start_after f.start e }) is

pub noted_knows : (clients : Meaning) (mid new : StateValue) (e : Entry) → new ≡ noted mid e → KnowsJudgements clients mid → KnowsJudgements clients new
noted_knows clients mid new e n k = let same : KnowsJudgements clients (noted mid e) = k in subst (KnowsJudgements clients) (sym n) same

-- facts that are these, after which the answers are those before
pub knows_after : (clients : Meaning) (old new : StateValue) (f : Facts) → new.facts ≡ f → new.answers ≡ old.answers
    → map (answer_of clients old.facts) old.facts.held ≡ map (answer_of clients f) f.held → KnowsJudgements clients old → KnowsJudgements clients new
knows_after clients old new f facts answers same k = answers ∙ (k ∙ (same ∙ ap (λ (g : Facts). map (answer_of clients g) g.held) (sym facts)))

pub kept_spends : (a b : Room) → KeepsRoom a b → SpendsRoom a b
kept_spends a b k = record {
  entries = let h = k.entries in omega (arith, h);
  rows = k.rows;
  wants = λ contact. let h = k.wants contact in omega (arith, h);
}

pub spends_kept : (a b c : Room) → SpendsRoom a b → KeepsRoom b c → SpendsRoom a c
spends_kept a b c s k = record {
  entries = let g = s.entries in let h = k.entries in omega (arith, g, h);
  rows = λ contact. let g = s.rows contact in let h = k.rows contact in omega (arith, g, h);
  wants = λ contact. let g = s.wants contact in let h = k.wants contact in omega (arith, g, h);
}
