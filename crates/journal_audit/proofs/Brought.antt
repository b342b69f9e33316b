-- Messages that are brought change no facts.
use Rattle.std.proofs.Common.{◌≡◌, ℕ, zero, suc, Bool, List, [], ◌∷◌, ◌++◌, replicate, slice_index_or, refl, ◌∙◌, ap, subst}
use Rattle.sync_rules.specs.declared.entries.Entry.{Entry}
use Rattle.sync_rules.specs.Allows.{allows}
use Rattle.sync_rules.specs.Clients.{Meaning}
use Rattle.sync_rules.specs.Facts.{Facts, after_all}
use Rattle.journal_audit.specs.declared.early.Mark.{Mark}
use Rattle.journal_audit.specs.declared.facts.PlainFacts.{PlainFacts}
use Rattle.journal_audit.specs.Early.{mark_of}
use Rattle.journal_audit.specs.Changes.{BecomesFacts, BecomesKnown}
use Rattle.journal_audit.specs.Plain.{facts_of}
use Rattle.journal_audit.specs.Playing.{IsOfLegal, PlaysEntries}

-- ---- cursors

abbrev zeros : ℕ → List ℕ
zeros n = replicate n 0

pub none_yet : (n contact : ℕ) → slice_index_or (zeros n) contact 0 ≡ zero
none_yet zero contact = refl
none_yet (suc n) zero = refl
none_yet (suc n) (suc contact) = none_yet n contact

-- marks that are all at the first message, with one more
pub none_marked : (ms : List Mark) (m : Mark) → m.from ≡ 0 → ((contact : ℕ) → (mark_of ms contact).from ≡ 0) → (contact : ℕ) → (mark_of (ms ++ m ∷ []) contact).from ≡ 0
none_marked [] m e all zero = e
none_marked [] m e all (suc contact) = refl
none_marked (x ∷ ms) m e all zero = all zero
none_marked (x ∷ ms) m e all (suc contact) = none_marked ms m e (λ c. all (suc c)) contact

-- ---- one after the other

pub brought_then : (p q r : PlainFacts) → BecomesFacts p q (facts_of p) → BecomesFacts q r (facts_of q) → BecomesFacts p r (facts_of p)
brought_then p q r first then_ = record {
  facts = then_.facts ∙ first.facts;
  sound = then_.sound;
  knows = λ clients knows. then_.knows clients (first.knows clients knows);
}

-- ---- batches

pub legal_brought : (clients : Meaning) (p q : PlainFacts) → BecomesFacts p q (facts_of p) → IsOfLegal clients p → IsOfLegal clients q
legal_brought clients p q became legal = record {
  done = legal.done;
  legal = legal.legal;
  facts_are = became.facts ∙ legal.facts_are;
  sound = became.sound;
  knows = became.knows clients legal.knows;
}

pub plays_brought : (clients : Meaning) (p q new : PlainFacts) (b : List Entry) (told : Bool) → BecomesFacts p q (facts_of p)
    → PlaysEntries clients q new (allows clients (facts_of q) b) b told → PlaysEntries clients p new (allows clients (facts_of p) b) b told
plays_brought clients p q new b told became plays = record {
  answer = plays.answer ∙ ap (λ (f : Facts). allows clients f b) became.facts;
  taken = λ yes. subst (λ (f : Facts). BecomesKnown clients new (after_all f b)) became.facts (plays.taken yes);
}
