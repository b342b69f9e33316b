-- What is due may follow a settled journal.
use Rattle.std.proofs.Common.{◌≡◌, ℕ, [], ◌∷◌, refl, sym, IfOk}
use Rattle.std.specs.Prelude.{Option, None, Some, Result, Ok, Err, IfSome}
use Rattle.sync_rules.specs.declared.entries.Entry.TheVariants as entry
use Rattle.sync_rules.specs.declared.entries.Out.{Out}
use Rattle.sync_rules.specs.declared.entries.Session.{Session}
use Rattle.sync_rules.specs.Clients.{Meaning}
use Rattle.sync_rules.specs.Facts.{Facts, session_at}
use Rattle.sync_rules.specs.Legal.{Allowed, IsDue}
use Rattle.sync_rules.specs.Steps.{IsSettled}
use Rattle.journal_state.specs.Allowing.{due_of}

due_is : (clients : Meaning) (f : Facts) (o : Option Session) (now : ℕ) (w : Out) → Some w ≡ due_of clients f o now → IsDue clients f o now w
due_is clients f None now w is = cc
due_is clients f (Some s) now w is = sym is

pub due_allowed : {E : Type 0} (clients : Meaning) (f : Facts) (session now : ℕ) (r : Result (Option Out) E) → IsSettled clients f
    → IfOk r (λ what. what ≡ due_of clients f (session_at f.sessions session) now)
    → IfOk r (λ what. IfSome what (λ w. Allowed clients f (entry.Out session now w ∷ [])))
due_allowed clients f session now (Err e) settled is = tt
due_allowed clients f session now (Ok None) settled is = tt
due_allowed clients f session now (Ok (Some w)) settled is = (refl, settled, due_is clients f (session_at f.sessions session) now w is)
