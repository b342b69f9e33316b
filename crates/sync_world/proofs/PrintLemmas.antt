-- What is printed of a world that was played.
use Rattle.std.proofs.Common.{◌≡◌, ℕ, List, refl, sym, subst, ◌∙◌, Result, Ok, Err}
use Rattle.std.specs.Result.{IsErrAnd}
use Rattle.outside.specs.Input.{ReadsAll}
use Rattle.outside.specs.Streams.{Stream, IsIdle}
use Rattle.sync_words.specs.Outcomes.{came_to}
use Rattle.sync_words.specs.declared.outcome.Outcome.{Outcome}
use Rattle.sync_words.specs.declared.outcome.Outcome.TheVariants as outcome
use Rattle.sync_world.specs.Playing.{ScriptComes}
use Rattle.sync_world.specs.Asking.{Wanted, Wrong, Wants, answer_of}
use Rattle.sync_world.specs.Replay.{OfScript, PlaysOut, PrintsWorld, ReplaysWords}
use Rattle.sync_world.specs.declared.player.Player.{Player}
use Rattle.world_scripts.specs.Courses.{Opening, said}
use Rattle.world_scripts.specs.declared.script.TheConstants.{MAX_SCRIPT}
use Rattle.sync_world.proofs.PlayingLemmas.{script_fault}

pub idle : (s : Stream) → IsIdle s s
idle s = record { same = refl; same_faults = refl }

-- a world that was played to its end is printed
pub played : (what : Opening) (to : Player) (came : Outcome) (out out' : Stream) → ScriptComes what
    (Ok to) → PrintsWorld to out out' came → PlaysOut what out out' came
played what to outcome.Done out out' comes prints =
    record { to = to; played = comes; printed = prints }
played what to outcome.WriteFault out out' comes prints =
    record { to = to; played = comes; printed = prints }
played what to outcome.Memory out out' comes prints = prints
played what to _ out out' comes prints = absurd prints

-- a world that was not played to its end
unplayed : (what : Opening) (came : Outcome) (out : Stream) → ScriptComes what (Err came)
    → PlaysOut what out out came
unplayed what outcome.Done out comes = absurd (script_fault what outcome.Done comes)
unplayed what outcome.WriteFault out comes = absurd (script_fault what outcome.WriteFault comes)
unplayed what outcome.Memory out comes = idle out
unplayed what _ out comes = (comes, idle out)

pub left_out : (what : Opening) (result : Result (Unit {0}) Outcome) (came : Outcome)
    (out : Stream) → IsErrAnd result (λ o. o ≡ came) → ScriptComes what (Err came)
    → PlaysOut what out out (came_to result)
left_out what (Ok u) came out is comes = absurd is
left_out what (Err o) came out is comes =
    subst (λ (p : Outcome). PlaysOut what out out p) (sym is) (unplayed what came out comes)

-- the script that was read is played
pub of_script : (script : List ℕ) (input input' out out' : Stream) (came : Outcome)
    → ReadsAll MAX_SCRIPT input.bytes input'.bytes script → PlaysOut (said script) out out' came
    → OfScript input input' out out' came
of_script script input input' out out' outcome.TooMuch read plays =
    absurd (script_fault (said script) outcome.TooMuch plays.0)
of_script script input input' out out' outcome.ReadFault read plays =
    absurd (script_fault (said script) outcome.ReadFault plays.0)
of_script script input input' out out' outcome.Memory read plays = plays
of_script script input input' out out' _ read plays = (script, read, plays)

-- words that were not read
pub misread : (words : Wanted) (result : Result (Unit {0}) Outcome) (came : Outcome)
    (input out : Stream) → IsErrAnd result (λ o. o ≡ came) → Err came ≡ answer_of words
    → ReplaysWords words input input out out (came_to result)
misread words (Ok u) came input out is asked = absurd is
misread (Wrong place) (Err o) came input out is asked =
    let named : came ≡ outcome.Usage place = cc in
    subst (λ (p : Outcome). ReplaysWords (Wrong place) input input out out p) (sym (is ∙ named))
    (refl, idle input, idle out)
misread (Wants what) (Err o) came input out is asked = absurd cc
