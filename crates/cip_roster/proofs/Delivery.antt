-- What is left of a delivery behind an event, and where it stops.
use Rattle.std.specs.Prelude.{Result, Ok, Err, OnErr}
use Rattle.std.proofs.Common.{◌≡◌, ℕ, ◌+◌, ◌≤◌, List, [], ◌∷◌, ◌++◌, length, Option, ap, subst, arith, length-append}
use Rattle.cip_events.specs.declared.events.Event.{Event}
use Rattle.cip_plugin.specs.Calls.{Ask}
use Rattle.cip_plugin.specs.declared.asking.Given.{Given}
use Rattle.cip_plugin.specs.Seats.{State}
use Rattle.cip_plugin.specs.Steps.{Step, Runs}
use Rattle.cip_plugin.specs.Calling.{turn_of}
use Rattle.cip_plugin.specs.Wishing.{raised_in}
use Rattle.cip_plugin.proofs.Counting.{left_over, run_measure}
use Rattle.cip_plugin.proofs.Running.{Runs-append}
use Rattle.cip_roster.specs.Turns.{HadTurn}
use Rattle.cip_roster.specs.Wished.{Ran, WasTold}

-- an event that is told leaves as much to do as there was without it
pub told_measure : (node : ℕ) (event : Event) (a b : State) (q r : List Event) → WasTold node event a b q r
    → left_over b + length r ≡ left_over a + length q
told_measure node event a b q r told =
    let measure = run_measure node told.steps a b told.run in
    let raised = ap length told.raised in
    let sum = length-append q (raised_in node told.steps) in
    omega arith

-- so there is less to do than with it
pub told_less : (node : ℕ) (event : Event) (a b : State) (p q r : List Event) → p ≡ event ∷ q
    → WasTold node event a b q r → left_over b + length r + 1 ≤ left_over a + length p
told_less node event a b p q r is told =
    let measure = told_measure node event a b q r told in
    let more = ap length is in
    omega arith

-- nothing was done
pub ran_same : (a b : State) → b ≡ a → Ran a b
ran_same a b same = record { steps = []; run = same }

-- some steps, and then others
pub ran_more : (a b c : State) (steps : List Step) → Runs a steps b → Ran b c → Ran a c
ran_more a b c steps run ran = record {
  steps = steps ++ ran.steps;
  run = Runs-append steps ran.steps a b c run ran.run;
}

-- a turn, and steps behind it
pub ran_turn : {A E : Type 0} (id : ℕ) (ask : Ask) (a r c d : State) (given : Option Given) (result : Result A E)
    → r ≡ a
    → HadTurn id ask r c given → OnErr result (Ran c d) → OnErr result (Ran a d)
ran_turn id ask a r c d given (Ok x) same had ran = tt
ran_turn id ask a r c d given (Err e) same had ran =
    ran_more a c d (turn_of id ask had.answer)
    (subst (λ (s : State). Runs s (turn_of id ask had.answer) c) same had.run) ran
