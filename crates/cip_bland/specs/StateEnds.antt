-- The ends that a state may be, whichever moves led to it, and whichever of several variables a rule looks at.
use Rattle.std.specs.Prelude.{◌≡◌, ◌≢◌, ℕ, ◌<◌, Bool, true, false, None}
use Rattle.cip_bland.specs.LinearProgram.{LinearProgram, IsProper}
use Rattle.cip_bland.specs.Dictionary.{Dictionary, size}
use Rattle.cip_bland.specs.declared.moves.Move.{Move}
use Rattle.cip_bland.specs.Rule.{is_crossed, is_outside, repairs, improves, way_of, next}
use Rattle.cip_bland.specs.EndAnswers.{answer_at}
use Rattle.cip_bland.specs.Statements.{IsStateOf, IsRight}
use Rattle.cip_bland.specs.declared.steps.Step.{Step}
use Rattle.cip_bland.specs.declared.steps.Step.TheVariants.{Crossed, Infeasible, Optimum, Ray, Makes}

-- a variable passes a test
pub record Passes (d : Dictionary) (test : ℕ → Bool) (v : ℕ) : Type 0 where
  pub within : v < size d
  pub passes : test v ≡ true

-- no variable does
abbrev pub NonePasses : Dictionary → (ℕ → Bool) → Type 0
NonePasses d test = (v : ℕ) → v < size d → test v ≡ false

-- no sides cross, and no basic variable is outside its sides: so the values are a point
pub record IsInside (d : Dictionary) : Type 0 where
  pub uncrossed : NonePasses d (is_crossed d)
  pub inside : NonePasses d (is_outside d)

-- a basic variable is outside its sides, and none repairs it
pub record IsBeyondRepair (d : Dictionary) (i : ℕ) : Type 0 where
  pub outside : Passes d (is_outside d) i
  pub unrepaired : NonePasses d (repairs d i)

-- the values are a point, and by no variable the cost falls
pub record IsBest (d : Dictionary) : Type 0 where
  pub point : IsInside d
  pub unimproved : NonePasses d (improves d)

-- the values are a point, the cost falls as j goes, and that has no way to a side
pub record FallsFreely (d : Dictionary) (j : ℕ) : Type 0 where
  pub point : IsInside d
  pub improving : Passes d (improves d) j
  pub endless : (v : ℕ) → v < size d → way_of d j v ≡ None

-- a state is the end that a step names
abbrev pub IsEndAt : Dictionary → Step → Type 0
IsEndAt d (Crossed v) = Passes d (is_crossed d) v
IsEndAt d (Infeasible i) = IsBeyondRepair d i
IsEndAt d Optimum = IsBest d
IsEndAt d (Ray j) = FallsFreely d j
IsEndAt d (Makes move) = ⊥

-- ---- what is said of them, each as one statement

-- whichever moves led to a state of a program that is an end, what the end answers is right
abbrev pub EndsAreSound : Type 0
EndsAreSound =
    (program : LinearProgram) (d : Dictionary) (step : Step)
    → IsProper program → IsStateOf program d → IsEndAt d step → IsRight program (answer_at program d step)

-- where the rule names an end, the state is that end
abbrev pub NamedEndsAreEnds : Type 0
NamedEndsAreEnds =
    (d : Dictionary) (step : Step) → next d ≡ step → ((move : Move) → step ≢ Makes move) → IsEndAt d step
