-- What the code says of a step by a rule that may choose as it likes among the variables that may be chosen: each move
-- can be made, and each end is one.
use Rattle.std.specs.Prelude.{◌≡◌, ℕ, ◌<◌, Bool, true, false, Option, None, Some, ◌⊎◌}
use Rattle.cip_bland.specs.Dictionary.{Dictionary}
use Rattle.cip_bland.specs.Exchange.{after, CanExchange, CanMove}
use Rattle.cip_bland.specs.Rule.{improves}
use Rattle.cip_bland.specs.StateEnds.{Passes, NonePasses, IsInside, IsEndAt}
use Rattle.cip_bland.specs.declared.steps.Step.TheVariants as step
use Rattle.cip_simplex.specs.declared.candidates.Candidate.{Candidate}
use Rattle.cip_simplex.specs.declared.steps.Choice.{Choice}
use Rattle.cip_simplex.specs.declared.steps.Choice.TheVariants.{Crossed, Infeasible, Optimum, Repair, Improve}
use Rattle.cip_simplex.specs.declared.steps.Advance.{Advance}
use Rattle.cip_simplex.specs.declared.steps.Advance.TheVariants.{Made, Wide, End}

-- ---- candidates

-- variable v, where it passes the test
abbrev pub IsCandidate : (ℕ → Bool) → ℕ → Option Candidate → Type 0
IsCandidate test v None = test v ≡ false
IsCandidate test v (Some c) = (c.variable ≡ v) × (test v ≡ true)

-- one of two, and none where both are none
abbrev pub IsOneOf : Option Candidate → Option Candidate → Option Candidate → Type 0
IsOneOf first second None = (first ≡ None) × (second ≡ None)
IsOneOf first second (Some c) = (first ≡ Some c) ⊎ (second ≡ Some c)

-- one of the numbers below n that passes the test, and none where none does
abbrev pub IsFound : (ℕ → Bool) → ℕ → Option Candidate → Type 0
IsFound test n None = (v : ℕ) → v < n → test v ≡ false
IsFound test n (Some c) = (c.variable < n) × (test c.variable ≡ true)

-- the variable of a candidate
abbrev pub variable_of : Option Candidate → Option ℕ
variable_of None = None
variable_of (Some c) = Some c.variable

-- a variable that passes the test, and none where none does
abbrev pub IsPicked : Dictionary → (ℕ → Bool) → Option ℕ → Type 0
IsPicked d test None = NonePasses d test
IsPicked d test (Some v) = Passes d test v

-- ---- a step

-- the values are a point, and the cost falls as j goes
pub record IsImprover (d : Dictionary) (j : ℕ) : Type 0 where
  pub point : IsInside d
  pub improving : Passes d (improves d) j

-- what is chosen can be made, or is an end
abbrev pub IsFreeChoice : Dictionary → Choice → Type 0
IsFreeChoice d (Crossed v) = IsEndAt d (step.Crossed v)
IsFreeChoice d (Infeasible i) = IsEndAt d (step.Infeasible i)
IsFreeChoice d Optimum = IsEndAt d step.Optimum
IsFreeChoice d (Repair i j to) = CanExchange d i j to
IsFreeChoice d (Improve j) = IsImprover d j

-- what a step came to: a move that could be made leads to the state; or one is out of range, or the state is an end,
-- and it is as it was
abbrev pub IsFreeAdvance : Dictionary → Dictionary → Advance → Type 0
IsFreeAdvance before later (Made move) = CanMove before move × (later ≡ after before move)
IsFreeAdvance before later (Wide move) = later ≡ before
IsFreeAdvance before later (End s) = IsEndAt before s × (later ≡ before)
