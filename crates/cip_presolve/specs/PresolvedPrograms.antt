-- A reduced program with the way back from it.
use Rattle.std.specs.Prelude.{◌≡◌, ℕ, zero, suc, ◌+◌, List, [], ◌∷◌}
use Rattle.cip_rational.specs.Rational.{ℚ}
use Rattle.cip_problem.specs.Program.{Program}
use Rattle.cip_problem.specs.WellFormed.{columns}
use Rattle.cip_presolve.specs.Forms.{kept_from}
use Rattle.cip_presolve.specs.Pairs.{IsLong, IsAssignment, IsPair, IsExactPair}
use Rattle.cip_presolve.specs.StepsBack.{point_back, old_number, whole_of_left, whole_point, LeafFitsBack}
use Rattle.cip_presolve.specs.declared.left_programs.Presolved.{Presolved}

-- the list of old numbers is that of the columns that stay, and the whole columns are those of both programs
pub record HasNumbers (program : Program) (presolved : Presolved) : Type 0 where
  pub kept : presolved.kept.items ≡ kept_from 0 presolved.steps.forms
  pub whole : presolved.steps.whole ≡ program.integral
  pub left : whole_of_left presolved.steps ≡ presolved.reduced.integral

-- whole values in range and within the reduced program's bounds come back without overflow
abbrev pub LeavesFit : Presolved → Type 0
LeavesFit presolved =
    (wholes : List ℚ)
    → IsAssignment presolved.reduced (whole_point presolved.steps wholes) → LeafFitsBack presolved.steps wholes

-- a program and what presolve made of it are a reduction pair
pub record IsPresolved (program : Program) (presolved : Presolved) : Type 0 where
  pub pair : IsPair program presolved.reduced (point_back presolved.steps) (old_number presolved.steps)
  pub numbers : HasNumbers program presolved
  pub leaves : LeavesFit presolved

-- they are an exact pair: each feasible point of the program comes back from one of equal cost
pub record IsExactlyPresolved (program : Program) (presolved : Presolved) : Type 0 where
  pub pair : IsExactPair program presolved.reduced (point_back presolved.steps) (old_number presolved.steps)
  pub numbers : HasNumbers program presolved
  pub leaves : LeavesFit presolved

-- so many numbers, from this one on
abbrev pub counted : ℕ → ℕ → List ℕ
counted first zero = []
counted first (suc n) = first ∷ counted (first + 1) n

-- nothing is taken out: the program is itself, each column keeps its number, and a point comes back as it is
pub record IsUnchanged (program : Program) (presolved : Presolved) : Type 0 where
  pub reduced : presolved.reduced ≡ program
  pub kept : presolved.kept.items ≡ counted 0 (columns program)
  pub point : (point : List ℚ) → IsLong program point → point_back presolved.steps point ≡ point
