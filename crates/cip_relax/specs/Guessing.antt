-- What a basis that is guessed shows of the linear program of a node.
use Rattle.std.specs.Prelude.{ℕ, List, IfSome}
use Rattle.cip_problem.specs.Program.{Sides, Program}
use Rattle.cip_problem.specs.LinearProgram.{IsPoint}
use Rattle.cip_cert.specs.Lent.{Lent}
use Rattle.cip_relax.specs.Relaxing.{node_program, ShowsBound, IsRelaxed}
use Rattle.cip_relax.specs.declared.guessing.Beside.{Beside}
use Rattle.cip_relax.specs.declared.guessing.Guessed.{Guessed}
use Rattle.cip_relax.specs.declared.guessing.Guessed.TheVariants.{Shown, Beside as IsBeside}

-- a point of it and a bound of it, if there are such
pub record StandsBeside (program : Program) (lent : Lent) (box : List Sides) (beside : Beside) : Type 0 where
  pub point : IfSome beside.point (λ values. IsPoint (node_program program lent box) values.items)
  pub bound : IfSome beside.bound (ShowsBound program lent box)

-- what it comes to; or what is near its optimum
abbrev pub IsGuessed : Program → Lent → List Sides → ℕ → Guessed → Type 0
IsGuessed program lent box columns (Shown relaxed) = IsRelaxed program lent box columns relaxed
IsGuessed program lent box columns (IsBeside beside) = StandsBeside program lent box beside
