-- The limits of the programs that texts have.
--     IsLimited program      it is well-formed, and the sides of its columns have sizes below 10^20, those too that a
--                            semi-continuous column has of its own
use Rattle.std.specs.Prelude.{ℕ, List, All, ⊤}
use Rattle.cip_problem.specs.Program.{Choice, Plain, Open, Off, On, Program}
use Rattle.cip_problem.specs.Choices.{choice_at}
use Rattle.cip_problem.specs.NearSides.{HasNearSides}
use Rattle.cip_problem.specs.WellFormed.{IsWellFormed}
use Rattle.cip_input.specs.Models.{HasModel}

-- the own sides of a column whose choice is open are near
abbrev pub HasNearOwn : Choice → Type 0
HasNearOwn Plain = ⊤
HasNearOwn (Open own) = HasNearSides own
HasNearOwn Off = ⊤
HasNearOwn On = ⊤

-- a program is well-formed, and the sides of each column are near
pub record IsLimited (program : Program) : Type 0 where
  pub well_formed : IsWellFormed program
  pub near : All HasNearSides program.bounds
  pub own : (column : ℕ) → HasNearOwn (choice_at program.choices column)

-- such is the program of each text of a model
abbrev pub ProgramsAreLimited : Type 0
ProgramsAreLimited =
    (name text : List ℕ) (program : Program) → HasModel name text program → IsLimited program
