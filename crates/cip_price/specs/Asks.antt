-- What a pricer is asked, and what is told of it.
use Rattle.std.specs.Prelude.{◌≡◌, ℕ, List, ◌++◌, Option, None, Some}
use Rattle.cip_rational.specs.Rational.{ℚ}
use Rattle.cip_problem.specs.Program.{Sides}
use Rattle.cip_cert.specs.declared.pricing.Priced.{Priced}
use Rattle.cip_master.specs.declared.verdicts.PointVerdict.{PointVerdict}

-- an ask of a block: what its columns cost, their sides, and the answer, if there was one
pub record Asked : Type 0 where
  pub block : ℕ
  pub costs : List ℚ
  pub box : List Sides
  pub answer : Option Priced

-- a point that is dropped: its block, its place in the answer for it, and what it breaks
pub record Dropped : Type 0 where
  pub block : ℕ
  pub place : ℕ
  pub verdict : PointVerdict

-- what is told: an ask, or a point that is dropped
pub data Told : Type 0 where
  Asks : Asked → Told
  Drops : Dropped → Told

-- who tells anything, tells these behind those before; who tells nothing goes on so
abbrev pub Tells : Option (List Told) → List Told → Option (List Told) → Type 0
Tells None more after = after ≡ None
Tells (Some before) more after = after ≡ Some (before ++ more)

-- so it is, or nothing is told any more
abbrev pub MayTell : Option (List Told) → List Told → Option (List Told) → Type 0
MayTell before more None = Unit {0}
MayTell None more (Some after) = ⊥
MayTell (Some before) more (Some after) = after ≡ before ++ more

-- so it is with these, and behind them a front part of some more
pub record MayTellTo (these more : List Told) (before after : Option (List Told)) : Type 0 where
  pub front : List Told
  pub rest : List Told
  pub more_is : more ≡ front ++ rest
  pub tells : MayTell before (these ++ front) after
