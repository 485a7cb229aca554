-- The main laws, each as one statement: the functions of `src/lib.rt` have them as contracts.
use Rattle.std.specs.Prelude.{◌≡◌, ◌<◌, List, ◌++◌, length, drop, take, None, Some}
use Rattle.std.specs.List.{AllByRecursion}
use Rattle.cip_rational.specs.Rational.{ℚ}
use Rattle.cip_rational.specs.Sums.{dot}
use Rattle.cip_problem.specs.Program.{Sides, Program}
use Rattle.cip_problem.specs.LinearProgram.{LinearProgram, IsPoint}
use Rattle.cip_problem.specs.Multipliers.{OnVariables, paired, UsesSides, SumsTo}
use Rattle.cip_pricing.specs.Decomposition.{Decomposition, picked, IsDecomposed, master_rows, IsBlockPoint}
use Rattle.cip_pricing.specs.Mixtures.{Held, IsMixture, MeetsMaster}
use Rattle.cip_pricing.specs.LeastCosts.{ShowsLeast}
use Rattle.cip_pricing.specs.MasterForms.{master_form, mixed}
use Rattle.cip_pricing.specs.MasterPrograms.{IsMasterProgram}

-- each held point is one of its block
abbrev pub AreHeld : Program → Decomposition → List Sides → List Held → Type 0
AreHeld program blocks box held =
    AllByRecursion (λ (h : Held). (h.block < blocks.count) × IsBlockPoint program blocks box h.block h.point) held

-- a point of the master is values of the columns of no block, and weights, which come to a mixture of held points that
-- satisfies the master rows, at the same cost
pub record ComesToMixture (program : Program) (blocks : Decomposition) (box : List Sides) (held : List Held)
    (lp : LinearProgram) (point : List ℚ) : Type 0 where
  pub values : List ℚ
  pub weights : List ℚ
  pub is : point ≡ values ++ weights
  pub each_value : length values ≡ length (picked None blocks.columns box)
  pub each_weight : length weights ≡ length held
  pub mixture : IsMixture program blocks box (Some held) (mixed blocks.columns held values weights)
  pub meets : MeetsMaster program blocks (mixed blocks.columns held values weights)
  pub cost : dot lp.costs point ≡ dot program.costs (mixed blocks.columns held values weights)

abbrev pub MasterPointsComeToMixtures : Type 0
MasterPointsComeToMixtures =
    (program : Program) (blocks : Decomposition) (box : List Sides) (held : List Held) (lp : LinearProgram)
    (point : List ℚ)
    → IsDecomposed program blocks → length box ≡ length blocks.columns → AreHeld program blocks box held
    → IsMasterProgram program blocks box held lp → IsPoint lp point
    → ComesToMixture program blocks box held lp point

-- multipliers of the master that sum to costs show, by the sides that they use, what costs come to at least: those of
-- the first rows are of the master rows, and the others are the blocks' prices
abbrev pub MultipliersShow : Type 0
MultipliersShow =
    (program : Program) (blocks : Decomposition) (box : List Sides) (held : List Held) (lp : LinearProgram)
    (costs : List ℚ) (y u : OnVariables)
    → IsDecomposed program blocks → length box ≡ length blocks.columns → length costs ≡ length blocks.columns
    → IsMasterProgram program blocks box held lp → UsesSides lp y u
    → SumsTo lp y (master_form blocks.columns costs held)
    → ShowsLeast program blocks box (Some held) costs (take (length (master_rows program blocks)) y.rows)
    (drop (length (master_rows program blocks)) y.rows) (paired y u)
