-- The master program as a linear program (column generation; Dantzig and Wolfe 1960): its columns are those of no
-- block, and then a weight for each held point; its rows are the program's master rows, and then one row for each
-- block, by which its weights sum to 1.
use Rattle.std.specs.Prelude.{◌≡◌, ℕ, suc, ◌==◌, List, [], ◌∷◌, ◌++◌, length, map, replicate, None, Some, if◌then◌else◌, ⊤}
use Rattle.std.specs.List.{AllZip}
use Rattle.cip_rational.specs.Rational.{ℚ, zeroℚ, oneℚ}
use Rattle.cip_rational.specs.Sums.{dot}
use Rattle.cip_problem.specs.Program.{Sides, Row, Program}
use Rattle.cip_problem.specs.Activity.{activity}
use Rattle.cip_problem.specs.LinearProgram.{LinearProgram}
use Rattle.cip_pricing.specs.Decomposition.{Owner, Decomposition, picked, master_rows}
use Rattle.cip_pricing.specs.Mixtures.{Held}
use Rattle.cip_pricing.specs.MasterForms.{master_form, master_box}

-- a row of the master: a master row of the program between its sides, as a linear form on so many columns that has the
-- sum in the master that held points give it
pub record IsMasterRow (columns : ℕ) (owners : List Owner) (held : List Held) (row own : Row) : Type 0 where
  pub form : List ℚ
  pub long : length form ≡ columns
  pub is_form : (point : List ℚ) → dot form point ≡ activity row.terms point
  pub low : own.low ≡ row.low
  pub high : own.high ≡ row.high
  pub sums : (point : List ℚ) → activity own.terms point ≡ dot (master_form owners form held) point

-- 1 for the weights of a block's points, and 0 for other weights and for the columns of no block, so many
abbrev pub block_form : (free block : ℕ) → List Held → List ℚ
block_form free block held =
    replicate free zeroℚ ++ map (λ (h : Held). if h.block == block then oneℚ else zeroℚ) held

-- the weights of a block sum to 1
pub record IsSumRow (free block : ℕ) (held : List Held) (own : Row) : Type 0 where
  pub low : own.low ≡ Some oneℚ
  pub high : own.high ≡ Some oneℚ
  pub sums : (point : List ℚ) → activity own.terms point ≡ dot (block_form free block held) point

-- so for each block, of which the first has this number
abbrev pub AreSumRows : (free first : ℕ) → List Held → List Row → Type 0
AreSumRows free first held [] = ⊤
AreSumRows free first held (own ∷ owns) = IsSumRow free first held own × AreSumRows free (suc first) held owns

-- the master program of held points in a box
pub record IsMasterProgram (program : Program) (blocks : Decomposition) (box : List Sides) (held : List Held)
    (lp : LinearProgram) : Type 0 where
  pub masters : List Row
  pub sums : List Row
  pub rows : lp.rows ≡ masters ++ sums
  pub are_masters : AllZip (IsMasterRow (length blocks.columns) blocks.columns held) (master_rows program blocks)
      masters
  pub count : length sums ≡ blocks.count
  pub are_sums : AreSumRows (length (picked None blocks.columns box)) 0 held sums
  pub bounds : lp.bounds ≡ master_box blocks.columns box held
  pub costs : lp.costs ≡ master_form blocks.columns program.costs held
