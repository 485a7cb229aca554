-- What a decomposition keeps of a block can be asked of, and gives the block's verdict.
use Rattle.std.proofs.Common.{◌≡◌, ℕ, ◌≤◌, List, length, Some, sym, ap, ◌∙◌, subst, arith, slice_get}
use Rattle.std.proofs.lemmas.List.{length-map}
use Rattle.cip_rational.specs.Rational.{ℚ}
use Rattle.cip_problem.specs.Program.{Sides, Row, Program}
use Rattle.cip_problem.specs.Limits.{most_rows, most_columns}
use Rattle.cip_problem.specs.WellFormed.{columns, IsWellFormed}
use Rattle.cip_pricing.specs.Decomposition.{Conditions, conditions_of, picked, renumbered}
use Rattle.cip_pricing.proofs.Picked.{length_picked}
use Rattle.cip_lagrange.specs.declared.parts.Subproblem.{Subproblem}
use Rattle.cip_lagrange.specs.declared.parts.Decomposed.{Decomposed}
use Rattle.cip_lagrange.specs.Decompositions.{owners_in, IsSubproblem, IsDecompositionOf}
use Rattle.cip_master.proofs.OnePointMore.{picked_few}
use Rattle.cip_master.specs.declared.verdicts.PointVerdict.{PointVerdict}
use Rattle.cip_master.specs.BlockVerdicts.{verdict_on, block_verdict, BlockVerdictSays}
use Rattle.cip_master.proofs.Says.{verdict_says}

picked_under : {X : Type 0} (block : ℕ) (kept : Decomposed) (program : Program) (xs : List X)
    → IsDecompositionOf program kept → length (picked (Some block) kept.column_owners.items xs) ≤ columns program
picked_under block kept program xs made =
    let each : length kept.column_owners.items ≡ columns program = made.decomposed.each_column in
    omega (arith, each, picked_few (Some block) kept.column_owners.items xs)

pub few_columns : (program : Program) (kept : Decomposed) (block : ℕ) (part : Subproblem) → IsWellFormed program
    → IsDecompositionOf program kept → slice_get kept.subproblems.items block ≡ Some part
    → length part.bounds ≤ most_columns
few_columns program kept block part well made e =
    omega (
      arith,
      ap length (made.subproblems block part e).bounds,
      picked_under block kept program program.bounds made,
      well.few_columns,
    )

pub few_rows : (program : Program) (kept : Decomposed) (block : ℕ) (part : Subproblem) → IsWellFormed program
    → IsDecompositionOf program kept → slice_get kept.subproblems.items block ≡ Some part
    → length part.rows.items ≤ most_rows
few_rows program kept block part well made e =
    let picks : List Row = picked (Some block) kept.row_owners.items program.rows in
    omega (
      arith,
      ap length (made.subproblems block part e).rows,
      length-map picks (renumbered (Some block) kept.column_owners.items),
      picked_few (Some block) kept.row_owners.items program.rows,
      made.each_row,
      well.few_rows,
    )

-- the verdict on what is kept of a block is the block's
pub verdict_is : (program : Program) (kept : Decomposed) (block : ℕ) (part : Subproblem) (point : List ℚ)
    → IsDecompositionOf program kept → slice_get kept.subproblems.items block ≡ Some part
    → verdict_on
    (record { rows = part.rows.items; integral = part.whole.items; choices = part.choices }) part.bounds point
    ≡ block_verdict program kept block point
verdict_is program kept block part point made e =
    let s : IsSubproblem program (owners_in kept) block part = made.subproblems block part e in
    let asked : Conditions = conditions_of program (owners_in kept) block in
    ap (λ (rows : List Row).
    verdict_on (record { rows = rows; integral = part.whole.items; choices = part.choices }) part.bounds point) s.rows
    ∙ ap (λ flags. verdict_on (record { rows = asked.rows; integral = flags; choices = part.choices }) part.bounds point)
    s.whole
    ∙ ap (λ choices. verdict_on (record { rows = asked.rows; integral = asked.integral; choices = choices }) part.bounds
    point) s.choices
    ∙ ap (λ (box : List Sides). verdict_on asked box point) s.bounds

-- the block's verdict holds
pub block_says : (program : Program) (kept : Decomposed) (block : ℕ) (point : List ℚ) (verdict : PointVerdict)
    → IsWellFormed program → verdict ≡ block_verdict program kept block point
    → BlockVerdictSays program kept block point verdict
block_says program kept block point verdict well e =
    subst (BlockVerdictSays program kept block point) (sym e)
    (verdict_says (conditions_of program (owners_in kept) block)
    (picked (Some block) kept.column_owners.items program.bounds) point
    (length_picked (Some block) kept.column_owners.items program.integral program.bounds
    (well.integral ∙ sym well.bounds)))

-- ---- pools
