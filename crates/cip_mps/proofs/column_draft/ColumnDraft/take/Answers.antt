use Rattle.std.proofs.lemmas.Grind.{common_steps}
use Rattle.std.proofs.Common.{arith}
use Rattle.cip_mps.proofs.column_draft.ColumnDraft.take.Goals as goal

pub returns-in-Binary : goal.returns-in-Binary
returns-in-Binary c = grind (arith, common_steps)

pub returns-in-Fixed : goal.returns-in-Fixed
returns-in-Fixed c = grind (arith, common_steps)

pub returns-in-High : goal.returns-in-High
returns-in-High c = grind (arith, common_steps)

pub returns-in-Low : goal.returns-in-Low
returns-in-Low c = grind (arith, common_steps)

pub returns-in-NoHigh : goal.returns-in-NoHigh
returns-in-NoHigh c = grind (arith, common_steps)

pub returns-in-NoLow : goal.returns-in-NoLow
returns-in-NoLow c = grind (arith, common_steps)

pub returns-in-SemiContinuous : goal.returns-in-SemiContinuous
returns-in-SemiContinuous c = grind (arith, common_steps)

pub returns-in-Unbounded : goal.returns-in-Unbounded
returns-in-Unbounded c = grind (arith, common_steps)

pub returns-in-WholeHigh : goal.returns-in-WholeHigh
returns-in-WholeHigh c = grind (arith, common_steps)

pub returns-in-WholeLow : goal.returns-in-WholeLow
returns-in-WholeLow c = grind (arith, common_steps)
