use Rattle.std.proofs.lemmas.Grind.{common_steps}
use Rattle.std.proofs.Common.{arith}
use Rattle.cip_mps.proofs.column_draft.ColumnDraft.is_mixed_by.Goals as goal

pub returns-then-self : goal.returns-then-self
returns-then-self c = grind (arith, common_steps)

pub returns-else-self : goal.returns-else-self
returns-else-self c = grind (arith, common_steps)

pub returns-in-WholeLow : goal.returns-in-WholeLow
returns-in-WholeLow c = grind (arith, common_steps)

pub returns-in-SemiContinuous : goal.returns-in-SemiContinuous
returns-in-SemiContinuous c = grind (arith, common_steps)
