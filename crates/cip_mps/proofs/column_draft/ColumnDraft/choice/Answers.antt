use Rattle.std.proofs.lemmas.Grind.{common_steps}
use Rattle.std.proofs.Common.{arith}
use Rattle.cip_mps.proofs.column_draft.ColumnDraft.choice.Goals as goal

pub returns-else-is_semi : goal.returns-else-is_semi
returns-else-is_semi c = grind (arith, common_steps)

pub returns-then-is_semi : goal.returns-then-is_semi
returns-then-is_semi c = grind (arith, common_steps)
