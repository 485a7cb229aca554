use Rattle.std.proofs.lemmas.Grind.{common_steps}
use Rattle.std.proofs.Common.{arith}
use Rattle.cip_mps.proofs.column_draft.ColumnDraft.is_semi.Goals as goal

pub returns-then-not-self : goal.returns-then-not-self
returns-then-not-self c = grind (arith, common_steps)

pub returns-else-not-self : goal.returns-else-not-self
returns-else-not-self c = grind (arith, common_steps)
