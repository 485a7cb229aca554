use Rattle.std.proofs.lemmas.Grind.{common_steps}
use Rattle.std.proofs.Common.{arith}
use Rattle.cip_mps.proofs.column_draft.ColumnDraft.own_sides.Goals as goal

pub returns : goal.returns
returns c = grind (arith, common_steps)

pub returns-then-not-self : goal.returns-then-not-self
returns-then-not-self c = grind (arith, common_steps)
