use Rattle.std.proofs.lemmas.Grind.{common_steps}
use Rattle.std.proofs.Common.{arith}
use Rattle.cip_mps_lines.proofs.sayings.fields_said.Goals as goal

pub returns-in-Sense-2 : goal.returns-in-Sense-2
returns-in-Sense-2 c = grind (arith, common_steps)

pub returns-in-Columns : goal.returns-in-Columns
returns-in-Columns c = grind (arith, common_steps)

pub returns-in-NoPart : goal.returns-in-NoPart
returns-in-NoPart c = grind (arith, common_steps)

pub returns-in-Bounds : goal.returns-in-Bounds
returns-in-Bounds c = grind (arith, common_steps)

pub returns-in-Ranges : goal.returns-in-Ranges
returns-in-Ranges c = grind (arith, common_steps)

pub returns-in-RightSides : goal.returns-in-RightSides
returns-in-RightSides c = grind (arith, common_steps)

pub returns-in-Rows : goal.returns-in-Rows
returns-in-Rows c = grind (arith, common_steps)

pub returns-in-Sense : goal.returns-in-Sense
returns-in-Sense c = grind (arith, common_steps)
