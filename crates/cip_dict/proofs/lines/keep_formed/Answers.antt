use Rattle.std.proofs.lemmas.Grind.{common_steps}
use Rattle.std.proofs.Common.{arith}
use Rattle.cip_dict.proofs.lines.keep_formed.Goals as goal

pub returns-in-Ok-keep_entry-clause-written : goal.returns-in-Ok-keep_entry-clause-written
returns-in-Ok-keep_entry-clause-written c = grind (arith, common_steps)

pub returns-in-Err-clause-written : goal.returns-in-Err-clause-written
returns-in-Err-clause-written c = grind (arith, common_steps)

pub returns-in-Err-keep_entry-clause-left : goal.returns-in-Err-keep_entry-clause-left
returns-in-Err-keep_entry-clause-left c = grind (arith, common_steps)

pub returns-in-Err-keep_entry-clause-written : goal.returns-in-Err-keep_entry-clause-written
returns-in-Err-keep_entry-clause-written c = grind (arith, common_steps)

pub returns-in-Ok-keep_entry-clause-left : goal.returns-in-Ok-keep_entry-clause-left
returns-in-Ok-keep_entry-clause-left c = grind (arith, common_steps)
