use Rattle.std.proofs.lemmas.Grind.{common_steps}
use Rattle.std.proofs.Common.{arith}
use Rattle.cip_main.proofs.checking.check_and_report.Goals as goal

pub returns-in-Err-clause-holds : goal.returns-in-Err-clause-holds
returns-in-Err-clause-holds g c = grind (arith, common_steps)

pub returns-in-Err-clause-says : goal.returns-in-Err-clause-says
returns-in-Err-clause-says g c = grind (arith, common_steps)

pub returns-in-Ok-clause-holds : goal.returns-in-Ok-clause-holds
returns-in-Ok-clause-holds g c = grind (arith, common_steps)

pub returns-in-Ok-clause-says : goal.returns-in-Ok-clause-says
returns-in-Ok-clause-says g c = grind (arith, common_steps)

pub report_check-requires-clause-long : goal.report_check-requires-clause-long
report_check-requires-clause-long g c = grind (arith, common_steps)

pub check-verdict-requires : goal.check-verdict-requires
check-verdict-requires g c = grind (arith, common_steps)

pub report_check-requires-clause-meaning : goal.report_check-requires-clause-meaning
report_check-requires-clause-meaning g c = grind (arith, common_steps)
