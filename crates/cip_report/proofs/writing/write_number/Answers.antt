use Rattle.std.proofs.lemmas.Grind.{common_steps}
use Rattle.std.proofs.Common.{arith}
use Rattle.cip_report.proofs.writing.write_number.Goals as goal

pub returns-clause-taken : goal.returns-clause-taken
returns-clause-taken g c = grind (arith, common_steps)

pub slice_bounds-write_line-end : goal.slice_bounds-write_line-end
slice_bounds-write_line-end g c = grind (arith, common_steps)

pub returns-clause-faults : goal.returns-clause-faults
returns-clause-faults g c = grind (arith, common_steps)

pub slice_bounds-text-end : goal.slice_bounds-text-end
slice_bounds-text-end g c = grind (arith, common_steps)
