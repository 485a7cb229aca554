use Rattle.std.proofs.lemmas.Grind.{common_steps}
use Rattle.std.proofs.Common.{arith}
use Rattle.cip_input.proofs.plain.Plain.tell.Goals as goal

pub returns-clause-taken : goal.returns-clause-taken
returns-clause-taken g c = grind (arith, common_steps)

pub slice_bounds-push_all-end : goal.slice_bounds-push_all-end
slice_bounds-push_all-end g c = grind (arith, common_steps)

pub returns-clause-faults : goal.returns-clause-faults
returns-clause-faults g c = grind (arith, common_steps)

pub slice_bounds-text-end : goal.slice_bounds-text-end
slice_bounds-text-end g c = grind (arith, common_steps)
