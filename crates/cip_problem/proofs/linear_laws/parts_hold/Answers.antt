use Rattle.cip_problem.proofs.Parts.{part_holds, bound_part_holds, program_parts_hold}
use Rattle.cip_problem.proofs.linear_laws.parts_hold.Goals as goal

pub returns : goal.returns
returns c = record { row = part_holds; column = bound_part_holds; program = program_parts_hold }
