use Rattle.cip_solve.proofs.PassedOn.{near_columns}
use Rattle.cip_solve_tests.proofs.programs.has_near_columns.Goals as goal

pub returns : goal.returns
returns c = λ t. near_columns c.args.program.now (c.has_near_sides.ensures t)
