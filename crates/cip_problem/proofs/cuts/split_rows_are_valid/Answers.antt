use Rattle.cip_problem.proofs.Splits.{either_side, split_holds, split_valid}
use Rattle.cip_problem.proofs.cuts.split_rows_are_valid.Goals as goal

pub returns : goal.returns
returns c = record { either_side = either_side; holds = split_holds; valid = split_valid }
