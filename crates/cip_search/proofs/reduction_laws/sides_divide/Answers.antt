use Rattle.cip_search.proofs.RowSteps.{divided, multiplied}
use Rattle.cip_search.proofs.reduction_laws.sides_divide.Goals as goal

pub returns : goal.returns
returns c = record { divided = divided; multiplied = multiplied }
