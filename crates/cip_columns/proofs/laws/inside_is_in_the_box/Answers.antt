use Rattle.cip_columns.proofs.InBoxes.{inside_means}
use Rattle.cip_columns.proofs.laws.inside_is_in_the_box.Goals as goal

pub returns : goal.returns
returns c = inside_means
