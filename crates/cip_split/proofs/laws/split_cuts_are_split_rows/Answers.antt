use Rattle.cip_split.proofs.SplitRowSums.{split_is_row}
use Rattle.cip_split.proofs.SplitValidity.{split_same, split_valid}
use Rattle.cip_split.proofs.laws.split_cuts_are_split_rows.Goals as goal

pub returns : goal.returns
returns c = record { split = split_is_row; same = split_same; valid = split_valid }
