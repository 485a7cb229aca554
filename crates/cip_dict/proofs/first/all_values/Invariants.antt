use Rattle.std.proofs.Common.{◌≡◌}
use Rattle.cip_bland.specs.Tables.{table}
use Rattle.cip_dict.specs.FirstLists.{column_value}
use Rattle.cip_dict.proofs.first.all_values.Given as goal

abbrev pub invariant-loop-k : goal.invariant-loop-k
invariant-loop-k l = l.at.items ≡ table l.k (column_value l.columns)
