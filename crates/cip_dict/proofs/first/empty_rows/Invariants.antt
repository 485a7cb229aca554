use Rattle.std.proofs.Common.{◌≡◌, replicate}
use Rattle.cip_rational.specs.Rational.{zeroℚ}
use Rattle.cip_bland.specs.Tables.{table}
use Rattle.cip_dict.specs.Row.{row_length}
use Rattle.cip_dict.proofs.first.empty_rows.Given as goal

abbrev pub invariant-loop-v : goal.invariant-loop-v
invariant-loop-v l = l.rows.items ≡ table l.v (λ v. replicate (row_length l.standing v) zeroℚ)
