use Rattle.std.proofs.Common.{◌≡◌, drop, length}
use Rattle.cip_columns.specs.ColumnPools.{is_inside}
use Rattle.cip_lagrange.specs.Numbers.{found}
use Rattle.cip_master.proofs.points.is_in_part.Given as goal

abbrev pub invariant-loop-at : goal.invariant-loop-at
invariant-loop-at l = record {
  long : length l.numbers ≡ length l.values;
  rest : is_inside (found l.bounds (drop l.at l.numbers)) (drop l.at l.values)
      ≡ is_inside (found l.bounds l.numbers) l.values;
}
