use Rattle.std.proofs.Common.{◌≡◌, ◌<◌, drop}
use Rattle.cip_columns.specs.PointPrints.{print_modulus, with_numbers}
use Rattle.cip_columns.proofs.prints.mix_numbers.Given as goal

abbrev pub invariant-loop-number : goal.invariant-loop-number
invariant-loop-number l = (l.from < print_modulus) ×
    (with_numbers l.from (drop l.number-index l.numbers) ≡ with_numbers l.start l.numbers)
