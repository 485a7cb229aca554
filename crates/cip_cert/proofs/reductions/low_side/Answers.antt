use Rattle.std.proofs.lemmas.Grind.{common_steps}
use Rattle.std.proofs.Common.{rules, sym, arith}
use Rattle.cip_rational.specs.Rational.{zeroℚ, ◌<ℚ◌}
use Rattle.cip_rational.proofs.Rational.Order.{ne_of_lt}
use Rattle.cip_cert.proofs.reductions.low_side.Goals as goal

pub quotient-requires : goal.quotient-requires
quotient-requires c = let h : zeroℚ <ℚ c.args.coefficient = search rules in λ e. ne_of_lt h (sym e)

pub returns-in-Err : goal.returns-in-Err
returns-in-Err c = grind (arith, common_steps)

pub returns-in-Ok : goal.returns-in-Ok
returns-in-Ok c = grind (arith, common_steps)

pub returns-in-Ok-2 : goal.returns-in-Ok-2
returns-in-Ok-2 c = grind (arith, common_steps)

pub returns-then-not-is_positive : goal.returns-then-not-is_positive
returns-then-not-is_positive c = grind (arith, common_steps)
