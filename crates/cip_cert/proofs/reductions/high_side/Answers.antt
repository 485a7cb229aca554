use Rattle.std.proofs.lemmas.Grind.{common_steps}
use Rattle.std.proofs.Common.{rules, arith}
use Rattle.cip_rational.specs.Rational.{zeroℚ, ◌<ℚ◌}
use Rattle.cip_rational.proofs.Rational.Order.{ne_of_lt}
use Rattle.cip_cert.proofs.reductions.high_side.Goals as goal

pub quotient-requires : goal.quotient-requires
quotient-requires c = let h : c.args.coefficient <ℚ zeroℚ = search rules in λ e. ne_of_lt h e

pub returns-in-Err : goal.returns-in-Err
returns-in-Err c = grind (arith, common_steps)

pub returns-in-Ok : goal.returns-in-Ok
returns-in-Ok c = grind (arith, common_steps)

pub returns-in-Ok-2 : goal.returns-in-Ok-2
returns-in-Ok-2 c = grind (arith, common_steps)

pub returns-then-not-is_negative : goal.returns-then-not-is_negative
returns-then-not-is_negative c = grind (arith, common_steps)
