use Rattle.std.proofs.lemmas.Grind.{common_steps}
use Rattle.std.proofs.Common.{◌≡◌, sym, subst, arith}
use Rattle.cip_rational.specs.Rational.{zeroℚ, IsWhole}
use Rattle.cip_rational.proofs.Rational.Whole.{IsWhole-zero}
use Rattle.cip_model.proofs.whole_costs.can_round.Goals as goal

pub returns-then-is_zero : goal.returns-then-is_zero
returns-then-is_zero c =
    let e : c.args.cost ≡ zeroℚ = c.is_zero.ensures.0 c.if-is_zero.true in
    record { coefficient_whole = subst IsWhole (sym e) IsWhole-zero; column_whole = λ n. absurd (n e) }

pub returns-then-whole : goal.returns-then-whole
returns-then-whole c = grind (arith, common_steps)

pub returns-else-whole : goal.returns-else-whole
returns-else-whole c = grind (arith, common_steps)
