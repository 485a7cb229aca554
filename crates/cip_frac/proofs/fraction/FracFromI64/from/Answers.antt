use Rattle.std.proofs.lemmas.Grind.{common_steps}
use Rattle.std.proofs.Common.{ap, sym, subst, ◌∙◌, arith}
use Rattle.cip_rational.specs.Rational.{ratio}
use Rattle.cip_frac.specs.LowestTerms.{AreLowest}
use Rattle.cip_frac.proofs.Casts.{widened, widened_small}
use Rattle.cip_rational.proofs.Rational.Ratio.{integer_ratio}
use Rattle.cip_frac.proofs.Fields.{AreLowest-whole}
use Rattle.cip_frac.proofs.fraction.FracFromI64.from.Goals as goal

pub of_lowest-requires : goal.of_lowest-requires
of_lowest-requires c =
    subst (λ n. AreLowest n 1) (sym (widened c.args.p c.ranges.p)) (AreLowest-whole c.args.p (widened_small c.args.p c.ranges.p))

pub returns : goal.returns
returns c = c.of_lowest.ensures ∙ ap (λ n. ratio n 1) (widened c.args.p c.ranges.p) ∙ integer_ratio c.args.p

pub overflow_cast-p : goal.overflow_cast-p
overflow_cast-p c = grind (arith, common_steps)
