use Rattle.std.proofs.lemmas.Grind.{common_steps}
use Rattle.std.proofs.Common.{arith, ℤ, ◌+ℤ◌, unsigned_abs, ◌<◌, ◌^◌, ◌∙◌, sym, ap, ap₂, subst}
use Rattle.cip_frac.proofs.WholeNumbers.{made_lowest}
use Rattle.std.specs.Int.{w128}
use Rattle.std.proofs.lemmas.Int.{to_z-of_z}
use Rattle.cip_rational.specs.Rational.{ratio}
use Rattle.cip_frac.proofs.Casts.{kept}
use Rattle.cip_frac.proofs.operations.whole_sum.Goals as goal

pub of_lowest-requires : goal.of_lowest-requires
of_lowest-requires c = made_lowest _ _ c.in-Some.ensures

pub returns-in-Some : goal.returns-in-Some
returns-in-Some c =
    let sum = ap₂ (λ (x y : ℤ). x +ℤ y) (to_z-of_z w128 c.args.a c.ranges.a) (to_z-of_z w128 c.args.c c.ranges.c) in
    let small = subst (λ (z : ℤ). unsigned_abs z < 2 ^ 127) (sym c.in-Some.ensures.1) c.in-Some.ensures.0 in (
      subst (λ (z : ℤ). unsigned_abs z < 2 ^ 127) sum c.in-Some.ensures.0,
      c.of_lowest.ensures ∙ ap (λ (z : ℤ). ratio z 1) (kept c.in-Some.total small ∙ c.in-Some.ensures.1 ∙ sum),
    )

pub returns-in-None : goal.returns-in-None
returns-in-None c = grind (arith, common_steps)
