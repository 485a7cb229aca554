use Rattle.std.proofs.lemmas.Grind.{common_steps}
use Rattle.std.proofs.Common.{◌≡◌, ◌∙◌, ◌≤◌, ◌^◌, to_z, of_z, unsigned_abs, arith, subst, rules}
use Rattle.std.specs.Int.{w64}
use Rattle.cip_frac.proofs.Fields.{numerator_field, denominator_is, lowest_ratio}
use Rattle.cip_frac.proofs.fraction.Frac.short_terms.Goals as goal

pub returns-in-Some : goal.returns-in-Some
returns-in-Some c =
    let e = numerator_field _ _ c.args.self c.terms-numerator.ensures.lowest (lowest_ratio _ _ c.args.self c.terms-numerator.ensures.over c.terms-numerator.ensures.under) in
    let k : to_z w64 (of_z w64 c.in-Some.numerator) ≡ c.in-Some.numerator = search rules in (
      k ∙ c.in-Some.ensures.0 ∙ e,
      denominator_is _ _ c.args.self c.terms-numerator.ensures.lowest (lowest_ratio _ _ c.args.self c.terms-numerator.ensures.over c.terms-numerator.ensures.under),
      subst (λ z. unsigned_abs z ≤ 2 ^ 63) e c.in-Some.ensures.1,
      omega arith,
    )

pub overflow_cast-result : goal.overflow_cast-result
overflow_cast-result c = omega arith

pub returns-then-denominator : goal.returns-then-denominator
returns-then-denominator c = grind (arith, common_steps)
