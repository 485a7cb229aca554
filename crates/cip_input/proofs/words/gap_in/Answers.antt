use Rattle.std.proofs.Common.{arith}
use Rattle.std.proofs.lemmas.Grind.{common_steps}
use Rattle.std.proofs.Common.{Option, Some, true, false, ap, sym, ◌∙◌}
use Rattle.std.specs.Prelude.{option_map}
use Rattle.cip_rational.specs.Rational.{ℚ}
use Rattle.cip_rational.specs.Numeral.{value_of}
use Rattle.cip_rational.specs.FractionText.{fraction_of}
use Rattle.cip_rational.proofs.Comparisons.{is_le-compare}
use Rattle.cip_input.specs.Jobs.{at_least_zero}
use Rattle.cip_input.proofs.Numbers.{gap_by, no_fraction}
use Rattle.cip_input.proofs.words.gap_in.Goals as goal

pub returns-then-le : goal.returns-then-le
returns-then-le c =
    let said = ap at_least_zero (sym c.in-Ok.ensures) ∙ ap (λ b. at_least_zero (value_of (fraction_of b))) c.as_bytes.ensures.value in
    let by = gap_by c.in-Ok.gap c.zero.result c.le.result true c.zero.ensures (c.le.ensures ∙ is_le-compare c.zero.result c.in-Ok.gap) c.if-le.true in
    rw c.in-Some.is (ap (λ (gap : Option ℚ). option_map (λ value. Some value) gap) (by ∙ said))

pub returns-else-le : goal.returns-else-le
returns-else-le c =
    let said = ap at_least_zero (sym c.in-Ok.ensures) ∙ ap (λ b. at_least_zero (value_of (fraction_of b))) c.as_bytes.ensures.value in
    let by = gap_by c.in-Ok.gap c.zero.result c.le.result false c.zero.ensures (c.le.ensures ∙ is_le-compare c.zero.result c.in-Ok.gap) c.if-le.false in
    rw c.in-Some.is (ap (λ (gap : Option ℚ). option_map (λ value. Some value) gap) (by ∙ said))

pub returns-in-Err : goal.returns-in-Err
returns-in-Err c =
    rw c.in-Some.is (ap (λ (gap : Option ℚ). option_map (λ value. Some value) gap)
    (no_fraction c.as_bytes.result.now c.in-Err.field-0 c.in-Err.ensures ∙ ap (λ b. at_least_zero (value_of (fraction_of b))) c.as_bytes.ensures.value))

pub returns-in_default : goal.returns-in_default
returns-in_default c = grind (arith, common_steps)

pub as_bytes-requires-text-self : goal.as_bytes-requires-text-self
as_bytes-requires-text-self c = grind (arith, common_steps)
