use Rattle.std.proofs.lemmas.Grind.{common_steps}
use Rattle.std.proofs.Common.{◌≡◌, ◌∙◌, pos, to_z, of_z, sym, ap, ap₂, arith, ◌<◌, ◌^◌}
use Rattle.std.specs.Int.{w64, w128}
use Rattle.std.proofs.lemmas.Int.{ints}
use Rattle.cip_rational.specs.Rational.{integer, ratio}
use Rattle.cip_rational.specs.Range.{magnitude}
use Rattle.cip_frac.specs.FractionFault.{quotient_of}
use Rattle.cip_rational.proofs.Rational.Ratio.{integer_ratio}
use Rattle.cip_dict.proofs.WholeParts.{quotient_ratio, fault_never}
use Rattle.cip_frac.proofs.Casts.{kept_natural, widened}
use Rattle.cip_dict.proofs.WideProducts.{word_size}
use Rattle.cip_dict.proofs.whole.fraction.Goals as goal

pub returns-then-d-eq1 : goal.returns-then-d-eq1
returns-then-d-eq1 c =
    let n : to_z w64 (of_z w64 c.args.n) ≡ c.args.n = omega (arith, ints, c.ranges.n) in
    c.from.ensures ∙ ap integer n ∙ sym (integer_ratio c.args.n) ∙ ap (ratio c.args.n) (sym c.if-d-eq1.true)

pub returns-in-Ok : goal.returns-in-Ok
returns-in-Ok c =
    let n : to_z w128 (of_z w128 (to_z w64 (of_z w64 c.args.n))) ≡ c.args.n = widened c.args.n c.ranges.n in
    let d : to_z w128 c.args.d ≡ pos c.args.d = kept_natural c.args.d (omega (arith, c.requires.small)) in
    c.in-Ok.ensures.1 ∙ ap₂ quotient_of n d ∙ quotient_ratio c.args.n c.args.d c.requires.positive

pub returns-in-Err : goal.returns-in-Err
returns-in-Err c =
    let n : magnitude (to_z w128 (of_z w128 (to_z w64 (of_z w64 c.args.n)))) < 2 ^ 64 = rw (widened c.args.n c.ranges.n) (word_size c.args.n c.ranges.n) in
    let d : to_z w128 c.args.d ≡ pos c.args.d = kept_natural c.args.d (omega (arith, c.requires.small)) in
    absurd (fault_never _ _ c.args.d c.in-Err.field-0 c.requires.positive c.requires.small n d c.in-Err.ensures)

pub overflow_cast-n : goal.overflow_cast-n
overflow_cast-n c = grind (arith, common_steps)

pub overflow_cast-d : goal.overflow_cast-d
overflow_cast-d c = grind (arith, common_steps)
