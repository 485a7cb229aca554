use Rattle.std.specs.Int.{w64}
use Rattle.std.proofs.lemmas.Grind.{common_steps}
use Rattle.std.proofs.Common.{◌≡◌, ◌∙◌, pos, ap, arith}
use Rattle.std.proofs.lemmas.Int.{ints, to_z-of_z}
use Rattle.cip_rational.specs.Rational.{ratio}
use Rattle.cip_rational.proofs.Rational.Inverse.{ratio_zero}
use Rattle.cip_bland.proofs.Zeros.{is_zero_of}
use Rattle.cip_dict.proofs.Added.{zero_left}
use Rattle.cip_dict.proofs.moved.add_over.Goals as goal

pub returns-then-n-eq0 : goal.returns-then-n-eq0
returns-then-n-eq0 c =
    let n : c.args.n ≡ pos 0 = omega (arith, ints, c.if-n-eq0.true, c.ranges.n) in
    zero_left c.args.value.now (ratio c.args.n c.args.below) c.args.t (is_zero_of _ (ap (λ m. ratio m c.args.below) n ∙ ratio_zero c.args.below c.requires.positive))

pub returns-in-None : goal.returns-in-None
returns-in-None c = grind (arith, common_steps)

pub returns-in-Some : goal.returns-in-Some
returns-in-Some c = rw (to_z-of_z w64 c.args.n c.ranges.n) at c.in-Some.ensures

pub fraction-requires-clause-positive : goal.fraction-requires-clause-positive
fraction-requires-clause-positive c = grind (arith, common_steps)

pub short_sum-requires : goal.short_sum-requires
short_sum-requires c = grind (arith, common_steps)

pub fraction-requires-clause-small : goal.fraction-requires-clause-small
fraction-requires-clause-small c = grind (arith, common_steps)
