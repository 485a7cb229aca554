use Rattle.std.proofs.Common.{ap, sym, subst, ◌∙◌, refl}
use Rattle.cip_rational.specs.Rational.{ratio}
use Rattle.cip_frac.specs.LowestTerms.{AreLowest}
use Rattle.cip_frac.proofs.Casts.{kept}
use Rattle.cip_rational.proofs.Rational.Ratio.{integer_ratio}
use Rattle.cip_frac.proofs.Fields.{AreLowest-whole, least_is, least_is_outside, not_least}
use Rattle.cip_frac.proofs.fraction.Frac.whole.Goals as goal

pub returns-then-p-eqminus170141183460469231731687303715884105728 : goal.returns-then-p-eqminus170141183460469231731687303715884105728
returns-then-p-eqminus170141183460469231731687303715884105728 c =
    (refl, least_is c.args.p c.if-p-eqminus170141183460469231731687303715884105728.true c.ranges.p, least_is_outside c.args.p c.if-p-eqminus170141183460469231731687303715884105728.true c.ranges.p)

pub of_lowest-requires : goal.of_lowest-requires
of_lowest-requires c =
    let h = not_least c.args.p c.if-p-eqminus170141183460469231731687303715884105728.false c.ranges.p in
    subst (λ z. AreLowest z 1) (sym (kept c.args.p h)) (AreLowest-whole c.args.p h)

pub returns : goal.returns
returns c =
    let h = not_least c.args.p c.if-p-eqminus170141183460469231731687303715884105728.false c.ranges.p in
    c.of_lowest.ensures ∙ ap (λ z. ratio z 1) (kept c.args.p h) ∙ integer_ratio c.args.p
